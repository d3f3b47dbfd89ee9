-- Command lines of `arg`, and those that add in order, each with its request.
use Rattle.std.specs.Prelude.{◌≡◌, ℕ, true, false, List, [], ◌∷◌, codes, Option, Some, None, ok_or, Result, Ok, Err}
use Rattle.meson_splice.specs.Patch.{then_ok}
use Rattle.meson_calls.specs.Searching.{anywhere}
use Rattle.meson_steps.specs.Code.{is_code}
use Rattle.meson_steps.specs.GivenWords.{meant_by}
use Rattle.meson_steps.specs.declared.argument.Callee.TheVariants as callee
use Rattle.meson_steps.specs.declared.argument.PlaceName.{PlaceName}
use Rattle.meson_steps.specs.declared.argument.PlaceName.TheVariants as name
use Rattle.meson_steps.specs.declared.argument.ValueChange.{ValueChange}
use Rattle.meson_steps.specs.declared.argument.ValueChange.TheVariants as change
use Rattle.meson_steps.specs.declared.command.Command.TheVariants as command
use Rattle.meson_steps.specs.declared.given.Given.TheVariants as given
use Rattle.meson_json.specs.Arguments.{keys_in}
use Rattle.meson_command.specs.Actions.{run}
use Rattle.meson_command.specs.Asking.{asked_by, help, no_flags}
use Rattle.meson_command.specs.Rows.{asks, dry, flagged, in_place, texted, there}
use Rattle.meson_command.specs.declared.asked.Action.{Action}
use Rattle.meson_command.specs.declared.asked.Action.TheVariants.{Info}
use Rattle.meson_command.specs.declared.asked.Asked.{Asked}
use Rattle.meson_command.specs.declared.fault.UsageFault.{UsageFault}
use Rattle.meson_command.specs.declared.fault.UsageFault.TheVariants.{NotCode, Usage}

-- a value is changed, in this folder alone if it is one
abbrev changed_in : Option (List ℕ) → PlaceName → List (List ℕ) → ValueChange → Action
changed_in folder place keys change = run (command.Argument (record { place = record { name = place; folder = folder }; keys = keys }) change)

abbrev changed : PlaceName → List (List ℕ) → ValueChange → Action
changed = changed_in None

-- a call of a target
abbrev target_of : List ℕ → PlaceName
target_of id = name.Call callee.Target id

-- which value is changed, and to what
abbrev pub Values : Type 0
Values =
    asks (codes "arg set dependency z version >=2")
    (in_place (changed (name.Call (callee.Function (codes "dependency")) (codes "z")) (codes "version" ∷ []) (change.Set (given.Text (codes ">=2")))))
    × asks (codes "arg set target e c_args -DX") (in_place (changed (target_of (codes "e")) (codes "c_args" ∷ []) (change.Set (given.Text (codes "-DX")))))
    × asks (codes "arg set target e c_args -- --help")
    (in_place (changed (target_of (codes "e")) (codes "c_args" ∷ []) (change.SetAll (given.Text (codes "--") ∷ given.Text (codes "--help") ∷ []))))
    × asks (codes "arg set target e install true") (in_place (changed (target_of (codes "e")) (codes "install" ∷ []) (change.Set (given.Switch true))))
    × asks (codes "arg set target e k a false True")
    (in_place (changed (target_of (codes "e")) (codes "k" ∷ [])
    (change.SetAll (given.Text (codes "a") ∷ given.Switch false ∷ given.Text (codes "True") ∷ []))))
    × asks (codes "arg set -- target e k v") (in_place (changed (target_of (codes "e")) (codes "k" ∷ []) (change.Set (given.Text (codes "v")))))
    × asks (codes "arg set project / license.0 MIT")
    (in_place (changed (name.Project (codes "/")) (codes "license" ∷ codes "0" ∷ []) (change.Set (given.Text (codes "MIT")))))
    × asks (codes "arg remove target e c_args -DX true")
    (in_place (changed (target_of (codes "e")) (codes "c_args" ∷ []) (change.Remove (given.Text (codes "-DX") ∷ given.Switch true ∷ []))))
    × asks (codes "arg replace target e c_args -DX -DY")
    (in_place (changed (target_of (codes "e")) (codes "c_args" ∷ []) (change.Replace (given.Text (codes "-DX")) (given.Text (codes "-DY")))))
    × asks (codes "arg delete target e install") (in_place (changed (target_of (codes "e")) (codes "install" ∷ []) change.Delete))
    × asks (codes "arg delete target --help -x") (in_place (changed (target_of (codes "--help")) (codes "-x" ∷ []) change.Delete))
    × asks (codes "arg delete variable x .") (in_place (changed (name.Variable (codes "x")) [] change.Delete))
    × asks (codes "arg delete at s/meson.build:12 .") (in_place (changed (name.Line (codes "s/meson.build") 12) [] change.Delete))
    × asks (codes "--in src arg delete target e k") (in_place (changed_in (Some (codes "src")) (target_of (codes "e")) (codes "k" ∷ []) change.Delete))
    × asks (codes "--in=. --sourcedir d arg delete target e k")
    (there (codes "d") (changed_in (Some (codes ".")) (target_of (codes "e")) (codes "k" ∷ []) change.Delete))
    × asks (codes "--json --dry-run arg delete target e k")
    (flagged (record dry { json = true }) (changed (target_of (codes "e")) (codes "k" ∷ []) change.Delete))
    × asks (codes "--texts t --dry-run arg delete target e k") (texted dry (codes "t") (changed (target_of (codes "e")) (codes "k" ∷ []) change.Delete))
    × asks (codes "arg --help") (Ok help)
    × asks (codes "arg set --help") (Ok help)
    × asks (codes "arg set target e k") (Err Usage)
    × asks (codes "arg remove target e k") (Err Usage)
    × asks (codes "arg replace target e k v") (Err Usage)
    × asks (codes "arg replace target e k u v w") (Err Usage)
    × asks (codes "arg delete target e k v") (Err Usage)
    × asks (codes "arg delete target e") (Err Usage)
    × asks (codes "arg delete target --help") (Err Usage)
    × asks (codes "arg grow target e k v") (Err Usage)
    × asks (codes "arg set at meson.build . v") (Err Usage)
    × asks (codes "arg set at meson.build:0 . v") (Err Usage)
    × asks (codes "arg set -x target e k v") (Err Usage)
    × asks (codes "arg --in s delete target e k") (Err Usage)
    × asks (codes "--in s --in s arg delete target e k") (Err Usage)
    × asks (codes "--in") (Err Usage)
    × asks (codes "--in s target e add_target a.c") (Err Usage)
    × asks (codes "--in s default-options set b_lto true") (Err Usage)
    × asks (codes "--in s command -") (Err Usage)
    × asks (codes "--in s list") (Err Usage)
    × asks (codes "--texts t arg delete target e k") (Err Usage)

-- From the function on any words are the id, the key and the values.
abbrev pub LaterWordsArePlain : Type 0
LaterWordsArePlain = (id key word : List ℕ)
    → asked_by (codes "T" ∷ codes "arg" ∷ codes "set" ∷ codes "target" ∷ id ∷ key ∷ word ∷ [])
    ≡ then_ok (ok_or (meant_by word) NotCode) (λ value. in_place (changed (target_of id) (keys_in key) (change.Set value)))

-- a value with this code
abbrev asks_code : List ℕ → Result Asked UsageFault → Type 0
asks_code code asked = asked_by (codes "T" ∷ codes "arg" ∷ codes "set" ∷ codes "target" ∷ codes "e" ∷ codes "k" ∷ (58 ∷ code) ∷ []) ≡ asked

-- A word after a colon (58) is code if it is an expression, and is refused otherwise.
abbrev pub CodeIsExpressionOrRefused : Type 0
CodeIsExpressionOrRefused = (code : List ℕ)
    → (is_code code ≡ true → asks_code code (in_place (changed (target_of (codes "e")) (codes "k" ∷ []) (change.Set (given.Code code)))))
    × (is_code code ≡ false → asks_code code (Err NotCode))

-- each in its place; `--sorted` goes with additions alone, and not with `--after`
abbrev pub Sorted : Type 0
Sorted =
    asks (codes "arg add --sorted variable s . c.c")
    (in_place (changed (name.Variable (codes "s")) [] (change.AddSorted (given.Text (codes "c.c") ∷ []))))
    × asks (codes "arg --sorted add variable s . c.c true")
    (in_place (changed (name.Variable (codes "s")) [] (change.AddSorted (given.Text (codes "c.c") ∷ given.Switch true ∷ []))))
    × asks (codes "arg add variable s . --sorted") (in_place (changed (name.Variable (codes "s")) [] (change.Add (given.Text (codes "--sorted") ∷ []))))
    × asks (codes "arg add --sorted --after a.c variable s . c.c") (Err Usage)
    × asks (codes "arg add --after a.c --sorted variable s . c.c") (Err Usage)
    × asks (codes "arg add --after --sorted variable s . c.c") (Err Usage)
    × asks (codes "arg set --sorted variable s . c.c") (Err Usage)
    × asks (codes "arg remove --sorted variable s . c.c") (Err Usage)
    × asks (codes "arg delete --sorted target e k") (Err Usage)
    × asks (codes "arg info --sorted target e") (Err Usage)
    × asks (codes "arg add --sorted variable s .") (Err Usage)
    × asks (codes "arg add --sorted --sorted variable s . c.c") (Err Usage)
    × asks (codes "arg add --sorted=true variable s . c.c") (Err Usage)
    × asks (codes "target e add --sorted a.c b.c")
    (in_place (run (command.SourcesAddSorted (anywhere (codes "e")) (codes "a.c" ∷ codes "b.c" ∷ []))))
    × asks (codes "target e add a.c --sorted") (in_place (run (command.SourcesAddSorted (anywhere (codes "e")) (codes "a.c" ∷ []))))
    × asks (codes "--in s tgt --sorted e add a.c")
    (in_place (run (command.SourcesAddSorted (record { id = codes "e"; folder = Some (codes "s") }) (codes "a.c" ∷ []))))
    × asks (codes "target e add -- a.c --sorted") (in_place (run (command.SourcesAdd (anywhere (codes "e")) (codes "a.c" ∷ codes "--sorted" ∷ []))))
    × asks (codes "target e rm --sorted a.c") (Err Usage)
    × asks (codes "target e rename --sorted a.c b.c") (Err Usage)
    × asks (codes "target e add_extra_files --sorted x.h") (Err Usage)
    × asks (codes "target l add_target --sorted a.c") (Err Usage)
    × asks (codes "target e info --sorted") (Err Usage)
    × asks (codes "target e grow --sorted") (Err Usage)
    × asks (codes "target e add --sorted --sorted a.c") (Err Usage)
    × asks (codes "target e add --sorted=true a.c") (Err Usage)
    × asks (codes "--sorted target e add a.c") (Err Usage)

-- what is reported of a value; the key may be left out
abbrev infos_in : Option (List ℕ) → PlaceName → List (List ℕ) → Action
infos_in folder place keys = Info (command.ArgumentInfo (record { place = record { name = place; folder = folder }; keys = keys }))

abbrev pub Infos : Type 0
Infos =
    asks (codes "arg info target e c_args.0") (in_place (infos_in None (target_of (codes "e")) (codes "c_args" ∷ codes "0" ∷ [])))
    × asks (codes "arg info target e") (in_place (infos_in None (target_of (codes "e")) []))
    × asks (codes "arg info variable x .") (in_place (infos_in None (name.Variable (codes "x")) []))
    × asks (codes "--in src arg info target --help") (in_place (infos_in (Some (codes "src")) (target_of (codes "--help")) []))
    × asks (codes "--texts t arg info at s/meson.build:12") (texted no_flags (codes "t") (infos_in None (name.Line (codes "s/meson.build") 12) []))
    × asks (codes "arg info target e k v") (Err Usage)
    × asks (codes "arg info target") (Err Usage)
    × asks (codes "arg info at meson.build") (Err Usage)
    × asks (codes "arg add target e") (Err Usage)
