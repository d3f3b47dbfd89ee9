-- Command lines of `code`, each with its request.
use Rattle.std.specs.Prelude.{◌≡◌, ℕ, List, [], ◌∷◌, ◌++◌, codes, false, true, Option, Some, None, ok_or, Result, Ok, Err}
use Rattle.meson_splice.specs.Patch.{then_ok}
use Rattle.meson_statements.specs.CodeTexts.{statement_code}
use Rattle.meson_steps.specs.declared.argument.Callee.TheVariants as callee
use Rattle.meson_steps.specs.declared.argument.PlaceName.{PlaceName}
use Rattle.meson_steps.specs.declared.argument.PlaceName.TheVariants as name
use Rattle.meson_steps.specs.declared.argument.Search.{Search}
use Rattle.meson_steps.specs.declared.command.CodePlace.{CodePlace}
use Rattle.meson_steps.specs.declared.command.CodePlace.TheVariants as place
use Rattle.meson_steps.specs.declared.command.Command.TheVariants as command
use Rattle.meson_command.specs.Actions.{run}
use Rattle.meson_command.specs.Asking.{asked_by, help}
use Rattle.meson_command.specs.Rows.{asks, dry, flagged, in_place, words_in}
use Rattle.meson_command.specs.declared.asked.Action.{Action}
use Rattle.meson_command.specs.declared.asked.Asked.{Asked}
use Rattle.meson_command.specs.declared.fault.UsageFault.{UsageFault}
use Rattle.meson_command.specs.declared.fault.UsageFault.TheVariants.{NotCode, Usage}

-- A line after the program's name, with any code as its last word, inserts it at this place with this number of blank lines, if it is statements of the
-- grammar.
abbrev pub inserts : (line : List ℕ) → (asked : Action → Result Asked UsageFault) → CodePlace → (blank : Option ℕ) → Type 0
inserts line asked place blank =
    (code : List ℕ) → asked_by (codes "T" ∷ words_in line ++ code ∷ [])
    ≡ then_ok (ok_or (statement_code code) NotCode) (λ c. asked (run (command.CodeInsert place c blank)))

-- beside a statement, in this folder alone if it is one
abbrev pub below_in : Option (List ℕ) → PlaceName → CodePlace
below_in folder statement = place.Below (record { name = statement; folder = folder })

abbrev pub above_in : Option (List ℕ) → PlaceName → CodePlace
above_in folder statement = place.Above (record { name = statement; folder = folder })

-- where statements are inserted
abbrev pub Inserted : Type 0
Inserted =
    inserts (codes "code after target e") in_place (below_in None (name.Call callee.Target (codes "e"))) None
    × inserts (codes "code before variable x") in_place (above_in None (name.Variable (codes "x"))) None
    × inserts (codes "code append meson.build") in_place (place.End (codes "meson.build")) None
    × inserts (codes "code after --blank 0 project /") in_place (below_in None (name.Project (codes "/"))) (Some 0)
    × inserts (codes "code --blank=100 before at s/meson.build:12") in_place (above_in None (name.Line (codes "s/meson.build") 12)) (Some 100)
    × inserts (codes "code append --blank 2 s/meson.build") in_place (place.End (codes "s/meson.build")) (Some 2)
    × inserts (codes "--in s code after test --help") in_place (below_in (Some (codes "s")) (name.Call (callee.Function (codes "test")) (codes "--help"))) None
    × inserts (codes "--dry-run code before dependency z") (flagged dry) (above_in None (name.Call (callee.Function (codes "dependency")) (codes "z"))) None

-- wrong words
abbrev pub InsertedNowhere : Type 0
InsertedNowhere =
    asks (codes "code --help") (Ok help)
    × asks (codes "code after target e") (Err Usage)
    × asks (codes "code after target") (Err Usage)
    × asks (codes "code append meson.build") (Err Usage)
    × asks (codes "code append meson.build y=1 z=1") (Err Usage)
    × asks (codes "code after target e y=1 z=1") (Err Usage)
    × asks (codes "code below target e y=1") (Err Usage)
    × asks (codes "code after at meson.build y=1") (Err Usage)
    × asks (codes "code after --blank x target e y=1") (Err Usage)
    × asks (codes "code after --blank 101 target e y=1") (Err Usage)
    × asks (codes "code after --blank=-1 target e y=1") (Err Usage)
    × asks (codes "--in s code append meson.build y=1") (Err Usage)
    × asks (codes "code after --unused target e y=1") (Err Usage)
    × asks (codes "code append --unused meson.build y=1") (Err Usage)

-- a statement, in this folder alone if it is one
abbrev named_in : Option (List ℕ) → PlaceName → Search
named_in folder statement = record { name = statement; folder = folder }

-- removals, and wrong words of them
abbrev pub Removed : Type 0
Removed =
    asks (codes "code remove target e") (in_place (run (command.CodeRemove (named_in None (name.Call callee.Target (codes "e"))) false)))
    × asks (codes "code remove --unused variable x") (in_place (run (command.CodeRemove (named_in None (name.Variable (codes "x"))) true)))
    × asks (codes "--in s code --unused remove at s/meson.build:12")
    (in_place (run (command.CodeRemove (named_in (Some (codes "s")) (name.Line (codes "s/meson.build") 12)) true)))
    × asks (codes "--dry-run code remove test --unused")
    (flagged dry (run (command.CodeRemove (named_in None (name.Call (callee.Function (codes "test")) (codes "--unused"))) false)))
    × asks (codes "code remove") (Err Usage)
    × asks (codes "code remove target") (Err Usage)
    × asks (codes "code remove target e y=1") (Err Usage)
    × asks (codes "code remove target e --unused") (Err Usage)
    × asks (codes "code remove --blank 1 target e") (Err Usage)
    × asks (codes "code remove --unused --blank 1 target e") (Err Usage)
    × asks (codes "code remove at meson.build") (Err Usage)
    × asks (codes "code remove at meson.build:0") (Err Usage)
