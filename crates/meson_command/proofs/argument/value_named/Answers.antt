use Rattle.std.proofs.Common.{◌∙◌, List, Option, Some, codes, sym, ap, ap₂}
use Rattle.std.specs.Prelude.{option_and_then, option_map}
use Rattle.clap.specs.Words.{Row, Text, found_of, rows_of}
use Rattle.clap.proofs.WalkLemmas.{first_value-rows}
use Rattle.meson_steps.specs.declared.argument.PlaceName.{PlaceName}
use Rattle.meson_steps.specs.declared.argument.ValueName.{ValueName}
use Rattle.meson_json.specs.Arguments.{place_named}
use Rattle.meson_command.specs.Actions.{word_at}
use Rattle.meson_command.specs.Arguments.{keys_meant}
use Rattle.meson_command.proofs.argument.value_named.Goals as goal

abbrev made : Option Text → List Text → PlaceName → ValueName
made folder keys name = record { place = record { name = name; folder = folder }; keys = keys }

abbrev named_by : Option Text → List Row → Option (List Text) → Option ValueName
named_by folder rows ks = option_and_then (λ keys. option_map (made folder keys) (place_named (word_at (codes "FUNCTION") rows) (word_at (codes "ID") rows))) ks

pub returns-in_default : goal.returns-in_default
returns-in_default c =
    let found = found_of c.args.matches.now in
    let folder = option_map (λ w. w.now) c.args.folder in
    let meant = c.in_ok-keys.ensures ∙ ap (keys_meant c.args.operation) (c.get_str.ensures ∙ first_value-rows found (codes "KEY")) in
    sym (ap (named_by folder (rows_of found)) (sym meant ∙ c.in_default.is))

pub returns : goal.returns
returns c =
    let found = found_of c.args.matches.now in
    let folder = option_map (λ w. w.now) c.args.folder in
    let keys = c.in-Some.keys in
    let meant = c.in_ok-keys.ensures ∙ ap (keys_meant c.args.operation) (c.get_str.ensures ∙ first_value-rows found (codes "KEY")) in
    let placed = ap₂ place_named (sym c.word_or-function.ensures) (sym c.word_or.ensures) ∙ sym c.in_ok-name.ensures ∙ c.in-Some-2.is in
    sym (ap (named_by folder (rows_of found)) (sym meant ∙ c.in-Some.is) ∙ ap (option_map (made folder keys)) placed
    ∙ ap (λ f. Some (made f keys c.in-Some-2.name)) (sym c.in_ok-folder.ensures))
