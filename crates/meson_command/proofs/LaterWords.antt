-- From the function of `arg` on any words are the id, the key and the values.
use Rattle.std.proofs.Common.{◌≡◌, ◌∙◌, ◌∷◌, ℕ, Bool, false, List, [], Option, Some, None, Result, Ok, codes, refl, ap}
use Rattle.std.specs.Prelude.{if◌then◌else◌, ok_or, option_and_then, option_map}
use Rattle.clap.proofs.OnLiterals.{clap_on_literals}
use Rattle.meson_splice.specs.Patch.{then_ok}
use Rattle.meson_steps.specs.GivenWords.{meant_by}
use Rattle.meson_steps.specs.declared.argument.Callee.TheVariants as callee
use Rattle.meson_steps.specs.declared.argument.PlaceName.TheVariants as name
use Rattle.meson_steps.specs.declared.argument.ValueChange.{ValueChange}
use Rattle.meson_steps.specs.declared.argument.ValueChange.TheVariants as change
use Rattle.meson_steps.specs.declared.argument.ValueName.{ValueName}
use Rattle.meson_steps.specs.declared.command.Command.TheVariants as commands
use Rattle.meson_steps.specs.declared.given.Given.{Given}
use Rattle.meson_steps.specs.declared.given.Given.TheVariants as given
use Rattle.meson_json.specs.Arguments.{command_to, keys_in}
use Rattle.meson_json.specs.declared.names.ArgumentOperation.TheVariants as operation
use Rattle.meson_command.specs.Actions.{run}
use Rattle.meson_command.specs.Arguments.{action_within, argument_action, requested, values_meant}
use Rattle.meson_command.specs.Asking.{asked_from, no_flags}
use Rattle.meson_command.specs.Spelling.{passed_from}
use Rattle.meson_command.specs.Program.{argument, code, command, default_options, history, kwargs, list, program, redo, target, undo}
use Rattle.meson_command.specs.RowsOfArguments.{CodeIsExpressionOrRefused, LaterWordsArePlain}
use Rattle.meson_command.specs.declared.asked.Action.{Action}
use Rattle.meson_command.specs.declared.asked.Asked.{Asked}
use Rattle.meson_command.specs.declared.fault.UsageFault.{UsageFault}
use Rattle.meson_command.specs.declared.fault.UsageFault.TheVariants.{NotCode, Usage}

-- what is made of one word is made of its value
one-value : (o : Option Given) (n : ValueName) (g : Action → Result Asked UsageFault)
    → then_ok (then_ok (then_ok (ok_or (option_and_then (λ value. option_map (λ values. value ∷ values) (Some [])) o) NotCode) (λ values. then_ok (ok_or (Some None) NotCode) (λ it. ok_or (command_to operation.Set n it false values) Usage)))
    (λ c. Ok (requested operation.Set c))) g
    ≡ then_ok (ok_or o NotCode) (λ value. g (run (commands.Argument n (change.Set value))))
one-value None n g = refl
one-value (Some value) n g = refl

abbrev value_of : List ℕ → List ℕ → ValueName
value_of id key = record { place = record { name = name.Call callee.Target id; folder = None }; keys = keys_in key }

abbrev changed : List ℕ → List ℕ → ValueChange → Action
changed id key c = run (commands.Argument (value_of id key) c)

abbrev in_place : Action → Result Asked UsageFault
in_place a = Ok (record { dir = None; title = []; flags = no_flags; texts = None; action = a })

pub later-law : LaterWordsArePlain
unfolding clap_on_literals program target kwargs argument code default_options command undo redo history list passed_from asked_from action_within argument_action values_meant
later-law id key word = one-value (meant_by word) (value_of id key) in_place

pub code-law : CodeIsExpressionOrRefused
code-law code =
    let answer : Bool → Result Asked UsageFault = λ is. then_ok (ok_or (option_map given.Code (if is then Some code else None)) NotCode) (λ value. in_place (changed (codes "e") (codes "k") (change.Set value))) in
    (λ is. later-law (codes "e") (codes "k") (58 ∷ code) ∙ ap answer is, λ is. later-law (codes "e") (codes "k") (58 ∷ code) ∙ ap answer is)
