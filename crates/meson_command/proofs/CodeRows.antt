-- Command lines of `code`, with any code.
use Rattle.std.proofs.Common.{◌≡◌, ℕ, List, Option, Some, None, Result, Ok, codes, refl}
use Rattle.std.specs.Prelude.{ok_or}
use Rattle.clap.proofs.OnLiterals.{clap_on_literals}
use Rattle.meson_splice.specs.Patch.{then_ok}
use Rattle.meson_statements.specs.CodeTexts.{statement_code}
use Rattle.meson_steps.specs.declared.argument.Callee.TheVariants as callee
use Rattle.meson_steps.specs.declared.argument.PlaceName.TheVariants as name
use Rattle.meson_steps.specs.declared.command.CodePlace.{CodePlace}
use Rattle.meson_steps.specs.declared.command.CodePlace.TheVariants as place
use Rattle.meson_steps.specs.declared.command.Command.TheVariants as command_of
use Rattle.meson_json.specs.Codes.{blank_of}
use Rattle.meson_json.specs.Counts.{count_of}
use Rattle.meson_command.specs.Actions.{run}
use Rattle.meson_command.specs.Arguments.{action_within}
use Rattle.meson_command.specs.Asking.{asked_from}
use Rattle.meson_command.specs.Codes.{code_action, insertion_action}
use Rattle.meson_command.specs.Spelling.{passed_from}
use Rattle.meson_command.specs.Program.{argument, code, command, default_options, history, kwargs, list, program, redo, target, undo}
use Rattle.meson_command.specs.Rows.{dry, flagged, in_place}
use Rattle.meson_command.specs.RowsOfCode.{Inserted, above_in, below_in}
use Rattle.meson_command.specs.declared.asked.Action.{Action}
use Rattle.meson_command.specs.declared.asked.Asked.{Asked}
use Rattle.meson_command.specs.declared.fault.UsageFault.{UsageFault}
use Rattle.meson_command.specs.declared.fault.UsageFault.TheVariants.{NotCode}

-- what is made of a word is made of its code
of-code : (place : CodePlace) (blank : Option ℕ) (asked : Action → Result Asked UsageFault) (o : Option (List ℕ))
    → then_ok (then_ok (ok_or o NotCode) (λ c. Ok (run (command_of.CodeInsert place c blank)))) asked
    ≡ then_ok (ok_or o NotCode) (λ c. asked (run (command_of.CodeInsert place c blank)))
of-code place blank asked None = refl
of-code place blank asked (Some c) = refl

pub inserted-law : Inserted
unfolding clap_on_literals program target kwargs argument code default_options command undo redo history list passed_from asked_from action_within insertion_action code_action count_of blank_of
inserted-law = (
  λ text. of-code (below_in None (name.Call callee.Target (codes "e"))) None in_place (statement_code text),
  λ text. of-code (above_in None (name.Variable (codes "x"))) None in_place (statement_code text),
  λ text. of-code (place.End (codes "meson.build")) None in_place (statement_code text),
  λ text. of-code (below_in None (name.Project (codes "/"))) (Some 0) in_place (statement_code text),
  λ text. of-code (above_in None (name.Line (codes "s/meson.build") 12)) (Some 100) in_place (statement_code text),
  λ text. of-code (place.End (codes "s/meson.build")) (Some 2) in_place (statement_code text),
  λ text. of-code (below_in (Some (codes "s")) (name.Call (callee.Function (codes "test")) (codes "--help"))) None in_place (statement_code text),
  λ text. of-code (above_in None (name.Call (callee.Function (codes "dependency")) (codes "z"))) None (flagged dry) (statement_code text),
)
