use Rattle.std.proofs.Common.{refl}
use Rattle.clap.proofs.OnLiterals.{clap_on_literals}
use Rattle.meson_command.specs.Actions.{action_of, kwargs_action, kwargs_by, options_action, options_by, other_action, rename_action, script_action, target_action}
use Rattle.meson_command.specs.Arguments.{action_within, argument_action, values_meant}
use Rattle.meson_command.specs.Asking.{asked_from}
use Rattle.meson_command.specs.Codes.{code_action, insertion_action, removal_action}
use Rattle.meson_json.specs.Codes.{blank_of}
use Rattle.meson_json.specs.Counts.{count_of}
use Rattle.meson_command.specs.Pairs.{lone_names, pairs_of}
use Rattle.meson_command.specs.Spelling.{passed_from}
use Rattle.meson_command.specs.Program.{argument, code, command, default_options, history, kwargs, list, program, redo, target, undo}
use Rattle.meson_command.proofs.CodeRows.{inserted-law}
use Rattle.meson_command.proofs.laws.rows.Goals as goal

pub returns-clause-done : goal.returns-clause-done
unfolding clap_on_literals program target kwargs argument code default_options command undo redo history list passed_from asked_from action_within action_of other_action rename_action target_action kwargs_action kwargs_by options_action options_by script_action lone_names pairs_of count_of
returns-clause-done c = (refl, refl, refl, refl, refl, refl, refl, refl, refl, refl, refl, refl, refl, refl, refl, refl, refl, refl, refl, refl, refl, refl, refl, refl, refl, refl, refl, refl, refl, refl, refl, refl, refl, refl, refl, refl, refl, refl, refl, refl)

pub returns-clause-values : goal.returns-clause-values
unfolding clap_on_literals program target kwargs argument code default_options command undo redo history list passed_from asked_from action_within argument_action values_meant action_of other_action rename_action target_action kwargs_action kwargs_by options_action options_by script_action lone_names pairs_of count_of
returns-clause-values c = (refl, refl, refl, refl, refl, refl, refl, refl, refl, refl, refl, refl, refl, refl, refl, refl, refl, refl, refl, refl, refl, refl, refl, refl, refl, refl, refl, refl, refl, refl, refl, refl, refl, refl, refl, refl, refl, refl)

pub returns-clause-sorted : goal.returns-clause-sorted
unfolding clap_on_literals program target kwargs argument code default_options command undo redo history list passed_from asked_from action_within argument_action values_meant action_of other_action rename_action target_action kwargs_action kwargs_by options_action options_by script_action lone_names pairs_of count_of
returns-clause-sorted c = (refl, refl, refl, refl, refl, refl, refl, refl, refl, refl, refl, refl, refl, refl, refl, refl, refl, refl, refl, refl, refl, refl, refl, refl, refl, refl)

pub returns-clause-infos : goal.returns-clause-infos
unfolding clap_on_literals program target kwargs argument code default_options command undo redo history list passed_from asked_from action_within argument_action values_meant action_of other_action rename_action target_action kwargs_action kwargs_by options_action options_by script_action lone_names pairs_of count_of
returns-clause-infos c = (refl, refl, refl, refl, refl, refl, refl, refl, refl)

pub returns-clause-inserted : goal.returns-clause-inserted
returns-clause-inserted c = inserted-law

pub returns-clause-nowhere : goal.returns-clause-nowhere
unfolding clap_on_literals program target kwargs argument code default_options command undo redo history list passed_from asked_from action_within insertion_action code_action action_of other_action count_of blank_of
returns-clause-nowhere c = (refl, refl, refl, refl, refl, refl, refl, refl, refl, refl, refl, refl, refl, refl)

pub returns-clause-removed : goal.returns-clause-removed
unfolding clap_on_literals program target kwargs argument code default_options command undo redo history list passed_from asked_from action_within removal_action code_action action_of other_action count_of blank_of
returns-clause-removed c = (refl, refl, refl, refl, refl, refl, refl, refl, refl, refl, refl, refl)

pub returns-clause-titled : goal.returns-clause-titled
unfolding clap_on_literals program target kwargs argument code default_options command undo redo history list passed_from asked_from action_within action_of other_action rename_action target_action kwargs_action kwargs_by options_action options_by script_action lone_names pairs_of count_of
returns-clause-titled c = (refl, refl, refl, refl, refl, refl, refl, refl, refl)

pub returns-clause-shown : goal.returns-clause-shown
unfolding clap_on_literals program target kwargs argument code default_options command undo redo history list passed_from asked_from action_within action_of other_action rename_action target_action kwargs_action kwargs_by options_action options_by script_action lone_names pairs_of count_of
returns-clause-shown c = (refl, refl, refl, refl, refl, refl, refl, refl, refl)

pub returns-clause-json : goal.returns-clause-json
unfolding clap_on_literals program target kwargs argument code default_options command undo redo history list passed_from asked_from action_within action_of other_action rename_action target_action kwargs_action kwargs_by options_action options_by script_action lone_names pairs_of count_of
returns-clause-json c = (refl, refl, refl, refl, refl, refl, refl, refl, refl, refl, refl, refl, refl, refl, refl, refl, refl, refl)

pub returns-clause-flagged : goal.returns-clause-flagged
unfolding clap_on_literals program target kwargs argument code default_options command undo redo history list passed_from asked_from action_within action_of other_action rename_action target_action kwargs_action kwargs_by options_action options_by script_action lone_names pairs_of count_of
returns-clause-flagged c = (refl, refl, refl, refl, refl, refl, refl, refl, refl, refl)

pub returns-clause-texts : goal.returns-clause-texts
unfolding clap_on_literals program target kwargs argument code default_options command undo redo history list passed_from asked_from action_within action_of other_action rename_action target_action kwargs_action kwargs_by options_action options_by script_action lone_names pairs_of count_of
returns-clause-texts c = (refl, refl, refl, refl, refl, refl, refl, refl, refl, refl, refl, refl, refl, refl, refl, refl, refl, refl, refl)

pub returns-clause-listed : goal.returns-clause-listed
unfolding clap_on_literals program target kwargs argument code default_options command undo redo history list passed_from asked_from action_within action_of other_action rename_action target_action kwargs_action kwargs_by options_action options_by script_action lone_names pairs_of count_of
returns-clause-listed c = (refl, refl, refl, refl, refl, refl, refl, refl, refl, refl, refl, refl, refl, refl, refl, refl, refl, refl, refl, refl, refl)

pub returns-clause-other : goal.returns-clause-other
unfolding clap_on_literals program target kwargs argument code default_options command undo redo history list passed_from asked_from action_within action_of other_action rename_action target_action kwargs_action kwargs_by options_action options_by script_action lone_names pairs_of count_of
returns-clause-other c = (refl, refl, refl, refl, refl, refl, refl, refl, refl, refl, refl, refl, refl, refl, refl, refl, refl, refl, refl)

pub returns-clause-following : goal.returns-clause-following
unfolding clap_on_literals program target kwargs argument code default_options command undo redo history list passed_from asked_from action_within argument_action action_of other_action rename_action target_action kwargs_action kwargs_by options_action options_by script_action lone_names pairs_of count_of
returns-clause-following c = (refl, refl, refl, refl, refl, refl, refl, refl, refl, refl, refl, refl, refl, refl, refl, refl, refl, refl, refl, refl, refl, refl, refl, refl, refl, refl, refl, refl, refl, refl, refl, refl)

pub returns-clause-followed : goal.returns-clause-followed
unfolding clap_on_literals program target kwargs argument code default_options command undo redo history list passed_from asked_from action_within argument_action action_of other_action rename_action target_action kwargs_action kwargs_by options_action options_by script_action lone_names pairs_of count_of
returns-clause-followed c = (refl, refl, refl, refl, refl, refl, refl, refl, refl, refl, refl, refl, refl, refl, refl, refl, refl, refl, refl, refl, refl, refl, refl, refl, refl, refl, refl)

pub returns-clause-followed_names : goal.returns-clause-followed_names
unfolding clap_on_literals program target kwargs argument code default_options command undo redo history list passed_from asked_from action_within argument_action action_of other_action rename_action target_action kwargs_action kwargs_by options_action options_by script_action lone_names pairs_of count_of
returns-clause-followed_names c = (refl, refl, refl, refl, refl, refl, refl, refl, refl, refl, refl, refl, refl, refl, refl)

pub returns-clause-refused : goal.returns-clause-refused
unfolding clap_on_literals program target kwargs argument code default_options command undo redo history list passed_from asked_from action_within action_of other_action rename_action target_action kwargs_action kwargs_by options_action options_by script_action lone_names pairs_of count_of
returns-clause-refused c = (refl, refl, refl, refl, refl, refl, refl, refl, refl, refl, refl, refl, refl, refl, refl, refl, refl, refl, refl, refl, refl, refl, refl, refl, refl, refl, refl, refl, refl, refl, refl, refl, refl, refl, refl, refl, refl, refl, refl, refl, refl, refl, refl, refl, refl, refl, refl, refl, refl, refl, refl, refl, refl, refl, refl, refl, refl, refl, refl, refl, refl, refl, refl, refl, refl)
