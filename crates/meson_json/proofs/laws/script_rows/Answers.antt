use Rattle.std.proofs.Common.{Err, if◌then◌else◌, ap, refl}
use Rattle.std.specs.Prelude.{nat_lt}
use Rattle.std.specs.Fmt.{digits}
use Rattle.serde_json.proofs.OnLiterals.{serde_json_on_literals}
use Rattle.meson_json.specs.Counts.{count_of}
use Rattle.meson_json.specs.Each.{each_of, each_member, names_of_members}
use Rattle.meson_json.specs.Scripts.{argument_entry, search_at, code_entry, insertion_entry, removal_entry, value_name, rename_entry, target_members, target_entry, kwargs_command, kwargs_entry, options_command, options_entry, entry_of, entry_by, entries_of, max_commands, script_of}
use Rattle.meson_json.specs.declared.member_check.UnknownMembers.TheVariants.{Ignored}
use Rattle.meson_json.specs.declared.fault.ScriptFault.TheVariants.{TooMany}
use Rattle.meson_json.proofs.OnCode.{on_code}
use Rattle.meson_json.proofs.laws.script_rows.Goals as goal

pub returns-clause-targets : goal.returns-clause-targets
unfolding serde_json_on_literals digits each_of each_member names_of_members target_members rename_entry target_entry kwargs_command kwargs_entry options_command options_entry entry_of entry_by entries_of script_of
returns-clause-targets c = (refl, refl, refl, refl, refl, refl, refl, refl, refl, refl, refl, refl, refl)

pub returns-clause-arguments : goal.returns-clause-arguments
unfolding serde_json_on_literals digits each_of each_member names_of_members target_members rename_entry target_entry kwargs_command kwargs_entry options_command options_entry entry_of entry_by entries_of script_of
returns-clause-arguments c = (refl, refl, refl, refl, refl, refl, refl, refl, refl)

pub returns-clause-values : goal.returns-clause-values
unfolding serde_json_on_literals digits each_of each_member names_of_members count_of value_name argument_entry entry_of entry_by entries_of script_of
returns-clause-values c = (refl, refl, refl, refl, refl, refl, refl, refl, refl, refl, refl, refl, refl, refl, refl, refl, refl, refl, refl, refl, refl, refl, refl, refl)

pub returns-clause-sorted : goal.returns-clause-sorted
unfolding serde_json_on_literals digits each_of each_member names_of_members count_of value_name argument_entry target_members rename_entry target_entry entry_of entry_by entries_of script_of
returns-clause-sorted c = (refl, refl, refl, refl, refl, refl, refl, refl, refl, refl, refl, refl, refl, refl, refl, refl)

pub returns-clause-infos : goal.returns-clause-infos
unfolding serde_json_on_literals digits each_of each_member names_of_members count_of value_name argument_entry entry_of entry_by entries_of script_of
returns-clause-infos c = (refl, refl, refl, refl, refl, refl)

pub returns-clause-follow : goal.returns-clause-follow
unfolding serde_json_on_literals digits each_of each_member names_of_members target_members rename_entry target_entry kwargs_command kwargs_entry options_command options_entry entry_of entry_by entries_of script_of
returns-clause-follow c = (refl, refl, refl, refl, refl, refl, refl, refl, refl, refl, refl, refl, refl, refl, refl, refl, refl, refl, refl, refl, refl, refl, refl, refl)

pub returns-clause-follow_known : goal.returns-clause-follow_known
unfolding serde_json_on_literals digits each_of each_member names_of_members target_members rename_entry target_entry kwargs_command kwargs_entry options_command options_entry entry_of entry_by entries_of script_of
returns-clause-follow_known c = (refl, refl, refl, refl, refl, refl, refl, refl, refl)

pub returns-clause-follow_names : goal.returns-clause-follow_names
unfolding serde_json_on_literals digits each_of each_member names_of_members target_members rename_entry target_entry kwargs_command kwargs_entry options_command options_entry entry_of entry_by entries_of script_of
returns-clause-follow_names c = (refl, refl, refl, refl, refl, refl, refl, refl, refl, refl, refl, refl, refl, refl, refl, refl, refl, refl, refl)

pub returns-clause-code : goal.returns-clause-code
unfolding serde_json_on_literals on_code digits each_of each_member names_of_members count_of search_at insertion_entry code_entry entry_of entry_by entries_of script_of
returns-clause-code c = (refl, refl, refl, refl, refl, refl, refl, refl, refl, refl, refl, refl, refl, refl, refl, refl, refl, refl)

pub returns-clause-removals : goal.returns-clause-removals
unfolding serde_json_on_literals digits each_of each_member names_of_members count_of search_at removal_entry code_entry entry_of entry_by entries_of script_of
returns-clause-removals c = (refl, refl, refl, refl, refl, refl, refl, refl, refl, refl, refl, refl)

pub returns-clause-faults : goal.returns-clause-faults
unfolding serde_json_on_literals digits each_of each_member names_of_members target_members rename_entry target_entry kwargs_command kwargs_entry options_command options_entry entry_of entry_by entries_of script_of
returns-clause-faults c = (
  refl,
  refl,
  refl,
  λ entries is. ap (λ n. if nat_lt max_commands n then Err TooMany else entries_of Ignored 0 entries) is,
  refl,
  refl,
  refl,
  refl,
  refl,
  refl,
  refl,
  refl,
  refl,
  refl,
  refl,
)

pub returns-clause-known : goal.returns-clause-known
unfolding serde_json_on_literals digits each_of each_member names_of_members target_members rename_entry target_entry kwargs_command kwargs_entry options_command options_entry entry_of entry_by entries_of script_of
returns-clause-known c = (refl, refl, refl, refl, refl, refl, refl, refl, refl, refl, refl, refl)
