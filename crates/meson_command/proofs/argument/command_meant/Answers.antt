use Rattle.std.proofs.Common.{◌≡◌, ◌∙◌, Bool, List, Option, Result, Err, codes, sym, ap, ap₂}
use Rattle.std.specs.Prelude.{ok_or}
use Rattle.std.proofs.lemmas.Result.{err_from_is_err_and}
use Rattle.clap.specs.Words.{found_of, rows_of}
use Rattle.clap.proofs.WalkLemmas.{first_value-rows}
use Rattle.meson_splice.specs.Patch.{then_ok}
use Rattle.meson_steps.specs.declared.argument.ValueName.{ValueName}
use Rattle.meson_steps.specs.declared.command.Command.{Command}
use Rattle.meson_steps.specs.declared.given.Given.{Given}
use Rattle.meson_json.specs.Arguments.{command_to}
use Rattle.meson_json.specs.declared.names.ArgumentOperation.{ArgumentOperation}
use Rattle.meson_command.specs.Actions.{has_flag}
use Rattle.meson_command.specs.Arguments.{after_meant, values_meant}
use Rattle.meson_command.specs.declared.fault.UsageFault.{UsageFault}
use Rattle.meson_command.specs.declared.fault.UsageFault.TheVariants.{NotCode, Usage}
use Rattle.meson_command.proofs.argument.command_meant.Goals as goal

abbrev made : ArgumentOperation → ValueName → Bool → Option (List Given) → Option (Option Given) → Result Command UsageFault
made o name sorted vs a = then_ok (ok_or vs NotCode) (λ values. then_ok (ok_or a NotCode) (λ it. ok_or (command_to o name it sorted values) Usage))

pub returns-in_err-after-clause-refused : goal.returns-in_err-after-clause-refused
returns-in_err-after-clause-refused c =
    let found = found_of c.args.matches.now in
    let p = err_from_is_err_and c.from_residual-in_err-after.result c.from_residual-in_err-after.ensures.1 in
    let values = ap values_meant (sym (c.get.ensures ∙ c.in_ok-words.ensures)) ∙ c.in_ok-values.ensures.ok in
    let word = c.get_str.ensures ∙ first_value-rows found (codes "ELEMENT") in
    rw (p.1, p.2) (λ n.
    let q = c.in_err-after.ensures.refused n in
    ap₂ (made c.args.operation c.args.name (has_flag (codes "sorted") (rows_of found))) values (ap after_meant (sym word) ∙ q.1) ∙ ap (λ (e : UsageFault). Err e) (sym q.0))

pub returns-in-Some-clause-ok : goal.returns-in-Some-clause-ok
returns-in-Some-clause-ok c =
    let found = found_of c.args.matches.now in
    let values = ap values_meant (sym (c.get.ensures ∙ c.in_ok-words.ensures)) ∙ c.in_ok-values.ensures.ok in
    let word = c.get_str.ensures ∙ first_value-rows found (codes "ELEMENT") in
    let given : command_to c.args.operation c.args.name c.in_ok-after.after (has_flag (codes "sorted") (rows_of found)) c.in_ok-values.values.items
    ≡ command_to c.args.operation c.args.name c.in_ok-after.after c.is_set-sorted.result c.in_ok-values.values.items =
    ap (λ s. command_to c.args.operation c.args.name c.in_ok-after.after s c.in_ok-values.values.items) (sym c.is_set-sorted.ensures) in
    ap₂ (made c.args.operation c.args.name (has_flag (codes "sorted") (rows_of found))) values (ap after_meant (sym word) ∙ c.in_ok-after.ensures.ok) ∙ ap (λ k. ok_or k Usage) (given ∙ sym c.command_to.ensures ∙ c.in-Some.is)

pub returns-clause-refused : goal.returns-clause-refused
returns-clause-refused c = λ _.
    let found = found_of c.args.matches.now in
    let values = ap values_meant (sym (c.get.ensures ∙ c.in_ok-words.ensures)) ∙ c.in_ok-values.ensures.ok in
    let word = c.get_str.ensures ∙ first_value-rows found (codes "ELEMENT") in
    let given : command_to c.args.operation c.args.name c.in_ok-after.after (has_flag (codes "sorted") (rows_of found)) c.in_ok-values.values.items
    ≡ command_to c.args.operation c.args.name c.in_ok-after.after c.is_set-sorted.result c.in_ok-values.values.items =
    ap (λ s. command_to c.args.operation c.args.name c.in_ok-after.after s c.in_ok-values.values.items) (sym c.is_set-sorted.ensures) in
    ap₂ (made c.args.operation c.args.name (has_flag (codes "sorted") (rows_of found))) values (ap after_meant (sym word) ∙ c.in_ok-after.ensures.ok) ∙ ap (λ k. ok_or k Usage) (given ∙ sym c.command_to.ensures ∙ c.in-None.is)
