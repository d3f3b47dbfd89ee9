use Rattle.std.proofs.Common.{◌∙◌, ℕ, ap, sym, codes, Option, Result, Ok}
use Rattle.std.proofs.lemmas.Result.{err_from_is_err_and}
use Rattle.clap.specs.Words.{Text, found_of}
use Rattle.clap.proofs.WalkLemmas.{first_value-rows}
use Rattle.meson_splice.specs.Patch.{then_ok}
use Rattle.meson_command.specs.Actions.{count_in, undo_of}
use Rattle.meson_command.specs.declared.asked.Action.{Action}
use Rattle.meson_command.specs.declared.fault.UsageFault.{UsageFault}
use Rattle.meson_command.proofs.history.undo_action.Goals as goal

-- what a number makes of the file that is named
abbrev with_check : Option Text → Result (Option ℕ) UsageFault → Result Action UsageFault
with_check check count = then_ok count (λ n. Ok (undo_of n check))

pub returns-in_err-count-clause-refused : goal.returns-in_err-count-clause-refused
returns-in_err-count-clause-refused c =
    let word = c.get_str.ensures ∙ first_value-rows (found_of c.args.matches.now) (codes "N") in
    let p = err_from_is_err_and c.from_residual.result c.from_residual.ensures.1 in
    rw (p.1, p.2) (λ n. ap (with_check _) (sym (c.in_err-count.ensures ∙ ap count_in word)))

pub returns-clause-ok : goal.returns-clause-ok
returns-clause-ok c =
    let m = c.args.matches.now in
    let word = c.get_str.ensures ∙ first_value-rows (found_of m) (codes "N") in
    let check = c.get_str-2.ensures ∙ first_value-rows (found_of m) (codes "FILE") in
    ap (with_check _) (sym (c.in_ok-count.ensures ∙ ap count_in word)) ∙ ap (λ (a : Action). Ok a) (sym (c.in_ok-action.ensures ∙ ap (undo_of c.in_ok-count.count) check))
