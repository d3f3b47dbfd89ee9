-- The keyword arguments of a call are tested in its order.
use Rattle.std.proofs.Common.{ap, sym, ◌∙◌}
use Rattle.std.proofs.lemmas.Result.{err_from_is_err_and}
use Rattle.meson_syntax.specs.View.{arg_view}
use Rattle.meson_details.specs.Once.{name_in}
use Rattle.meson_details.proofs.Told.{left_told, all_told, no_name, key_passed, key_stopped, none_left}
use Rattle.meson_details.proofs.duplicates.call_told.Goals as goal
use Rattle.meson_details.proofs.duplicates.call_told.Goals.{in-Some+in_ok-key_told-in-Some, in-None}

pub loop-i-init : goal.loop-i-init
loop-i-init c = λ function.
    let source = c.args.source.now in
    let l = c.args.arguments.now in
    all_told source l function c.args.role ∙ ap (left_told source l function c.args.role) (sym c.get-args.ensures)

pub returns-in_err-key_told-in-Some-clause-refused : goal.returns-in_err-key_told-in-Some-clause-refused
returns-in_err-key_told-in-Some-clause-refused c =
    let error = err_from_is_err_and c.from_residual.result c.from_residual.ensures.1 in
    rw (error.1, error.2) (λ function other.
    let source = c.args.source.now in
    let l = c.args.arguments.now in
    let d = c.index-args-i.result in
    let some = ap (λ a. name_in (arg_view source a)) (sym c.index-args-i.is) ∙ sym c.in-Some.ensures in
    c.loop-i.invariant function
    ∙ key_stopped source l function c.args.role c.get-args.result.now c.loop-i.i d c.loop-i-test.true c.in-Some.key.now some c.in_err-key_told-in-Some.field-0.0 (c.in_err-key_told-in-Some.ensures.refused function other))

pub loop-i-preserved : goal.loop-i-preserved
loop-i-preserved c =
    let source = c.args.source.now in
    let l = c.args.arguments.now in
    let args = c.get-args.result.now in
    let d = c.index-args-i.result in
    elim c.match-name_of.branch [
      | in-Some+in_ok-key_told-in-Some w ↦ λ function.
          let some = ap (λ a. name_in (arg_view source a)) (sym c.index-args-i.is) ∙ sym w.in-Some.ensures in
          c.loop-i.invariant function ∙ key_passed source l function c.args.role args c.loop-i.i d c.loop-i-test.true w.in-Some.key.now some (w.in_ok-key_told-in-Some.ensures.told function)
      | in-None w ↦ λ function.
          let none = ap (λ a. name_in (arg_view source a)) (sym c.index-args-i.is) ∙ sym w.in-None.ensures in
          c.loop-i.invariant function ∙ no_name source l function c.args.role args c.loop-i.i d c.loop-i-test.true none
    ]

pub returns-clause-told : goal.returns-clause-told
returns-clause-told c = λ function.
    c.loop-i.invariant function ∙ none_left c.args.source.now c.args.arguments.now function c.args.role c.get-args.result.now c.loop-i.i c.loop-i-test.false
