use Rattle.meson_keywords.proofs.Words.{sym, ap, ◌∙◌, subst, Err, OnOk, err_from_is_err_and, args_view, expr_view, child, RefusedAs, AreBehind, passing}
use Rattle.meson_keywords.proofs.Words.{removed_from, delete_by_value, has_key, keys_known}
use Rattle.meson_keywords.proofs.StepsBehind.{behind_is, list_refused, list_taken}
use Rattle.meson_keywords.proofs.option_steps.delete_by_value.Goals as goal

pub only_literal_keys-requires : goal.only_literal_keys-requires
only_literal_keys-requires c = c.in-Some.ensures.good c.args.subject.source.now c.requires

pub remove_passing-requires : goal.remove_passing-requires
remove_passing-requires c = c.in-Some.ensures.good c.args.subject.source.now c.requires

pub returns-in_err-only_literal_keys-in-Some-clause-refused : goal.returns-in_err-only_literal_keys-in-Some-clause-refused
returns-in_err-only_literal_keys-in-Some-clause-refused c =
    let error = err_from_is_err_and c.from_residual.result c.from_residual.ensures.1 in
    rw (error.1, error.2) (λ other.
    let source = c.args.subject.source.now in
    let call = c.args.subject.call.now in
    let n = c.args.found.number in
    let xs = args_view source c.in-Some.pairs.now in
    let why = c.in_err-only_literal_keys-in-Some.ensures.refused other in
    ap (delete_by_value call n c.args.name.now (expr_view source c.args.found.value.now)) (c.in-Some.ensures.entries source)
    ∙ list_refused (keys_known xs) (removed_from (child call n) 0 (passing (has_key c.args.name.now) 0 xs)) why.1
    ∙ ap Err (sym why.0))

pub returns-in_ok-remove_passing-in-Some-clause-done : goal.returns-in_ok-remove_passing-in-Some-clause-done
returns-in_ok-remove_passing-in-Some-clause-done c =
    let source = c.args.subject.source.now in
    let call = c.args.subject.call.now in
    let n = c.args.found.number in
    let name = c.args.name.now in
    let xs = args_view source c.in-Some.pairs.now in
    let gone = removed_from (child call n) 0 (passing (has_key name) 0 xs) in
    behind_is _ gone c.args.steps.now.items c.remove_passing.new.steps.items
    (ap (delete_by_value call n name (expr_view source c.args.found.value.now)) (c.in-Some.ensures.entries source) ∙ list_taken (keys_known xs) gone c.in_ok-only_literal_keys-in-Some.ensures.all)
    c.in_ok-remove_passing-in-Some.ensures

pub returns-in-None-clause-done : goal.returns-in-None-clause-done
returns-in-None-clause-done c =
    let v = expr_view c.args.subject.source.now c.args.found.value.now in
    let is = ap (delete_by_value c.args.subject.call.now c.args.found.number c.args.name.now v) (sym (c.in-None.ensures.entries c.args.subject.source.now)) in
    subst (λ m. OnOk c.delete_in_value.result (AreBehind m c.args.steps.now.items c.delete_in_value.new.steps.items)) is c.delete_in_value.ensures.done

pub returns-in-None-clause-refused : goal.returns-in-None-clause-refused
returns-in-None-clause-refused c =
    let v = expr_view c.args.subject.source.now c.args.found.value.now in
    let is = ap (delete_by_value c.args.subject.call.now c.args.found.number c.args.name.now v) (sym (c.in-None.ensures.entries c.args.subject.source.now)) in
    subst (λ m. RefusedAs c.delete_in_value.result m) is c.delete_in_value.ensures.refused
