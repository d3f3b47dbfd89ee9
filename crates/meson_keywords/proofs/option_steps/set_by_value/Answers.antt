use Rattle.meson_keywords.proofs.Words.{length, sym, ap, ap₂, ◌∙◌, subst, Err, Ok, OnOk, length-map, err_from_is_err_and, arg_view, args_view, expr_view}
use Rattle.meson_keywords.proofs.Words.{literal_of, child, RefusedAs, AreBehind, passing, value_shape, has_key, keys_known, set_by_shape, set_by_value}
use Rattle.meson_keywords.proofs.Words.{set_in_dictionary}
use Rattle.meson_keywords.proofs.StepsBehind.{behind_result, list_refused, list_taken}
use Rattle.meson_keywords.proofs.option_steps.set_by_value.Goals as goal

pub only_literal_keys-requires : goal.only_literal_keys-requires
only_literal_keys-requires c = c.in-Some.ensures.good c.args.subject.source.now c.requires

pub set_in_dictionary-requires : goal.set_in_dictionary-requires
set_in_dictionary-requires c = c.in-Some.ensures.good c.args.subject.source.now c.requires

pub returns-in_err-only_literal_keys-in-Some-clause-refused : goal.returns-in_err-only_literal_keys-in-Some-clause-refused
returns-in_err-only_literal_keys-in-Some-clause-refused c =
    let error = err_from_is_err_and c.from_residual.result c.from_residual.ensures.1 in
    rw (error.1, error.2) (λ other.
    let source = c.args.subject.source.now in
    let call = c.args.subject.call.now in
    let n = c.args.found.number in
    let xs = args_view source c.in-Some.pairs.now in
    let why = c.in_err-only_literal_keys-in-Some.ensures.refused other in
    ap (set_by_value call n c.args.name.now c.args.value.now (expr_view source c.args.found.value.now)) (c.in-Some.ensures.entries source)
    ∙ list_refused (keys_known xs) (set_in_dictionary (child call n) (length xs) c.args.name.now c.args.value.now (passing (has_key c.args.name.now) 0 xs)) why.1
    ∙ ap Err (sym why.0))

pub returns-in_ok-list-in-Some-clause-done : goal.returns-in_ok-list-in-Some-clause-done
returns-in_ok-list-in-Some-clause-done c =
    let source = c.args.subject.source.now in
    let call = c.args.subject.call.now in
    let n = c.args.found.number in
    let xs = args_view source c.in-Some.pairs.now in
    let name = c.args.name.now in
    let value = c.args.value.now in
    let keys = passing (has_key name) 0 xs in
    behind_result c.set_in_dictionary.result _ (set_in_dictionary c.in_ok-list-in-Some.list (length c.in-Some.pairs.now) name value keys) c.args.steps.now.items c.set_in_dictionary.new.steps.items
    (ap (set_by_value call n name value (expr_view source c.args.found.value.now)) (c.in-Some.ensures.entries source)
    ∙ list_taken (keys_known xs) (set_in_dictionary (child call n) (length xs) name value keys) c.in_ok-only_literal_keys-in-Some.ensures.all
    ∙ ap₂ (λ p m. Ok (set_in_dictionary p m name value keys)) (sym c.in_ok-list-in-Some.ensures) (length-map c.in-Some.pairs.now (arg_view source)))
    c.set_in_dictionary.ensures.done

pub returns-in_ok-entry-in-None-clause-done : goal.returns-in_ok-entry-in-None-clause-done
returns-in_ok-entry-in-None-clause-done c =
    let source = c.args.subject.source.now in
    let call = c.args.subject.call.now in
    let n = c.args.found.number in
    let v = expr_view source c.args.found.value.now in
    let is = ap (λ x. set_by_shape call n c.args.name.now x (literal_of v) (value_shape v)) c.in_ok-entry-in-None.ensures ∙ ap (set_by_value call n c.args.name.now c.args.value.now v) (sym (c.in-None.ensures.entries source)) in
    subst (λ m. OnOk c.set_in_value.result (AreBehind m c.args.steps.now.items c.set_in_value.new.steps.items)) is c.set_in_value.ensures.done

pub returns-in_ok-entry-in-None-clause-refused : goal.returns-in_ok-entry-in-None-clause-refused
returns-in_ok-entry-in-None-clause-refused c =
    let source = c.args.subject.source.now in
    let call = c.args.subject.call.now in
    let n = c.args.found.number in
    let v = expr_view source c.args.found.value.now in
    let is = ap (λ x. set_by_shape call n c.args.name.now x (literal_of v) (value_shape v)) c.in_ok-entry-in-None.ensures ∙ ap (set_by_value call n c.args.name.now c.args.value.now v) (sym (c.in-None.ensures.entries source)) in
    subst (λ m. RefusedAs c.set_in_value.result m) is c.set_in_value.ensures.refused
