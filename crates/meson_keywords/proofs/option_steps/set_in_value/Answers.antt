use Rattle.meson_keywords.proofs.Words.{length, sym, ap, ap₂, ◌∙◌, Err, Ok, length-map, err_from_is_err_and, arg_view, args_view, expr_view, literal_of, child}
use Rattle.meson_keywords.proofs.Words.{NotLiteral, all_of_kind, passing, is_entry, is_entry_element, set_by_shape, set_in_list, set_in_lone}
use Rattle.meson_keywords.specs.declared.value_kinds.ElementKind.TheVariants as element
use Rattle.meson_keywords.proofs.StepsBehind.{behind_result, list_refused, list_taken, lone_refused}
use Rattle.meson_keywords.proofs.option_steps.set_in_value.Goals as goal

pub only_literals-requires : goal.only_literals-requires
only_literals-requires c = c.in-Some.ensures.good c.args.subject.source.now c.requires

pub set_in_list-requires : goal.set_in_list-requires
set_in_list-requires c = c.in-Some.ensures.good c.args.subject.source.now c.requires

pub returns-in_err-only_literals-in-Some-clause-refused : goal.returns-in_err-only_literals-in-Some-clause-refused
returns-in_err-only_literals-in-Some-clause-refused c =
    let error = err_from_is_err_and c.from_residual.result c.from_residual.ensures.1 in
    rw (error.1, error.2) (λ other.
    let source = c.args.subject.source.now in
    let call = c.args.subject.call.now in
    let n = c.args.found.number in
    let xs = args_view source c.in-Some.elements.now in
    let why = c.in_err-only_literals-in-Some.ensures.refused other in
    ap (set_by_shape call n c.args.name.now c.args.entry.now (literal_of (expr_view source c.args.found.value.now))) (c.in-Some.ensures.shape source)
    ∙ list_refused (all_of_kind element.Text xs) (set_in_list (child call n) (length xs) c.args.entry.now (passing (is_entry_element c.args.name.now) 0 xs)) why.1
    ∙ ap Err (sym why.0))

pub returns-then-not-branch-clause-refused : goal.returns-then-not-branch-clause-refused
returns-then-not-branch-clause-refused c = λ other.
    let source = c.args.subject.source.now in
    let call = c.args.subject.call.now in
    let n = c.args.found.number in
    let o = literal_of (expr_view source c.args.found.value.now) in
    ap (set_by_shape call n c.args.name.now c.args.entry.now o) (c.in-None.ensures.shape source)
    ∙ lone_refused o (set_in_lone call n c.args.entry.now (is_entry c.args.name.now o)) (sym c.in_ok-is_element-in-None.ensures ∙ c.if-not-branch.true)
    ∙ ap Err (sym (c.in_ok-not_literal-in-None.ensures ∙ ap NotLiteral c.as_bytes.ensures.value))

pub returns-in_ok-list-in-Some-clause-done : goal.returns-in_ok-list-in-Some-clause-done
returns-in_ok-list-in-Some-clause-done c =
    let source = c.args.subject.source.now in
    let call = c.args.subject.call.now in
    let n = c.args.found.number in
    let xs = args_view source c.in-Some.elements.now in
    let entries = passing (is_entry_element c.args.name.now) 0 xs in
    let entry = c.args.entry.now in
    behind_result c.set_in_list.result _ (set_in_list c.in_ok-list-in-Some.list (length c.in-Some.elements.now) entry entries) c.args.steps.now.items c.set_in_list.new.steps.items
    (ap (set_by_shape call n c.args.name.now entry (literal_of (expr_view source c.args.found.value.now))) (c.in-Some.ensures.shape source)
    ∙ list_taken (all_of_kind element.Text xs) (set_in_list (child call n) (length xs) entry entries) c.in_ok-only_literals-in-Some.ensures.all
    ∙ ap₂ (λ p m. Ok (set_in_list p m entry entries)) (sym c.in_ok-list-in-Some.ensures) (length-map c.in-Some.elements.now (arg_view source)))
    c.set_in_list.ensures.done
