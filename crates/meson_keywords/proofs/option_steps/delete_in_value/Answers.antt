use Rattle.meson_keywords.proofs.Words.{◌∷◌, [], map, refl, sym, ap, ◌∙◌, Err, Ok, Some, err_from_is_err_and, args_view, expr_view, Remove, literal_of, child}
use Rattle.meson_keywords.proofs.Words.{NotLiteral, step_in, all_of_kind, passing, removed_from, delete_by_shape, delete_lone, is_entry, is_entry_element}
use Rattle.meson_keywords.specs.declared.value_kinds.ElementKind.TheVariants as element
use Rattle.meson_keywords.proofs.StepsBehind.{behind_is, list_refused, list_taken, lone_refused, lone_taken, none_more, one_more}
use Rattle.meson_keywords.proofs.option_steps.delete_in_value.Goals as goal
use Rattle.meson_keywords.proofs.option_steps.delete_in_value.Goals.{in-Some+in_ok-only_literals-in-Some+in_ok-remove_passing-in-Some}
use Rattle.meson_keywords.proofs.option_steps.delete_in_value.Goals.{in-None+in_ok-is_element-in-None+else-not-branch+in_ok-is_entry-in-None+then-branch+in_ok-push_edit-in-None}
use Rattle.meson_keywords.proofs.option_steps.delete_in_value.Goals.{in-None+in_ok-is_element-in-None+else-not-branch+in_ok-is_entry-in-None+else-branch}

pub only_literals-requires : goal.only_literals-requires
only_literals-requires c = c.in-Some.ensures.good c.args.subject.source.now c.requires

pub remove_passing-requires : goal.remove_passing-requires
remove_passing-requires c = c.in-Some.ensures.good c.args.subject.source.now c.requires

pub returns-in_err-only_literals-in-Some-clause-refused : goal.returns-in_err-only_literals-in-Some-clause-refused
returns-in_err-only_literals-in-Some-clause-refused c =
    let error = err_from_is_err_and c.from_residual.result c.from_residual.ensures.1 in
    rw (error.1, error.2) (λ other.
    let source = c.args.subject.source.now in
    let call = c.args.subject.call.now in
    let n = c.args.found.number in
    let xs = args_view source c.in-Some.elements.now in
    let why = c.in_err-only_literals-in-Some.ensures.refused other in
    ap (delete_by_shape call n c.args.name.now (literal_of (expr_view source c.args.found.value.now))) (c.in-Some.ensures.shape source)
    ∙ list_refused (all_of_kind element.Text xs) (removed_from (child call n) 0 (passing (is_entry_element c.args.name.now) 0 xs)) why.1
    ∙ ap Err (sym why.0))

pub returns-then-not-branch-clause-refused : goal.returns-then-not-branch-clause-refused
returns-then-not-branch-clause-refused c = λ other.
    let source = c.args.subject.source.now in
    let call = c.args.subject.call.now in
    let n = c.args.found.number in
    let o = literal_of (expr_view source c.args.found.value.now) in
    ap (delete_by_shape call n c.args.name.now o) (c.in-None.ensures.shape source)
    ∙ lone_refused o (delete_lone call n (is_entry c.args.name.now o)) (sym c.in_ok-is_element-in-None.ensures ∙ c.if-not-branch.true)
    ∙ ap Err (sym (c.in_ok-not_literal-in-None.ensures ∙ ap NotLiteral c.as_bytes.ensures.value))

pub returns-clause-done : goal.returns-clause-done
returns-clause-done c =
    let source = c.args.subject.source.now in
    let call = c.args.subject.call.now in
    let n = c.args.found.number in
    let name = c.args.name.now in
    let o = literal_of (expr_view source c.args.found.value.now) in
    let old = c.args.steps.now.items in
    let after = c.match-array_in.steps.items in
    let gone = step_in call (Remove call.path.steps n) in
    elim c.match-array_in.branch [
      | in-Some+in_ok-only_literals-in-Some+in_ok-remove_passing-in-Some w ↦
          (let xs = args_view source w.in-Some.elements.now in
          let entries = passing (is_entry_element name) 0 xs in
          behind_is _ (removed_from (child call n) 0 entries) old after
          (ap (delete_by_shape call n name o) (w.in-Some.ensures.shape source) ∙ list_taken (all_of_kind element.Text xs) (removed_from (child call n) 0 entries) w.in_ok-only_literals-in-Some.ensures.all)
          (ap (λ v. map Some v.items) w.steps-is ∙ w.in_ok-remove_passing-in-Some.ensures))
      | in-None+in_ok-is_element-in-None+else-not-branch+in_ok-is_entry-in-None+then-branch+in_ok-push_edit-in-None w ↦
          behind_is _ (gone ∷ []) old after
          (ap (delete_by_shape call n name o) (w.in-None.ensures.shape source)
          ∙ lone_taken o (delete_lone call n (is_entry name o)) (sym w.in_ok-is_element-in-None.ensures ∙ w.if-not-branch.false)
          ∙ ap (λ b. Ok (delete_lone call n b)) (sym w.in_ok-is_entry-in-None.ensures ∙ w.if-branch.true))
          (one_more old after _ gone (ap (λ v. v.items) w.steps-is ∙ w.in_ok-push_edit-in-None.ensures) refl)
      | in-None+in_ok-is_element-in-None+else-not-branch+in_ok-is_entry-in-None+else-branch w ↦
          behind_is _ [] old after
          (ap (delete_by_shape call n name o) (w.in-None.ensures.shape source)
          ∙ lone_taken o (delete_lone call n (is_entry name o)) (sym w.in_ok-is_element-in-None.ensures ∙ w.if-not-branch.false)
          ∙ ap (λ b. Ok (delete_lone call n b)) (sym w.in_ok-is_entry-in-None.ensures ∙ w.if-branch.false))
          (none_more old after (ap (λ v. v.items) w.steps-is))
    ]
