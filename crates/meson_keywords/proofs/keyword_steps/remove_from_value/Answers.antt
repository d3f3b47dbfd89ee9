use Rattle.meson_keywords.proofs.Words.{refl, sym, ap, ◌∙◌, subst, OnOk, Err, args_view, expr_view, Remove, RefusedAs, AreBehind, step_in, all_of_kind, passing}
use Rattle.meson_keywords.proofs.Words.{remove_by_shape, remove_equal, says, text_in}
use Rattle.meson_keywords.proofs.StepsBehind.{behind_is, lone_gone, lone_kept, lone_none, none_more, one_more}
use Rattle.meson_keywords.proofs.keyword_steps.remove_from_value.Goals as goal
use Rattle.meson_keywords.proofs.keyword_steps.remove_from_value.Goals.{then-branch+in_ok-push_edit-in-None, else-branch}

pub remove_from_array-requires-clause-good : goal.remove_from_array-requires-clause-good
remove_from_array-requires-clause-good c = c.in-Some.ensures.good c.args.subject.source.now c.requires.good

pub returns-then-not-branch-clause-refused : goal.returns-then-not-branch-clause-refused
returns-then-not-branch-clause-refused c = λ other.
    let source = c.args.subject.source.now in
    let v = expr_view source c.args.found.value.now in
    let o = text_in c.args.kind v in
    ap (remove_by_shape c.args.subject.call.now c.args.found.number c.args.key.now c.args.kind c.args.text.now o) (c.in-None.ensures.shape source)
    ∙ lone_none c.args.subject.call.now c.args.found.number c.args.key.now c.args.text.now o (sym c.in_ok-is_element-in-None.ensures ∙ c.if-not-branch.true)
    ∙ ap Err (sym c.in_ok-not_literal-in-None.ensures)

pub returns-in_ok-list-in-Some-clause-done : goal.returns-in_ok-list-in-Some-clause-done
returns-in_ok-list-in-Some-clause-done c =
    let source = c.args.subject.source.now in
    let xs = args_view source c.in-Some.elements.now in
    let o = text_in c.args.kind (expr_view source c.args.found.value.now) in
    let key = c.args.key.now in
    let k = c.args.kind in
    let text = c.args.text.now in
    let is = ap (λ l. remove_equal l key (all_of_kind k xs) (passing (says k text) 0 xs)) c.in_ok-list-in-Some.ensures
    ∙ ap (remove_by_shape c.args.subject.call.now c.args.found.number key k text o) (sym (c.in-Some.ensures.shape source)) in
    subst (λ m. OnOk c.remove_from_array.result (AreBehind m c.args.steps.now.items c.remove_from_array.new.steps.items)) is c.remove_from_array.ensures.done

pub returns-in_ok-list-in-Some-clause-refused : goal.returns-in_ok-list-in-Some-clause-refused
returns-in_ok-list-in-Some-clause-refused c =
    let source = c.args.subject.source.now in
    let xs = args_view source c.in-Some.elements.now in
    let o = text_in c.args.kind (expr_view source c.args.found.value.now) in
    let key = c.args.key.now in
    let k = c.args.kind in
    let text = c.args.text.now in
    let is = ap (λ l. remove_equal l key (all_of_kind k xs) (passing (says k text) 0 xs)) c.in_ok-list-in-Some.ensures
    ∙ ap (remove_by_shape c.args.subject.call.now c.args.found.number key k text o) (sym (c.in-Some.ensures.shape source)) in
    subst (λ m. RefusedAs c.remove_from_array.result m) is c.remove_from_array.ensures.refused

pub returns-after-branch-clause-done : goal.returns-after-branch-clause-done
returns-after-branch-clause-done c =
    let source = c.args.subject.source.now in
    let call = c.args.subject.call.now in
    let n = c.args.found.number in
    let key = c.args.key.now in
    let text = c.args.text.now in
    let o = text_in c.args.kind (expr_view source c.args.found.value.now) in
    let old = c.args.steps.now.items in
    let lone = ap (remove_by_shape call n key c.args.kind text o) (c.in-None.ensures.shape source) in
    let said = sym c.in_ok-says-in-None.ensures in
    elim c.if-branch.branch [
      | then-branch+in_ok-push_edit-in-None w ↦
          behind_is _ _ old c.if-branch.steps.items (lone ∙ lone_gone call n key text o (said ∙ w.if-branch.true)) (one_more old c.if-branch.steps.items _ (step_in call (Remove call.path.steps n)) (ap (λ v. v.items) w.steps-is ∙ w.in_ok-push_edit-in-None.ensures) refl)
      | else-branch w ↦
          behind_is _ _ old c.if-branch.steps.items (lone ∙ lone_kept call n key text o (sym c.in_ok-is_element-in-None.ensures ∙ c.if-not-branch.false) (said ∙ w.if-branch.false)) (none_more old c.if-branch.steps.items (ap (λ v. v.items) w.steps-is))
    ]
