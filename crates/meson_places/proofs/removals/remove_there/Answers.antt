use Rattle.std.proofs.Common.{◌≡◌, List, [], ◌∷◌, ◌++◌, map, Result, Ok, sym, ap, ◌∙◌, subst}
use Rattle.std.specs.Prelude.{Some}
use Rattle.meson_syntax.specs.View.{expr_view}
use Rattle.meson_edit.specs.Edits.{Remove}
use Rattle.meson_calls.specs.declared.refusal.Refusal.{Refusal}
use Rattle.meson_calls.specs.Project.{child}
use Rattle.meson_steps.specs.declared.step.ListEdit.TheVariants as code
use Rattle.meson_steps.specs.declared.step.ListStep.{ListStep}
use Rattle.meson_steps.specs.Meanings.{AreMeant}
use Rattle.meson_steps.specs.Steps.{Step, step_in}
use Rattle.meson_places.specs.Removals.{remove_by, remove_from}
use Rattle.meson_places.specs.ValueLists.{lists_of}
use Rattle.meson_places.proofs.Meant.{made_passed, of_none, of_some}
use Rattle.meson_places.proofs.removals.remove_there.Goals as goal

pub returns-in_err-steps : goal.returns-in_err-steps
returns-in_err-steps c = record {
  made = λ l same.
      let h = c.args.held in
      let gs = c.args.values.now in
      let key = h.key.now in
      let list = h.list.now in
      let e = expr_view h.source.now h.child.value.now in
      let gone : Result (List Step) Refusal = Ok (step_in list (Remove list.path.steps h.number) ∷ []) in
      let here = c.in_ok-place.ensures ∙ ap (λ q. child q h.child.number) c.as_place.ensures in
      let whole : remove_from l key gs gone (child list h.child.number) e ≡ remove_by key h.source.now gs gone e (lists_of c.in_ok-place.place e) =
      ap (λ s. remove_by key s gs gone e (lists_of (child list h.child.number) e)) (sym same) ∙ ap (λ q. remove_by key h.source.now gs gone e (lists_of q e)) (sym here) in
      made_passed _ (remove_from l key gs gone (child list h.child.number) e) c.from_residual-in_err-steps.result c.in_err-steps.field-0.0 c.from_residual-in_err-steps.ensures.1
      (λ other. whole ∙ c.in_err-steps.ensures.made gone other);
}

pub returns-in-Some : goal.returns-in-Some
returns-in-Some c = record {
  made = λ l same.
      let h = c.args.held in
      let gs = c.args.values.now in
      let key = h.key.now in
      let list = h.list.now in
      let e = expr_view h.source.now h.child.value.now in
      let gone : Result (List Step) Refusal = Ok (step_in list (Remove list.path.steps h.number) ∷ []) in
      let here = c.in_ok-place.ensures ∙ ap (λ q. child q h.child.number) c.as_place.ensures in
      let whole : remove_from l key gs gone (child list h.child.number) e ≡ remove_by key h.source.now gs gone e (lists_of c.in_ok-place.place e) =
      ap (λ s. remove_by key s gs gone e (lists_of (child list h.child.number) e)) (sym same) ∙ ap (λ q. remove_by key h.source.now gs gone e (lists_of q e)) (sym here) in
      subst (λ m. AreMeant m c.in-Some.steps.items) (sym whole) (of_some c.in_ok-steps.field-0 c.in-Some.steps _ _ c.in-Some.is (c.in_ok-steps.ensures.made gone));
}

pub returns : goal.returns
returns c = record {
  made = λ l same.
      let h = c.args.held in
      let gs = c.args.values.now in
      let key = h.key.now in
      let list = h.list.now in
      let e = expr_view h.source.now h.child.value.now in
      let gone : Result (List Step) Refusal = Ok (step_in list (Remove list.path.steps h.number) ∷ []) in
      let here = c.in_ok-place.ensures ∙ ap (λ q. child q h.child.number) c.as_place.ensures in
      let whole : remove_from l key gs gone (child list h.child.number) e ≡ remove_by key h.source.now gs gone e (lists_of c.in_ok-place.place e) =
      ap (λ s. remove_by key s gs gone e (lists_of (child list h.child.number) e)) (sym same) ∙ ap (λ q. remove_by key h.source.now gs gone e (lists_of q e)) (sym here) in
      let one : ListStep = record { list = list; edit = code.Remove h.number } in
      record {
        steps = step_in list (Remove list.path.steps h.number) ∷ [];
        is = whole ∙ of_none c.in_ok-steps.field-0 _ _ c.in-None.is (c.in_ok-steps.ensures.made gone);
        bare = sym (ap (map Some) (c.in_ok-push_edit-in-None.ensures ∙ ap (λ ss. ss ++ one ∷ []) c.new-steps.ensures.items));
      };
}
