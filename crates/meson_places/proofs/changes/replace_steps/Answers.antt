use Rattle.std.proofs.Common.{◌≡◌, ◌∷◌, [], length, Ok, Err, true, false, sym, ap, ◌∙◌, subst}
use Rattle.std.specs.Prelude.{if◌then◌else◌}
use Rattle.std.proofs.lemmas.List.{length-map}
use Rattle.meson_syntax.specs.View.{arg_view, expr_view}
use Rattle.meson_edit.specs.Edits.{Replace}
use Rattle.meson_calls.specs.Project.{child}
use Rattle.meson_steps.specs.ListSteps.{AreBare}
use Rattle.meson_steps.specs.Steps.{step_in}
use Rattle.meson_calls.specs.declared.refusal.Refusal.TheVariants.{OtherKind}
use Rattle.meson_places.specs.Changes.{alone_in_array, replaces_texts}
use Rattle.meson_places.specs.Slots.{elements_in}
use Rattle.meson_places.specs.Values.{keeps_kind, written_given}
use Rattle.meson_places.proofs.changes.replace_steps.Goals as goal

pub returns-then-branch-2-clause-meant : goal.returns-then-branch-2-clause-meant
returns-then-branch-2-clause-meant c = λ may.
    let source = c.args.source.now in
    let g = c.args.given.now in
    let e = expr_view source c.args.child.value.now in
    let w = written_given g may in
    let list = c.args.element.0.now in
    let key = c.args.key.now in
    let inner = child list c.args.child.number in
    let all = alone_in_array inner (length (elements_in e)) w in
    let other : keeps_kind g e ≡ false = sym c.in_ok-keeps_kind.ensures ∙ c.if-branch.false in
    let texts : replaces_texts g e ≡ true = sym c.in_ok-replaces_texts.ensures ∙ c.if-branch-2.true in
    let many = sym (length-map c.elements_in-many.result.now (arg_view source)) ∙ ap length (c.elements_in-many.ensures.elements source) in
    let is_inner = c.in_ok-inner.ensures ∙ ap (λ q. child q c.args.child.number) c.as_place.ensures in
    let steps = c.in_ok-alone_in_array.field-0.items in
    let made = c.in_ok-alone_in_array.ensures w (sym c.in_ok-new-2.ensures.done) in
    record {
      steps = all;
      is = ap (λ b. if b then Ok (step_in list (Replace list.path.steps c.args.element.1 w) ∷ []) else (if replaces_texts g e then Ok all else Err (OtherKind key))) other
          ∙ ap (λ b. if b then Ok all else Err (OtherKind key)) texts;
      bare = subst (λ q. AreBare (alone_in_array q (length (elements_in e)) w) steps) is_inner (subst (λ m. AreBare (alone_in_array c.in_ok-inner.inner m w) steps) many made);
    }
