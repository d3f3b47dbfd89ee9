use Rattle.std.proofs.Common.{◌≡◌, length, Ok, Err, true, false, sym, ap, ◌∙◌, subst}
use Rattle.std.specs.Prelude.{if◌then◌else◌}
use Rattle.std.proofs.lemmas.List.{length-map}
use Rattle.meson_syntax.specs.View.{arg_view, expr_view}
use Rattle.meson_calls.specs.declared.refusal.Refusal.TheVariants.{OtherKind}
use Rattle.meson_steps.specs.ListSteps.{AreBare}
use Rattle.meson_places.specs.AssignedValues.{assigned_if}
use Rattle.meson_places.specs.Changes.{alone_in_array, replaces_texts}
use Rattle.meson_places.specs.Slots.{elements_in}
use Rattle.meson_places.specs.Values.{keeps_kind, written_given}
use Rattle.meson_places.proofs.changes.set_assigned.Goals as goal

pub returns-then-branch-2-clause-meant : goal.returns-then-branch-2-clause-meant
returns-then-branch-2-clause-meant c = λ may.
    let source = c.args.source.now in
    let g = c.args.given.now in
    let e = expr_view source c.args.value.now in
    let w = written_given g may in
    let at_ = c.args.place.now in
    let key = c.args.key.now in
    let all = alone_in_array at_ (length (elements_in e)) w in
    let other : keeps_kind g e ≡ false = sym c.in_ok-keeps_kind.ensures ∙ c.if-branch.false in
    let texts : replaces_texts g e ≡ true = sym c.in_ok-replaces_texts.ensures ∙ c.if-branch-2.true in
    let many = sym (length-map c.elements_in-many.result.now (arg_view source)) ∙ ap length (c.elements_in-many.ensures.elements source) in
    let steps = c.in_ok-alone_in_array.field-0.items in
    let made = c.in_ok-alone_in_array.ensures w (sym c.in_ok-new.ensures.done) in
    record {
      steps = all;
      is = ap (λ b. if b then assigned_if key at_ g w else (if replaces_texts g e then Ok all else Err (OtherKind key))) other ∙ ap (λ b. if b then Ok all else Err (OtherKind key)) texts;
      bare = subst (λ m. AreBare (alone_in_array at_ m w) steps) many made;
    }
