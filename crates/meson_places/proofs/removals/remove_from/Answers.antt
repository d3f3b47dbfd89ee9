use Rattle.std.proofs.Common.{◌≡◌, length, sym, ap, ◌∙◌, subst, arith}
use Rattle.meson_syntax.specs.View.{expr_view}
use Rattle.meson_steps.specs.Meanings.{AreMeant}
use Rattle.meson_places.specs.Removals.{remove_by}
use Rattle.meson_places.specs.ValueLists.{lists_of}
use Rattle.meson_places.specs.inside.Found.{found_lists}
use Rattle.meson_places.proofs.Meant.{made_passed}
use Rattle.meson_places.proofs.SaidSteps.{remove_none, remove_some}
use Rattle.meson_places.proofs.removals.remove_from.Goals as goal

pub returns-in_err-check_lone : goal.returns-in_err-check_lone
returns-in_err-check_lone c = record {
  made = λ gone.
      let k = c.args.keyed in
      let source = k.source.now in
      let e = expr_view source k.value.now in
      let fs = c.in_ok-lists.lists.items in
      let none : length fs ≡ 0 = grind (arith, c.is_empty.ensures, c.if-is_empty.true) in
      let whole = remove_none source fs (lists_of c.args.place.now e) c.in_ok-lists.ensures.lists k.key.now c.args.values.now gone e none in
      made_passed _ (remove_by k.key.now source c.args.values.now gone e (lists_of c.args.place.now e)) c.from_residual-in_err-check_lone.result c.in_err-check_lone.field-0.0
      c.from_residual-in_err-check_lone.ensures.1 (λ other. whole ∙ c.in_err-check_lone.ensures.made gone other);
}

pub returns-then-is_empty : goal.returns-then-is_empty
returns-then-is_empty c = record {
  made = λ gone.
      let k = c.args.keyed in
      let source = k.source.now in
      let e = expr_view source k.value.now in
      let fs = c.in_ok-lists.lists.items in
      let none : length fs ≡ 0 = grind (arith, c.is_empty.ensures, c.if-is_empty.true) in
      remove_none source fs (lists_of c.args.place.now e) c.in_ok-lists.ensures.lists k.key.now c.args.values.now gone e none ∙ c.in_ok-check_lone.ensures.made gone;
}

pub returns-in_err-steps : goal.returns-in_err-steps
returns-in_err-steps c = record {
  made = λ gone.
      let k = c.args.keyed in
      let source = k.source.now in
      let e = expr_view source k.value.now in
      let fs = c.as_slice-lists.result.now in
      let same = c.as_slice-lists.ensures.value in
      let found = ap (found_lists source) same ∙ c.in_ok-lists.ensures.lists in
      let whole = remove_some source fs (lists_of c.args.place.now e) found k.key.now c.args.values.now gone e
      (λ none. let empty = sym (ap length same) ∙ none in let no : ⊥ = grind (arith, c.is_empty.ensures, c.if-is_empty.false, empty) in no) in
      made_passed _ (remove_by k.key.now source c.args.values.now gone e (lists_of c.args.place.now e)) c.from_residual-in_err-steps.result c.in_err-steps.field-0.0
      c.from_residual-in_err-steps.ensures.1 (λ other. whole ∙ c.in_err-steps.ensures.made other);
}

pub returns : goal.returns
returns c = record {
  made = λ gone.
      let k = c.args.keyed in
      let source = k.source.now in
      let e = expr_view source k.value.now in
      let fs = c.as_slice-lists.result.now in
      let same = c.as_slice-lists.ensures.value in
      let found = ap (found_lists source) same ∙ c.in_ok-lists.ensures.lists in
      let whole = remove_some source fs (lists_of c.args.place.now e) found k.key.now c.args.values.now gone e
      (λ none. let empty = sym (ap length same) ∙ none in let no : ⊥ = grind (arith, c.is_empty.ensures, c.if-is_empty.false, empty) in no) in
      subst (λ m. AreMeant m c.in_ok-steps.steps.items) (sym whole) c.in_ok-steps.ensures.made;
}
