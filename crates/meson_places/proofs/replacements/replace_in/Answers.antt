use Rattle.std.proofs.Common.{◌≡◌, length, sym, ap, ◌∙◌, subst, arith}
use Rattle.meson_syntax.specs.View.{expr_view}
use Rattle.meson_steps.specs.Meanings.{AreMeant}
use Rattle.meson_places.specs.Names.{loaded_in}
use Rattle.meson_places.specs.Replacements.{exchange, replace_by}
use Rattle.meson_places.specs.ValueLists.{lists_of}
use Rattle.meson_places.specs.inside.Found.{found_lists}
use Rattle.meson_places.proofs.Meant.{made_passed}
use Rattle.meson_places.proofs.SaidSteps.{replace_none, replace_some}
use Rattle.meson_places.proofs.replacements.replace_in.Goals as goal

pub returns-then-is_empty : goal.returns-then-is_empty
returns-then-is_empty c = record {
  made = λ may otherwise.
      let k = c.args.keyed in
      let l = loaded_in c.args.sources in
      let source = k.source.now in
      let e = expr_view source k.value.now in
      let x = exchange c.args.pair.old.now c.args.pair.new.now may in
      let fs = c.in_ok-lists.lists.items in
      let none : length fs ≡ 0 = grind (arith, c.is_empty.ensures, c.if-is_empty.true) in
      replace_none source fs (lists_of c.args.place.now e) c.in_ok-lists.ensures.lists l k.key.now x otherwise none;
}

pub returns-in_err-steps : goal.returns-in_err-steps
returns-in_err-steps c = record {
  made = λ may otherwise.
      let k = c.args.keyed in
      let l = loaded_in c.args.sources in
      let source = k.source.now in
      let e = expr_view source k.value.now in
      let x = exchange c.args.pair.old.now c.args.pair.new.now may in
      let fs = c.as_slice.result.now in
      let same = c.as_slice.ensures.value in
      let found = ap (found_lists source) same ∙ c.in_ok-lists.ensures.lists in
      let whole = replace_some source fs (lists_of c.args.place.now e) found l k.key.now x otherwise
      (λ none. let empty = sym (ap length same) ∙ none in let no : ⊥ = grind (arith, c.is_empty.ensures, c.if-is_empty.false, empty) in no) in
      made_passed _ (replace_by l k.key.now source x otherwise (lists_of c.args.place.now e)) c.from_residual-in_err-steps.result c.in_err-steps.field-0.0
      c.from_residual-in_err-steps.ensures.1 (λ other. whole ∙ c.in_err-steps.ensures.made may other);
}

pub returns : goal.returns
returns c = record {
  made = λ may otherwise.
      let k = c.args.keyed in
      let l = loaded_in c.args.sources in
      let source = k.source.now in
      let e = expr_view source k.value.now in
      let x = exchange c.args.pair.old.now c.args.pair.new.now may in
      let fs = c.as_slice.result.now in
      let same = c.as_slice.ensures.value in
      let found = ap (found_lists source) same ∙ c.in_ok-lists.ensures.lists in
      let whole = replace_some source fs (lists_of c.args.place.now e) found l k.key.now x otherwise
      (λ none. let empty = sym (ap length same) ∙ none in let no : ⊥ = grind (arith, c.is_empty.ensures, c.if-is_empty.false, empty) in no) in
      subst (λ m. AreMeant m c.in_ok-steps.steps.items) (sym whole) (c.in_ok-steps.ensures.made may);
}
