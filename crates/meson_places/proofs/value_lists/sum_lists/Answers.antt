use Rattle.std.proofs.Common.{◌≡◌, suc, ◌+◌, List, [], ◌++◌, append_assoc, drop, get_or, refl, sym, ap, ◌∙◌, add-one}
use Rattle.std.specs.Prelude.{Option, Some, None}
use Rattle.std.proofs.lemmas.List.{at_drop_more}
use Rattle.meson_lex.specs.declared.kinds.Span.{Span}
use Rattle.meson_syntax.specs.Grammar.{expression_words, operands_words}
use Rattle.meson_syntax.specs.Tree.{operands_of}
use Rattle.meson_syntax.specs.View.{expr_view, operands_view}
use Rattle.meson_calls.specs.Project.{child}
use Rattle.meson_calls.proofs.GoodParts.{good_left, good_right}
use Rattle.meson_calls.proofs.Nested.{good_operand}
use Rattle.meson_calls.proofs.Parted.{operand_value}
use Rattle.meson_places.specs.ValueLists.{ValueList, and_more, operand_lists, own_list}
use Rattle.meson_places.specs.inside.Found.{found_lists}
use Rattle.meson_places.proofs.value_lists.sum_lists.Goals as goal

pub push_list-requires : goal.push_list-requires
push_list-requires c = good_left (expression_words (expr_view c.args.source.now c.args.first.now)) (operands_words (operands_of (operands_view c.args.source.now c.args.rest.now))) c.requires

pub push_list-requires-in-loop-i : goal.push_list-requires-in-loop-i
push_list-requires-in-loop-i c =
    let source = c.args.source.now in
    let rest = c.args.rest.now in
    good_operand source rest c.loop-i.i c.index-rest-i.result c.loop-i-test.true (good_right (expression_words (expr_view source c.args.first.now)) (operands_words (operands_of (operands_view source rest))) c.requires)

and_rest : (o : Option (ValueList Span)) (xs : List (ValueList Span)) → and_more o [] ++ xs ≡ and_more o xs
and_rest None xs = refl
and_rest (Some x) xs = refl

pub loop-i-preserved : goal.loop-i-preserved
loop-i-preserved c =
    let source = c.args.source.now in
    let rest = c.args.rest.now in
    let place = c.args.place.now in
    let i = c.loop-i.i in
    let d = c.index-rest-i.result in
    let old = found_lists source c.loop-i.lists.items in
    let e = expr_view source (get_or rest i d).value in
    let more = operands_of (operands_view source (drop (i + 1) rest)) in
    let here = c.in_ok-here-2.ensures ∙ ap (λ q. child q (i + 1)) c.as_place-in-loop-i.ensures in
    record {
      lists = ap (λ ls. ls ++ operand_lists place ((i + 1) + 1) more) c.in_ok-push_list-2.ensures.lists
          ∙ append_assoc old (and_more (own_list c.in_ok-here-2.here e) []) (operand_lists place ((i + 1) + 1) more)
          ∙ ap (λ ls. old ++ ls) (and_rest (own_list c.in_ok-here-2.here e) (operand_lists place ((i + 1) + 1) more)
          ∙ ap (λ q. and_more (own_list q e) (operand_lists place ((i + 1) + 1) more)) here
          ∙ ap (λ n. and_more (own_list (child place (i + 1)) e) (operand_lists place n more)) (add-one (i + 1))
          ∙ ap (λ x. and_more (own_list (child place (i + 1)) x) (operand_lists place (suc (i + 1)) more)) (sym (operand_value source (get_or rest i d)))
          ∙ sym (at_drop_more (λ xs. operand_lists place (i + 1) (operands_of (operands_view source xs))) rest i d c.loop-i-test.true))
          ∙ c.loop-i.invariant.lists;
      good = c.in_ok-push_list-2.ensures.good c.loop-i.invariant.good;
    }
