use Rattle.std.proofs.Common.{◌≡◌, ℕ, ◌+◌, ◌<◌, List, length, drop, get_or, ◌∙◌, sym, ap}
use Rattle.std.specs.Prelude.{Bool, ◌&&◌}
use Rattle.std.proofs.lemmas.List.{at_drop_more, at_drop_all}
use Rattle.meson_syntax.specs.declared.tree.Operand.{Operand}
use Rattle.meson_syntax.specs.Tree.{operands_of}
use Rattle.meson_syntax.specs.View.{operands_view}
use Rattle.meson_places.specs.ValueLists.{is_plus, are_plus}
use Rattle.meson_calls.proofs.Parted.{operand_operator}
use Rattle.meson_places.proofs.value_lists.are_plus.Goals as goal

abbrev rest_plus : List ℕ → List Operand → Bool
rest_plus source rest = are_plus (operands_of (operands_view source rest))

plus_here : (source : List ℕ) (rest : List Operand) (i : ℕ) (d : Operand) (b : Bool) → i < length rest → is_plus (get_or rest i d).operator ≡ b → rest_plus source (drop i rest) ≡ b && rest_plus source (drop (i + 1) rest)
plus_here source rest i d b within is =
    let more = rest_plus source (drop (i + 1) rest) in
    at_drop_more (rest_plus source) rest i d within ∙ ap (λ o. is_plus o && more) (operand_operator source (get_or rest i d)) ∙ ap (λ x. x && more) is

pub returns-then-not-is_plus : goal.returns-then-not-is_plus
returns-then-not-is_plus c = λ source.
    let is = ap (λ o. is_plus o.operator) (sym c.index-rest-i.is) ∙ sym c.is_plus.ensures ∙ c.if-not-is_plus.true in
    sym (sym (c.loop-i.invariant source) ∙ plus_here source c.args.rest.now c.loop-i.i c.index-rest-i.result _ c.loop-i-test.true is)

pub loop-i-preserved : goal.loop-i-preserved
loop-i-preserved c = λ source.
    let is = ap (λ o. is_plus o.operator) (sym c.index-rest-i.is) ∙ sym c.is_plus.ensures ∙ c.if-not-is_plus.false in
    sym (plus_here source c.args.rest.now c.loop-i.i c.index-rest-i.result _ c.loop-i-test.true is) ∙ c.loop-i.invariant source

pub returns : goal.returns
returns c = λ source. sym (sym (c.loop-i.invariant source) ∙ at_drop_all (rest_plus source) c.args.rest.now c.loop-i.i c.loop-i-test.false)
