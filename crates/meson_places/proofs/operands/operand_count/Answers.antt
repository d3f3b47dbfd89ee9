use Rattle.std.proofs.Common.{◌≡◌, ℕ, suc, ◌+◌, true, false, List, [], ◌∷◌, length, refl, sym, ap, ◌∙◌, add-one}
use Rattle.std.specs.Prelude.{if◌then◌else◌}
use Rattle.meson_syntax.specs.declared.tree.Operand.{Operand}
use Rattle.meson_syntax.specs.Tree.{operands_of}
use Rattle.meson_syntax.specs.View.{operands_view}
use Rattle.meson_calls.proofs.Parted.{row_is}
use Rattle.meson_places.specs.Operands.{count_operands, operand_count}
use Rattle.meson_places.specs.ValueLists.{are_plus}
use Rattle.meson_places.proofs.operands.operand_count.Goals as goal

counted : (source : List ℕ) (rest : List Operand) → count_operands (operands_of (operands_view source rest)) ≡ length rest
counted source [] = refl
counted source (x ∷ rest) = ap suc (counted source rest)

pub returns-then-are_plus : goal.returns-then-are_plus
returns-then-are_plus c = λ source.
    let rest = c.get-rest.result.now in
    let more = operands_of (operands_view source rest) in
    let view = row_is source c.args.value.now c.in-Row.span c.in-Row.first c.in-Row.first c.in-Row.rest rest c.in-Row.is refl c.get-rest.ensures in
    let plus : are_plus more ≡ true = sym (c.are_plus.ensures source) ∙ c.if-are_plus.true in
    ap (λ n. n + 1) (sym (counted source rest)) ∙ add-one (count_operands more)
    ∙ ap (λ b. if b then suc (count_operands more) else 0) (sym plus) ∙ sym (ap operand_count view)

pub returns-else-are_plus : goal.returns-else-are_plus
returns-else-are_plus c = λ source.
    let rest = c.get-rest.result.now in
    let more = operands_of (operands_view source rest) in
    let view = row_is source c.args.value.now c.in-Row.span c.in-Row.first c.in-Row.first c.in-Row.rest rest c.in-Row.is refl c.get-rest.ensures in
    let plus : are_plus more ≡ false = sym (c.are_plus.ensures source) ∙ c.if-are_plus.false in
    ap (λ b. if b then suc (count_operands more) else 0) (sym plus) ∙ sym (ap operand_count view)
