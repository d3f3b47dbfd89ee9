use Rattle.meson_steps.proofs.Words.{Some, sym, ap, ◌∙◌, IsExpression}
use Rattle.meson_steps.proofs.CodeDecided.{code_found, no_code}
use Rattle.meson_steps.proofs.code.Code.of.Goals as goal

pub returns-then-not-branch : goal.returns-then-not-branch
returns-then-not-branch c =
    sym (no_code c.args.text.now (λ x. let bad : ⊥ = let e = sym (c.in_ok-is_expression.ensures.no x) ∙ c.if-not-branch.true in cc in bad))

pub returns : goal.returns
returns c =
    let text = c.args.text.now in
    let x : IsExpression text = c.in_ok-is_expression.ensures.yes c.if-not-branch.false in
    ap Some (c.of-text.ensures ∙ c.in_ok-from_str.ensures.ok) ∙ sym (code_found text x)
