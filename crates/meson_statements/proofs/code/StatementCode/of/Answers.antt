use Rattle.std.proofs.Common.{Some, sym, ap, ◌∙◌, subst}
use Rattle.meson_statements.specs.Code.{IsStatements}
use Rattle.meson_statements.proofs.CodeTexts.{code_found, no_code}
use Rattle.meson_statements.proofs.code.StatementCode.of.Goals as goal

pub returns-then-not-branch : goal.returns-then-not-branch
returns-then-not-branch c = record {
  code =
      let code = c.trim_ascii-code.result.now in
      sym (no_code c.args.text.now code c.trim_ascii-code.ensures.value
      (λ statements. let bad : ⊥ = let e = sym (c.in_ok-has_statements.ensures.no statements) ∙ c.if-not-branch.true in cc in bad));
}

pub invariant_of-result : goal.invariant_of-result
invariant_of-result c =
    subst IsStatements (sym (c.of-text.ensures ∙ c.in_ok-from_str.ensures.ok)) (c.in_ok-has_statements.ensures.yes c.if-not-branch.false)

pub returns : goal.returns
returns c = record {
  code =
      let code = c.trim_ascii-code.result.now in
      ap Some (c.of-text.ensures ∙ c.in_ok-from_str.ensures.ok)
      ∙ sym (code_found c.args.text.now code c.trim_ascii-code.ensures.value (c.in_ok-has_statements.ensures.yes c.if-not-branch.false));
}
