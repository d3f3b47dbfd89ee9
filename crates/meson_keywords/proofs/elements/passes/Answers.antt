use Rattle.meson_keywords.proofs.Words.{sym, subst, expression_words, expr_view, AreGood}
use Rattle.meson_keywords.proofs.ElementsSay.{good_key}
use Rattle.meson_keywords.proofs.elements.passes.Goals as goal

pub says-requires-in-HasKey-test : goal.says-requires-in-HasKey-test
says-requires-in-HasKey-test c =
    subst (λ e. AreGood (expression_words (expr_view c.args.source.now e))) (sym c.get.ensures)
    (good_key c.args.source.now c.args.element.now c.in-Pair.span c.in-Pair.key c.in-Pair.value c.requires c.in-Pair.is)
