use Rattle.std.proofs.Common.{sym, subst}
use Rattle.meson_syntax.specs.Grammar.{expression_words}
use Rattle.meson_syntax.specs.View.{expr_view}
use Rattle.meson_calls.specs.Strings.{AreGood}
use Rattle.meson_places.proofs.ListElements.{good_pair}
use Rattle.meson_places.proofs.slots.child_of.Goals as goal

pub returns-in-Pair-clause-good : goal.returns-in-Pair-clause-good
returns-in-Pair-clause-good c = λ source good.
    subst (λ e. AreGood (expression_words (expr_view source e))) (sym c.get.ensures)
    (good_pair source c.args.element.now c.in-Pair.span c.in-Pair.key c.in-Pair.value good c.in-Pair.is).1
