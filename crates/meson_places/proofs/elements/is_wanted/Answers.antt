use Rattle.std.proofs.Common.{sym, subst}
use Rattle.meson_syntax.specs.Grammar.{expression_words}
use Rattle.meson_syntax.specs.View.{expr_view}
use Rattle.meson_calls.specs.Strings.{AreGood}
use Rattle.meson_places.proofs.ListElements.{good_pair}
use Rattle.meson_places.proofs.elements.is_wanted.Goals as goal

pub says-requires : goal.says-requires
says-requires c =
    subst (λ e. AreGood (expression_words (expr_view c.args.source.now e))) (sym c.get.ensures)
    (good_pair c.args.source.now c.args.element.now c.in-Pair.span c.in-Pair.held c.in-Pair.value c.requires c.in-Pair.is).0
