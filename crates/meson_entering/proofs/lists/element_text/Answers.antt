use Rattle.std.proofs.Common.{ap, subst, sym, ◌∙◌}
use Rattle.meson_lex.specs.declared.kinds.Kind.TheVariants as k
use Rattle.meson_syntax.specs.Grammar.{argument_words, expression_words}
use Rattle.meson_syntax.specs.View.{arg_view, expr_view}
use Rattle.meson_calls.specs.Strings.{AreGood}
use Rattle.meson_calls.proofs.GoodParts.{good_left}
use Rattle.meson_calls.proofs.Parted.{pair_view}
use Rattle.meson_entering.proofs.lists.element_text.Goals as goal

pub literal-requires-in-Pair : goal.literal-requires-in-Pair
literal-requires-in-Pair c =
    let source = c.args.source.now in
    let good = subst (λ a. AreGood (argument_words a)) (ap (arg_view source) c.in-Pair.is ∙ pair_view source _ _ _) c.requires in
    subst (λ e. AreGood (expression_words (expr_view source e))) (sym c.get.ensures) (good_left (expression_words (expr_view source c.in-Pair.key)) _ good)
