use Rattle.std.proofs.Common.{ap, subst, ◌∙◌}
use Rattle.meson_syntax.specs.declared.operator.Bracket.TheVariants as bracket
use Rattle.meson_syntax.specs.Grammar.{expression_words}
use Rattle.meson_syntax.specs.View.{expr_view, list_view}
use Rattle.meson_calls.specs.Strings.{AreGood}
use Rattle.meson_calls.proofs.Nested.{array_view, good_listing}
use Rattle.meson_entering.proofs.Views.{dictionary_is}
use Rattle.meson_entering.proofs.lists.add_own.Goals as goal

pub add_elements-requires : goal.add_elements-requires
add_elements-requires c =
    let source = c.args.source.now in
    good_listing (list_view source c.in-Array.list) bracket.Square (subst (λ v. AreGood (expression_words v)) (ap (expr_view source) c.in-Array.is ∙ array_view source c.in-Array.list) c.requires)

pub add_elements-requires-in-Dictionary : goal.add_elements-requires-in-Dictionary
add_elements-requires-in-Dictionary c =
    let source = c.args.source.now in
    good_listing (list_view source c.in-Dictionary.list) bracket.Curly (subst (λ v. AreGood (expression_words v)) (ap (expr_view source) c.in-Dictionary.is ∙ dictionary_is source c.in-Dictionary.list) c.requires)
