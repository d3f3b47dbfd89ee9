-- How deep a list is depends on no text, so it is the same over each source.
use Rattle.std.proofs.Common.{◌≡◌, ℕ, suc, List, refl, ap, ap₂, ◌∙◌}
use Rattle.std.specs.Prelude.{max}
use Rattle.meson_lex.specs.declared.kinds.Span.{Span}
use Rattle.meson_syntax.specs.declared.tree.List as rust
use Rattle.meson_syntax.specs.Grammar.{argument_depth, arguments_depth, expression_depth, listing_depth, operands_depth, tail_depth, tails_depth}
use Rattle.meson_syntax.specs.Texts.{texts_of_argument, texts_of_arguments, texts_of_expression, texts_of_listing, texts_of_operands, texts_of_tail, texts_of_tails}
use Rattle.meson_syntax.specs.Tree.{Expression, identifier, boolean, integer, string, paren, array, dictionary, call, unary, row, postfix, conditional, Operands, no_operands, operand, Tail, method, index, Tails, no_tails, tail, Listing, listing, Argument, plain, named, pair, Arguments, no_arguments, argument}
use Rattle.meson_syntax.specs.View.{list_view}
use Rattle.meson_edit.proofs.kept.Views.{list-views-text}

module _ (source : List ℕ) where
  mutual
    of_expression : (e : Expression Span) → expression_depth (texts_of_expression source e) ≡ expression_depth e
    of_expression (identifier s x) = refl
    of_expression (boolean s b) = refl
    of_expression (integer s x) = refl
    of_expression (string s q x) = refl
    of_expression (paren s e) = ap suc (of_expression e)
    of_expression (array l) = of_listing l
    of_expression (dictionary l) = of_listing l
    of_expression (call s x l) = of_listing l
    of_expression (unary s o e) = of_expression e
    of_expression (row s e os) = ap₂ max (of_expression e) (of_operands os)
    of_expression (postfix s e ts) = ap₂ max (of_expression e) (of_tails ts)
    of_expression (conditional s c y n) = ap₂ max (of_expression c) (ap suc (ap₂ max (of_expression y) (of_expression n)))

    of_operands : (os : Operands Span) → operands_depth (texts_of_operands source os) ≡ operands_depth os
    of_operands no_operands = refl
    of_operands (operand o e more) = ap₂ max (of_expression e) (of_operands more)

    of_tail : (t : Tail Span) → tail_depth (texts_of_tail source t) ≡ tail_depth t
    of_tail (method s x l) = of_listing l
    of_tail (index s e) = ap suc (of_expression e)

    of_tails : (ts : Tails Span) → tails_depth (texts_of_tails source ts) ≡ tails_depth ts
    of_tails no_tails = refl
    of_tails (tail t more) = ap₂ max (of_tail t) (of_tails more)

    of_listing : (l : Listing Span) → listing_depth (texts_of_listing source l) ≡ listing_depth l
    of_listing (listing s trailing list) = ap suc (of_arguments list)

    of_argument : (a : Argument Span) → argument_depth (texts_of_argument source a) ≡ argument_depth a
    of_argument (plain e) = of_expression e
    of_argument (named s x e) = of_expression e
    of_argument (pair s e f) = ap₂ max (of_expression e) (of_expression f)

    of_arguments : (list : Arguments Span) → arguments_depth (texts_of_arguments source list) ≡ arguments_depth list
    of_arguments no_arguments = refl
    of_arguments (argument a more) = ap₂ max (of_argument a) (of_arguments more)

pub same_depth : (source other : List ℕ) (l : rust.List) → listing_depth (list_view source l) ≡ listing_depth (list_view other l)
same_depth source other l = ap listing_depth (list-views-text source other l) ∙ of_listing source (list_view other l)
