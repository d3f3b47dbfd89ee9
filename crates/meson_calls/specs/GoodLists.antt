-- Elements of a list whose strings are strings of their kinds.
use Rattle.std.specs.Prelude.{ℕ, List, ◌++◌}
use Rattle.meson_syntax.specs.declared.tree.Arg.{Arg}
use Rattle.meson_syntax.specs.declared.tree.Expr.{Expr}
use Rattle.meson_syntax.specs.declared.tree.Operand.{Operand}
use Rattle.meson_syntax.specs.Tree.{Listing, listing, Arguments, no_arguments, argument, arguments_of, operands_of}
use Rattle.meson_syntax.specs.Grammar.{argument_words, expression_words, operands_words}
use Rattle.meson_syntax.specs.View.{args_view, expr_view, operands_view}
use Rattle.meson_calls.specs.Strings.{AreGood}

abbrev pub GoodArguments : {S : Type 0} → Arguments S → Type 0
GoodArguments no_arguments = Unit {0}
GoodArguments (argument a more) = AreGood (argument_words a) × GoodArguments more

abbrev pub GoodListing : {S : Type 0} → Listing S → Type 0
GoodListing (listing s trailing list) = GoodArguments list

abbrev pub GoodArgs : List ℕ → List Arg → Type 0
GoodArgs source args = GoodArguments (arguments_of (args_view source args))

-- the operands of a row
abbrev pub GoodRow : List ℕ → Expr → List Operand → Type 0
GoodRow source first rest = AreGood (expression_words (expr_view source first) ++ operands_words (operands_of (operands_view source rest)))
