-- Elements of lists and operands of rows: their strings, and what the code's nodes stand for.
use Rattle.meson_calls.proofs.Words.{rules, ◌≡◌, ℕ, zero, suc, ◌<◌, List, [], ◌∷◌, ◌++◌, length, get_or, subst, arith, Bool, Span, mark, operator_words}
use Rattle.meson_calls.proofs.Words.{expression_words, operands_words, argument_words, arguments_words, comma_words, listing_words, closes, identifier, array}
use Rattle.meson_calls.proofs.Words.{call, Listing, listing, plain, Arguments, no_arguments, argument, operands_of, name_at, text_at, expr_view, list_view}
use Rattle.meson_calls.proofs.Words.{arg_view, operand_view, operands_view, Bracket, Arg, Expr, Operand, GoodArguments, GoodListing, GoodArgs, AreGood}
use Rattle.meson_syntax.specs.declared.tree.Arg.TheVariants as arg
use Rattle.meson_syntax.specs.declared.tree.Arg.TheFolds.{the_lemmas}
use Rattle.meson_syntax.specs.declared.tree.Expr.TheVariants as expr
use Rattle.meson_syntax.specs.declared.tree.List as rust
use Rattle.meson_calls.proofs.GoodParts.{good_left, good_right}
use Rattle.meson_calls.proofs.Listed.{list_is}
use Rattle.meson_calls.proofs.Parted.{operand_value}

-- ---- strings

good_arguments : (list : Arguments Span) (trailing : Bool) → AreGood (arguments_words list trailing) → GoodArguments list
good_arguments no_arguments trailing good = tt
good_arguments (argument a more) trailing good = (
  good_left (argument_words a) (comma_words more trailing ++ arguments_words more trailing) good,
  good_arguments more trailing (good_right (comma_words more trailing) (arguments_words more trailing) (good_right (argument_words a) (comma_words more trailing ++ arguments_words more trailing) good)),
)

pub good_listing : (l : Listing Span) (b : Bracket) → AreGood (listing_words l b) → GoodListing l
good_listing (listing s trailing list) b good = good_arguments list trailing (good_left (arguments_words list trailing) (mark (closes b)) good.1)

module _ (source : List ℕ) where
  pub name_view : (x : Span) → expr_view source (expr.Identifier x) ≡ identifier x (text_at source x)
  name_view x = search (rules, the_lemmas)

  pub array_view : (l : rust.List) → expr_view source (expr.Array l) ≡ array (list_view source l)
  array_view l = search (rules, the_lemmas)

  pub call_view : (s x : Span) (l : rust.List) → expr_view source (expr.Call s x l) ≡ call s (name_at source x) (list_view source l)
  call_view s x l = search (rules, the_lemmas)

  pub plain_view : (e : Expr) → arg_view source (arg.Plain e) ≡ plain (expr_view source e)
  plain_view e = search (rules, the_lemmas)

  pub good_args : (l : rust.List) → GoodListing (list_view source l) → GoodArgs source (rust.out-List l).items
  good_args l good = subst GoodListing (list_is source l) good

  pub good_arg : (args : List Arg) (i : ℕ) (d : Arg) → i < length args → GoodArgs source args → AreGood (argument_words (arg_view source (get_or args i d)))
  good_arg [] i d within good = absurd (omega arith)
  good_arg (a ∷ args) zero d within good = good.0
  good_arg (a ∷ args) (suc i) d within good = let below : i < length args = omega arith in good_arg args i d below good.1

  pub good_operand : (rest : List Operand) (i : ℕ) (d : Operand) → i < length rest → AreGood (operands_words (operands_of (operands_view source rest))) → AreGood (expression_words (expr_view source (get_or rest i d).value))
  good_operand [] i d within good = absurd (omega arith)
  good_operand (o ∷ rest) zero d within good =
      let v = operand_view source o in
      let more = operands_words (operands_of (operands_view source rest)) in
      subst (λ e. AreGood (expression_words e)) (operand_value source o) (good_left (expression_words v.1) more (good_right (operator_words v.0) (expression_words v.1 ++ more) good))
  good_operand (o ∷ rest) (suc i) d within good =
      let v = operand_view source o in
      let more = operands_words (operands_of (operands_view source rest)) in
      let below : i < length rest = omega arith in
      good_operand rest i d below (good_right (expression_words v.1) more (good_right (operator_words v.0) (expression_words v.1 ++ more) good))
