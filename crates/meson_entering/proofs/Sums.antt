-- What is summed in an expression: its strings are of their kinds, and what the code finds is that.
use Rattle.std.proofs.Common.{◌≡◌, ℕ, zero, suc, ◌<◌, List, [], ◌∷◌, ◌++◌, length, get_or, map, refl, sym, ap, ◌∙◌, arith}
use Rattle.std.specs.Borrow.{Bor}
use Rattle.std.specs.Prelude.{Option, Some, None, Bool, true, false, if◌then◌else◌}
use Rattle.std.specs.List.{cons_option, flat_map}
use Rattle.meson_lex.specs.declared.kinds.Kind.TheVariants as k
use Rattle.meson_lex.specs.declared.kinds.Span.{Span}
use Rattle.meson_syntax.specs.Grammar.{expression_words, mark, operands_words, operator_words}
use Rattle.meson_syntax.specs.Tree.{Expression, identifier, boolean, integer, string, paren, array, dictionary, call, unary, row, postfix, conditional, Operands, no_operands, operand, arguments_of, operands_of}
use Rattle.meson_syntax.specs.View.{arg_view, args_view, expr_view, list_view, operands_view}
use Rattle.meson_syntax.specs.declared.tree.Arg.{Arg}
use Rattle.meson_syntax.specs.declared.tree.Expr.TheVariants as expr
use Rattle.meson_syntax.specs.declared.tree.Expr.{Expr}
use Rattle.meson_syntax.specs.declared.tree.List as rust
use Rattle.meson_syntax.specs.declared.tree.Operand.{Operand}
use Rattle.meson_variables.specs.Expansion.{are_plus}
use Rattle.meson_calls.specs.Strings.{AreGood}
use Rattle.meson_calls.proofs.GoodParts.{good_left, good_right}
use Rattle.meson_calls.proofs.Listed.{list_is}
use Rattle.meson_calls.proofs.Parted.{operand_value, row_is}
use Rattle.meson_entering.specs.Lists.{added, element_text, element_texts, listed_texts, summands}
use Rattle.meson_entering.proofs.Views.{paren_is}

-- ---- strings

abbrev pub AllGood : List (Expression Span) → Type 0
AllGood [] = Unit {0}
AllGood (e ∷ es) = AreGood (expression_words e) × AllGood es

all_append : (xs ys : List (Expression Span)) → AllGood xs → AllGood ys → AllGood (xs ++ ys)
all_append [] ys all more = more
all_append (x ∷ xs) ys all more = (all.0, all_append xs ys all.1 more)

sum_good : (s : Span) (e : Expression Span) (os : Operands Span) (plus : Bool) → AreGood (expression_words (row s e os)) → AllGood (summands e) → AllGood (added os)
    → AllGood (if plus then summands e ++ added os else row s e os ∷ [])
sum_good s e os true good first rest = all_append (summands e) (added os) first rest
sum_good s e os false good first rest = (good, tt)

mutual
  pub summands_good : (e : Expression Span) → AreGood (expression_words e) → AllGood (summands e)
  summands_good (paren s e) good = summands_good e (good_left (expression_words e) (mark k.CloseRound) good.1)
  summands_good (row s e os) good =
      sum_good s e os (are_plus os) good (summands_good e (good_left (expression_words e) (operands_words os) good)) (added_good os (good_right (expression_words e) (operands_words os) good))
  summands_good (identifier s x) good = (good, tt)
  summands_good (boolean s b) good = (good, tt)
  summands_good (integer s x) good = (good, tt)
  summands_good (string s q x) good = (good, tt)
  summands_good (array l) good = (good, tt)
  summands_good (dictionary l) good = (good, tt)
  summands_good (call s f l) good = (good, tt)
  summands_good (unary s o e) good = (good, tt)
  summands_good (postfix s e ts) good = (good, tt)
  summands_good (conditional s c y n) good = (good, tt)

  added_good : (os : Operands Span) → AreGood (operands_words os) → AllGood (added os)
  added_good no_operands good = tt
  added_good (operand o e more) good =
      let rest = good_right (operator_words o) (expression_words e ++ operands_words more) good in
      all_append (summands e) (added more) (summands_good e (good_left (expression_words e) (operands_words more) rest)) (added_good more (good_right (expression_words e) (operands_words more) rest))

module _ (source : List ℕ) where
  abbrev pub views : List (Bor Expr) → List (Expression Span)
  views es = map (λ e. expr_view source e.now) es

  pub good_at : (es : List (Bor Expr)) (i : ℕ) (d : Bor Expr) → i < length es → AllGood (views es) → AreGood (expression_words (expr_view source (get_or es i d).now))
  good_at [] i d within good = absurd (omega (arith, within))
  good_at (e ∷ es) zero d within good = good.0
  good_at (e ∷ es) (suc i) d within good = let below : i < length es = omega (arith, within) in good_at es i d below good.1

  -- ---- of an expression

  pub paren_sum : (x : Expr) (s : Span) (e y : Expr) → x ≡ expr.Paren s e → y ≡ e → summands (expr_view source x) ≡ summands (expr_view source y)
  paren_sum x s e y is same = ap summands (ap (expr_view source) is ∙ paren_is source s e) ∙ sym (ap (λ z. summands (expr_view source z)) same)

  module _ (x : Expr) (s : Span) (e f : Expr) (os ps : List Operand) (is : x ≡ expr.Row s e os) (same : f ≡ e) (rest : ps ≡ os) where
    row_sum : (plus : Bool) → are_plus (operands_of (operands_view source ps)) ≡ plus
        → summands (expr_view source x) ≡ (if plus then summands (expr_view source f) ++ added (operands_of (operands_view source ps)) else expr_view source x ∷ [])
    row_sum plus are =
        let view = row_is source x s e f os ps is same rest in
        let first = summands (expr_view source f) ++ added (operands_of (operands_view source ps)) in
        ap summands view
        ∙ ap (λ b. if b then first else row s (expr_view source f) (operands_of (operands_view source ps)) ∷ []) are
        ∙ ap (λ v. if plus then first else v ∷ []) (sym view)

    pub plus_sum : true ≡ are_plus (operands_of (operands_view source ps)) → summands (expr_view source x) ≡ summands (expr_view source f) ++ added (operands_of (operands_view source ps))
    plus_sum are = row_sum true (sym are)

    pub other_row : false ≡ are_plus (operands_of (operands_view source ps)) → summands (expr_view source x) ≡ expr_view source x ∷ []
    other_row are = row_sum false (sym are)

  pub operand_texts : (os : List Operand) → added (operands_of (operands_view source os)) ≡ flat_map (λ o. summands (expr_view source o.value)) os
  operand_texts [] = refl
  operand_texts (o ∷ os) = ap (λ e. summands e ++ added (operands_of (operands_view source os))) (operand_value source o) ∙ ap (λ t. summands (expr_view source o.value) ++ t) (operand_texts os)

  -- ---- of a list

  abbrev pub text_of : Arg → List (List ℕ)
  text_of a = cons_option (element_text (arg_view source a)) []

  argument_texts : (args : List Arg) → element_texts (arguments_of (args_view source args)) ≡ flat_map text_of args
  argument_texts [] = refl
  argument_texts (a ∷ args) = go (element_text (arg_view source a)) (argument_texts args)
    where
      go : (o : Option (List ℕ)) → element_texts (arguments_of (args_view source args)) ≡ flat_map text_of args → cons_option o (element_texts (arguments_of (args_view source args))) ≡ cons_option o [] ++ flat_map text_of args
      go None more = more
      go (Some t) more = ap (λ ts. t ∷ ts) more

  pub list_texts : (l : rust.List) → listed_texts (list_view source l) ≡ flat_map text_of (rust.out-List l).items
  list_texts l = ap listed_texts (list_is source l) ∙ argument_texts (rust.out-List l).items
