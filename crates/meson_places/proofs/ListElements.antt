-- The elements of a list: their strings, and what the code's nodes stand for.
use Rattle.std.proofs.Common.{rules, ◌≡◌, ℕ, suc, ◌+◌, ◌-◌, ◌<◌, true, false, List, [], ◌∷◌, ◌++◌, length, get_or, drop, Some, sym, ap, ◌∙◌, subst, arith, add-one, append_assoc}
use Rattle.std.specs.Prelude.{Bool, ◌&&◌, ◌||◌, if◌then◌else◌}
use Rattle.std.specs.List.{list_all, list_any}
use Rattle.std.proofs.Math.Seq.{drop-cons}
use Rattle.meson_lex.specs.declared.kinds.Kind.TheVariants as k
use Rattle.meson_lex.specs.declared.kinds.Span.{Span}
use Rattle.meson_syntax.specs.declared.tree.Arg.{Arg}
use Rattle.meson_syntax.specs.declared.tree.Arg.TheVariants as arg
use Rattle.meson_syntax.specs.declared.tree.Arg.TheFolds.{the_lemmas}
use Rattle.meson_syntax.specs.declared.tree.Expr.{Expr}
use Rattle.meson_syntax.specs.declared.tree.Expr.TheVariants as expr
use Rattle.meson_syntax.specs.declared.tree.List as rust
use Rattle.meson_syntax.specs.Grammar.{argument_words, expression_words, mark}
use Rattle.meson_syntax.specs.Tree.{Argument, dictionary}
use Rattle.meson_syntax.specs.View.{arg_view, args_view, expr_view, list_view}
use Rattle.meson_calls.specs.Parts.{argument_child_count}
use Rattle.meson_calls.specs.Strings.{AreGood}
use Rattle.meson_calls.proofs.ArgumentViews.{pair_view}
use Rattle.meson_calls.proofs.GoodParts.{good_left, good_right}
use Rattle.meson_places.specs.Slots.{child_of, nth_child, passing}

pub dictionary_view : (source : List ℕ) (l : rust.List) → expr_view source (expr.Dictionary l) ≡ dictionary (list_view source l)
dictionary_view source l = search (rules, the_lemmas)

-- the strings of an entry's key and value
pub good_pair : (source : List ℕ) (a : Arg) (s : Span) (key value : Expr) → AreGood (argument_words (arg_view source a)) → a ≡ arg.Pair s key value →
    AreGood (expression_words (expr_view source key)) × AreGood (expression_words (expr_view source value))
good_pair source a s key value good is =
    let ks = expression_words (expr_view source key) in
    let vs = expression_words (expr_view source value) in
    let whole = subst (λ x. AreGood (argument_words x)) (ap (arg_view source) is ∙ pair_view source s key value) good in
    (good_left ks (mark k.Colon ++ vs) whole, good_right (mark k.Colon) vs (good_right ks (mark k.Colon ++ vs) whole))

module _ (source : List ℕ) (args : List Arg) (i : ℕ) (d : Arg) (within : i < length args) where
  pub rest_is : args_view source (drop i args) ≡ arg_view source (get_or args i d) ∷ args_view source (drop (i + 1) args)
  rest_is = ap (args_view source) (drop-cons args i d within ∙ ap (λ n. get_or args i d ∷ drop n args) (sym (add-one i)))

  -- ---- those that pass a test

  module _ (test : Argument Span → Bool) where
    abbrev later : List ℕ
    later = passing test (i + 1) (args_view source (drop (i + 1) args))

    here : (b : Bool) → test (arg_view source (get_or args i d)) ≡ b → passing test i (args_view source (drop i args)) ≡ (if b then i ∷ later else later)
    here b is =
        ap (passing test i) rest_is
        ∙ ap (λ n. if test (arg_view source (get_or args i d)) then i ∷ passing test n (args_view source (drop (i + 1) args)) else passing test n (args_view source (drop (i + 1) args))) (sym (add-one i))
        ∙ ap (λ c. if c then i ∷ later else later) is

    pub passing_here : (all : List ℕ) → test (arg_view source (get_or args i d)) ≡ true → (all ++ i ∷ []) ++ later ≡ all ++ passing test i (args_view source (drop i args))
    passing_here all holds = append_assoc all (i ∷ []) later ∙ ap (λ ns. all ++ ns) (sym (here true holds))

    pub passing_more : (all : List ℕ) → test (arg_view source (get_or args i d)) ≡ false → all ++ later ≡ all ++ passing test i (args_view source (drop i args))
    passing_more all fails = ap (λ ns. all ++ ns) (sym (here false fails))

  -- ---- the value of one of them

  pub child_here : (before n : ℕ) → i ≡ n → nth_child before (args_view source (drop i args)) (n - i) ≡ Some (child_of before (arg_view source (get_or args i d)))
  child_here before n is =
      let none : n - i ≡ 0 = omega (arith, is) in
      ap (nth_child before (args_view source (drop i args))) none ∙ ap (λ xs. nth_child before xs 0) rest_is

  pub child_later : (before n count : ℕ) → i < n → count ≡ argument_child_count (arg_view source (get_or args i d)) →
      nth_child (before + count) (args_view source (drop (i + 1) args)) (n - (i + 1)) ≡ nth_child before (args_view source (drop i args)) (n - i)
  child_later before n count past is =
      let more : n - i ≡ suc (n - (i + 1)) = omega (arith, past) in
      ap (λ c. nth_child (before + c) (args_view source (drop (i + 1) args)) (n - (i + 1))) is
      ∙ sym (ap (nth_child before (args_view source (drop i args))) more ∙ ap (λ xs. nth_child before xs (suc (n - (i + 1)))) rest_is)

  -- ---- whether all pass a test

  pub all_more : (test : Argument Span → Bool) → test (arg_view source (get_or args i d)) ≡ true → list_all test (args_view source (drop i args)) ≡ list_all test (args_view source (drop (i + 1) args))
  all_more test holds = ap (list_all test) rest_is ∙ ap (λ b. b && list_all test (args_view source (drop (i + 1) args))) holds

  pub all_not : (test : Argument Span → Bool) → test (arg_view source (get_or args i d)) ≡ false → list_all test (args_view source (drop i args)) ≡ false
  all_not test fails = ap (list_all test) rest_is ∙ ap (λ b. b && list_all test (args_view source (drop (i + 1) args))) fails

  -- ---- whether one passes a test

  pub any_here : (test : Argument Span → Bool) → test (arg_view source (get_or args i d)) ≡ true → list_any test (args_view source (drop i args)) ≡ true
  any_here test holds = ap (list_any test) rest_is ∙ ap (λ b. b || list_any test (args_view source (drop (i + 1) args))) holds

  pub any_more : (test : Argument Span → Bool) → test (arg_view source (get_or args i d)) ≡ false → list_any test (args_view source (drop i args)) ≡ list_any test (args_view source (drop (i + 1) args))
  any_more test fails = ap (list_any test) rest_is ∙ ap (λ b. b || list_any test (args_view source (drop (i + 1) args))) fails
