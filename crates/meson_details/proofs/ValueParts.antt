-- The parts of elements, and of arrays and dictionaries: their strings, and their texts in the source.
use Rattle.std.proofs.Common.{rules, arith, ◌≡◌, ℕ, zero, suc, ◌+◌, ◌<◌, List, [], ◌∷◌, ◌++◌, drop, length, get_or, sym, ap, ◌∙◌, subst, append_assoc}
use Rattle.std.specs.Prelude.{All}
use Rattle.std.proofs.lemmas.List.{at_drop_more}
use Rattle.std.proofs.lemmas.List.Elements.{All-head, All-tail}
use Rattle.meson_lex.specs.declared.kinds.Kind.TheVariants as k
use Rattle.meson_lex.specs.declared.kinds.Span.{Span}
use Rattle.meson_syntax.specs.declared.tree.Arg.{Arg}
use Rattle.meson_syntax.specs.declared.tree.Arg.TheVariants as arg
use Rattle.meson_syntax.specs.declared.tree.Expr.{Expr}
use Rattle.meson_syntax.specs.declared.tree.Expr.TheVariants as expr
use Rattle.meson_syntax.specs.declared.tree.Arg.TheFolds.{the_lemmas}
use Rattle.meson_syntax.specs.declared.tree.List as rust
use Rattle.meson_syntax.specs.Grammar.{argument_words, expression_words, mark}
use Rattle.meson_syntax.specs.Tree.{dictionary}
use Rattle.meson_syntax.specs.View.{arg_view, args_view, expr_view, list_view}
use Rattle.meson_calls.specs.Strings.{AreGood}
use Rattle.meson_calls.proofs.ArgumentViews.{pair_view}
use Rattle.meson_calls.proofs.GoodParts.{good_left, good_right}
use Rattle.meson_details.specs.declared.details.ArgumentKey.{ArgumentKey}
use Rattle.meson_details.specs.declared.details.Shown.{Shown}
use Rattle.meson_details.specs.Values.{AreTextsOf, content, contents_from, number_after}

pub entries_view : (source : List ℕ) (l : rust.List) → expr_view source (expr.Dictionary l) ≡ dictionary (list_view source l)
entries_view source l = search (rules, the_lemmas)

-- both parts of an entry have strings of their kinds
pub entry_good : (source : List ℕ) (s : Span) (key value : Expr) → AreGood (argument_words (arg_view source (arg.Pair s key value)))
    → AreGood (expression_words (expr_view source key)) × AreGood (expression_words (expr_view source value))
entry_good source s key value good =
    let front = expression_words (expr_view source key) in
    let back = expression_words (expr_view source value) in
    let all = subst (λ a. AreGood (argument_words a)) (pair_view source s key value) good in
    (good_left front (mark k.Colon ++ back) all, good_right (mark k.Colon) back (good_right front (mark k.Colon ++ back) all))

pub its_texts : (source : List ℕ) (args : List Arg) (i : ℕ) (d : Arg) → i < length args → All (AreTextsOf source) (args_view source args) → AreTextsOf source (arg_view source (get_or args i d))
its_texts source [] i d within all = absurd (omega (arith, within))
its_texts source (a ∷ args) zero d within all = All-head (AreTextsOf source) (arg_view source a) (args_view source args) all
its_texts source (a ∷ args) (suc i) d within all =
    let below : i < length args = omega (arith, within) in
    its_texts source args i d below (All-tail (AreTextsOf source) (arg_view source a) (args_view source args) all)

-- ---- elements, one after another

module _ (source : List ℕ) (args : List Arg) (i : ℕ) (d : Arg) (within : i < length args) (done : List (ArgumentKey × Shown)) (n : ℕ) where
  abbrev here : List (ArgumentKey × Shown)
  here = content source n (arg_view source (get_or args i d)) ∷ []

  pub one_more : done ++ contents_from source n (args_view source (drop i args))
      ≡ (done ++ here) ++ contents_from source (number_after n (arg_view source (get_or args i d))) (args_view source (drop (i + 1) args))
  one_more =
      ap (λ xs. done ++ xs) (at_drop_more (λ xs. contents_from source n (args_view source xs)) args i d within)
      ∙ sym (append_assoc done here (contents_from source (number_after n (arg_view source (get_or args i d))) (args_view source (drop (i + 1) args))))
