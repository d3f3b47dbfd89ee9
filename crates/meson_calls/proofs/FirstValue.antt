-- The first element of a list of arguments that has a name: its value is the code's.
use Rattle.meson_calls.proofs.Words.{false, if◌then◌else◌, bytes_eq, ◌≡◌, ℕ, ◌<◌, List, length, get_or, sym, ap, ◌∙◌, subst, Bool, true, Some, None, Span}
use Rattle.meson_calls.proofs.Words.{argument_words, expression_words, Name, Expression, plain, named, arg_view, expr_view, name_at, Arg, Expr, some-injective}
use Rattle.meson_calls.proofs.Words.{value_with_name, GoodArgs, IsFirstNamed, AreGood}
use Rattle.meson_syntax.specs.declared.tree.Arg.TheVariants as arg
use Rattle.meson_calls.proofs.ArgumentViews.{nth_there, named_view, pair_view, plain_view}
use Rattle.meson_calls.proofs.Nested.{good_arg}

of_named : (key : List ℕ) (s : Span) (x : Name Span) (e v : Expression Span) → value_with_name key (named s x e) ≡ Some v → v ≡ e
of_named key s x e v is = go (bytes_eq x.text key) is
  where
    go : (b : Bool) → (if b then Some e else None) ≡ Some v → v ≡ e
    go true h = sym (some-injective _ _ h)
    go false h = absurd cc

module _ (source key : List ℕ) (args : List Arg) (n : ℕ) (d : Arg) (within : n < length args) (first : IsFirstNamed source key args n) where
  element_is : arg_view source (get_or args n d) ≡ first.element
  element_is = some-injective _ _ (sym (nth_there source args n d within) ∙ first.is_element)

  pub value_is : (s x : Span) (e : Expr) → get_or args n d ≡ arg.Named s x e → first.value ≡ expr_view source e
  value_is s x e is =
      of_named key s (name_at source x) (expr_view source e) first.value
      (ap (value_with_name key) (sym (ap (arg_view source) is ∙ named_view source s x e) ∙ element_is) ∙ first.is_value)

  plain_view_at : (e : Expr) → get_or args n d ≡ arg.Plain e → plain (expr_view source e) ≡ first.element
  plain_view_at e is = sym (ap (arg_view source) is ∙ plain_view source e) ∙ element_is

  pub not_a_name : (e : Expr) → get_or args n d ≡ arg.Plain e → ⊥
  not_a_name e is = let none = ap (value_with_name key) (plain_view_at e is) ∙ first.is_value in cc

  pub pair_no_name : (s : Span) (e f : Expr) → get_or args n d ≡ arg.Pair s e f → ⊥
  pair_no_name s e f is = let none = ap (value_with_name key) (sym (ap (arg_view source) is ∙ pair_view source s e f) ∙ element_is) ∙ first.is_value in cc

pub good_value : (source : List ℕ) (args : List Arg) (n : ℕ) (d : Arg) → n < length args → GoodArgs source args → (s x : Span) (e : Expr) → get_or args n d ≡ arg.Named s x e → AreGood (expression_words (expr_view source e))
good_value source args n d within good s x e is =
    let whole = subst (λ a. AreGood (argument_words a)) (ap (arg_view source) is ∙ named_view source s x e) (good_arg source args n d within good) in whole.1.1
