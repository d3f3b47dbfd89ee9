-- The values of arguments, and where they stand.
use Rattle.meson_steps.proofs.Words.{◌≡◌, ℕ, ◌<◌, ◌≤◌, List, length, get_or, Option, Some, None, ap, ◌∙◌, sym, Bool, true, false, if◌then◌else◌, bytes_eq}
use Rattle.meson_steps.proofs.Words.{option_map, option_and_then, Span, nth, value_of, Expression, Argument, plain, named, pair, arg_view, args_view, expr_view}
use Rattle.meson_steps.proofs.Words.{list_view, Arg, Expr, elements, expression_span, list_elements, value_with_name, plain_view, named_view, pair_view}
use Rattle.meson_steps.proofs.Words.{nth_there, nth_past}
use Rattle.meson_syntax.specs.declared.tree.Arg.TheVariants as arg
use Rattle.meson_syntax.specs.declared.tree.List as rust

pub plain_span : (source : List ℕ) (e : Expr) → option_map expression_span (value_of (arg_view source (arg.Plain e))) ≡ Some (expression_span (expr_view source e))
plain_span source e = ap (λ a. option_map expression_span (value_of a)) (plain_view source e)

pub named_span : (source : List ℕ) (s x : Span) (e : Expr) → option_map expression_span (value_of (arg_view source (arg.Named s x e))) ≡ Some (expression_span (expr_view source e))
named_span source s x e = ap (λ a. option_map expression_span (value_of a)) (named_view source s x e)

pub pair_span : (source : List ℕ) (s : Span) (k e : Expr) → option_map expression_span (value_of (arg_view source (arg.Pair s k e))) ≡ Some (expression_span (expr_view source e))
pair_span source s k e = ap (λ a. option_map expression_span (value_of a)) (pair_view source s k e)

-- the value of an argument of a name
pub named_value : (key : List ℕ) (a : Argument Span) (v : Expression Span) → value_with_name key a ≡ Some v → value_of a ≡ Some v
named_value key (plain e) v is = absurd cc
named_value key (named s x e) v is = go (bytes_eq x.text key) is
  where
    go : (b : Bool) → (if b then Some e else None) ≡ Some v → Some e ≡ Some v
    go true h = h
    go false h = absurd cc
named_value key (pair s e f) v is = absurd cc

-- ---- the n-th element of a list

abbrev pub span_of_element : Option (Argument Span) → Option Span
span_of_element a = option_map expression_span (option_and_then value_of a)

module _ (source : List ℕ) (l : rust.List) (args : List Arg) (same : args ≡ (rust.out-List l).items) (n : ℕ) where
  element_is : nth (elements (list_view source l)) n ≡ nth (args_view source args) n
  element_is = ap (λ xs. nth xs n) (list_elements source l ∙ ap (args_view source) (sym same))

  pub element_there : (d : Arg) → n < length args → nth (elements (list_view source l)) n ≡ Some (arg_view source (get_or args n d))
  element_there d within = element_is ∙ nth_there source args n d within

  pub no_element : length args ≤ n → nth (elements (list_view source l)) n ≡ None
  no_element past = element_is ∙ nth_past source args n past
