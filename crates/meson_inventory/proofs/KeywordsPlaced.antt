-- The places of keyword arguments, one after another.
use Rattle.std.proofs.Common.{◌≡◌, ℕ, ◌+◌, ◌<◌, List, [], ◌∷◌, ◌++◌, length, drop, get_or, sym, ap, ◌∙◌, append_assoc}
use Rattle.std.specs.Prelude.{Option, Some, None}
use Rattle.std.specs.List.{filter_map, cons_option}
use Rattle.std.proofs.lemmas.List.{at_drop_more}
use Rattle.meson_lex.specs.declared.kinds.Span.{Span}
use Rattle.meson_syntax.specs.declared.tree.Arg.{Arg}
use Rattle.meson_syntax.specs.Tree.{Argument}
use Rattle.meson_syntax.specs.View.{arg_view, args_view}

module _ {Y : Type 0} (f : Argument Span → Option Y) (source : List ℕ) (args : List Arg) (i : ℕ) (d : Arg) (within : i < length args) where
  abbrev more : List Y
  more = filter_map f (args_view source (drop (i + 1) args))

  here : filter_map f (args_view source (drop i args)) ≡ cons_option (f (arg_view source (get_or args i d))) more
  here = at_drop_more (λ xs. filter_map f (args_view source xs)) args i d within

  pub kept_more : (done : List Y) (y : Y) → f (arg_view source (get_or args i d)) ≡ Some y → (done ++ y ∷ []) ++ more ≡ done ++ filter_map f (args_view source (drop i args))
  kept_more done y is = append_assoc done (y ∷ []) more ∙ ap (λ ys. done ++ ys) (sym (here ∙ ap (λ o. cons_option o more) is))

  pub kept_none : (done : List Y) → f (arg_view source (get_or args i d)) ≡ None → done ++ more ≡ done ++ filter_map f (args_view source (drop i args))
  kept_none done is = ap (λ ys. done ++ ys) (sym (here ∙ ap (λ o. cons_option o more) is))
