-- What is told of elements, one after another.
use Rattle.std.proofs.Common.{◌≡◌, ℕ, ◌+◌, ◌<◌, List, [], ◌∷◌, ◌++◌, length, drop, get_or, refl, sym, ap, ◌∙◌, append_assoc}
use Rattle.std.specs.Prelude.{Option, Some, None, option_map, option_and_then}
use Rattle.std.specs.List.{filter_map, cons_option}
use Rattle.std.proofs.lemmas.List.{at_drop_more}
use Rattle.meson_lex.specs.declared.kinds.Span.{Span}
use Rattle.meson_syntax.specs.declared.tree.Arg.{Arg}
use Rattle.meson_syntax.specs.Tree.{Argument}
use Rattle.meson_syntax.specs.View.{arg_view, args_view}
use Rattle.meson_details.specs.Details.{of_each}

-- what is done, before what comes
abbrev pub after : {Y : Type 0} → List Y → Option (List Y) → Option (List Y)
after done r = option_map (λ rest. done ++ rest) r

onto : {Y : Type 0} (done : List Y) (y : Y) (r : Option (List Y)) → after done (option_map (λ ys. y ∷ ys) r) ≡ after (done ++ y ∷ []) r
onto done y None = refl
onto done y (Some rest) = ap Some (sym (append_assoc done (y ∷ []) rest))

module _ {Y : Type 0} (f : Argument Span → Option Y) (source : List ℕ) (args : List Arg) (i : ℕ) (d : Arg) (within : i < length args) where
  abbrev value : Option Y
  value = f (arg_view source (get_or args i d))

  abbrev more : List Arg
  more = drop (i + 1) args

  -- ---- something of all

  each_here : of_each f (args_view source (drop i args)) ≡ option_and_then (λ y. option_map (λ ys. y ∷ ys) (of_each f (args_view source more))) value
  each_here = at_drop_more (λ xs. of_each f (args_view source xs)) args i d within

  pub each_more : (done : List Y) (y : Y) → value ≡ Some y → after done (of_each f (args_view source (drop i args))) ≡ after (done ++ y ∷ []) (of_each f (args_view source more))
  each_more done y is =
      ap (after done) (each_here ∙ ap (option_and_then (λ y. option_map (λ ys. y ∷ ys) (of_each f (args_view source more)))) is) ∙ onto done y (of_each f (args_view source more))

  pub each_stops : (done : List Y) → value ≡ None → after done (of_each f (args_view source (drop i args))) ≡ None
  each_stops done is = ap (after done) (each_here ∙ ap (option_and_then (λ y. option_map (λ ys. y ∷ ys) (of_each f (args_view source more)))) is)

  -- ---- of those that have something

  kept_here : filter_map f (args_view source (drop i args)) ≡ cons_option value (filter_map f (args_view source more))
  kept_here = at_drop_more (λ xs. filter_map f (args_view source xs)) args i d within

  pub kept_more : (done : List Y) (y : Y) → value ≡ Some y → (done ++ y ∷ []) ++ filter_map f (args_view source more) ≡ done ++ filter_map f (args_view source (drop i args))
  kept_more done y is =
      append_assoc done (y ∷ []) (filter_map f (args_view source more))
      ∙ ap (λ ys. done ++ ys) (sym (kept_here ∙ ap (λ o. cons_option o (filter_map f (args_view source more))) is))

  pub kept_none : (done : List Y) → value ≡ None → done ++ filter_map f (args_view source more) ≡ done ++ filter_map f (args_view source (drop i args))
  kept_none done is = ap (λ ys. done ++ ys) (sym (kept_here ∙ ap (λ o. cons_option o (filter_map f (args_view source more))) is))
