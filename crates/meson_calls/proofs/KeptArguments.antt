-- Arguments that a test keeps, one after another.
use Rattle.meson_calls.proofs.Words.{cons_option, false, is_some, option_map, ◌≡◌, ℕ, ◌+◌, ◌<◌, ◌≤◌, List, [], length, drop, get_or, refl, ap, ◌∙◌, true}
use Rattle.meson_calls.proofs.Words.{Option, Some, None, at_drop_more, at_drop_all, Span, Argument, arg_view, Arg, rest, kept_args, kept_arg, number_behind}

module _ {Y : Type 0} (source : List ℕ) (choose : Argument Span → Option Y) where
  pub kept_here : (args : List Arg) (i : ℕ) (d : Arg) → i < length args →
      kept_args source choose i (drop i args) ≡ cons_option (kept_arg source choose i (get_or args i d)) (kept_args source choose (i + 1) (drop (i + 1) args))
  kept_here args i d within = at_drop_more (kept_args source choose i) args i d within

  pub kept_none : (args : List Arg) (i : ℕ) → length args ≤ i → kept_args source choose i (drop i args) ≡ []
  kept_none args i past = at_drop_all (kept_args source choose i) args i past

  pub rest_found : (args : List Arg) (i : ℕ) (d : Arg) → i < length args → is_some (choose (arg_view source (get_or args i d))) ≡ true →
      rest (kept_args source choose i (drop i args)) ≡ kept_args source choose (i + 1) (drop (i + 1) args)
  rest_found args i d within some = ap rest (kept_here args i d within) ∙ go (choose (arg_view source (get_or args i d))) some
    where
      go : (o : Option Y) → is_some o ≡ true → rest (cons_option (option_map (λ y. record { number = i; value = y }) o) (kept_args source choose (i + 1) (drop (i + 1) args))) ≡ kept_args source choose (i + 1) (drop (i + 1) args)
      go None is = cc
      go (Some y) is = refl

  pub number_found : (args : List Arg) (i all : ℕ) (d : Arg) → i < length args → is_some (choose (arg_view source (get_or args i d))) ≡ true →
      number_behind all (kept_args source choose i (drop i args)) ≡ i + 1
  number_found args i all d within some = ap (number_behind all) (kept_here args i d within) ∙ go (choose (arg_view source (get_or args i d))) some
    where
      go : (o : Option Y) → is_some o ≡ true → number_behind all (cons_option (option_map (λ y. record { number = i; value = y }) o) (kept_args source choose (i + 1) (drop (i + 1) args))) ≡ i + 1
      go None is = cc
      go (Some y) is = refl

  pub rest_passed : (args : List Arg) (i : ℕ) (d : Arg) → i < length args → is_some (choose (arg_view source (get_or args i d))) ≡ false →
      kept_args source choose i (drop i args) ≡ kept_args source choose (i + 1) (drop (i + 1) args)
  rest_passed args i d within none = kept_here args i d within ∙ go (choose (arg_view source (get_or args i d))) none
    where
      go : (o : Option Y) → is_some o ≡ false → cons_option (option_map (λ y. record { number = i; value = y }) o) (kept_args source choose (i + 1) (drop (i + 1) args)) ≡ kept_args source choose (i + 1) (drop (i + 1) args)
      go None is = refl
      go (Some y) is = cc
