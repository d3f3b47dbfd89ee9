-- The first argument without a name, one argument after another.
use Rattle.meson_calls.proofs.Words.{filter_map, cons_option, option_map, is_some, MatchOption, rules, ◌≡◌, ℕ, ◌+◌, ◌<◌, ◌≤◌, List, ◌∷◌, length, drop, get_or}
use Rattle.meson_calls.proofs.Words.{refl, sym, ap, ◌∙◌, Option, Some, None, at_drop_more, at_drop_all, Span, Expression, listing, arguments_of, arg_view}
use Rattle.meson_calls.proofs.Words.{args_view, list_view, Arg, numbered, kept_number, value_without_name, first_of, first_argument, call_with}
use Rattle.meson_syntax.specs.declared.tree.Arg.TheFolds.{the_lemmas}
use Rattle.meson_syntax.specs.declared.tree.List as rust

module _ (source : List ℕ) where
  -- of arguments of which the first has the number n
  abbrev pub first_left : ℕ → List Arg → Option (Expression Span)
  first_left n args = option_map (λ a. a.value) (first_of (filter_map (kept_number value_without_name) (numbered n (arguments_of (args_view source args)))))

  list_parts : (l : rust.List) → list_view source l ≡ listing (rust.out-List l).span (rust.out-List l).trailing (arguments_of (args_view source (rust.out-List l).items))
  list_parts l = search (rules, the_lemmas)

  pub first_of_list : (function : List ℕ) (l : rust.List) → first_argument (call_with function (list_view source l)) ≡ first_left 0 (rust.out-List l).items
  first_of_list function l = ap (λ x. first_argument (call_with function x)) (list_parts l)

  -- by what the argument gives
  by_value : ℕ → Option (Expression Span) → List Arg → Option (Expression Span)
  by_value n v rest =
      option_map (λ a. a.value) (first_of (cons_option (option_map (λ y. record { number = n; value = y }) v) (filter_map (kept_number value_without_name) (numbered (n + 1) (arguments_of (args_view source rest))))))

  one_more : (n : ℕ) (x : Arg) (rest : List Arg) → first_left n (x ∷ rest) ≡ by_value n (value_without_name (arg_view source x)) rest
  unfolding by_value
  one_more n x rest = refl

  here : (args : List Arg) (i : ℕ) (d : Arg) → i < length args → first_left i (drop i args) ≡ by_value i (value_without_name (arg_view source (get_or args i d))) (drop (i + 1) args)
  here args i d within = at_drop_more (first_left i) args i d within ∙ one_more i (get_or args i d) (drop (i + 1) args)

  pub first_skipped : (args : List Arg) (i : ℕ) (d : Arg) → i < length args → value_without_name (arg_view source (get_or args i d)) ≡ None → first_left (i + 1) (drop (i + 1) args) ≡ first_left i (drop i args)
  unfolding by_value
  first_skipped args i d within is = sym (here args i d within ∙ ap (λ v. by_value i v (drop (i + 1) args)) is)

  pub first_found : (args : List Arg) (i : ℕ) (d : Arg) (e : Expression Span) → i < length args → value_without_name (arg_view source (get_or args i d)) ≡ Some e → first_left i (drop i args) ≡ Some e
  unfolding by_value
  first_found args i d e within is = here args i d within ∙ ap (λ v. by_value i v (drop (i + 1) args)) is

  pub first_ended : (args : List Arg) (i : ℕ) → length args ≤ i → first_left i (drop i args) ≡ None
  first_ended args i past = at_drop_all (first_left i) args i past

-- an answer that stands for another one is there where that is
pub there_alike : {A B : Type 0} (o : Option A) (p : Option B) (f : A → B) → MatchOption o (p ≡ None) (λ e. p ≡ Some (f e)) → is_some o ≡ is_some p
there_alike None p f m = sym (ap is_some m)
there_alike (Some e) p f m = sym (ap is_some m)
