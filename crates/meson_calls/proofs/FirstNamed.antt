-- The first argument of a name: it is there, and its value is the first of that name.
use Rattle.meson_calls.proofs.Words.{cons_option, is_some, option_map, ◌≡◌, ℕ, ◌+◌, ◌<◌, List, length, drop, get_or, refl, ap, ◌∙◌, true, Option, Some, None}
use Rattle.meson_calls.proofs.Words.{arg_view, Arg, value_with_name, kept_args, IsFirstNamed}
use Rattle.meson_calls.proofs.ArgumentViews.{nth_there}
use Rattle.meson_calls.proofs.KeptArguments.{kept_here}

some_there : {Y : Type 0} (o : Option Y) → is_some o ≡ true → (y : Y) × (o ≡ Some y)
some_there None is = absurd cc
some_there (Some y) is = (y, refl)

pub first_is : (source key : List ℕ) (args : List Arg) (i : ℕ) (d : Arg) → i < length args → is_some (value_with_name key (arg_view source (get_or args i d))) ≡ true
    → kept_args source (value_with_name key) 0 args ≡ kept_args source (value_with_name key) i (drop i args) → IsFirstNamed source key args i
first_is source key args i d within some so_far =
    let choose = value_with_name key in
    let v = some_there (choose (arg_view source (get_or args i d))) some in
    let more = kept_args source choose (i + 1) (drop (i + 1) args) in
    record {
      element = arg_view source (get_or args i d);
      is_element = nth_there source args i d within;
      value = v.0;
      is_value = v.1;
      more = more;
      is_first = so_far ∙ kept_here source choose args i d within ∙ ap (λ o. cons_option (option_map (λ y. record { number = i; value = y }) o) more) v.1;
    }
