-- Elements of a list, one after another: whether they have names.
use Rattle.meson_variables.proofs.Words.{◌≡◌, ℕ, ◌+◌, ◌<◌, ◌≤◌, List, length, drop, get_or, sym, ap, ◌∙◌, Bool, true, false, if◌then◌else◌, at_drop_more}
use Rattle.meson_variables.proofs.Words.{at_drop_all, is_named, arguments_of, arg_view, args_view, list_view, Arg, list_is, has_names, are_named}
use Rattle.meson_syntax.specs.declared.tree.List as rust

module _ (source : List ℕ) where
  abbrev pub names_left : List Arg → Bool
  names_left args = has_names (arguments_of (args_view source args))

  pub names_of_list : (l : rust.List) → are_named (list_view source l) ≡ names_left (rust.out-List l).items
  names_of_list l = ap are_named (list_is source l)

  names_here : (args : List Arg) (i : ℕ) (d : Arg) → i < length args → names_left (drop i args) ≡ (if is_named (arg_view source (get_or args i d)) then true else names_left (drop (i + 1) args))
  names_here args i d within = at_drop_more names_left args i d within

  pub name_found : (args : List Arg) (i : ℕ) (d : Arg) → i < length args → is_named (arg_view source (get_or args i d)) ≡ true → names_left (drop i args) ≡ true
  name_found args i d within is = names_here args i d within ∙ ap (λ b. if b then true else names_left (drop (i + 1) args)) is

  pub name_skipped : (args : List Arg) (i : ℕ) (d : Arg) → i < length args → is_named (arg_view source (get_or args i d)) ≡ false → names_left (drop (i + 1) args) ≡ names_left (drop i args)
  name_skipped args i d within is = sym (names_here args i d within ∙ ap (λ b. if b then true else names_left (drop (i + 1) args)) is)

  pub names_ended : (args : List Arg) (i : ℕ) → length args ≤ i → names_left (drop i args) ≡ false
  names_ended args i past = at_drop_all names_left args i past
