-- What is there once only among the keyword arguments of a call, key by key.
use Rattle.std.proofs.Common.{◌≡◌, ℕ, ◌+◌, ◌<◌, ◌≤◌, List, length, drop, get_or, sym, ap, ◌∙◌}
use Rattle.std.specs.Prelude.{true, if◌then◌else◌, Option, Some, None, Result, Ok, Err, IfOk, OnOk}
use Rattle.std.specs.List.{filter_map, cons_option}
use Rattle.std.proofs.lemmas.List.{at_drop_more, at_drop_all}
use Rattle.meson_lex.specs.declared.kinds.Span.{Span}
use Rattle.meson_splice.specs.Patch.{then_ok}
use Rattle.meson_syntax.specs.declared.tree.Arg.{Arg}
use Rattle.meson_syntax.specs.declared.tree.List as rust
use Rattle.meson_syntax.specs.View.{arg_view, args_view, list_view}
use Rattle.meson_calls.specs.declared.call.Role.{Role}
use Rattle.meson_calls.specs.declared.refusal.Refusal.{Refusal}
use Rattle.meson_calls.specs.declared.refusal.Refusal.TheVariants.{DuplicateKeyword}
use Rattle.meson_calls.specs.Calls.{Call, keyword, value_with_name}
use Rattle.meson_calls.specs.Keys.{is_key}
use Rattle.meson_calls.specs.ChosenNotes.{call_with}
use Rattle.meson_details.specs.Once.{only_once, name_in, key_told, keys_told, call_told}
use Rattle.meson_calls.specs.NamedArguments.{kept_args, once}
use Rattle.meson_calls.specs.Refusals.{IfRefused, RefusedAs}
use Rattle.meson_edit.proofs.lists.CodeElements.{list_elements}
use Rattle.meson_calls.proofs.Listed.{list_is}
use Rattle.meson_calls.proofs.AtMostOnce.{once_few, once_twice}

module _ (source : List ℕ) (l : rust.List) (function : List ℕ) where
  abbrev the_call : Call Span
  the_call = call_with function (list_view source l)

  abbrev kept : List ℕ → ℕ
  kept key = length (kept_args source (value_with_name key) 0 (rust.out-List l).items)

  -- ---- one key

  once_kept : (key : List ℕ) → only_once key the_call ≡ once key (kept_args source (value_with_name key) 0 (rust.out-List l).items) tt
  once_kept key = ap (λ m. once key (keyword key (call_with function m)) tt) (list_is source l)

  pub once_there : (key : List ℕ) → kept key ≤ 1 → only_once key the_call ≡ Ok tt
  once_there key few = once_kept key ∙ once_few key (kept_args source (value_with_name key) 0 (rust.out-List l).items) tt few

  pub twice_there : (key : List ℕ) (e : Refusal) → (e ≡ DuplicateKeyword key) × (1 < kept key) → only_once key the_call ≡ Err e
  twice_there key e twice = once_kept key ∙ once_twice key (kept_args source (value_with_name key) 0 (rust.out-List l).items) tt twice.1 ∙ ap Err (sym twice.0)

  -- what a test of a key gives, where it is what is meant
  module _ {Y : Type 0} (key : List ℕ) (meant : Result Y Refusal) (y : Y) where
    pub all_went : (only_once key the_call ≡ Ok tt → meant ≡ Ok y) → (r : Result (Unit {0}) Refusal) → OnOk r (kept key ≤ 1) → IfOk r (λ u. meant ≡ Ok y)
    all_went then_ (Ok u) few = then_ (once_there key few)
    all_went then_ (Err e) few = tt

    pub one_refused : ((e : Refusal) → only_once key the_call ≡ Err e → meant ≡ Err e) → (r : Result (Unit {0}) Refusal)
        → IfRefused r (λ e. (e ≡ DuplicateKeyword key) × (1 < kept key)) → RefusedAs r meant
    one_refused then_ (Ok u) twice = tt
    one_refused then_ (Err e) twice = λ other. then_ e (twice_there key e (twice other))

  -- ---- one that commands change, in a role

  module _ (role : Role) where
    tested : (key : List ℕ) → is_key role key ≡ true → key_told role the_call key ≡ only_once key the_call
    tested key is = ap (λ b. if b then only_once key the_call else Ok tt) is

    module _ (key : List ℕ) (is : is_key role key ≡ true) (r : Result (Unit {0}) Refusal) where
      pub key_went : OnOk r (kept key ≤ 1) → IfOk r (λ u. key_told role the_call key ≡ Ok tt)
      key_went = all_went key (key_told role the_call key) tt (λ once. tested key is ∙ once) r

      pub key_refused : IfRefused r (λ e. (e ≡ DuplicateKeyword key) × (1 < kept key)) → RefusedAs r (key_told role the_call key)
      key_refused = one_refused key (key_told role the_call key) tt (λ e twice. tested key is ∙ twice) r

    -- ---- all of a call, argument by argument

    abbrev pub left_told : List Arg → Result (Unit {0}) Refusal
    left_told args = keys_told role the_call (filter_map name_in (args_view source args))

    pub all_told : call_told role the_call ≡ left_told (rust.out-List l).items
    all_told = ap (λ xs. keys_told role the_call (filter_map name_in xs)) (list_elements source l)

    module _ (args : List Arg) (i : ℕ) (d : Arg) (within : i < length args) where
      abbrev name : Option (List ℕ)
      name = name_in (arg_view source (get_or args i d))

      abbrev more : List (List ℕ)
      more = filter_map name_in (args_view source (drop (i + 1) args))

      here : left_told (drop i args) ≡ keys_told role the_call (cons_option name more)
      here = at_drop_more left_told args i d within

      pub no_name : name ≡ None → left_told (drop i args) ≡ left_told (drop (i + 1) args)
      no_name none = here ∙ ap (λ o. keys_told role the_call (cons_option o more)) none

      named : (key : List ℕ) → name ≡ Some key → left_told (drop i args) ≡ then_ok (key_told role the_call key) (λ _. left_told (drop (i + 1) args))
      named key some = here ∙ ap (λ o. keys_told role the_call (cons_option o more)) some

      pub key_passed : (key : List ℕ) → name ≡ Some key → key_told role the_call key ≡ Ok tt → left_told (drop i args) ≡ left_told (drop (i + 1) args)
      key_passed key some ok = named key some ∙ ap (λ r. then_ok r (λ _. left_told (drop (i + 1) args))) ok

      pub key_stopped : (key : List ℕ) → name ≡ Some key → (e : Refusal) → key_told role the_call key ≡ Err e → left_told (drop i args) ≡ Err e
      key_stopped key some e err = named key some ∙ ap (λ r. then_ok r (λ _. left_told (drop (i + 1) args))) err

    pub none_left : (args : List Arg) (i : ℕ) → length args ≤ i → left_told (drop i args) ≡ Ok tt
    none_left args i past = at_drop_all left_told args i past
