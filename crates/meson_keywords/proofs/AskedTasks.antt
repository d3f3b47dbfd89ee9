-- What the words of a request ask for may be written, where their texts are UTF-8.
use Rattle.meson_keywords.proofs.Words.{◌≡◌, ℕ, true, false, List, [], ◌∷◌, ◌++◌, map, Option, Some, None, refl, sym, ap, subst, arith, All, Bool}
use Rattle.meson_keywords.proofs.Words.{if◌then◌else◌, ok_or, option_map, Result, Ok, Err, AllByRecursion, IsUtf8, All-cons, All-nil, then_ok, Nowhere}
use Rattle.meson_keywords.proofs.Words.{Expression, Written, identifier_list_keys, switch_keys, text_keys, text_list_keys, one_of, Role, Refusal, BadName}
use Rattle.meson_keywords.proofs.Words.{UnknownKey, WrongKind, written_text, Setting, value_written, text_written, then_was, AreAskedTexts, IsPairText}
use Rattle.meson_keywords.proofs.Words.{IsSettingText, AreElements, Asked, IsKey, IsValue, MayBeWritten, asked_tasks, to_set, to_add, to_remove, to_delete}
use Rattle.meson_keywords.proofs.Words.{to_set_options, to_delete_options, Task, set, delete, add, remove, once, set_option, delete_option, add_entry}
use Rattle.meson_keywords.proofs.Words.{checked_option, delete_entry, delete_option_entry, each_made, remove_entry, set_entry, set_option_entry, are_elements}
use Rattle.meson_keywords.proofs.Words.{checked_values, key_kind, list_kind, list_values, setting_text, setting_texts, truth_text, truth_of, written_list}
use Rattle.meson_keywords.proofs.Words.{written_switch, written_value, ElementKind, ValueKind}
use Rattle.meson_steps.specs.declared.command.Setting.TheVariants as setting
use Rattle.meson_keywords.specs.declared.value_kinds.ElementKind.TheVariants as element
use Rattle.meson_keywords.specs.declared.value_kinds.ValueKind.TheVariants as value
use Rattle.meson_keywords.proofs.KeyNames.{identifier_list_key, switch_key, text_key, text_list_key}
use Rattle.meson_keywords.proofs.TasksSoFar.{value_may}
use Rattle.meson_keywords.proofs.WrittenElements.{elements_are, list_level, list_shallow, list_written, switch_is}

abbrev pub MayAll : List Task → Type 0
MayAll ts = AllByRecursion MayBeWritten ts

-- ---- what a result gives

abbrev ok_of : {A : Type 0} → A → Result A Refusal
ok_of a = Ok a

ok_is : {A : Type 0} (a b : A) → ok_of a ≡ Ok b → a ≡ b
ok_is a b is = cc

-- ---- keys

module _ (r : Role) (key : List ℕ) (utf8 : IsUtf8 key) (k : ValueKind) where
  key_by : (a b c d : Bool) → one_of (text_keys r) key ≡ a → one_of (switch_keys r) key ≡ b → one_of (text_list_keys r) key ≡ c → one_of (identifier_list_keys r) key ≡ d
      → (if a then Ok value.Text else (if b then Ok value.Switch else (if c then Ok (value.ListOf element.Text) else (if d then Ok (value.ListOf element.Identifier) else Err (UnknownKey key))))) ≡ Ok k → IsKey key
  key_by true b c d is_a is_b is_c is_d h = text_key r key utf8 is_a
  key_by false true c d is_a is_b is_c is_d h = switch_key r key utf8 is_b
  key_by false false true d is_a is_b is_c is_d h = text_list_key r key utf8 is_c
  key_by false false false true is_a is_b is_c is_d h = identifier_list_key r key utf8 is_d
  key_by false false false false is_a is_b is_c is_d h = absurd cc

  key_may : key_kind r key ≡ Ok k → IsKey key
  key_may h = key_by (one_of (text_keys r) key) (one_of (switch_keys r) key) (one_of (text_list_keys r) key) (one_of (identifier_list_keys r) key) refl refl refl refl h

-- ---- values

given : {X : Type 0} (key : List ℕ) (o : Option X) (x : X) → ok_or o (WrongKind key) ≡ Ok x → o ≡ Some x
given key None x is = absurd cc
given key (Some y) x is = ap Some (ok_is y x is)

are_given : (s : Setting) (ts : List (List ℕ)) → IsSettingText s → setting_texts s ≡ Some ts → All IsUtf8 ts
are_given (setting.Text t) ts utf8 is = let same : t ∷ [] ≡ ts = cc in subst (All IsUtf8) same (All-cons IsUtf8 t [] utf8 (All-nil IsUtf8))
are_given (setting.Bool b) ts utf8 is = absurd cc
are_given (setting.Texts us) ts utf8 is = let same : us ≡ ts = cc in subst (All IsUtf8) same utf8

checked_by : (e : ElementKind) (ts us : List (List ℕ)) (b : Bool) → are_elements e ts ≡ b → (if b then Ok ts else Err BadName) ≡ Ok us → All IsUtf8 ts → AreElements e us
checked_by e ts us true is h utf8 = let same : ts ≡ us = cc in subst (AreElements e) same (elements_are e ts is utf8)
checked_by e ts us false is h utf8 = absurd cc

values_may : (e : ElementKind) (key : List ℕ) (s : Setting) (us : List (List ℕ)) → IsSettingText s → list_values e key s ≡ Ok us → AreElements e us
values_may e key s us utf8 is =
    let f = then_was (ok_or (setting_texts s) (WrongKind key)) (checked_values e) us is in
    checked_by e f.0 us (are_elements e f.0) refl f.2 (are_given s f.0 utf8 (given key (setting_texts s) f.0 f.1))

switch_may : (b : Bool) → IsValue (written_switch b)
switch_may b =
    let s = switch_is b (truth_text b) refl in
    subst IsValue (sym (ok_is (written_switch b) (value_written (truth_text b) s.new) s.is)) (value_may (truth_text b) s.new)

text_by : (key : List ℕ) (s : Setting) (new : Written (Expression Nowhere)) → IsSettingText s → ok_or (option_map written_text (setting_text s)) (WrongKind key) ≡ Ok new → IsValue new
text_by key (setting.Text t) new utf8 is = subst IsValue (ok_is (written_text t) new is) (text_written t utf8, tt, omega arith)
text_by key (setting.Bool b) new utf8 is = absurd cc
text_by key (setting.Texts ts) new utf8 is = absurd cc

switch_by : (key : List ℕ) (o : Option Bool) (new : Written (Expression Nowhere)) → ok_or (option_map written_switch o) (WrongKind key) ≡ Ok new → IsValue new
switch_by key None new is = absurd cc
switch_by key (Some b) new is = subst IsValue (ok_is (written_switch b) new is) (switch_may b)

value_by : (k : ValueKind) (key : List ℕ) (s : Setting) (new : Written (Expression Nowhere)) → IsSettingText s → written_value k key s ≡ Ok new → IsValue new
value_by value.Text key s new utf8 is = text_by key s new utf8 is
value_by value.Switch key s new utf8 is = switch_by key (truth_of s) new is
value_by (value.ListOf e) key s new utf8 is =
    let f = then_was (list_values e key s) (λ texts. Ok (written_list e texts)) new is in
    let are = values_may e key s f.0 utf8 f.1 in
    subst IsValue (ok_is (written_list e f.0) new f.2) (list_written e f.0 are, list_level e f.0 are, list_shallow e f.0 are)

-- ---- entries

may_append : (ts us : List Task) → MayAll ts → MayAll us → MayAll (ts ++ us)
may_append [] us may more = more
may_append (t ∷ ts) us may more = (may.0, may_append ts us may.1 more)

may_each : {X : Type 0} (P : X → Type 0) (make : X → Result (List Task) Refusal) → ((x : X) (ts : List Task) → P x → make x ≡ Ok ts → MayAll ts) → (xs : List X) (ts : List Task) → AllByRecursion P xs → each_made make xs ≡ Ok ts → MayAll ts
may_each P make one [] ts all is = let same : [] ≡ ts = cc in subst MayAll same tt
may_each P make one (x ∷ xs) ts all is =
    let f = then_was (make x) (λ here. then_ok (each_made make xs) (λ later. Ok (here ++ later))) ts is in
    let g = then_was (each_made make xs) (λ later. Ok (f.0 ++ later)) ts f.2 in
    subst MayAll (ok_is (f.0 ++ g.0) ts g.2) (may_append f.0 g.0 (one x f.0 all.0 f.1) (may_each P make one xs g.0 all.1 g.1))

set_may : (r : Role) (pair : List ℕ × Setting) (ts : List Task) → IsPairText pair → set_entry r pair ≡ Ok ts → MayAll ts
set_may r pair ts utf8 is =
    let f = then_was (key_kind r pair.0) (λ k. then_ok (written_value k pair.0 pair.1) (λ new. Ok (set pair.0 new ∷ []))) ts is in
    let g = then_was (written_value f.0 pair.0 pair.1) (λ new. Ok (set pair.0 new ∷ [])) ts f.2 in
    subst MayAll (ok_is (set pair.0 g.0 ∷ []) ts g.2) ((key_may r pair.0 utf8.0 f.0 f.1, value_by f.0 pair.0 pair.1 g.0 utf8.1 g.1), tt)

-- the key of a list and its values
list_may : (r : Role) (pair : List ℕ × Setting) (make : ElementKind → List (List ℕ) → List Task) (ts : List Task) → IsPairText pair
    → then_ok (then_ok (key_kind r pair.0) (list_kind pair.0)) (λ e. then_ok (list_values e pair.0 pair.1) (λ values. Ok (make e values))) ≡ Ok ts
    → (e : ElementKind) × (values : List (List ℕ)) × IsKey pair.0 × AreElements e values × (make e values ≡ ts)
list_may r pair make ts utf8 is =
    let f = then_was (then_ok (key_kind r pair.0) (list_kind pair.0)) (λ e. then_ok (list_values e pair.0 pair.1) (λ values. Ok (make e values))) ts is in
    let g = then_was (key_kind r pair.0) (list_kind pair.0) f.0 f.1 in
    let h = then_was (list_values f.0 pair.0 pair.1) (λ values. Ok (make f.0 values)) ts f.2 in
    (f.0, h.0, key_may r pair.0 utf8.0 g.0 g.1, values_may f.0 pair.0 pair.1 h.0 utf8.1 h.1, ok_is (make f.0 h.0) ts h.2)

add_may : (r : Role) (pair : List ℕ × Setting) (ts : List Task) → IsPairText pair → add_entry r pair ≡ Ok ts → MayAll ts
add_may r pair ts utf8 is =
    let l = list_may r pair (λ e values. add pair.0 e values ∷ []) ts utf8 is in
    subst MayAll l.4 ((l.2, l.3), tt)

removals_may : (key : List ℕ) (e : ElementKind) (values : List (List ℕ)) → MayAll (map (remove key e) values)
removals_may key e [] = tt
removals_may key e (v ∷ vs) = (tt, removals_may key e vs)

remove_may : (r : Role) (pair : List ℕ × Setting) (ts : List Task) → IsPairText pair → remove_entry r pair ≡ Ok ts → MayAll ts
remove_may r pair ts utf8 is =
    let l = list_may r pair (λ e values. once pair.0 ∷ map (remove pair.0 e) values) ts utf8 is in
    subst MayAll l.4 (tt, removals_may pair.0 l.0 l.1)

delete_may : (r : Role) (key : List ℕ) (ts : List Task) → Unit {0} → delete_entry r key ≡ Ok ts → MayAll ts
delete_may r key ts u is =
    let f = then_was (key_kind r key) (λ k. Ok (delete key ∷ [])) ts is in
    subst MayAll (ok_is (delete key ∷ []) ts f.2) (tt, tt)

set_option_may : (pair : List ℕ × List ℕ) (ts : List Task) → IsUtf8 pair.0 × IsUtf8 pair.1 → set_option_entry pair ≡ Ok ts → MayAll ts
set_option_may pair ts utf8 is =
    let f = then_was (checked_option pair.0) (λ _. Ok (set_option pair.0 pair.1 ∷ [])) ts is in
    subst MayAll (ok_is (set_option pair.0 pair.1 ∷ []) ts f.2) (utf8, tt)

delete_option_may : (name : List ℕ) (ts : List Task) → Unit {0} → delete_option_entry name ≡ Ok ts → MayAll ts
delete_option_may name ts u is =
    let f = then_was (checked_option name) (λ _. Ok (delete_option name ∷ [])) ts is in
    subst MayAll (ok_is (delete_option name ∷ []) ts f.2) (tt, tt)

any : {X : Type 0} (xs : List X) → AllByRecursion (λ (x : X). Unit {0}) xs
any [] = tt
any (x ∷ xs) = (tt, any xs)

pub asked_may : (r : Role) (asked : Asked) → AreAskedTexts asked → (ts : List Task) → asked_tasks r asked ≡ Ok ts → MayAll ts
asked_may r (to_set pairs) utf8 ts is = may_each IsPairText (set_entry r) (set_may r) pairs ts utf8 is
asked_may r (to_add pairs) utf8 ts is = may_each IsPairText (add_entry r) (add_may r) pairs ts utf8 is
asked_may r (to_remove pairs) utf8 ts is = may_each IsPairText (remove_entry r) (remove_may r) pairs ts utf8 is
asked_may r (to_delete keys) utf8 ts is = may_each (λ x. Unit {0}) (delete_entry r) (delete_may r) keys ts (any keys) is
asked_may r (to_set_options pairs) utf8 ts is = may_each (λ p. IsUtf8 p.0 × IsUtf8 p.1) set_option_entry set_option_may pairs ts utf8 is
asked_may r (to_delete_options names) utf8 ts is = may_each (λ x. Unit {0}) delete_option_entry delete_option_may names ts (any names) is
