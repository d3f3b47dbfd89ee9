-- The steps of a task are the same by the elements with spans and by those without.
use Rattle.meson_keywords.proofs.Words.{◌≡◌, ℕ, suc, ◌+◌, Bool, true, false, List, [], ◌∷◌, length, map, refl, ap, ◌∙◌, Option, Some, None, option_map}
use Rattle.meson_keywords.proofs.Words.{if◌then◌else◌, bytes_eq, is_some, ◌&&◌, Result, Ok, cons_option, filter_map, then_ok, Span, Nowhere, Expression}
use Rattle.meson_keywords.proofs.Words.{identifier, string, array, dictionary, Argument, plain, named, pair, arguments_of, erase_argument, erase_expression}
use Rattle.meson_keywords.proofs.Words.{Numbered, numbered, kept_number, value_with_name, child, CallRef, Refusal, erased_elements, ValueShape, an_array}
use Rattle.meson_keywords.proofs.Words.{no_array, add_by_shape, all_behind, all_of_kind, behind_all, element_text, keyword_in, new_elements, one_at_most}
use Rattle.meson_keywords.proofs.Words.{passing, remove_by_shape, remove_equal, removed_from, says, value_shape, text_in, delete_by_shape, delete_by_value}
use Rattle.meson_keywords.proofs.Words.{entries, has_key, is_entry, is_entry_element, key_text, keys_known, of_list, option_text, options_key, set_by_shape}
use Rattle.meson_keywords.proofs.Words.{set_by_value, set_in_dictionary, set_in_list, task_steps, Task, set, delete, add, remove, once, set_option}
use Rattle.meson_keywords.proofs.Words.{delete_option, written_list, written_named, ElementKind}
use Rattle.meson_keywords.specs.declared.value_kinds.ElementKind.TheVariants as element
use Rattle.meson_calls.specs.Calls as calls
use Rattle.meson_keywords.specs.KeywordEdits.{the_value}

-- ---- the keyword argument in hand

abbrev erase_number : Numbered (Expression Span) → Numbered (Expression Nowhere)
erase_number v = record { number = v.number; value = erase_expression v.value }

module _ (key : List ℕ) where
  one_named : (n : ℕ) (e : Expression Span) (b : Bool) (vs : List (Numbered (Expression Nowhere))) (us : List (Numbered (Expression Span))) → vs ≡ map erase_number us
      → cons_option (option_map (λ (y : Expression Nowhere). record { number = n; value = y }) (if b then Some (erase_expression e) else None)) vs
      ≡ map erase_number (cons_option (option_map (λ (y : Expression Span). record { number = n; value = y }) (if b then Some e else None)) us)
  one_named n e true vs us are = ap (λ l. record { number = n; value = erase_expression e } ∷ l) are
  one_named n e false vs us are = are

  named_erased : (n : ℕ) (xs : List (Argument Span)) → filter_map (kept_number (value_with_name key)) (numbered n (arguments_of (map erase_argument xs)))
      ≡ map erase_number (filter_map (kept_number (value_with_name key)) (numbered n (arguments_of xs)))
  named_erased n [] = refl
  named_erased n (plain e ∷ xs) = named_erased (n + 1) xs
  named_erased n (pair s e f ∷ xs) = named_erased (n + 1) xs
  named_erased n (named s x e ∷ xs) =
      one_named n e (bytes_eq x.text key) (filter_map (kept_number (value_with_name key)) (numbered (n + 1) (arguments_of (map erase_argument xs))))
      (filter_map (kept_number (value_with_name key)) (numbered (n + 1) (arguments_of xs))) (named_erased (n + 1) xs)

  -- what is made of the one value, or of none
  by_value : {X : Type 0} (xs : List (Argument Span)) (bare : Option (Numbered (Expression Nowhere)) → Result X Refusal) (spanned : Option (Numbered (Expression Span)) → Result X Refusal) → bare None ≡ spanned None
      → ((v : Numbered (Expression Span)) → bare (Some (erase_number v)) ≡ spanned (Some v)) → then_ok (the_value key (map erase_argument xs)) bare ≡ then_ok (the_value key xs) spanned
  by_value xs bare spanned none some =
      ap (λ vs. then_ok (one_at_most key vs) bare) (named_erased 0 xs) ∙ go (keyword_in key xs)
    where
      go : (vs : List (Numbered (Expression Span))) → then_ok (one_at_most key (map erase_number vs)) bare ≡ then_ok (one_at_most key vs) spanned
      go [] = none
      go (v ∷ []) = some v
      go (v ∷ w ∷ more) = refl

-- ---- elements

many_erased : (xs : List (Argument Span)) → length (map erase_argument xs) ≡ length xs
many_erased [] = refl
many_erased (x ∷ xs) = ap suc (many_erased xs)

text_erased : (k : ElementKind) (e : Expression Span) → text_in k (erase_expression e) ≡ text_in k e
text_erased element.Text (string s q x) = refl
text_erased element.Text _ = refl
text_erased element.Identifier (identifier s x) = refl
text_erased element.Identifier _ = refl

element_erased : (k : ElementKind) (x : Argument Span) → element_text k (erase_argument x) ≡ element_text k x
element_erased k (plain e) = text_erased k e
element_erased k (named s x e) = refl
element_erased k (pair s e f) = refl

texts_erased : (k : ElementKind) (xs : List (Argument Span)) → filter_map (element_text k) (map erase_argument xs) ≡ filter_map (element_text k) xs
texts_erased k [] = refl
texts_erased k (x ∷ xs) =
    ap (λ o. cons_option o (filter_map (element_text k) (map erase_argument xs))) (element_erased k x) ∙ ap (cons_option (element_text k x)) (texts_erased k xs)

known_erased : (k : ElementKind) (xs : List (Argument Span)) → all_of_kind k (map erase_argument xs) ≡ all_of_kind k xs
known_erased k [] = refl
known_erased k (x ∷ xs) =
    ap (λ o. is_some o && all_of_kind k (map erase_argument xs)) (element_erased k x) ∙ ap (λ b. is_some (element_text k x) && b) (known_erased k xs)

passing_erased : (bare : Argument Nowhere → Bool) (spanned : Argument Span → Bool) → ((x : Argument Span) → bare (erase_argument x) ≡ spanned x) → (n : ℕ) (xs : List (Argument Span))
    → passing bare n (map erase_argument xs) ≡ passing spanned n xs
passing_erased bare spanned same n [] = refl
passing_erased bare spanned same n (x ∷ xs) =
    ap (λ b. if b then n ∷ passing bare (suc n) (map erase_argument xs) else passing bare (suc n) (map erase_argument xs)) (same x)
    ∙ ap (λ l. if spanned x then n ∷ l else l) (passing_erased bare spanned same (suc n) xs)

abbrev erase_shape : ValueShape Span → ValueShape Nowhere
erase_shape (an_array xs) = an_array (map erase_argument xs)
erase_shape no_array = no_array

shape_erased : (e : Expression Span) → value_shape (erase_expression e) ≡ erase_shape (value_shape e)
shape_erased (array l) = ap an_array (erased_elements l)
shape_erased _ = refl

-- what is made of a value, by its text and its shape
by_shape : {X : Type 0} (bare : Option (List ℕ) → ValueShape Nowhere → X) (spanned : Option (List ℕ) → ValueShape Span → X) → ((t : Option (List ℕ)) (s : ValueShape Span) → bare t (erase_shape s) ≡ spanned t s)
    → (k : ElementKind) (e : Expression Span) → bare (text_in k (erase_expression e)) (value_shape (erase_expression e)) ≡ spanned (text_in k e) (value_shape e)
by_shape bare spanned same k e = ap (λ t. bare t (value_shape (erase_expression e))) (text_erased k e) ∙ ap (bare (text_in k e)) (shape_erased e) ∙ same (text_in k e) (value_shape e)

-- ---- values

added_erased : (c : CallRef) (n : ℕ) (key : List ℕ) (k : ElementKind) (values : List (List ℕ)) (t : Option (List ℕ)) (s : ValueShape Span) → add_by_shape c n key k values t (erase_shape s) ≡ add_by_shape c n key k values t s
added_erased c n key k values t no_array = refl
added_erased c n key k values t (an_array xs) =
    ap (λ m. Ok (all_behind (child c n) m (new_elements k (filter_map (element_text k) (map erase_argument xs)) values))) (many_erased xs)
    ∙ ap (λ known. Ok (all_behind (child c n) (length xs) (new_elements k known values))) (texts_erased k xs)

removed_erased : (c : CallRef) (n : ℕ) (key : List ℕ) (k : ElementKind) (value : List ℕ) (t : Option (List ℕ)) (s : ValueShape Span)
    → remove_by_shape c n key k value t (erase_shape s) ≡ remove_by_shape c n key k value t s
removed_erased c n key k value t no_array = refl
removed_erased c n key k value t (an_array xs) =
    ap (λ b. remove_equal (child c n) key b (passing (says k value) 0 (map erase_argument xs))) (known_erased k xs)
    ∙ ap (remove_equal (child c n) key (all_of_kind k xs)) (passing_erased (says k value) (says k value) (λ x. ap (calls.is value) (element_erased k x)) 0 xs)

entry_erased : (name : List ℕ) (x : Argument Span) → is_entry_element name (erase_argument x) ≡ is_entry_element name x
entry_erased name x = ap (is_entry name) (element_erased element.Text x)

option_erased : (c : CallRef) (n : ℕ) (name entry : List ℕ) (t : Option (List ℕ)) (s : ValueShape Span) → set_by_shape c n name entry t (erase_shape s) ≡ set_by_shape c n name entry t s
option_erased c n name entry t no_array = refl
option_erased c n name entry t (an_array xs) =
    ap (λ b. of_list b (set_in_list (child c n) (length (map erase_argument xs)) entry (passing (is_entry_element name) 0 (map erase_argument xs)))) (known_erased element.Text xs)
    ∙ ap (λ m. of_list (all_of_kind element.Text xs) (set_in_list (child c n) m entry (passing (is_entry_element name) 0 (map erase_argument xs)))) (many_erased xs)
    ∙ ap (λ l. of_list (all_of_kind element.Text xs) (set_in_list (child c n) (length xs) entry l)) (passing_erased (is_entry_element name) (is_entry_element name) (entry_erased name) 0 xs)

option_gone_erased : (c : CallRef) (n : ℕ) (name : List ℕ) (t : Option (List ℕ)) (s : ValueShape Span) → delete_by_shape c n name t (erase_shape s) ≡ delete_by_shape c n name t s
option_gone_erased c n name t no_array = refl
option_gone_erased c n name t (an_array xs) =
    ap (λ b. of_list b (removed_from (child c n) 0 (passing (is_entry_element name) 0 (map erase_argument xs)))) (known_erased element.Text xs)
    ∙ ap (λ l. of_list (all_of_kind element.Text xs) (removed_from (child c n) 0 l)) (passing_erased (is_entry_element name) (is_entry_element name) (entry_erased name) 0 xs)

-- ---- a dictionary

entries_erased : (e : Expression Span) → entries (erase_expression e) ≡ option_map (map erase_argument) (entries e)
entries_erased (dictionary l) = ap Some (erased_elements l)
entries_erased _ = refl

key_erased : (x : Argument Span) → key_text (erase_argument x) ≡ key_text x
key_erased (plain e) = refl
key_erased (named s x e) = refl
key_erased (pair s e f) = text_erased element.Text e

keys_erased : (xs : List (Argument Span)) → keys_known (map erase_argument xs) ≡ keys_known xs
keys_erased [] = refl
keys_erased (x ∷ xs) = ap (λ o. is_some o && keys_known (map erase_argument xs)) (key_erased x) ∙ ap (λ b. is_some (key_text x) && b) (keys_erased xs)

has_erased : (name : List ℕ) (x : Argument Span) → has_key name (erase_argument x) ≡ has_key name x
has_erased name x = ap (calls.is name) (key_erased x)

value_erased : (c : CallRef) (n : ℕ) (name value : List ℕ) (e : Expression Span) (o : Option (List (Argument Span)))
    → set_by_value c n name value (erase_expression e) (option_map (map erase_argument) o) ≡ set_by_value c n name value e o
value_erased c n name value e None =
    let entry = option_text name value in
    by_shape (set_by_shape c n name entry) (set_by_shape c n name entry) (option_erased c n name entry) element.Text e
value_erased c n name value e (Some xs) =
    ap (λ b. of_list b (set_in_dictionary (child c n) (length (map erase_argument xs)) name value (passing (has_key name) 0 (map erase_argument xs)))) (keys_erased xs)
    ∙ ap (λ m. of_list (keys_known xs) (set_in_dictionary (child c n) m name value (passing (has_key name) 0 (map erase_argument xs)))) (many_erased xs)
    ∙ ap (λ l. of_list (keys_known xs) (set_in_dictionary (child c n) (length xs) name value l)) (passing_erased (has_key name) (has_key name) (has_erased name) 0 xs)

value_gone_erased : (c : CallRef) (n : ℕ) (name : List ℕ) (e : Expression Span) (o : Option (List (Argument Span))) → delete_by_value c n name (erase_expression e) (option_map (map erase_argument) o) ≡ delete_by_value c n name e o
value_gone_erased c n name e None = by_shape (delete_by_shape c n name) (delete_by_shape c n name) (option_gone_erased c n name) element.Text e
value_gone_erased c n name e (Some xs) =
    ap (λ b. of_list b (removed_from (child c n) 0 (passing (has_key name) 0 (map erase_argument xs)))) (keys_erased xs)
    ∙ ap (λ l. of_list (keys_known xs) (removed_from (child c n) 0 l)) (passing_erased (has_key name) (has_key name) (has_erased name) 0 xs)

-- ---- tasks

pub steps_erased : (t : Task) (c : CallRef) (xs : List (Argument Span)) → task_steps t c (map erase_argument xs) ≡ task_steps t c xs
steps_erased (set key new) c xs = by_value key xs _ _ (ap (λ m. Ok (behind_all c m (written_named key new) ∷ [])) (many_erased xs)) (λ v. refl)
steps_erased (delete key) c xs = by_value key xs _ _ refl (λ v. refl)
steps_erased (add key k values) c xs =
    by_value key xs _ _ (ap (λ m. Ok (behind_all c m (written_named key (written_list k values)) ∷ [])) (many_erased xs))
    (λ v. by_shape (add_by_shape c v.number key k values) (add_by_shape c v.number key k values) (added_erased c v.number key k values) k v.value)
steps_erased (remove key k value) c xs =
    by_value key xs _ _ refl (λ v. by_shape (remove_by_shape c v.number key k value) (remove_by_shape c v.number key k value) (removed_erased c v.number key k value) k v.value)
steps_erased (once key) c xs = by_value key xs _ _ refl (λ v. refl)
steps_erased (set_option name value) c xs =
    let entry = option_text name value in
    by_value options_key xs _ _ (ap (λ m. Ok (behind_all c m (written_named options_key (written_list element.Text (entry ∷ []))) ∷ [])) (many_erased xs))
    (λ v. ap (set_by_value c v.number name value (erase_expression v.value)) (entries_erased v.value) ∙ value_erased c v.number name value v.value (entries v.value))
steps_erased (delete_option name) c xs =
    by_value options_key xs _ _ refl (λ v. ap (delete_by_value c v.number name (erase_expression v.value)) (entries_erased v.value) ∙ value_gone_erased c v.number name v.value (entries v.value))
