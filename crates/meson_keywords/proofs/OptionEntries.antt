-- Entries of default options: what a new one says, and the entries with it.
use Rattle.meson_keywords.proofs.Words.{◌≡◌, ℕ, true, false, List, [], ◌∷◌, ◌++◌, codes, Option, Some, None, refl, sym, ap, ap₂, ◌∙◌, Bool, ◌==◌, cond}
use Rattle.meson_keywords.proofs.Words.{if◌then◌else◌, is_some, map, not, option_and_then, option_map, filter, filter-append, bytes_eq-Decides, literal_value}
use Rattle.meson_keywords.proofs.Words.{Nowhere, Argument, plain, named, pair, with_value, string_of, after_equals, is_of, value_of_option, all_of_kind}
use Rattle.meson_keywords.proofs.Words.{element_text, passing, key_text, keys_known, option_text, before_equals}
use Rattle.std.proofs.Common.{append-nil, IsUtf8}
use Rattle.std.specs.Char.{encode_utf8}
use Rattle.meson_calls.specs.Calls as calls
use Rattle.meson_keywords.specs.declared.value_kinds.ElementKind.TheVariants as element
use Rattle.meson_keywords.proofs.PassingElements.{FirstPasses, none_left, kept_again, none_pass, rest_known}

-- ---- a text NAME=VALUE, where no `=` stands in the name

equals : codes "=" ≡ 61 ∷ []
unfolding encode_utf8
equals = refl

none_mapped : (b : ℕ) (o : Option (List ℕ)) → option_map (λ front. b ∷ front) o ≡ None → o ≡ None
none_mapped b None is = refl
none_mapped b (Some x) is = absurd cc

module _ (value : List ℕ) where
  before_by : (b : ℕ) (bs : List ℕ) (t : Bool) → (if t then Some [] else option_map (λ front. b ∷ front) (before_equals bs)) ≡ None → (before_equals bs ≡ None → before_equals (bs ++ 61 ∷ value) ≡ Some bs)
      → (if t then Some [] else option_map (λ front. b ∷ front) (before_equals (bs ++ 61 ∷ value))) ≡ Some (b ∷ bs)
  before_by b bs true none later = absurd cc
  before_by b bs false none later = ap (option_map (λ front. b ∷ front)) (later (none_mapped b (before_equals bs) none))

  before_there : (name : List ℕ) → before_equals name ≡ None → before_equals (name ++ 61 ∷ value) ≡ Some name
  before_there [] none = refl
  before_there (b ∷ bs) none = before_by b bs (b == 61) none (λ h. before_there bs h)

  after_by : (b : ℕ) (bs : List ℕ) (t : Bool) → (if t then Some [] else option_map (λ front. b ∷ front) (before_equals bs)) ≡ None → (before_equals bs ≡ None → after_equals (bs ++ 61 ∷ value) ≡ Some value)
      → (if t then Some (bs ++ 61 ∷ value) else after_equals (bs ++ 61 ∷ value)) ≡ Some value
  after_by b bs true none later = absurd cc
  after_by b bs false none later = later (none_mapped b (before_equals bs) none)

  after_there : (name : List ℕ) → before_equals name ≡ None → after_equals (name ++ 61 ∷ value) ≡ Some value
  after_there [] none = refl
  after_there (b ∷ bs) none = after_by b bs (b == 61) none (λ h. after_there bs h)

-- ---- a new entry

-- It is of the option, with this value.
pub record NewEntry (name text : List ℕ) (x : Argument Nowhere) : Type 0 where
  pub is : is_of name x ≡ true
  pub value : value_of_option x ≡ Some text

same_name : (name : List ℕ) → calls.is name (Some name) ≡ true
same_name name = (bytes_eq-Decides name name).1 refl

pub new_entry : (name value : List ℕ) → IsUtf8 (option_text name value) → before_equals name ≡ None → NewEntry name value (plain (string_of (option_text name value)))
new_entry name value utf8 bare_name =
    let reads = literal_value (option_text name value) utf8 in
    let whole : option_text name value ≡ name ++ 61 ∷ value = ap (λ l. name ++ (l ++ value)) equals in
    record {
      is = ap (λ o. calls.is name (option_and_then before_equals o)) reads ∙ ap (λ t. calls.is name (before_equals t)) whole ∙ ap (calls.is name) (before_there value name bare_name) ∙ same_name name;
      value = ap (option_and_then after_equals) reads ∙ ap after_equals whole ∙ after_there value name bare_name;
    }

pub new_pair : (name value : List ℕ) → IsUtf8 name → IsUtf8 value → NewEntry name value (pair tt (string_of name) (string_of value))
new_pair name value name_utf8 value_utf8 =
    record { is = ap (calls.is name) (literal_value name name_utf8) ∙ same_name name; value = literal_value value value_utf8 }

-- an element that has another value, among known ones
pub known_plain : (name value : List ℕ) (front : List (Argument Nowhere)) (x : Argument Nowhere) (back : List (Argument Nowhere)) → all_of_kind element.Text (front ++ x ∷ back) ≡ true
    → (entry : List ℕ) → NewEntry name value (plain (string_of entry)) → NewEntry name value (with_value (string_of entry) x)
known_plain name value [] (plain e) back known entry new = new
known_plain name value [] (named s x e) back known entry new = absurd cc
known_plain name value [] (pair s e f) back known entry new = absurd cc
known_plain name value (y ∷ front) x back known entry new =
    known_plain name value front x back (rest_known name (is_some (element_text element.Text y)) (all_of_kind element.Text (front ++ x ∷ back)) known) entry new

pub known_pair : (name value : List ℕ) → IsUtf8 value → (front : List (Argument Nowhere)) (x : Argument Nowhere) (back : List (Argument Nowhere)) → keys_known (front ++ x ∷ back) ≡ true → is_of name x ≡ true
    → NewEntry name value (with_value (string_of value) x)
known_pair name value utf8 [] (plain e) back known is = absurd cc
known_pair name value utf8 [] (named s x e) back known is = absurd cc
known_pair name value utf8 [] (pair s e f) back known is = record { is = is; value = literal_value value utf8 }
known_pair name value utf8 (y ∷ front) x back known is =
    known_pair name value utf8 front x back (rest_known name (is_some (key_text y)) (keys_known (front ++ x ∷ back)) known) is

-- ---- the entries with a new one

-- The option has this value, and the other entries stay.
pub record EntrySet (name value : List ℕ) (before after : List (Argument Nowhere)) : Type 0 where
  pub values : map value_of_option (filter (is_of name) after) ≡ Some value ∷ []
  pub others : filter (λ x. not (is_of name x)) after ≡ filter (λ x. not (is_of name x)) before

module _ (name value : List ℕ) where
  abbrev test : Argument Nowhere → Bool
  test = is_of name

  abbrev kept : List (Argument Nowhere) → List (Argument Nowhere)
  kept ys = filter (λ x. not (test x)) ys

  module _ (new : Argument Nowhere) (n : NewEntry name value new) where
    -- among those before and behind it none is of the option
    among : (front back : List (Argument Nowhere)) → filter test front ≡ [] → filter test back ≡ [] → map value_of_option (filter test (front ++ new ∷ back)) ≡ Some value ∷ []
    among front back before behind =
        ap (map value_of_option) (filter-append test front (new ∷ back) ∙ ap₂ (λ l t. l ++ cond t (new ∷ filter test back) (filter test back)) before n.is ∙ ap (λ l. new ∷ l) behind) ∙ ap (λ v. v ∷ []) n.value

    kept_around : (front back : List (Argument Nowhere)) (x : Argument Nowhere) → test x ≡ true → kept (front ++ x ∷ back) ≡ kept front ++ kept back
    kept_around front back x is = filter-append (λ y. not (test y)) front (x ∷ back) ∙ ap (λ t. kept front ++ cond (not t) (x ∷ kept back) (kept back)) is

  -- behind entries of other options
  pub behind_set : (ys : List (Argument Nowhere)) (new : Argument Nowhere) → passing test 0 ys ≡ [] → NewEntry name value new → EntrySet name value ys (ys ++ new ∷ [])
  behind_set ys new none n =
      let others = none_pass test ys 0 none in
      record { values = among new n ys [] others.0 refl; others = kept_around new n ys [] new n.is ∙ append-nil (kept ys) }

  -- in the place of the first one
  pub first_put : (ys : List (Argument Nowhere)) (m : ℕ) (more : List ℕ) (f : FirstPasses test ys 0 m more) (new : Argument Nowhere) → NewEntry name value new → EntrySet name value ys (f.front ++ new ∷ kept f.back)
  first_put ys m more f new n = record {
    values = among new n f.front (kept f.back) f.before (none_left test f.back);
    others = kept_around new n f.front (kept f.back) new n.is ∙ ap (λ l. kept f.front ++ l) (kept_again test f.back) ∙ sym (ap kept f.joined ∙ kept_around new n f.front f.back f.it f.passes);
  }

  -- in the place of a lone one
  pub lone_put : (bs : List (Argument Nowhere)) (old new : Argument Nowhere) → bs ≡ old ∷ [] → test old ≡ true → NewEntry name value new → EntrySet name value bs (new ∷ [])
  lone_put bs old new is was n = record {
    values = among new n [] [] refl refl;
    others = kept_around new n [] [] new n.is ∙ sym (ap kept is ∙ kept_around new n [] [] old was);
  }
