-- Names that are sought among the marks of a target: found, or refused since no mark has them.
use Rattle.std.proofs.Common.{◌≡◌, ℕ, true, false, List, [], ◌∷◌, ◌++◌, map, Option, Some, None, refl, sym, ap, ◌∙◌}
use Rattle.std.specs.Prelude.{Bool, Result, Ok, Err, cond, not, ◌||◌, ◌⊎◌, bytes_eq, find, if◌then◌else◌, ok_or}
use Rattle.std.specs.List.{filter, list_any}
use Rattle.std.proofs.Common.{inl, inr}
use Rattle.meson_lex.specs.declared.kinds.Span.{Span}
use Rattle.meson_splice.specs.Patch.{then_ok}
use Rattle.meson_calls.specs.Roles.{one_of}
use Rattle.meson_calls.specs.declared.refusal.Refusal.{Refusal}
use Rattle.meson_calls.specs.declared.refusal.Refusal.TheVariants as refusal
use Rattle.meson_sources.specs.SourceEdits.{Spot, has_text, is_known, items_of, none_found, removed_at, spots_by, spots_named, spots_of}
use Rattle.meson_steps.specs.Names.{distinct_by}
use Rattle.meson_variables.specs.Expansion.{Item, Mark}
use Rattle.meson_variables.specs.TargetSources.{items, opaque_count, source_item}
use Rattle.meson_explaining.specs.Followed.{is_gone}
use Rattle.meson_explaining.specs.Sources.{has}
use Rattle.meson_explaining.proofs.NameReasons.{Free, Reached, after, or_free}

pub split : {A B : Type 0} (r : Result A Refusal) (f : A → Result B Refusal) (why : Refusal) → then_ok r f ≡ Err why → (r ≡ Err why) ⊎ Reached r f why
split (Ok x) f why is = inr (record { value = x; is = refl; rest = is })
split (Err e) f why is = inl (let same : e ≡ why = cc in ap (λ x. Err x) same)

-- ---- the items that are reported have the names of the marks' items

pub same_names_had : (is : List (Item Span)) (name : List ℕ) → has (map source_item is) name ≡ list_any (has_text name) is
same_names_had [] name = refl
same_names_had (i ∷ is) name = ap (λ b. bytes_eq i.text name || b) (same_names_had is name)

-- ---- one name

module _ {S : Type 0} (t : Item S → Bool) where
  some_pass : (n : ℕ) (is : List (Item S)) → list_any t is ≡ true → Free is_gone (spots_by n (filter t is))
  some_pass n [] some = absurd (let no : ⊥ = cc in no)
  some_pass n (i ∷ is) some = go (t i) some (some_pass n is)
    where
      go : (b : Bool) → b || list_any t is ≡ true → (list_any t is ≡ true → Free is_gone (spots_by n (filter t is))) → Free is_gone (spots_by n (cond b (i ∷ filter t is) (filter t is)))
      go true e later = or_free is_gone (spots_of (i ∷ filter t is)) refusal.NotRemovable refl
      go false e later = later e

  none_pass : (is : List (Item S)) → list_any t is ≡ false → filter t is ≡ []
  none_pass [] none = refl
  none_pass (i ∷ is) none = go (t i) none (none_pass is)
    where
      go : (b : Bool) → b || list_any t is ≡ false → (list_any t is ≡ false → filter t is ≡ []) → cond b (i ∷ filter t is) (filter t is) ≡ []
      go true e later = absurd (let no : ⊥ = cc in no)
      go false e later = later e

by_reason : {S : Type 0} (n : ℕ) (is : List (Item S)) (why : Refusal) → is_gone why ≡ true → spots_by n is ≡ Err why → why ≡ none_found n
by_reason n [] why gone e = let same : none_found n ≡ why = cc in sym same
by_reason n (i ∷ more) why gone e = go (spots_of (i ∷ more)) e
  where
    go : (o : Option (List Spot)) → ok_or o refusal.NotRemovable ≡ Err why → why ≡ none_found n
    go None f = absurd (let same : refusal.NotRemovable ≡ why = cc in let no : is_gone refusal.NotRemovable ≡ true = ap is_gone same ∙ gone in let never : ⊥ = cc in never)
    go (Some spots) f = absurd (let no : ⊥ = cc in no)

-- ---- all names

module _ {S : Type 0} (marks : List (Mark S)) where
  abbrev pub is_lost : List ℕ → Bool
  is_lost name = not (is_known marks name)

  known : (name : List ℕ) → is_lost name ≡ false → is_known marks name ≡ true
  known name found = go (is_known marks name) found
    where
      go : (b : Bool) → not b ≡ false → b ≡ true
      go true e = refl
      go false e = absurd (let no : ⊥ = cc in no)

  unknown : (name : List ℕ) → is_lost name ≡ true → is_known marks name ≡ false
  unknown name lost = go (is_known marks name) lost
    where
      go : (b : Bool) → not b ≡ true → b ≡ false
      go true e = absurd (let no : ⊥ = cc in no)
      go false e = refl

  pub spots_found : (seen names : List (List ℕ)) → find is_lost names ≡ None → Free is_gone (spots_named marks (distinct_by seen names))
  spots_found seen [] none = tt
  spots_found seen (x ∷ xs) none = go (is_lost x) refl none (λ before. spots_found before xs)
    where
      later : (b : Bool) → is_lost x ≡ false → ((before : List (List ℕ)) → Free is_gone (spots_named marks (distinct_by before xs)))
          → Free is_gone (spots_named marks (if b then distinct_by seen xs else x ∷ distinct_by (x ∷ seen) xs))
      later true found more = more seen
      later false found more =
          after is_gone (spots_by (opaque_count marks) (items_of x marks)) _ (some_pass (has_text x) (opaque_count marks) (items marks) (known x found))
          (λ here. after is_gone (spots_named marks (distinct_by (x ∷ seen) xs)) (λ others. Ok (here ++ others)) (more (x ∷ seen)) (λ others. tt))

      go : (b : Bool) → is_lost x ≡ b → cond b (Some x) (find is_lost xs) ≡ None → ((before : List (List ℕ)) → find is_lost xs ≡ None → Free is_gone (spots_named marks (distinct_by before xs)))
          → Free is_gone (spots_named marks (distinct_by seen (x ∷ xs)))
      go true is e more = absurd (let no : ⊥ = cc in no)
      go false is e more = later (one_of seen x) is (λ before. more before e)

  pub spots_lost : (name : List ℕ) → is_lost name ≡ true → spots_named marks (name ∷ []) ≡ Err (none_found (opaque_count marks))
  spots_lost name lost =
      ap (λ is. then_ok (spots_by (opaque_count marks) is) (λ here. then_ok (spots_named marks []) (λ later. Ok (here ++ later)))) (none_pass (has_text name) (items marks) (unknown name lost))

  spots_reason : (names : List (List ℕ)) (why : Refusal) → is_gone why ≡ true → spots_named marks names ≡ Err why → why ≡ none_found (opaque_count marks)
  spots_reason [] why gone e = absurd (let no : ⊥ = cc in no)
  spots_reason (x ∷ xs) why gone e =
      go (spots_reason xs why gone) (split (spots_by (opaque_count marks) (items_of x marks)) (λ here. then_ok (spots_named marks xs) (λ later. Ok (here ++ later))) why e)
    where
      further : (here : List Spot) → (spots_named marks xs ≡ Err why → why ≡ none_found (opaque_count marks)) → (spots_named marks xs ≡ Err why) ⊎ Reached (spots_named marks xs) (λ later. Ok (here ++ later)) why
          → why ≡ none_found (opaque_count marks)
      further here more (inl f) = more f
      further here more (inr f) = absurd (let not_so = f.rest in let no : ⊥ = cc in no)

      go : (spots_named marks xs ≡ Err why → why ≡ none_found (opaque_count marks)) → (spots_by (opaque_count marks) (items_of x marks) ≡ Err why) ⊎ Reached (spots_by (opaque_count marks) (items_of x marks)) (λ here. then_ok (spots_named marks xs) (λ later. Ok (here ++ later))) why
          → why ≡ none_found (opaque_count marks)
      go more (inl f) = by_reason (opaque_count marks) (items_of x marks) why gone f
      go more (inr f) = further f.value more (split (spots_named marks xs) (λ later. Ok (f.value ++ later)) why f.rest)

  pub removal_reason : (names : List (List ℕ)) (why : Refusal) → is_gone why ≡ true → removed_at (spots_named marks names) ≡ Err why → why ≡ none_found (opaque_count marks)
  removal_reason names why gone e = go (spots_named marks names) refl e
    where
      go : (r : Result (List Spot) Refusal) → spots_named marks names ≡ r → removed_at r ≡ Err why → why ≡ none_found (opaque_count marks)
      go (Ok spots) is f = absurd (let no : ⊥ = cc in no)
      go (Err why') is f = let same : why' ≡ why = cc in spots_reason names why gone (is ∙ ap (λ x. Err x) same)
