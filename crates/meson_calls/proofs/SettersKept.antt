-- What is kept of files: whether a call in them sets variables, and else their assignments.
use Rattle.meson_calls.proofs.Words.{Bor, false, ◌||◌, bytes_eq, codes, set, IsTrue, MatchOption, ⊤, ◌≡◌, ℕ, ◌+◌, ◌<◌, ◌≤◌, List, [], ◌∷◌, length, get_or, refl}
use Rattle.meson_calls.proofs.Words.{sym, ap, ◌∙◌, subst, inl, inr, arith, Option, Some, None, cases_eq, get_or_default, get_or-set_same, get_or-set_other}
use Rattle.meson_calls.proofs.Words.{length-set, bytes_at, File, Span, IsSpanned, view, Parsed, Note, a_call, an_assignment, a_loop, noted, parts_of_file}
use Rattle.meson_calls.proofs.Words.{Placed, AreKept, IsKept, NoCallSets, any_sets_by_call, is_known, sets_by_call, HasNoneOf, setter_words, Unknown}
use Rattle.meson_calls.specs.declared.kept.Kept.{Kept}
use Rattle.meson_calls.proofs.NotesWith.{first_word, further_words}
use Rattle.meson_calls.proofs.Spelled.{differs}
use Rattle.meson_calls.proofs.StandingNotes.{NoteStands, NotesStand, notes_stand}

-- ---- bytes in which neither word stands

module _ (bytes : List ℕ) (none : HasNoneOf setter_words bytes) where
  sets_none : (n : Note Span) → NoteStands bytes n → sets_by_call n ≡ false
  sets_none (a_call c) stands =
      ap (λ b. b || bytes_eq c.function (codes "set_variable")) (differs (codes "subdir") bytes c.function (first_word bytes (codes "subdir") (codes "set_variable" ∷ []) none) stands.function)
      ∙ differs (codes "set_variable") bytes c.function (first_word bytes (codes "set_variable") [] (further_words bytes (codes "subdir") (codes "set_variable" ∷ []) none)) stands.function
  sets_none (an_assignment x sets e) stands = refl
  sets_none (a_loop xs) stands = refl

  none_sets : (ns : List (Placed (Note Span))) → NotesStand bytes ns → any_sets_by_call ns ≡ false
  none_sets [] stand = refl
  none_sets (n ∷ ns) stand = ap (λ b. b || any_sets_by_call ns) (sets_none n.it stand.0) ∙ none_sets ns stand.1

pub no_call_sets : (n : ℕ) (bytes : List ℕ) (t : Parsed) → IsSpanned bytes (view bytes t) → HasNoneOf setter_words bytes → NoCallSets n bytes t
no_call_sets n bytes t spanned none = none_sets bytes none (noted (parts_of_file n (view bytes t))) (notes_stand n bytes (view bytes t) spanned)

-- ---- entries

pub entry_kept : (kept : List Kept) (files : List File) (trees : List Parsed) (i : ℕ) (d : Parsed) → AreKept kept files trees → (e : Option (Bor Kept)) → MatchOption e ⊤ (λ k. get_or kept i Unknown ≡ k.now)
    → MatchOption e ⊤ (λ k. IsKept k.now (parts_of_file i (view (bytes_at i files) (get_or trees i d))))
entry_kept kept files trees i d are None is = is
entry_kept kept files trees i d are (Some k) is = subst (λ x. IsKept x (parts_of_file i (view (bytes_at i files) (get_or trees i d)))) is (are i d)

module _ (kept : List Kept) (i : ℕ) (e : Kept) (within : i < length kept) where
  -- one more is kept
  kept_more : (files : List File) (trees : List Parsed) → AreKept kept files trees → ((d : Parsed) → IsKept e (parts_of_file i (view (bytes_at i files) (get_or trees i d)))) → AreKept (set kept i e) files trees
  kept_more files trees are here = λ j d. elim (cases_eq j i) [
    | inl same ↦
        subst (λ k. IsKept (get_or (set kept i e) k Unknown) (parts_of_file k (view (bytes_at k files) (get_or trees k d)))) (sym same)
        (subst (λ x. IsKept x (parts_of_file i (view (bytes_at i files) (get_or trees i d)))) (sym (get_or-set_same kept i e Unknown within)) (here d))
    | inr other ↦ subst (λ x. IsKept x (parts_of_file j (view (bytes_at j files) (get_or trees j d)))) (sym (get_or-set_other kept i j e Unknown other)) (are j d)
  ]

  -- one more is known
  known_more : ((k : ℕ) → k < i → IsTrue (is_known (get_or kept k Unknown))) → IsTrue (is_known e) → (k : ℕ) → k < i + 1 → IsTrue (is_known (get_or (set kept i e) k Unknown))
  known_more before here k below = elim (cases_eq k i) [
    | inl same ↦ subst (λ x. IsTrue (is_known x)) (sym (ap (λ j. get_or (set kept i e) j Unknown) same ∙ get_or-set_same kept i e Unknown within)) here
    | inr other ↦ let less : k < i = omega arith in subst (λ x. IsTrue (is_known x)) (sym (get_or-set_other kept i k e Unknown other)) (before k less)
  ]

-- what is kept of files is so, and it is known of the first n
pub record KeptUpTo (n : ℕ) (files : List File) (trees : List Parsed) (kept : List Kept) : Type 0 where
  pub are : AreKept kept files trees
  pub known : (k : ℕ) → k < n → IsTrue (is_known (get_or kept k Unknown))
  pub room : length trees ≤ length kept

module _ (files : List File) (trees : List Parsed) (i : ℕ) (kept : List Kept) (within : i < length trees) (before : KeptUpTo i files trees kept) where
  inside : i < length kept
  inside = omega (arith, within, before.room)

  pub next_read : (t : Parsed) → t ≡ get_or trees i t → (e : Kept) → IsTrue (is_known e) → IsKept e (parts_of_file i (view (bytes_at i files) t)) → KeptUpTo (i + 1) files trees (set kept i e)
  next_read t is e known here = record {
    are = kept_more kept i e inside files trees before.are (λ d. subst (λ u. IsKept e (parts_of_file i (view (bytes_at i files) u))) (is ∙ get_or_default trees i t d within) here);
    known = known_more kept i e inside before.known known;
    room = omega (arith, length-set kept i e, before.room);
  }

  pub next_known : (e : Kept) → e ≡ get_or kept i e → IsTrue (is_known e) → KeptUpTo (i + 1) files trees kept
  next_known e same known = record {
    are = before.are;
    known = λ k below. elim (cases_eq k i) [
      | inl here ↦ subst (λ x. IsTrue (is_known x)) (same ∙ get_or_default kept i e Unknown inside ∙ ap (λ j. get_or kept j Unknown) (sym here)) known
      | inr other ↦ let less : k < i = omega arith in before.known k less
    ];
    room = before.room;
  }
