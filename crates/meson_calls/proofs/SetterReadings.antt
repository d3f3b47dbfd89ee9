-- What is read off notes of setters alone is what is read off all notes, where the others tell nothing.
use Rattle.meson_calls.proofs.Words.{Bor, false, ◌||◌, if◌then◌else◌, ◌≡◌, ℕ, ◌+◌, List, [], ◌∷◌, ◌++◌, Bool, true, refl, sym, ap, ap₂, ◌∙◌, subst, File, Span}
use Rattle.meson_calls.proofs.Words.{view, Parsed, named_trees, views, Note, noted, notes, parts_of_file, Placed, AreSetters, NoCallSets, any_sets_by_call}
use Rattle.meson_calls.proofs.Words.{is_setter, notes_asked, sets_by_call, setters_in, NotesGood}
use Rattle.meson_calls.proofs.NoteReadings.{Gathers, Notes, notes_after, notes_from}
use Rattle.meson_calls.proofs.NotesWith.{good_join, good_left, good_right}

pub neither : (a b : Bool) → (a || b) ≡ false → (a ≡ false) × (b ≡ false)
neither true b is = absurd cc
neither false b is = (refl, is)

module _ (names : List (Bor (List ℕ))) where
  -- it reads nothing off a note of no setter
  abbrev pub ReadsSetters : {X : Type 0} → (Notes → X) → X → Type 0
  ReadsSetters read nothing = (n : Placed (Note Span)) → sets_by_call n.it ≡ false → is_setter names n.it ≡ false → read (n ∷ []) ≡ nothing

  module _ {X : Type 0} (read : Notes → X) (join : X → X → X) (nothing : X) (gathers : Gathers read join nothing) (alone : ReadsSetters read nothing) where
    few_read : (ns : Notes) → any_sets_by_call ns ≡ false → read (setters_in names ns) ≡ read ns
    few_read [] none = refl
    few_read (n ∷ ns) none = go (is_setter names n.it) refl (few_read ns (neither (sets_by_call n.it) (any_sets_by_call ns) none).1)
      where
        go : (b : Bool) → is_setter names n.it ≡ b → read (setters_in names ns) ≡ read ns → read (if b then n ∷ setters_in names ns else setters_in names ns) ≡ read (n ∷ ns)
        go true is same = gathers.joins (n ∷ []) (setters_in names ns) ∙ ap (join (read (n ∷ []))) same ∙ sym (gathers.joins (n ∷ []) ns)
        go false is same =
            let here = alone n (neither (sets_by_call n.it) (any_sets_by_call ns) none).0 is in
            same ∙ sym (gathers.joins (n ∷ []) ns ∙ ap (λ x. join x (read ns)) here ∙ gathers.unit (read ns))

    asked_read : (n : ℕ) (f : File) (t : Parsed) (all : Bool) → (all ≡ false → NoCallSets n f.bytes t) → read (notes_asked names all n f.bytes t) ≡ read (noted (parts_of_file n (view f.bytes t)))
    asked_read n f t true few = refl
    asked_read n f t false few = few_read (noted (parts_of_file n (view f.bytes t))) (few refl)

    pub setters_read : (n : ℕ) (files : List File) (parsed : List Parsed) (ns : Notes) → AreSetters names n files parsed ns → read ns ≡ read (notes_from n files parsed)
    setters_read n [] parsed ns are = ap read are
    setters_read n (f ∷ files) [] ns are = ap read are
    setters_read n (f ∷ files) (t ∷ parsed) ns are =
        ap read are.are ∙ gathers.joins (notes_asked names are.all n f.bytes t) are.more
        ∙ ap₂ join (asked_read n f t are.all are.few) (setters_read (n + 1) files parsed are.more are.further)
        ∙ sym (ap read (notes_after n f t files parsed) ∙ gathers.joins (noted (parts_of_file n (view f.bytes t))) (notes_from (n + 1) files parsed))

  -- ---- good notes

  good_few : (ns : Notes) → NotesGood ns → NotesGood (setters_in names ns)
  good_few [] good = tt
  good_few (n ∷ ns) good = go (is_setter names n.it) (good_few ns good.1)
    where
      go : (b : Bool) → NotesGood (setters_in names ns) → NotesGood (if b then n ∷ setters_in names ns else setters_in names ns)
      go true rest = (good.0, rest)
      go false rest = rest

  good_asked : (n : ℕ) (f : File) (t : Parsed) (all : Bool) → NotesGood (noted (parts_of_file n (view f.bytes t))) → NotesGood (notes_asked names all n f.bytes t)
  good_asked n f t true good = good
  good_asked n f t false good = good_few (noted (parts_of_file n (view f.bytes t))) good

  good_from : (n : ℕ) (files : List File) (parsed : List Parsed) (ns : Notes) → NotesGood (notes_from n files parsed) → AreSetters names n files parsed ns → NotesGood ns
  good_from n [] parsed ns good are = subst NotesGood (sym are) tt
  good_from n (f ∷ files) [] ns good are = subst NotesGood (sym are) tt
  good_from n (f ∷ files) (t ∷ parsed) ns good are =
      let here = noted (parts_of_file n (view f.bytes t)) in
      let rest = notes_from (n + 1) files parsed in
      let all : NotesGood (here ++ rest) = subst NotesGood (notes_after n f t files parsed) good in
      subst NotesGood (sym are.are)
      (good_join (notes_asked names are.all n f.bytes t) are.more (good_asked n f t are.all (good_left here rest all)) (good_from (n + 1) files parsed are.more (good_right here rest all) are.further))

  pub setters_good : (files : List File) (parsed : List Parsed) (ns : Notes) → NotesGood (notes (named_trees files (views files parsed))) → AreSetters names 0 files parsed ns → NotesGood ns
  setters_good files parsed ns good are = good_from 0 files parsed ns good are
