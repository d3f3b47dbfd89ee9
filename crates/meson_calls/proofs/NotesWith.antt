-- What is read off notes without the files in which none of some words stands is what is read off all notes.
use Rattle.meson_calls.proofs.Words.{codes, if◌then◌else◌, ◌≡◌, ℕ, ◌+◌, List, [], ◌∷◌, ◌++◌, sym, ap, ap₂, subst, All-head, All-tail, then_ok, File, view}
use Rattle.meson_calls.proofs.Words.{Parsed, assigned_places, found_places, named_places, places_within, Option, note_has_name, note_has_role, note_sets_call, places_that, places_with_role}
use Rattle.meson_calls.proofs.Words.{only_one, AreParsed, named_trees, views, or_else, project_ids, noted, notes, any_place, parts_of_file, child, one_of}
use Rattle.meson_calls.proofs.Words.{HasNone, HasNoneOf, AreNotesOf, whole, passed, AreNotesWith, sought_words, NotesGood, Role}
use Rattle.meson_calls.specs.declared.call.Role.TheVariants as role
use Rattle.meson_calls.specs.OnePlace.{place_within}
use Rattle.meson_calls.proofs.NoteReadings.{Notes, notes_from, notes_after, same_read, picked_gathers, none_picked}
use Rattle.meson_calls.proofs.NothingRead.{names_nothing, no_project, value_unnamed}

-- ---- good notes

pub good_left : (xs ys : Notes) → NotesGood (xs ++ ys) → NotesGood xs
good_left [] ys good = tt
good_left (x ∷ xs) ys good = (good.0, good_left xs ys good.1)

pub good_right : (xs ys : Notes) → NotesGood (xs ++ ys) → NotesGood ys
good_right [] ys good = good
good_right (x ∷ xs) ys good = good_right xs ys good.1

pub good_join : (xs ys : Notes) → NotesGood xs → NotesGood ys → NotesGood (xs ++ ys)
good_join [] ys a b = b
good_join (x ∷ xs) ys a b = (a.0, good_join xs ys a.1 b)

module _ (words : List (List ℕ)) where
  good_step : (n : ℕ) (f : File) (t : Parsed) (Further : Notes → Type 0) (ns : Notes) → NotesGood (noted (parts_of_file n (view f.bytes t))) → ((more : Notes) → Further more → NotesGood more)
      → AreNotesOf words n f t Further ns → NotesGood ns
  good_step n f t Further ns good rest (whole more further is) = subst NotesGood (sym is) (good_join (noted (parts_of_file n (view f.bytes t))) more good (rest more further))
  good_step n f t Further ns good rest (passed none further) = rest ns further

  good_from : (n : ℕ) (files : List File) (parsed : List Parsed) (ns : Notes) → NotesGood (notes_from n files parsed) → AreNotesWith words n files parsed ns → NotesGood ns
  good_from n [] parsed ns good are = subst NotesGood (sym are) tt
  good_from n (f ∷ files) [] ns good are = subst NotesGood (sym are) tt
  good_from n (f ∷ files) (t ∷ parsed) ns good are =
      let here = noted (parts_of_file n (view f.bytes t)) in
      let rest = notes_from (n + 1) files parsed in
      let all : NotesGood (here ++ rest) = subst NotesGood (notes_after n f t files parsed) good in
      good_step n f t (AreNotesWith words (n + 1) files parsed) ns (good_left here rest all) (λ more further. good_from (n + 1) files parsed more (good_right here rest all) further) are

  pub good_with : (files : List File) (parsed : List Parsed) (ns : Notes) → NotesGood (notes (named_trees files (views files parsed))) → AreNotesWith words 0 files parsed ns → NotesGood ns
  good_with files parsed ns good are = good_from 0 files parsed ns good are

-- ---- words of a list

pub first_word : (bytes w : List ℕ) (ws : List (List ℕ)) → HasNoneOf (w ∷ ws) bytes → HasNone w bytes
first_word bytes w ws none = All-head (λ word. HasNone word bytes) w ws none

pub further_words : (bytes w : List ℕ) (ws : List (List ℕ)) → HasNoneOf (w ∷ ws) bytes → HasNoneOf ws bytes
further_words bytes w ws none = All-tail (λ word. HasNone word bytes) w ws none

-- ---- what an id names

module _ (r : Role) (id : List ℕ) (files : List File) (parsed : List Parsed) (ns : Notes) (parses : AreParsed files parsed) where
  module _ (are : AreNotesWith (id ∷ (92 ∷ []) ∷ []) 0 files parsed ns) where
    pub same_named : places_that (note_has_name r id) ns ≡ places_that (note_has_name r id) (notes (named_trees files (views files parsed)))
    same_named =
        same_read (id ∷ (92 ∷ []) ∷ []) (places_that (note_has_name r id)) (λ a b. a ++ b) [] (picked_gathers (λ m. m.place) (λ m. note_has_name r id m.it))
        (λ bytes none n stands.
        none_picked (λ k. k.place) (λ k. note_has_name r id k.it) n
        (names_nothing bytes r id (first_word bytes id ((92 ∷ []) ∷ []) none) (first_word bytes (92 ∷ []) [] (further_words bytes id ((92 ∷ []) ∷ []) none)) n.it stands))
        0 files parsed ns parses are

    same_values : assigned_places r id ns ≡ assigned_places r id (notes (named_trees files (views files parsed)))
    same_values =
        same_read (id ∷ (92 ∷ []) ∷ []) (assigned_places r id) (λ a b. a ++ b) [] (picked_gathers (λ m. child m.place 0) (λ m. note_sets_call r id m.it))
        (λ bytes none n stands. none_picked (λ k. child k.place 0) (λ k. note_sets_call r id k.it) n (value_unnamed bytes r id (first_word bytes id ((92 ∷ []) ∷ []) none) n.it stands))
        0 files parsed ns parses are

    pub named_found : (w : Option ℕ) → named_places w r id ns ≡ named_places w r id (notes (named_trees files (views files parsed)))
    named_found w = ap₂ (λ xs ys. or_else (places_within w xs) (places_within w ys)) same_named same_values

same_projects : (files : List File) (parsed : List Parsed) (ns : Notes) → AreParsed files parsed → AreNotesWith (codes "project" ∷ []) 0 files parsed ns
    → places_with_role role.Project ns ≡ places_with_role role.Project (notes (named_trees files (views files parsed)))
same_projects files parsed ns parses are =
    same_read (codes "project" ∷ []) (places_with_role role.Project) (λ a b. a ++ b) [] (picked_gathers (λ m. m.place) (λ m. note_has_role role.Project m.it))
    (λ bytes none n stands. none_picked (λ k. k.place) (λ k. note_has_role role.Project k.it) n (no_project bytes (first_word bytes (codes "project") [] none) n.it stands))
    0 files parsed ns parses are

pub same_found : (w : Option ℕ) (r : Role) (id : List ℕ) (files : List File) (parsed : List Parsed) (ns : Notes) → AreParsed files parsed → AreNotesWith (sought_words r id) 0 files parsed ns
    → found_places w r id ns ≡ found_places w r id (notes (named_trees files (views files parsed)))
same_found w role.Target id files parsed ns parses are = named_found role.Target id files parsed ns parses are w
same_found w role.Dependency id files parsed ns parses are = named_found role.Dependency id files parsed ns parses are w
same_found w role.Project id files parsed ns parses are = ap (λ ps. if one_of project_ids id then places_within w ps else []) (same_projects files parsed ns parses are)

pub same_place : (w : Option ℕ) (r : Role) (id : List ℕ) (files : List File) (parsed : List Parsed) (ns : Notes) → AreParsed files parsed → AreNotesWith (sought_words r id) 0 files parsed ns
    → place_within w r id ns ≡ place_within w r id (notes (named_trees files (views files parsed)))
same_place w role.Target id files parsed ns parses are = ap only_one (same_found w role.Target id files parsed ns parses are)
same_place w role.Dependency id files parsed ns parses are = ap only_one (same_found w role.Dependency id files parsed ns parses are)
same_place w role.Project id files parsed ns parses are =
    ap₂ (λ ps qs. then_ok (any_place ps) (λ _. only_one qs)) (same_projects files parsed ns parses are) (same_found w role.Project id files parsed ns parses are)
