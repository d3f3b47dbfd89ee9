-- Readings of notes: those of files in which none of some words stands may be missing, where these tell nothing.
use Rattle.meson_calls.proofs.Words.{cons_option, filter_map, list_any, false, ◌||◌, filter, if◌then◌else◌, ◌≡◌, ℕ, ◌+◌, List, [], ◌∷◌, ◌++◌, Bool, Option}
use Rattle.meson_calls.proofs.Words.{None, refl, sym, ap, ◌∙◌, map, map-append, filter-append, filter_map-append, list_any-append, File, Span, IsSpanned, view}
use Rattle.meson_calls.proofs.Words.{Parsed, chosen, AreParsed, named_trees, views, Note, note_of, noted, Part, parts_of_file, parts_from, Placed, HasNoneOf}
use Rattle.meson_calls.proofs.Words.{AreNotesOf, whole, passed, AreNotesWith}
use Rattle.meson_calls.proofs.StandingNotes.{NoteStands, NotesStand, notes_stand}

abbrev pub Notes : Type 0
Notes = List (Placed (Note Span))

-- the notes of files, of which the first has the number n
abbrev pub notes_from : ℕ → List File → List Parsed → Notes
notes_from n files parsed = noted (parts_from n (named_trees files (views files parsed)))

noted_append : (xs ys : List (Placed (Part Span))) → noted (xs ++ ys) ≡ noted xs ++ noted ys
noted_append xs ys = filter_map-append (chosen note_of) xs ys

pub notes_after : (n : ℕ) (f : File) (t : Parsed) (files : List File) (parsed : List Parsed) → notes_from n (f ∷ files) (t ∷ parsed) ≡ noted (parts_of_file n (view f.bytes t)) ++ notes_from (n + 1) files parsed
notes_after n f t files parsed = noted_append (parts_of_file n (view f.bytes t)) (parts_from (n + 1) (named_trees files (views files parsed)))

-- ---- readings

-- a reading of notes that goes through them one by one
pub record Gathers {X : Type 0} (read : Notes → X) (join : X → X → X) (nothing : X) : Type 0 where
  pub none : read [] ≡ nothing
  pub joins : (xs ys : Notes) → read (xs ++ ys) ≡ join (read xs) (read ys)
  pub unit : (x : X) → join nothing x ≡ x

-- it reads nothing off a note whose words stand in bytes that have none of some words
abbrev pub ReadsNothing : {X : Type 0} → List (List ℕ) → (Notes → X) → X → Type 0
ReadsNothing words read nothing = (bytes : List ℕ) → HasNoneOf words bytes → (n : Placed (Note Span)) → NoteStands bytes n.it → read (n ∷ []) ≡ nothing

module _ {X : Type 0} (words : List (List ℕ)) (read : Notes → X) (join : X → X → X) (nothing : X) (gathers : Gathers read join nothing) (alone : ReadsNothing words read nothing) where
  all_nothing : (bytes : List ℕ) → HasNoneOf words bytes → (ns : Notes) → NotesStand bytes ns → read ns ≡ nothing
  all_nothing bytes none [] stand = gathers.none
  all_nothing bytes none (n ∷ ns) stand =
      gathers.joins (n ∷ []) ns ∙ ap (λ x. join x (read ns)) (alone bytes none n stand.0) ∙ gathers.unit (read ns) ∙ all_nothing bytes none ns stand.1

  read_step : (n : ℕ) (f : File) (t : Parsed) (Further : Notes → Type 0) (ns rest : Notes) → IsSpanned f.bytes (view f.bytes t)
      → ((more : Notes) → Further more → read more ≡ read rest) → AreNotesOf words n f t Further ns → read ns ≡ join (read (noted (parts_of_file n (view f.bytes t)))) (read rest)
  read_step n f t Further ns rest spanned same (whole more further is) =
      let here = noted (parts_of_file n (view f.bytes t)) in
      ap read is ∙ gathers.joins here more ∙ ap (join (read here)) (same more further)
  read_step n f t Further ns rest spanned same (passed none further) =
      let here = noted (parts_of_file n (view f.bytes t)) in
      same ns further
      ∙ sym (ap (λ x. join x (read rest)) (all_nothing f.bytes none here (notes_stand n f.bytes (view f.bytes t) spanned)) ∙ gathers.unit (read rest))

  pub same_read : (n : ℕ) (files : List File) (parsed : List Parsed) (ns : Notes) → AreParsed files parsed → AreNotesWith words n files parsed ns → read ns ≡ read (notes_from n files parsed)
  same_read n [] [] ns parses are = ap read are
  same_read n [] (t ∷ parsed) ns parses are = absurd parses
  same_read n (f ∷ files) [] ns parses are = absurd parses
  same_read n (f ∷ files) (t ∷ parsed) ns parses are =
      let here = noted (parts_of_file n (view f.bytes t)) in
      let rest = notes_from (n + 1) files parsed in
      read_step n f t (AreNotesWith words (n + 1) files parsed) ns rest parses.0 (λ more further. same_read (n + 1) files parsed more parses.1 further) are
      ∙ sym (ap read (notes_after n f t files parsed) ∙ gathers.joins here rest)

-- ---- three ways to read

-- whether a note passes a test
pub any_gathers : (test : Placed (Note Span) → Bool) → Gathers (list_any test) (λ a b. a || b) false
any_gathers test = record { none = refl; joins = list_any-append test; unit = λ b. refl }

pub none_passes : (test : Placed (Note Span) → Bool) (n : Placed (Note Span)) → test n ≡ false → list_any test (n ∷ []) ≡ false
none_passes test n is = ap (λ b. b || false) is

-- what is chosen of each note
pub chosen_gathers : {Y : Type 0} (choose : Placed (Note Span) → Option Y) → Gathers (filter_map choose) (λ a b. a ++ b) []
chosen_gathers choose = record { none = refl; joins = filter_map-append choose; unit = λ b. refl }

pub none_chosen : {Y : Type 0} (choose : Placed (Note Span) → Option Y) (n : Placed (Note Span)) → choose n ≡ None → filter_map choose (n ∷ []) ≡ []
none_chosen choose n is = ap (λ o. cons_option o []) is

-- what those are mapped to that pass a test
module _ {Y : Type 0} (to : Placed (Note Span) → Y) (test : Placed (Note Span) → Bool) where
  pub picked_gathers : Gathers (λ ns. map to (filter test ns)) (λ a b. a ++ b) []
  picked_gathers = record { none = refl; joins = λ xs ys. ap (map to) (filter-append test xs ys) ∙ map-append to (filter test xs) (filter test ys); unit = λ b. refl }

  pub none_picked : (n : Placed (Note Span)) → test n ≡ false → map to (filter test (n ∷ [])) ≡ []
  none_picked n is = ap (λ b. map to (if b then n ∷ [] else [])) is
