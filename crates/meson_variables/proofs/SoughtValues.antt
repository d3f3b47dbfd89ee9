-- What notes say of variables is what these stand for in the project.
use Rattle.meson_variables.proofs.Words.{◌≡◌, ◌≢◌, ℕ, List, [], ◌∷◌, ◌++◌, length, Bor, ◌∙◌, sym, ap, arith, true, false, not, ◌&&◌, ◌==◌, if◌then◌else◌, None}
use Rattle.meson_variables.proofs.Words.{File, view, Parsed, AreParsed, named_trees, views, note_views, noted, notes, parts_of_file, AreSetters, is_among}
use Rattle.meson_variables.proofs.Words.{AreNotesOf, whole, passed, AreNotesWith, as_many, Notes, notes_after, assigned_notes, is_set_by, has_unknown}
use Rattle.meson_variables.proofs.Words.{only_value, single, by_notes}
use Rattle.meson_calls.specs.declared.note.Note as code
use Rattle.meson_variables.proofs.KnownCalls.{known_notes}
use Rattle.meson_variables.proofs.NotesNaming.{same_assigned, same_set, same_unknown}
use Rattle.meson_variables.proofs.Singles.{single_notes}

module _ (files : List File) (trees : List Parsed) (parsed : AreParsed files trees) (x : List ℕ) where
  -- all notes
  pub all_single : by_notes x (not (has_unknown files (notes (named_trees files (views files trees))))) (notes (named_trees files (views files trees))) ≡ single (named_trees files (views files trees)) x
  all_single =
      let p = named_trees files (views files trees) in
      ap (λ k. by_notes x k (notes p)) (known_notes files trees (as_many files trees parsed)) ∙ sym (single_notes x p)

  -- the notes by which some names stand for something
  pub some_single : (names : List (Bor (List ℕ))) (ns : Notes) → AreSetters names 0 files trees ns → is_among names x ≡ true
      → by_notes x (not (has_unknown files ns)) ns ≡ single (named_trees files (views files trees)) x
  some_single names ns are among =
      let p = named_trees files (views files trees) in
      let known = not (has_unknown files ns) in
      ap (λ b. if known && not b then only_value (assigned_notes x ns) else None) (same_set names files trees ns are x)
      ∙ ap (λ vs. if known && not (is_set_by x (notes p)) then only_value vs else None) (same_assigned names files trees ns are x among)
      ∙ ap (λ b. by_notes x (not b) (notes p)) (same_unknown names files trees ns are files)
      ∙ all_single

-- ---- one file

module _ (words : List (List ℕ)) where
  one_step : (f : File) (t : Parsed) (ns : Notes) → AreNotesOf words 0 f t (AreNotesWith words 1 [] []) ns → ns ≢ [] → ns ≡ notes (named_trees (f ∷ []) (views (f ∷ []) (t ∷ [])))
  one_step f t ns (whole more further is) some = is ∙ ap (λ rest. noted (parts_of_file 0 (view f.bytes t)) ++ rest) further ∙ sym (notes_after 0 f t [] [])
  one_step f t ns (passed none further) some = absurd (some further)

  -- of one file all notes are there, if one is
  pub one_whole : (files : List File) (trees : List Parsed) (ns : Notes) → AreParsed files trees → length files ≡ 1 → AreNotesWith words 0 files trees ns → ns ≢ []
      → ns ≡ notes (named_trees files (views files trees))
  one_whole [] trees ns parsed one are some = absurd (omega arith)
  one_whole (f ∷ []) [] ns parsed one are some = absurd parsed
  one_whole (f ∷ []) (t ∷ []) ns parsed one are some = one_step f t ns are some
  one_whole (f ∷ []) (t ∷ u ∷ trees) ns parsed one are some = absurd parsed.1
  one_whole (f ∷ g ∷ files) trees ns parsed one are some = absurd (omega arith)

pub some_views : (ns : List code.Note) → false ≡ (length ns == 0) → note_views ns ≢ []
some_views [] some = λ none. let no : ⊥ = cc in no
some_views (n ∷ ns) some = λ none. let no : ⊥ = cc in no
