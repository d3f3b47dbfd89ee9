-- Words that occur in the bytes of files, and notes that lack the files in which none of some words occurs.
use Rattle.std.specs.Prelude.{◌≡◌, ◌≢◌, ℕ, ◌+◌, List, [], ◌∷◌, ◌++◌, All, codes}
use Rattle.meson_lex.specs.declared.kinds.Span.{Span}
use Rattle.meson_splice.specs.declared.file_set.File.{File}
use Rattle.meson_syntax.specs.declared.tree.Parsed.{Parsed}
use Rattle.meson_syntax.specs.View.{text_at, view}
use Rattle.meson_calls.specs.declared.call.Role.{Role}
use Rattle.meson_calls.specs.declared.call.Role.TheVariants as role
use Rattle.meson_calls.specs.Project.{Placed}
use Rattle.meson_calls.specs.Parts.{parts_of_file}
use Rattle.meson_calls.specs.Notes.{Note, noted}

-- no part of the bytes is the word
abbrev pub HasNone : List ℕ → List ℕ → Type 0
HasNone word bytes = (s : Span) → text_at bytes s ≢ word

-- none of the words occurs in the bytes
abbrev pub HasNoneOf : List (List ℕ) → List ℕ → Type 0
HasNoneOf words bytes = All (λ word. HasNone word bytes) words

-- ---- notes

-- Notes begin with those of a file; or it has none of the words, and they have none of its notes.
pub data AreNotesOf (words : List (List ℕ)) (n : ℕ) (f : File) (t : Parsed)
    (Further : List (Placed (Note Span)) → Type 0) (ns : List (Placed (Note Span))) : Type 0 where
  whole : (more : List (Placed (Note Span))) → Further more → ns ≡ noted (parts_of_file n (view f.bytes t)) ++ more → AreNotesOf words n f t Further ns
  passed : HasNoneOf words f.bytes → Further ns → AreNotesOf words n f t Further ns

-- Notes of files, of which the first has the number n; those of files that have none of the words may be missing.
abbrev pub AreNotesWith : List (List ℕ) → ℕ → List File → List Parsed → List (Placed (Note Span)) → Type 0
AreNotesWith words n (f ∷ files) (t ∷ parsed) ns = AreNotesOf words n f t (AreNotesWith words (n + 1) files parsed) ns
AreNotesWith words n _ _ ns = ns ≡ []

-- ---- which words

-- One of them occurs in each file where the id names a call. It is the id itself, or the backslash with which an escape in a name begins. For a project it is
-- the function.
abbrev pub sought_words : Role → List ℕ → List (List ℕ)
sought_words role.Project id = codes "project" ∷ []
sought_words _ id = id ∷ (92 ∷ []) ∷ []

-- one of them occurs in each file in which a call sets a variable
abbrev pub setter_words : List (List ℕ)
setter_words = codes "subdir" ∷ codes "set_variable" ∷ []
