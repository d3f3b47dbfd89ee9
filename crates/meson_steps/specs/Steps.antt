-- Edits of a project one after another: what they make of its trees, and of its files.
use Rattle.std.specs.Prelude.{◌≡◌, ℕ, zero, suc, ◌+◌, ◌-◌, not, bytes_eq, List, [], ◌∷◌, ◌++◌, length, Option, Some, None, option_map, option_and_then, Ok}
use Rattle.std.specs.List.{filter}
use Rattle.meson_lex.specs.declared.kinds.Span.{Span}
use Rattle.meson_lex.specs.Items.{Lexeme, IsItemList}
use Rattle.meson_splice.specs.declared.file_set.File.{File}
use Rattle.meson_splice.specs.declared.splice.Splice.{Splice}
use Rattle.meson_splice.specs.Files.{bytes_at, with_bytes}
use Rattle.meson_splice.specs.Patch.{patched_all}
use Rattle.meson_layout.specs.declared.primitive.Primitive.{Primitive}
use Rattle.meson_layout.specs.Layout.{layout_of}
use Rattle.meson_layout.specs.Edited.{patched_by}
use Rattle.meson_layout.specs.Laws.{AreTexts}
use Rattle.meson_syntax.specs.declared.source.Limits.{Limits}
use Rattle.meson_syntax.specs.Tree.{Plain}
use Rattle.meson_syntax.specs.Tree as tree
use Rattle.meson_syntax.specs.Reads.{IsSpannedWithin}
use Rattle.meson_syntax.specs.Paths.{ListAt, list_at, list_span}
use Rattle.meson_edit.specs.Edits.{Edit, First, After, Remove, Replace, Wrap, RemoveStatement, Append, Assign, Lines, edited}
use Rattle.meson_edit.specs.Laws.{IsEditOf, WritesList}
use Rattle.meson_edit.specs.Places.{primitive_of, Writes}
use Rattle.meson_calls.specs.declared.call.CallRef.{CallRef}
use Rattle.meson_calls.specs.Loading.{name_of_file}

-- an edit of one of the files
pub record Step : Type 0 where
  pub file : ℕ
  pub edit : Edit

-- an edit of the file of a list
abbrev pub step_in : CallRef → Edit → Step
step_in p e = record { file = p.file; edit = e }

-- ---- trees

-- the values with another one in the i-th place
abbrev pub changed_at : {X : Type 0} → ℕ → (X → Option X) → List X → Option (List X)
changed_at i change [] = None
changed_at zero change (x ∷ xs) = option_map (λ y. y ∷ xs) (change x)
changed_at (suc i) change (x ∷ xs) = option_map (λ ys. x ∷ ys) (changed_at i change xs)

-- the trees after a step, and after all of them
abbrev pub stepped : Step → List Plain → Option (List Plain)
stepped s trees = changed_at s.file (edited s.edit) trees

abbrev pub all_stepped : List Step → List Plain → Option (List Plain)
all_stepped [] trees = Some trees
all_stepped (s ∷ steps) trees = option_and_then (all_stepped steps) (stepped s trees)

-- ---- files

-- a splice that changes nothing is not made
abbrev pub effective : List Splice → List Splice
effective splices = filter (λ s. not (bytes_eq s.was s.now)) splices

-- The splices of a step are the layout of its edit in the file as it is, and give that file another text. What they remove and insert is text.
pub record Laid (files : List File) (s : Step) (splices : List Splice) : Type 0 where
  pub file : tree.File Span
  pub limits : Limits
  pub spanned : IsSpannedWithin limits (bytes_at s.file files) file
  pub writes : Writes s.edit
  pub now : Plain
  pub is_now : edited s.edit (tree.erase file) ≡ Some now
  pub items : List Lexeme
  pub are_items : IsItemList (bytes_at s.file files) items
  pub primitive : Primitive
  pub is_primitive : primitive_of file s.edit ≡ Some primitive
  pub is_layout : splices ≡ effective (layout_of (name_of_file s.file files) items primitive)
  pub text : List ℕ
  pub is_text : patched_by (bytes_at s.file files) (layout_of (name_of_file s.file files) items primitive) ≡ Ok text
  pub made : patched_all files splices ≡ Ok (with_bytes s.file text files)
  pub texts : AreTexts splices

-- the list that an edit changes
abbrev pub list_of : Edit → Option (List ℕ)
list_of (First path new) = Some path
list_of (After path n new) = Some path
list_of (Remove path n) = Some path
list_of (Replace path n new) = Some path
list_of (Wrap path n) = Some path
list_of (RemoveStatement blank path n) = None
list_of (Append new) = None
list_of (Assign path new) = None
list_of (Lines place new) = None

-- the number of bytes that are read again when a file's text changes: those of the list that changes, or all of them
abbrev pub bytes_again : Option (ListAt Span) → (before after : List ℕ) → ℕ
bytes_again None before after = length after
bytes_again (Some p) before after = (((list_span p.list).to - (list_span p.list).from) + length after) - length before

-- the same number after splices of an edit
abbrev pub read_again : Edit → tree.File Span → List Splice → (before after : List ℕ) → ℕ
read_again e f [] before after = 0
read_again e f (s ∷ splices) before after = bytes_again (option_and_then (list_at f) (list_of e)) before after

-- Steps one after another make splices, and files, and have this number of bytes read again.
pub data StepsMake : List File → List Step → List Splice → List File → ℕ → Type 0 where
  none : (files : List File) → StepsMake files [] [] files 0
  step : (files between last : List File) (s : Step) (steps : List Step) (here later : List Splice) (bytes : ℕ)
      → (laid : Laid files s here) → patched_all files here ≡ Ok between → StepsMake between steps later last bytes
      → StepsMake files (s ∷ steps) (here ++ later) last (read_again s.edit laid.file here (bytes_at s.file files) (bytes_at s.file between) + bytes)

-- The bytes read again for an edit of a list are the list's new text.
abbrev pub ListsAreReadAgain : Type 0
ListsAreReadAgain = (files : List File) (s : Step) (splice : Splice) (more : List Splice) (between : List File)
    → (laid : Laid files s (splice ∷ more)) → patched_all files (splice ∷ more) ≡ Ok between
    → (path : List ℕ) → IsEditOf path s.edit → (p : ListAt Span) → list_at laid.file path ≡ Some p
    → (w : WritesList (bytes_at s.file files) laid.text laid.file path p laid.now)
    → read_again s.edit laid.file (splice ∷ more) (bytes_at s.file files) (bytes_at s.file between) ≡ length w.now
