-- What steps keep of the files.
use Rattle.std.specs.Prelude.{ℕ, List, [], ◌∷◌}
use Rattle.meson_lex.specs.declared.kinds.Span.{Span}
use Rattle.meson_lex.specs.Items.{Lexeme, IsItemList}
use Rattle.meson_splice.specs.declared.file_set.File.{File}
use Rattle.meson_splice.specs.declared.splice.Splice.{Splice}
use Rattle.meson_splice.specs.Files.{bytes_at, with_bytes}
use Rattle.meson_syntax.specs.declared.source.Limits.{Limits}
use Rattle.meson_syntax.specs.Tree as tree
use Rattle.meson_syntax.specs.Reads.{IsSpannedWithin}
use Rattle.meson_edit.specs.Kept.{EditKeeps}
use Rattle.meson_steps.specs.Steps.{Step, StepsMake}

-- A step changes one file, to this text, which keeps all that the step's edit does not touch.
pub record StepKeeps (files : List File) (s : Step) (text : List ℕ) : Type 0 where
  pub file : tree.File Span
  pub limits : Limits
  pub spanned : IsSpannedWithin limits (bytes_at s.file files) file
  pub items : List Lexeme
  pub are_items : IsItemList (bytes_at s.file files) items
  pub keeps : EditKeeps (bytes_at s.file files) text file items s.edit

-- Steps one after another change the files to the last ones, and each of them keeps what it does not touch.
pub data StepsKeep : List File → List Step → List File → Type 0 where
  none : (files : List File) → StepsKeep files [] files
  step : (files last : List File) (s : Step) (steps : List Step) (text : List ℕ) → StepKeeps files s text
      → StepsKeep (with_bytes s.file text files) steps last → StepsKeep files (s ∷ steps) last

-- Steps that make splices do so.
abbrev pub MakingKeeps : Type 0
MakingKeeps = (files : List File) (steps : List Step) (splices : List Splice) (last : List File) (bytes : ℕ) → StepsMake files steps splices last bytes
    → StepsKeep files steps last
