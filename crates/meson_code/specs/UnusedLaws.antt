-- The assignments that go after a statement: when it is the turn of one, nothing else needs the variable that it sets.
use Rattle.std.specs.Prelude.{◌≡◌, ℕ, true, false, List, Contains, Some}
use Rattle.meson_splice.specs.declared.file_set.File.{File}
use Rattle.meson_syntax.specs.Tree.{Nowhere, Plain}
use Rattle.meson_edit.specs.Edits.{without_statement}
use Rattle.meson_calls.specs.Notes.{Note, notes}
use Rattle.meson_calls.specs.Parts.{Part, parts}
use Rattle.meson_calls.specs.Project.{Placed, Project, child}
use Rattle.meson_steps.specs.Steps.{all_stepped, changed_at}
use Rattle.meson_targets.specs.TargetEdits.{StatementPlace, is_in_statement, part_uses, statement_of}
use Rattle.meson_places.specs.Uses.{is_named, placeholder, source_holds}
use Rattle.meson_code.specs.Unused.{project_of, sets_name, unused_steps}

-- The statement sets the variable by `=`. No expression or statement outside it reads, sets or names the variable, no call may get it by its name, and no format
-- string of the files holds it.
pub record IsUnneeded (files : List File) (p : Project Nowhere) (x : List ℕ) (a : StatementPlace) : Type 0 where
  pub note : Placed (Note Nowhere)
  pub is_note : Contains (notes p) note
  pub sets : sets_name x note.it ≡ true
  pub is_statement : statement_of (child note.place 0) ≡ Some a
  pub unused : (q : Placed (Part Nowhere)) → Contains (parts p) q → is_in_statement a q.place ≡ false → part_uses x q.it ≡ true → ⊥
  pub unnamed : is_named x (notes p) ≡ false
  pub unformatted : (f : File) → Contains files f → source_holds (placeholder x) f.bytes ≡ true → ⊥

-- Such statements go, one after another. All else of the trees is as it was.
pub data AreCleared (files : List File) : List Plain → List Plain → Type 0 where
  none : (trees : List Plain) → AreCleared files trees trees
  one : (trees between last : List Plain) (x : List ℕ) (a : StatementPlace) → IsUnneeded files (project_of trees) x a
      → changed_at a.block.file (without_statement a.block.path.steps a.number) trees ≡ Some between → AreCleared files between last
      → AreCleared files trees last

-- the law: so it is with the steps
abbrev pub UnusedAreUnneeded : Type 0
UnusedAreUnneeded = (turns : ℕ) (files : List File) (names : List (List ℕ)) (trees last : List Plain)
    → all_stepped (unused_steps turns files names trees) trees ≡ Some last → AreCleared files trees last
