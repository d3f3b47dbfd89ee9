-- What is outside a statement that is removed: nothing there uses a variable that the statement sets.
use Rattle.std.specs.Prelude.{◌≡◌, ℕ, Bool, true, false, List, ◌⊎◌, Contains, Some, Ok}
use Rattle.meson_lex.specs.declared.kinds.Span.{Span}
use Rattle.meson_splice.specs.declared.file_set.File.{File}
use Rattle.meson_syntax.specs.Tree.{Plain}
use Rattle.meson_edit.specs.Edits.{without_statement}
use Rattle.meson_calls.specs.Loading.{Loaded, project}
use Rattle.meson_calls.specs.Notes.{Note, notes}
use Rattle.meson_calls.specs.Parts.{Part, parts}
use Rattle.meson_calls.specs.Project.{Placed}
use Rattle.meson_steps.specs.declared.argument.Search.{Search}
use Rattle.meson_steps.specs.ResultLimits.{plain_trees}
use Rattle.meson_steps.specs.Steps.{Step, all_stepped, changed_at}
use Rattle.meson_targets.specs.TargetEdits.{StatementPlace, is_in_statement, part_uses}
use Rattle.meson_places.specs.Uses.{placeholder, source_holds}
use Rattle.meson_code.specs.AnchorLaws.{IsStatementAt}
use Rattle.meson_code.specs.Anchors.{the_anchor}
use Rattle.meson_code.specs.Removal.{names_set, span_at, texts_outside}
use Rattle.meson_code.specs.Removing.{code_removed}
use Rattle.meson_code.specs.UnusedLaws.{AreCleared}

-- An assignment, a loop or a call in the statement sets the variable.
pub record SetsVariable (l : Loaded) (a : StatementPlace) (x : List ℕ) : Type 0 where
  pub note : Placed (Note Span)
  pub is_note : Contains (notes (project l)) note
  pub is_within : is_in_statement a note.place ≡ true
  pub sets : Contains (names_set note.it) x

-- An expression or a statement outside it reads, sets or names the variable.
pub record UsesOutside (l : Loaded) (a : StatementPlace) (x : List ℕ) : Type 0 where
  pub part : Placed (Part Span)
  pub is_part : Contains (parts (project l)) part
  pub is_outside : is_in_statement a part.place ≡ false
  pub uses : part_uses x part.it ≡ true

-- A format string outside it holds the variable.
pub record FormatsOutside (l : Loaded) (a : StatementPlace) (x : List ℕ) : Type 0 where
  pub text : List ℕ
  pub is_text : Contains (texts_outside l.files a.block.file (span_at l a)) text
  pub holds : source_holds (placeholder x) text ≡ true

abbrev pub NothingNeeds : Loaded → StatementPlace → Type 0
NothingNeeds l a = (x : List ℕ) → SetsVariable l a x → UsesOutside l a x ⊎ FormatsOutside l a x → ⊥

-- The statement that is found is there, and what it sets is used nowhere else.
pub record MayGo (l : Loaded) (s : Search) (a : StatementPlace) : Type 0 where
  pub is_found : the_anchor l s ≡ Ok a
  pub is_there : IsStatementAt l a
  pub unneeded : NothingNeeds l a

-- ---- the command

-- what is left after the statement: with `unused` assignments go, which nothing needs
abbrev pub HasRest : (unused : Bool) → List File → (between after : List Plain) → Type 0
HasRest true files between after = AreCleared files between after
HasRest false files between after = between ≡ after

-- The statement that is found is gone, and what it set is used nowhere else. All else of the trees is as it was, but for what else goes.
pub record CodeGoes (l : Loaded) (s : Search) (unused : Bool) (after : List Plain) : Type 0 where
  pub statement : StatementPlace
  pub may_go : MayGo l s statement
  pub between : List Plain
  pub goes : changed_at statement.block.file (without_statement statement.block.path.steps statement.number) (plain_trees l) ≡ Some between
  pub rest : HasRest unused l.files between after

-- the law: so it is after the steps that remove code
abbrev pub RemovalsLeave : Type 0
RemovalsLeave = (l : Loaded) (s : Search) (unused : Bool) (steps : List Step) (after : List Plain) → code_removed l s unused ≡ Ok steps
    → all_stepped steps (plain_trees l) ≡ Some after → CodeGoes l s unused after
