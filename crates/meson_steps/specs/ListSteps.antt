-- The steps of the code, and which of them may be done one after another.
use Rattle.std.specs.Prelude.{◌≡◌, ◌≤◌, ℕ, List, [], ◌∷◌, map, All, Option, Some, option_map}
use Rattle.meson_syntax.specs.Tree.{Plain}
use Rattle.meson_syntax.specs.Grammar.{LevelFile, file_depth}
use Rattle.meson_edit.specs.Edits.{LinePlace, above, below, at_end, Edit, First, After, Remove, Replace, Wrap, RemoveStatement, Append, Assign, Lines}
use Rattle.meson_edit.specs.Places.{Writes}
use Rattle.meson_steps.specs.declared.step.LineSide.{LineSide}
use Rattle.meson_steps.specs.declared.step.LineSide.TheVariants as side
use Rattle.meson_steps.specs.declared.step.ListEdit.{ListEdit}
use Rattle.meson_steps.specs.declared.step.ListEdit.TheVariants as code
use Rattle.meson_steps.specs.declared.step.ListStep.{ListStep}
use Rattle.meson_calls.specs.Project.{place}
use Rattle.meson_steps.specs.Steps.{Step, stepped}

-- ---- what the steps of the code mean

-- the block in which lines are inserted, and where in it; the end of the file is that of its block
abbrev pub block_of_lines : LinePlace → List ℕ
block_of_lines (above path n) = path
block_of_lines (below path n) = path
block_of_lines at_end = []

abbrev pub side_of_lines : LinePlace → LineSide
side_of_lines (above path n) = side.Above n
side_of_lines (below path n) = side.Below n
side_of_lines at_end = side.End

-- an edit without the tree that is written
abbrev pub bare_edit : Edit → Option ListEdit
bare_edit (First path new) = Some (code.First new.bytes)
bare_edit (After path n new) = Some (code.After n new.bytes)
bare_edit (Remove path n) = Some (code.Remove n)
bare_edit (Replace path n new) = Some (code.Replace n new.bytes)
bare_edit (Wrap path n) = Some (code.Wrap n)
bare_edit (RemoveStatement blank path n) = Some (code.RemoveStatement n blank)
bare_edit (Append new) = Some (code.Append new.bytes)
bare_edit (Assign path new) = Some (code.Assign new.bytes)
bare_edit (Lines place new) = Some (code.Lines (side_of_lines place) new.bytes)

-- the list, the block or the assignment of an edit; a statement is appended to the block of the file
abbrev pub path_of : Edit → List ℕ
path_of (First path new) = path
path_of (After path n new) = path
path_of (Remove path n) = path
path_of (Replace path n new) = path
path_of (Wrap path n) = path
path_of (RemoveStatement blank path n) = path
path_of (Append new) = []
path_of (Assign path new) = path
path_of (Lines place new) = block_of_lines place

abbrev pub bare : Step → Option ListStep
bare s = option_map (λ e. record { list = place s.file (path_of s.edit); edit = e }) (bare_edit s.edit)

-- The code's steps are these, but for the trees that are written.
abbrev pub AreBare : List Step → List ListStep → Type 0
AreBare steps code = map bare steps ≡ map Some code

-- ---- what may be done

-- the depth to which a tree may nest between two steps of one command
abbrev pub wide_depth : ℕ
wide_depth = 65

abbrev pub MayStandBetween : Plain → Type 0
MayStandBetween t = LevelFile t × (file_depth t ≤ wide_depth)

-- Each step of the list has its edited tree, with its levels and not too deep, and writes its words.
pub data AreDoable : List Step → List Plain → Type 0 where
  none : (trees : List Plain) → AreDoable [] trees
  one : (s : Step) (steps : List Step) (trees between : List Plain) → Writes s.edit → stepped s trees ≡ Some between → All MayStandBetween between
      → AreDoable steps between
      → AreDoable (s ∷ steps) trees
