-- Code that is inserted beside a statement or at the end of a file: its step, or why it is refused.
use Rattle.std.specs.Prelude.{ℕ, ◌-◌, nat_le, Bool, List, [], ◌∷◌, length, if◌then◌else◌, Option, Some, None, option_map, option_and_then, Result, Ok, Err}
use Rattle.meson_lex.specs.declared.kinds.Span.{Span}
use Rattle.meson_splice.specs.Files.{bytes_at}
use Rattle.meson_splice.specs.Patch.{then_ok}
use Rattle.meson_syntax.specs.Grammar.{statements_depth}
use Rattle.meson_syntax.specs.Reads.{max_depth}
use Rattle.meson_syntax.specs.Tree.{File, Nowhere, Plain, Statement, statements_of}
use Rattle.meson_edit.specs.Edits.{LinePlace, above, below, at_end, Lines}
use Rattle.meson_edit.specs.ExchangedLines.{file_statements}
use Rattle.meson_edit.specs.Places.{span_of_statement}
use Rattle.meson_statements.specs.declared.places.Side.{Side}
use Rattle.meson_statements.specs.declared.places.Side.TheVariants as beside
use Rattle.meson_statements.specs.CodeTexts.{lexemes_of, tree_of}
use Rattle.meson_statements.specs.Places.{text_at}
use Rattle.meson_calls.specs.declared.refusal.Refusal.{Refusal}
use Rattle.meson_calls.specs.declared.refusal.Refusal.TheVariants.{TooDeep}
use Rattle.meson_calls.specs.Loading.{Loaded, project}
use Rattle.meson_calls.specs.Project.{BuildFile, nth_file, place}
use Rattle.meson_steps.specs.declared.command.CodePlace.{CodePlace}
use Rattle.meson_steps.specs.declared.command.CodePlace.TheVariants as code_place
use Rattle.meson_steps.specs.declared.step.LineSide.{LineSide}
use Rattle.meson_steps.specs.declared.step.LineSide.TheVariants as side
use Rattle.meson_steps.specs.Steps.{Step}
use Rattle.meson_targets.specs.TargetEdits.{StatementPlace}
use Rattle.meson_places.specs.AssignedValues.{around}
use Rattle.meson_places.specs.Names.{numbered_file}
use Rattle.meson_code.specs.declared.insertion.FileLines.{FileLines}
use Rattle.meson_code.specs.Anchors.{the_anchor}

-- ---- where

abbrev pub above_statement : StatementPlace → FileLines
above_statement a = record { block = a.block; side = side.Above a.number }

abbrev pub below_statement : StatementPlace → FileLines
below_statement a = record { block = a.block; side = side.Below a.number }

-- at the end of the file of this number
abbrev pub end_of_file : ℕ → FileLines
end_of_file file = record { block = place file []; side = side.End }

abbrev pub lines_at : Loaded → CodePlace → Result FileLines Refusal
lines_at l (code_place.Above s) = then_ok (the_anchor l s) (λ a. Ok (above_statement a))
lines_at l (code_place.Below s) = then_ok (the_anchor l s) (λ a. Ok (below_statement a))
lines_at l (code_place.End file) = then_ok (numbered_file l.files file) (λ n. Ok (end_of_file n))

-- the place of the lines in the tree of their file
abbrev pub tree_place : (block : List ℕ) → LineSide → LinePlace
tree_place block (side.Above n) = above block n
tree_place block (side.Below n) = below block n
tree_place block side.End = at_end

-- ---- what

abbrev pub statements_in : Option Plain → List (Statement Nowhere)
statements_in None = []
statements_in (Some t) = file_statements t

-- the statements of a text
abbrev pub code_statements : List ℕ → List (Statement Nowhere)
code_statements code = statements_in (tree_of code)

-- These statements, with what is around their block, nest no deeper than a file may.
abbrev pub has_room : FileLines → List (Statement Nowhere) → Bool
has_room lines new = nat_le (statements_depth (statements_of new)) (max_depth - around lines.block.path.steps)

-- ---- how

-- the span of the last statement of a file
abbrev pub last_span : File Span → Option Span
last_span f = span_of_statement f [] (length (file_statements f) - 1)

-- the side of a statement, by its span, or the end of the file
abbrev pub side_in : File Span → (block : List ℕ) → LineSide → Option Side
side_in f block (side.Above n) = option_map beside.Above (span_of_statement f block n)
side_in f block (side.Below n) = option_map beside.Below (span_of_statement f block n)
side_in f block side.End = Some (beside.End (last_span f))

abbrev pub side_of_lines : Loaded → FileLines → Option Side
side_of_lines l lines = option_and_then (λ (f : BuildFile Span). side_in f.tree lines.block.path.steps lines.side) (nth_file (project l) lines.block.file)

-- the code as it is written there
abbrev pub text_on : (source : List ℕ) → Option ℕ → (code : List ℕ) → Option Side → List ℕ
text_on source blank code None = []
text_on source blank code (Some s) = text_at source (lexemes_of source) blank code (lexemes_of code) s

abbrev pub inserted_text : Loaded → FileLines → (code : List ℕ) → Option ℕ → List ℕ
inserted_text l lines code blank = text_on (bytes_at lines.block.file l.files) blank code (side_of_lines l lines)

abbrev pub insertion_step : Loaded → FileLines → (code : List ℕ) → Option ℕ → Step
insertion_step l lines code blank = record {
  file = lines.block.file;
  edit = Lines (tree_place lines.block.path.steps lines.side) (record { bytes = inserted_text l lines code blank; node = code_statements code });
}

-- ---- the command

abbrev pub inserted_if_room : Loaded → (code : List ℕ) → Option ℕ → FileLines → Result (List Step) Refusal
inserted_if_room l code blank lines =
    if has_room lines (code_statements code) then Ok (insertion_step l lines code blank ∷ []) else Err TooDeep

-- the step that inserts this code, with this number of blank lines if that is requested
abbrev pub code_steps : Loaded → CodePlace → (code : List ℕ) → Option ℕ → Result (List Step) Refusal
code_steps l p code blank = then_ok (lines_at l p) (inserted_if_room l code blank)
