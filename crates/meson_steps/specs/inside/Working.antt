-- One step of the code: what it lays out, what it may change, and the state after it.
use Rattle.std.specs.Prelude.{◌≡◌, ℕ, ◌+◌, ◌<◌, ◌≤◌, List, ◌∷◌, ◌++◌, length, slice_index_or, slice_set, Bool, true, Option, Some, None, option_map, option_and_then, Ok, if◌then◌else◌}
use Rattle.meson_lex.specs.declared.kinds.Span.{Span}
use Rattle.meson_layout.specs.declared.primitive.Primitive.{Primitive}
use Rattle.meson_layout.specs.declared.primitive.Primitive.TheVariants as layout
use Rattle.meson_layout.specs.Layout.{IsReady}
use Rattle.meson_layout.specs.Local.{IsReadyIn}
use Rattle.meson_splice.specs.declared.file_set.File.{File}
use Rattle.meson_splice.specs.declared.splice.Splice.{Splice}
use Rattle.meson_splice.specs.Files.{bytes_at}
use Rattle.meson_splice.specs.Patch.{patched_all}
use Rattle.meson_syntax.specs.declared.tree.Parsed.{Parsed}
use Rattle.meson_syntax.specs.Grammar.{file_depth}
use Rattle.meson_syntax.specs.Tree as tree
use Rattle.meson_syntax.specs.Reads.{IsSpannedWithin, ReadsWithin, wide, max_depth}
use Rattle.meson_syntax.specs.Paths.{ListAt, ListIn, list_at, list_span, nth, value_of}
use Rattle.meson_edit.specs.Standing.{argument_span, expression_span}
use Rattle.meson_syntax.specs.View.{view}
use Rattle.meson_edit.specs.Edits.{elements}
use Rattle.meson_edit.specs.Places.{bracket_offset, element_span, value_span, span_of_statement, assigned_span}
use Rattle.meson_steps.specs.declared.journal.Saved.{Saved}
use Rattle.meson_steps.specs.declared.spans.ListSpot.{ListSpot}
use Rattle.meson_steps.specs.declared.step.ListStep.{ListStep}
use Rattle.meson_layout.specs.declared.primitive.LineSpot.{LineSpot}
use Rattle.meson_layout.specs.declared.primitive.LineSpot.TheVariants as spot
use Rattle.meson_steps.specs.declared.step.LineSide.{LineSide}
use Rattle.meson_steps.specs.declared.step.LineSide.TheVariants as side
use Rattle.meson_steps.specs.declared.step.ListEdit.{ListEdit}
use Rattle.meson_steps.specs.declared.step.ListEdit.TheVariants as code
use Rattle.meson_steps.specs.ListSteps.{bare}
use Rattle.meson_calls.specs.declared.call.CallRef.{CallRef}
use Rattle.meson_calls.specs.Loading.{Loaded}
use Rattle.meson_steps.specs.Journal.{is_saved}
use Rattle.meson_steps.specs.inside.Journal.{IsSavedToo}
use Rattle.meson_steps.specs.ResultLimits.{saturated}
use Rattle.meson_steps.specs.Steps.{Step, bytes_again}
use Rattle.meson_steps.specs.Working.{Standing, HasReached}

-- where lines are inserted into a block, by the spans of its statements
abbrev pub side_spot : tree.File Span → List ℕ → LineSide → Option LineSpot
side_spot f path (side.Above n) = option_map spot.Above (span_of_statement f path n)
side_spot f path (side.Below n) = option_map spot.Below (span_of_statement f path n)
side_spot f path side.End = Some spot.End

-- an edit of the list, the block or the assignment at a path as it is laid out
abbrev pub placed_edit : tree.File Span → List ℕ → ListEdit → Option Primitive
placed_edit f path (code.First new) = option_map (λ at. layout.First at new) (bracket_offset f path)
placed_edit f path (code.After n new) = option_map (λ s. layout.After s new) (element_span f path n)
placed_edit f path (code.Remove n) = option_map layout.Remove (element_span f path n)
placed_edit f path (code.Replace n new) = option_map (λ s. layout.Replace s new) (value_span f path n)
placed_edit f path (code.Wrap n) = option_map layout.Wrap (value_span f path n)
placed_edit f path (code.RemoveStatement n blank) = option_map (λ s. layout.RemoveStatement s blank) (span_of_statement f path n)
placed_edit f path (code.Append new) = Some (layout.Append new)
placed_edit f path (code.Assign new) = option_map (λ s. layout.Replace s new) (assigned_span f path)
placed_edit f path (code.Lines side new) = option_map (λ s. layout.Lines s new) (side_spot f path side)

-- an edit of a list as it is laid out
abbrev pub placed_in : tree.Listing Span → ListEdit → Option Primitive
placed_in l (code.First new) = Some (layout.First (list_span {S = Span} l).from new)
placed_in l (code.After n new) = option_map (λ s. layout.After s new) (option_map argument_span (nth (elements l) n))
placed_in l (code.Remove n) = option_map layout.Remove (option_map argument_span (nth (elements l) n))
placed_in l (code.Replace n new) = option_map (λ s. layout.Replace s new) (option_map expression_span (option_and_then value_of (nth (elements l) n)))
placed_in l (code.Wrap n) = option_map layout.Wrap (option_map expression_span (option_and_then value_of (nth (elements l) n)))
placed_in l (code.RemoveStatement n blank) = None
placed_in l (code.Append new) = None
placed_in l (code.Assign new) = None
placed_in l (code.Lines side new) = None

-- the list that alone is read, if an edit is one of a list
abbrev pub looked_at : tree.File Span → List ℕ → Bool → Option Span
looked_at f path of_list = if of_list then option_map (λ (p : ListAt Span). list_span p.list) (list_at f path) else None

-- An edit can be laid out, by that list alone or by the whole file.
abbrev pub MayBeLaid : List ℕ → Option Span → Primitive → Type 0
MayBeLaid bytes (Some list) primitive = IsReadyIn bytes list primitive
MayBeLaid bytes None primitive = IsReady bytes primitive

-- The splices of a file can be made, and the file then parses as a tree.
pub record MayChange (before : List File) (file : ℕ) (splices : List Splice) : Type 0 where
  pub files : List File
  pub is : patched_all before splices ≡ Ok files
  pub tree : tree.Plain
  pub reads : ReadsWithin wide (bytes_at file files) tree

abbrev pub spot_in : ListIn Span → ListSpot
spot_in l = record { bracket = l.bracket; span = list_span l.list }

-- What the splices of a file make of the files, and the new tree, for which this number of bytes was read.
pub record IsChanged (old new : Standing) (file : ℕ) (splices : List Splice) (bytes : ℕ) : Type 0 where
  pub tree : Parsed
  pub are_files : patched_all old.files splices ≡ Ok new.files
  pub are_splices : new.splices ≡ old.splices ++ splices
  pub are_trees : new.trees ≡ slice_set old.trees file tree
  pub are_saved : IsSavedToo file old.saved new.saved
  pub is_read : IsSpannedWithin wide (bytes_at file new.files) (view (bytes_at file new.files) tree)
  pub is_relexed : new.relexed ≡ saturated (old.relexed + bytes)

-- the tree of the file of a place, or another one if there is no such file
abbrev pub tree_of : List Parsed → CallRef → Parsed → Parsed
tree_of trees place d = slice_index_or trees place.file d

-- how many bytes are read again for a list of the tree `t`
abbrev pub list_again : (before after : List File) → CallRef → Parsed → ℕ
list_again before after place t = bytes_again (list_at (view (bytes_at place.file before) t) place.path.steps) (bytes_at place.file before)
    (bytes_at place.file after)

-- The next step may be done.
pub record IsNext (old : Loaded) (now : Standing) (step : ListStep) : Type 0 where
  pub before : List Step
  pub next : Step
  pub rest : List Step
  pub is : bare next ≡ Some step
  pub reached : HasReached old before (next ∷ rest) now

abbrev pub IsShallow : Parsed → Type 0
IsShallow t = (source : List ℕ) → file_depth (view source t) ≤ max_depth

-- the trees of changed files nest no deeper than they may
abbrev pub AreShallowSoFar : List Saved → List Parsed → Type 0
AreShallowSoFar saved trees = (k : ℕ) → k < length trees → is_saved k saved ≡ true → (d : Parsed) → IsShallow (slice_index_or trees k d)
