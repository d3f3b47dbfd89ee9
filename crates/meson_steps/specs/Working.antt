-- The state of the work between two steps of a command.
use Rattle.std.specs.Prelude.{◌≡◌, ℕ, ◌<◌, ◌≤◌, List, [], ◌++◌, All, length, slice_index_or, Some, Ok, if◌then◌else◌}
use Rattle.meson_lex.specs.declared.kinds.Span.{Span}
use Rattle.meson_splice.specs.declared.file_set.File.{File}
use Rattle.meson_splice.specs.declared.splice.Splice.{Splice}
use Rattle.meson_splice.specs.Files.{IsDistinct, bytes_at}
use Rattle.meson_splice.specs.Patch.{patched_all}
use Rattle.meson_splice.specs.Saved.{bytes_put_back}
use Rattle.meson_syntax.specs.declared.source.Limits.{Limits}
use Rattle.meson_syntax.specs.declared.tree.Parsed.{Parsed}
use Rattle.meson_syntax.specs.Grammar.{file_depth}
use Rattle.meson_syntax.specs.Tree as tree
use Rattle.meson_syntax.specs.Reads.{IsSpannedWithin, ReadsWithin, of_files, wide, max_depth, max_len}
use Rattle.meson_syntax.specs.ReadsList.{ReadsListWithin}
use Rattle.meson_syntax.specs.Paths.{ListAt, list_at, list_span}
use Rattle.meson_syntax.specs.View.{view}
use Rattle.meson_steps.specs.declared.journal.Saved.{Saved}
use Rattle.meson_steps.specs.declared.spans.ListSpot.{ListSpot}
use Rattle.meson_steps.specs.declared.step.ListStep.{ListStep}
use Rattle.meson_steps.specs.declared.work.Work.{Work}
use Rattle.meson_steps.specs.ListSteps.{AreBare, AreDoable, wide_depth}
use Rattle.meson_calls.specs.declared.call.CallRef.{CallRef}
use Rattle.meson_calls.specs.Loading.{Loaded, HasFileName, IsProject, max_files}
use Rattle.meson_steps.specs.Journal.{PutsBack, is_saved}
use Rattle.meson_steps.specs.ResultLimits.{plain_trees, saturated}
use Rattle.meson_steps.specs.Steps.{Step, StepsMake, all_stepped}

-- ---- one step

-- The splices of the file of a list can be made. They replace no byte outside the list, and its new text parses as a list.
pub record MayReadList (before : List File) (file : ℕ) (splices : List Splice) (spot : ListSpot) : Type 0 where
  pub files : List File
  pub is : patched_all before splices ≡ Ok files
  pub front : List ℕ
  pub was : List ℕ
  pub now : List ℕ
  pub back : List ℕ
  pub old : bytes_at file before ≡ front ++ (was ++ back)
  pub new : bytes_at file files ≡ front ++ (now ++ back)
  pub from : length front ≡ spot.span.from
  pub to : length (front ++ was) ≡ spot.span.to
  pub list : tree.Listing tree.Nowhere
  pub reads_list : ReadsListWithin wide_depth spot.bracket now list

-- the span of a list that a path names
abbrev pub spot_at : ListAt Span → ListSpot
spot_at p = record { bracket = p.bracket; span = list_span p.list }

-- So it is with a list of the file's tree so far, which is `t`. The file then parses as the tree with the new list.
pub record MayChangeList (before : List File) (place : CallRef) (splices : List Splice) (t : Parsed) : Type 0 where
  pub spanned : IsSpannedWithin wide (bytes_at place.file before) (view (bytes_at place.file before) t)
  pub p : ListAt Span
  pub is_p : list_at (view (bytes_at place.file before) t) place.path.steps ≡ Some p
  pub text : MayReadList before place.file splices (spot_at p)
  pub q : ListAt tree.Nowhere
  pub is_q : list_at (tree.erase (view (bytes_at place.file before) t)) place.path.steps ≡ Some q
  pub reads : ReadsWithin wide (text.front ++ (text.now ++ text.back)) (q.back text.list)

-- ---- between two steps

-- What steps made so far: splices, files and trees, what is saved, and how many bytes were read again.
pub record Standing : Type 0 where
  pub splices : List Splice
  pub files : List File
  pub trees : List Parsed
  pub saved : List Saved
  pub relexed : ℕ

abbrev pub standing : Work → Standing
standing w = record { splices = w.splices.items; files = w.files; trees = w.trees.items; saved = w.saved.items; relexed = w.relexed }

abbrev pub stood : Standing → Loaded
stood s = record { files = s.files; parsed = s.trees }

-- the files and trees so far
abbrev pub so_far : Work → Loaded
so_far w = stood (standing w)

-- What is saved may be put back, and that gives these files and trees.
pub record Restores (w : Work) (first : Loaded) : Type 0 where
  pub trees : PutsBack w.saved.items w.trees.items first.parsed
  pub files : bytes_put_back w.saved_bytes.items w.files ≡ first.files

-- Nothing is done so far, on the files and trees of a project.
pub record IsFresh (w : Work) : Type 0 where
  pub project : IsProject (so_far w)
  pub distinct : IsDistinct w.files
  pub no_splices : w.splices.items ≡ []
  pub none_saved : w.saved.items ≡ []
  pub none_relexed : w.relexed ≡ 0

-- a file of which something is replaced parses within wider limits
abbrev pub limits_of : List Saved → ℕ → Limits
limits_of saved k = if is_saved k saved then wide else of_files

-- Each file parses as its tree.
pub record AreKnown (saved : List Saved) (files : List File) (trees : List Parsed) : Type 0 where
  pub as_many : length trees ≡ length files
  pub each : (k : ℕ) (d : Parsed) → k < length files → IsSpannedWithin (limits_of saved k) (bytes_at k files)
      (view (bytes_at k files) (slice_index_or trees k d))

-- Steps make the splices, files and trees so far, and have this number of bytes read again.
pub record AreMade (old : Loaded) (steps : List Step) (now : Standing) : Type 0 where
  pub bytes : ℕ
  pub are_trees : all_stepped steps (plain_trees old) ≡ Some (plain_trees (stood now))
  pub are_done : StepsMake old.files steps now.splices now.files bytes
  pub is_relexed : now.relexed ≡ saturated bytes

abbrev pub IsMade : Loaded → List Step → Work → Type 0
IsMade old steps w = AreMade old steps (standing w)

-- These steps are done, and those are left, which may be done.
pub record HasReached (old : Loaded) (before rest : List Step) (now : Standing) : Type 0 where
  pub made : AreMade old before now
  pub doable : AreDoable rest (plain_trees (stood now))
  pub known : AreKnown now.saved now.files now.trees
  pub distinct : IsDistinct now.files
  pub few : length now.files ≤ max_files
  pub named : All HasFileName now.files

abbrev pub Reached : Loaded → (before rest : List Step) → Work → Type 0
Reached old before rest w = HasReached old before rest (standing w)

-- What is left of steps is this code.
pub record AreUnderWay (old : Loaded) (steps : List Step) (code : List ListStep) (now : Standing) : Type 0 where
  pub before : List Step
  pub rest : List Step
  pub joined : steps ≡ before ++ rest
  pub bare : AreBare rest code
  pub reached : HasReached old before rest now

abbrev pub IsUnderWay : Loaded → List Step → List ListStep → Work → Type 0
IsUnderWay old steps code w = AreUnderWay old steps code (standing w)

-- ---- limits

pub record HasDeep (trees : List Parsed) : Type 0 where
  pub place : ℕ
  pub tree : Parsed
  pub there : place < length trees
  pub is : slice_index_or trees place tree ≡ tree
  pub deep : (source : List ℕ) → max_depth < file_depth (view source tree)

pub record HasLarge (files : List File) : Type 0 where
  pub place : ℕ
  pub there : place < length files
  pub large : max_len < length (bytes_at place files)
