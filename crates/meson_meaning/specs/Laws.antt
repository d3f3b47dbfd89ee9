-- What evaluations have in common, whatever Meson does.
use Rattle.std.specs.Prelude.{◌≡◌, ℕ, Bool, true, false, map, Option, Some, None, List}
use Rattle.meson_lex.specs.declared.kinds.Span.{Span}
use Rattle.meson_calls.specs.declared.call.CallRef.{CallRef}
use Rattle.meson_calls.specs.declared.call.Reading.TheVariants.{Followed}
use Rattle.meson_calls.specs.Calls.{Call, first_argument}
use Rattle.meson_calls.specs.Project.{BuildFile, Placed, Project, nth_file}
use Rattle.meson_syntax.specs.Tree.{Expression, Nowhere, Plain, erase}
use Rattle.meson_entering.specs.Entering.{files_meant}
use Rattle.meson_following.specs.Effects.{is_name}
use Rattle.meson_sources.specs.Effects.{trees_without}
use Rattle.meson_sources.specs.SourceEdits.{Spot}
use Rattle.meson_meaning.specs.Placing.{with_places}
use Rattle.meson_meaning.specs.Running.{run}
use Rattle.meson_meaning.specs.Spots.{AreLiterals, is_spot}
use Rattle.meson_meaning.specs.States.{Choices, State}
use Rattle.meson_meaning.specs.Subdirs.{FileHolds}
use Rattle.meson_meaning.specs.Without.{call_without, file_without, making_without, use_without}

-- The same targets are made, and the same things get values. But in each list of values those literals are missing that are left out of the build files.
pub record AreMissing {S T : Type 0} (to : S → T) (gone : S → Bool) (before : State S) (after : State T) : Type 0 where
  pub made : after.made ≡ map (making_without to gone) before.made
  pub used : after.used ≡ map (use_without to gone) before.used

abbrev pub is_named : {S : Type 0} → Option (Expression S) → Bool
is_named None = false
is_named (Some e) = is_name e

-- a `subdir` of a name, as of a loop around it, means the same files
abbrev pub MeansTheSame : {S T : Type 0} → (S → T) → (S → Bool) → BuildFile S → Placed (Call S) → Type 0
MeansTheSame to gone f c =
    is_named (first_argument c.it) ≡ true
    → files_meant Followed (file_without to gone f) c.place.path.steps (call_without to gone c.it) ≡ files_meant Followed f c.place.path.steps c.it

-- none of the literals that are left out names a folder for `subdir`
abbrev pub NameNoFolders : {S T : Type 0} → (S → T) → (S → Bool) → Project S → Type 0
NameNoFolders to gone p = (n : ℕ) (f : BuildFile _) → nth_file p n ≡ Some f → FileHolds (MeansTheSame to gone f) n f.tree

-- without what a node carries
abbrev pub bare : CallRef → Nowhere
bare c = tt

-- the trees, without what nodes carry; and the names of the files
abbrev pub bare_trees : {S : Type 0} → Project S → List Plain
bare_trees p = map (λ f. erase f.tree) p

abbrev pub trees : Project Nowhere → List Plain
trees p = map (λ f. f.tree) p

abbrev pub names : {S : Type 0} → Project S → List (List ℕ)
names p = map (λ f. f.name) p

-- The law: where elements of lists that are literals are removed, at some spots, each evaluation makes what it made before, but that these literals are missing.
-- It says so of whatever Meson does that is not followed, and for each way through the build files. Read the other way about it says so of literals that are
-- added: the build files that had been there are those that are there now without them.
abbrev pub OnlyNamesGo : Type 0
OnlyNamesGo = (before : Project Span) (spots : List Spot) → AreLiterals before spots → NameNoFolders bare (is_spot spots) (with_places before)
    → (after : Project Nowhere) → trees after ≡ trees_without spots (bare_trees before) → names after ≡ names before
    → (ch : Choices) → AreMissing bare (is_spot spots) (run ch (with_places before)) (run ch after)

-- ---- where no literals name folders

-- The folder of each `subdir` is named by the call itself.
abbrev pub FoldersAreTold : Project CallRef → Type 0
FoldersAreTold p = (n : ℕ) (f : BuildFile CallRef) → nth_file p n ≡ Some f → FileHolds (λ c. is_named (first_argument c.it) ≡ false) n f.tree

-- the law: then no literal in a list names a folder
abbrev pub ToldFoldersStay : Type 0
ToldFoldersStay = (p : Project CallRef) → FoldersAreTold p → (gone : CallRef → Bool) → NameNoFolders bare gone p
