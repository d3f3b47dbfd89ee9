-- What steps make is one thing, after each of them.
use Rattle.std.specs.Prelude.{◌≡◌, ℕ, List}
use Rattle.meson_splice.specs.declared.file_set.File.{File}
use Rattle.meson_splice.specs.declared.splice.Splice.{Splice}
use Rattle.meson_calls.specs.Loading.{Loaded, trees}
use Rattle.meson_steps.specs.Steps.{Step, StepsMake}
use Rattle.meson_steps.specs.Working.{AreKnown, AreMade, Standing, stood}

-- Steps make of files one list of splices, with one count of the bytes that are read again. The files are then those alone.
abbrev pub OneMaking : Type 0
OneMaking = (files : List File) (steps : List Step) (splices others : List Splice) (new next : List File) (bytes more : ℕ)
    → StepsMake files steps splices new bytes → StepsMake files steps others next more → (splices ≡ others) × (new ≡ next) × (bytes ≡ more)

-- where steps made the same so far, with the same tree of each file, to the last border
pub record AreAlike (now other : Standing) : Type 0 where
  pub splices : now.splices ≡ other.splices
  pub files : now.files ≡ other.files
  pub trees : trees (stood now) ≡ trees (stood other)
  pub relexed : now.relexed ≡ other.relexed

-- So it is between two steps of a command, when a file may be longer and deeper than one that is kept.
abbrev pub OneStanding : Type 0
OneStanding = (old : Loaded) (steps : List Step) (now other : Standing) → AreMade old steps now → AreMade old steps other
    → AreKnown now.saved now.files now.trees → AreKnown other.saved other.files other.trees → AreAlike now other
