-- Files that are a project: few enough, each with the name of a build file, and each with its tree.
use Rattle.std.specs.Prelude.{◌≢◌, ℕ, zero, suc, ◌<◌, ◌≤◌, List, [], ◌∷◌, length, take, All}
use Rattle.meson_lex.specs.declared.kinds.Span.{Span}
use Rattle.meson_splice.specs.declared.file_set.File.{File}
use Rattle.meson_splice.specs.Files.{bytes_at}
use Rattle.meson_syntax.specs.declared.tree.Parsed.{Parsed}
use Rattle.meson_syntax.specs.declared.fault.ParseFault.{ParseFault}
use Rattle.meson_syntax.specs.declared.fault.ParseFault.TheVariants as parse
use Rattle.meson_syntax.specs.Tree.{Plain}
use Rattle.meson_syntax.specs.Tree as tree
use Rattle.meson_syntax.specs.Reads.{Reads, IsSpanned, MayNotRead}
use Rattle.meson_syntax.specs.View.{view}
use Rattle.meson_calls.specs.declared.load_fault.LoadFault.{LoadFault}
use Rattle.meson_calls.specs.declared.load_fault.LoadFault.TheVariants.{TooManyFiles, BadFileName, Parse, OutOfMemory}
use Rattle.meson_calls.specs.Folders.{IsFileName}
use Rattle.meson_calls.specs.Project.{Project}

abbrev pub max_files : ℕ
max_files = 1024

-- ---- a loaded project: its files, and the tree of each as the code has it

pub record Loaded : Type 0 where
  pub files : List File
  pub parsed : List Parsed

abbrev pub loaded_from : List File → List Parsed → Loaded
loaded_from files parsed = record { files = files; parsed = parsed }

-- the trees of these values over the files
abbrev pub views : List File → List Parsed → List (tree.File Span)
views (f ∷ files) (t ∷ parsed) = view f.bytes t ∷ views files parsed
views _ _ = []

abbrev pub trees : Loaded → List (tree.File Span)
trees l = views l.files l.parsed

-- each file's name with its tree
abbrev pub named_trees : {S : Type 0} → List File → List (tree.File S) → Project S
named_trees (f ∷ files) (t ∷ ts) = record { name = f.name; tree = t } ∷ named_trees files ts
named_trees _ _ = []

abbrev pub project : Loaded → Project Span
project l = named_trees l.files (trees l)

-- each file parses as the tree of its value
abbrev pub AreParsed : List File → List Parsed → Type 0
AreParsed [] [] = Unit {0}
AreParsed (f ∷ files) (t ∷ parsed) = IsSpanned f.bytes (view f.bytes t) × AreParsed files parsed
AreParsed _ _ = ⊥

abbrev pub HasFileName : File → Type 0
HasFileName f = IsFileName f.name

pub record IsProject (l : Loaded) : Type 0 where
  pub few : length l.files ≤ max_files
  pub named : All HasFileName l.files
  pub parsed : AreParsed l.files l.parsed

-- ---- files that are not valid, for the first of the faults

abbrev pub name_of_file : ℕ → List File → List ℕ
name_of_file i [] = []
name_of_file zero (f ∷ files) = f.name
name_of_file (suc i) (f ∷ files) = name_of_file i files

-- the first file whose name is bad
pub record IsFirstBadName (files : List File) (i : ℕ) : Type 0 where
  pub below : i < length files
  pub before : All HasFileName (take i files)
  pub bad : IsFileName (name_of_file i files) → ⊥

abbrev pub HasTree : File → Type 0
HasTree f = (t : Plain) × Reads f.bytes t

-- the first file that has no tree, for a reason
pub record IsFirstUnread (files : List File) (i : ℕ) (fault : ParseFault) : Type 0 where
  pub below : i < length files
  pub before : All HasTree (take i files)
  pub why : MayNotRead (bytes_at i files) fault
  pub told : fault ≢ parse.OutOfMemory

-- Which faults files may get: the first in order that holds. A file without a tree gets one that its bytes may get.
abbrev pub MayNotLoad : List File → LoadFault → Type 0
MayNotLoad files TooManyFiles = max_files < length files
MayNotLoad files (BadFileName i) = (length files ≤ max_files) × IsFirstBadName files i
MayNotLoad files (Parse i fault) = (length files ≤ max_files) × All HasFileName files × IsFirstUnread files i fault
MayNotLoad files OutOfMemory = Unit {0}
