-- The files of a project as a store has them: the root file, and those that `subdir` calls may enter. Where files are followed, a call in a loop may enter
-- several.
use Rattle.std.specs.Prelude.{◌≡◌, ◌≢◌, ℕ, nat_lt, List, [], ◌∷◌, ◌++◌, length, if◌then◌else◌, Option, Some, None, option_and_then, option_map}
use Rattle.std.specs.Borrow.{Bor}
use Rattle.std.specs.FinMap.{get}
use Rattle.meson_splice.specs.declared.file_set.File.{File}
use Rattle.meson_splice.specs.Files.{position_of_file}
use Rattle.meson_syntax.specs.declared.fault.ParseFault.{ParseFault}
use Rattle.meson_syntax.specs.declared.fault.ParseFault.TheVariants as parse
use Rattle.meson_lex.specs.declared.kinds.Span.{Span}
use Rattle.meson_syntax.specs.Reads.{IsSpanned, MayNotRead}
use Rattle.meson_syntax.specs.Tree as tree
use Rattle.meson_calls.specs.declared.call.Reading.{Reading}
use Rattle.meson_calls.specs.Folders.{build_file}
use Rattle.meson_calls.specs.Loading.{max_files}
use Rattle.meson_entering.specs.Entering as entering
use Rattle.meson_store.specs.Commit.{path_in}
use Rattle.meson_store.specs.Content.{Content}

abbrev pub file_of : List ℕ → List ℕ → File
file_of name bytes = record { name = name; bytes = bytes }

-- the folder whose name is given, if one is
abbrev pub named_folder : Option (Bor (List ℕ)) → Option (List ℕ)
named_folder name = option_map (λ n. n.now) name

-- ---- one name after another

-- the files with one more after them, or none if they are as many as may be
abbrev pub with_more : List File → File → Option (List File)
with_more files f = if nat_lt (length files) max_files then Some (files ++ f ∷ []) else None

-- a name changes nothing if its file is among them, or if the store has no such file
abbrev pub files_with : List File → List ℕ → Option ℕ → Option (List ℕ) → Option (List File)
files_with files name None (Some bytes) = with_more files (file_of name bytes)
files_with files name _ _ = Some files

module _ (content : Content) (folder : Option (List ℕ)) where
  -- the bytes that the store has for the file of that name in the project
  abbrev pub held_bytes : List ℕ → Option (List ℕ)
  held_bytes name = get content (path_in folder name)

  -- The files, followed by those that the names mean and the store has, in order, each once; none if they would be too many.
  abbrev pub files_entered : List (List ℕ) → List File → Option (List File)
  files_entered [] files = Some files
  files_entered (name ∷ names) files = option_and_then (files_entered names) (files_with files name (position_of_file name files) (held_bytes name))

-- ---- one file after another

-- the bytes parse as a tree which may enter files of these names, if build files are read so
abbrev pub Enters : Reading → List ℕ → List ℕ → List (List ℕ) → Type 0
Enters reading name bytes names = (t : tree.File Span) × IsSpanned bytes t × (names ≡ entering.files_entered reading (record { name = name; tree = t }))

-- how the files of a project are found
pub data Ending : Type 0 where
  -- these are the files, in order
  whole : List File → Ending
  -- the store has no root file
  rootless : Ending
  -- the file of this name, with these bytes, is not a valid build file
  unparsed : List ℕ → List ℕ → ParseFault → Ending
  -- the file of this name could not be read; no statement on a store's content says when
  unread : List ℕ → Ending
  too_many : Ending

-- The names before this one were entered, and its file is not among those that are there then: it is the next to be read.
pub record IsNextFile (content : Content) (folder : Option (List ℕ)) (names : List (List ℕ)) (files : List File) (name : List ℕ) : Type 0 where
  pub before : List (List ℕ)
  pub after : List (List ℕ)
  pub are_names : names ≡ before ++ name ∷ after
  pub there : List File
  pub are_there : files_entered content folder before files ≡ Some there
  pub is_new : position_of_file name there ≡ None

-- The files that were looked at, followed by those that are still to be looked at, in order. Each in turn enters the files that its `subdir` calls may mean.
pub data Gathers (reading : Reading) (content : Content) (folder : Option (List ℕ)) : List File → List File → Ending → Type 0 where
  ended : (looked : List File) → Gathers reading content folder looked [] (whole looked)
  enters : (looked todo more : List File) (f : File) (names : List (List ℕ)) (end : Ending) → Enters reading f.name f.bytes names
      → files_entered content folder names (looked ++ f ∷ todo) ≡ Some ((looked ++ f ∷ []) ++ more)
      → Gathers reading content folder (looked ++ f ∷ []) more end → Gathers reading content folder looked (f ∷ todo) end
  is_unparsed : (looked todo : List File) (f : File) (fault : ParseFault) → MayNotRead f.bytes fault → fault ≢ parse.OutOfMemory
      → Gathers reading content folder looked (f ∷ todo) (unparsed f.name f.bytes fault)
  is_unread : (looked todo : List File) (f : File) (names : List (List ℕ)) (name : List ℕ) → Enters reading f.name f.bytes names
      → IsNextFile content folder names (looked ++ f ∷ todo) name → Gathers reading content folder looked (f ∷ todo) (unread name)
  are_too_many : (looked todo : List File) (f : File) (names : List (List ℕ)) → Enters reading f.name f.bytes names
      → files_entered content folder names (looked ++ f ∷ todo) ≡ None → Gathers reading content folder looked (f ∷ todo) too_many

-- The same from the root file on, which is read first.
pub data Collects (reading : Reading) (content : Content) (folder : Option (List ℕ)) : Ending → Type 0 where
  no_root : held_bytes content folder build_file ≡ None → Collects reading content folder rootless
  unread_root : Collects reading content folder (unread build_file)
  from_root : (bytes : List ℕ) (end : Ending) → held_bytes content folder build_file ≡ Some bytes
      → Gathers reading content folder [] (file_of build_file bytes ∷ []) end
      → Collects reading content folder end

-- P holds of what the store holds, if it reports that
abbrev pub Told : Option Content → (Content → Type 0) → Type 0
Told before P = (content : Content) → before ≡ Some content → P content

-- a store that reported this before the files were read
abbrev pub Finds : Reading → Option Content → Option (List ℕ) → Ending → Type 0
Finds reading before folder end = Told before (λ content. Collects reading content folder end)
