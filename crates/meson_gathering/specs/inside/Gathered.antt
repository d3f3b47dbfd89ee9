-- What the code has read of a project while it looks at one file after another.
use Rattle.std.specs.Prelude.{◌≡◌, ◌≢◌, ◌≤◌, ℕ, List, ◌++◌, length, All, Option, Some, None}
use Rattle.meson_splice.specs.declared.file_set.File.{File}
use Rattle.meson_splice.specs.Files.{bytes_at}
use Rattle.meson_syntax.specs.declared.fault.ParseFault.TheVariants as parse
use Rattle.meson_syntax.specs.Reads.{MayNotRead}
use Rattle.meson_calls.specs.declared.call.Reading.{Reading}
use Rattle.meson_calls.specs.Loading.{max_files, name_of_file, HasFileName}
use Rattle.meson_store.specs.Content.{Content}
use Rattle.meson_gathering.specs.Gathering.{Enters, files_entered, with_more, IsNextFile, Ending, unread, too_many}
use Rattle.meson_gathering.specs.declared.fault.GatherFault.{GatherFault}
use Rattle.meson_gathering.specs.declared.fault.GatherFault.TheVariants.{Parse, TooManyFiles, Store}
use Rattle.meson_store.specs.declared.store_fault.StoreFault.TheVariants as store

-- Why names are not all entered.
pub data IsNotEntered (content : Content) (folder : Option (List ℕ)) (names : List (List ℕ)) (files : List File) : Ending → Type 0 where
  past_limit : files_entered content folder names files ≡ None → IsNotEntered content folder names files too_many
  at_name : (name : List ℕ) → IsNextFile content folder names files name → IsNotEntered content folder names files (unread name)

-- the files with more build files after them, and not too many
pub record Grows (old new : List File) : Type 0 where
  pub more : List File
  pub is_more : new ≡ old ++ more
  pub named : All HasFileName more
  pub few : length new ≤ max_files

-- why a file is not added after the others
abbrev pub IsNotAdded : List File → File → GatherFault → Type 0
IsNotAdded files f (Parse name bytes fault) = ⊥
IsNotAdded files f TooManyFiles = with_more files f ≡ None
IsNotAdded files f (Store fault) = fault ≡ store.OutOfMemory

-- why the names that a file enters are not known
abbrev pub StopsLooking : List ℕ → List ℕ → GatherFault → Type 0
StopsLooking name bytes (Parse n b fault) = (n ≡ name) × (b ≡ bytes) × MayNotRead bytes fault × (fault ≢ parse.OutOfMemory)
StopsLooking name bytes TooManyFiles = ⊥
StopsLooking name bytes (Store fault) = fault ≡ store.OutOfMemory

-- the file at that place enters what the new files have more
pub record LooksAt (reading : Reading) (content : Content) (folder : Option (List ℕ)) (place : ℕ) (old new : List File) : Type 0 where
  pub names : List (List ℕ)
  pub enters : Enters reading (name_of_file place old) (bytes_at place old) names
  pub are_entered : files_entered content folder names old ≡ Some new
