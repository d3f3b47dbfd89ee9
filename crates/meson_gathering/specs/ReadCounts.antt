-- The number of reads of a store for a project's files: one for the root file, and one for each entered name that no file there has. If a fault says that a
-- file could not be read, it is the last file that the store was queried for.
use Rattle.std.specs.Prelude.{◌≡◌, ◌<◌, ◌≤◌, ◌⊎◌, true, ℕ, suc, List, [], ◌∷◌, ◌++◌, length, Option, Some, None, IfSome, is_some}
use Rattle.meson_splice.specs.declared.file_set.File.{File}
use Rattle.meson_splice.specs.Files.{bytes_at, position_of_file}
use Rattle.meson_calls.specs.declared.call.Reading.{Reading}
use Rattle.meson_calls.specs.Folders.{build_file}
use Rattle.meson_calls.specs.Loading.{name_of_file}
use Rattle.meson_store.specs.StoreCalls.{one_more}
use Rattle.meson_store.specs.Content.{Content}
use Rattle.meson_store.specs.declared.store_fault.StoreFault.{StoreFault}
use Rattle.meson_store.specs.declared.store_fault.StoreFault.TheVariants.{ReadFailed}
use Rattle.meson_gathering.specs.Gathering.{Enters, Told, file_of, held_bytes, files_with}
use Rattle.meson_gathering.specs.declared.fault.GatherFault.{GatherFault}
use Rattle.meson_gathering.specs.declared.fault.GatherFault.TheVariants.{Store}

-- ---- the file that a fault reports as unreadable, if there is one

-- a fault of the store
abbrev pub unread_name : StoreFault → Option (List ℕ)
unread_name (ReadFailed name) = Some name
unread_name _ = None

-- one of gathering
abbrev pub unread_file : GatherFault → Option (List ℕ)
unread_file (Store fault) = unread_name fault
unread_file _ = None

-- ---- the last query to the store, if it ends with a fault; `unread` is the file that the fault reports as unreadable

-- no query, and the fault reports no file
abbrev pub AsksNone : ℕ → ℕ → Option (List ℕ) → Type 0
AsksNone reads reads' unread = (reads' ≡ reads) × (unread ≡ None)

-- a query for the file of that name, once, and the fault reports no other
abbrev pub Asks : List ℕ → ℕ → ℕ → Option (List ℕ) → Type 0
Asks name reads reads' unread = (reads' ≡ one_more reads) × IfSome unread (λ n. n ≡ name)

-- no query, or one for that file
abbrev pub MayAsk : List ℕ → ℕ → ℕ → Option (List ℕ) → Type 0
MayAsk name reads reads' unread = AsksNone reads reads' unread ⊎ Asks name reads reads' unread

-- the same, and no query if that file is there
abbrev pub MayAskIfNew : List ℕ → List File → ℕ → ℕ → Option (List ℕ) → Type 0
MayAskIfNew name files reads reads' unread = AsksNone reads reads' unread ⊎ ((position_of_file name files ≡ None) × Asks name reads reads' unread)

-- of a store that reported this before
module _ (before : Option Content) (folder : Option (List ℕ)) where
  -- ---- names that are entered

  -- a name is entered: if its file is there nothing is read; else the store is queried for it, once
  pub data EntersOne (name : List ℕ) (files : List File) (reads : ℕ) : List File → ℕ → Type 0 where
    is_there : is_some (position_of_file name files) ≡ true → EntersOne name files reads files reads
    is_read : (bytes : Option (List ℕ)) (new : List File) → position_of_file name files ≡ None → Told before (λ content. bytes ≡ held_bytes content folder name)
        → files_with files name None bytes ≡ Some new → EntersOne name files reads new (one_more reads)

  -- names are entered, one after another
  pub data EntersEach (files : List File) (reads : ℕ) : List (List ℕ) → List File → ℕ → Type 0 where
    no_name : EntersEach files reads [] files reads
    next_name : (names : List (List ℕ)) (name : List ℕ) (there new : List File) (n m : ℕ) → EntersEach files reads names there n → EntersOne name there n new m
        → EntersEach files reads (names ++ name ∷ []) new m

  -- one of them is not: those before it were
  pub record StopsEntering (files : List File) (reads : ℕ) (names : List (List ℕ)) (reads' : ℕ) (unread : Option (List ℕ)) : Type 0 where
    pub done : List (List ℕ)
    pub name : List ℕ
    pub rest : List (List ℕ)
    pub all : names ≡ done ++ name ∷ rest
    pub there : List File
    pub so_far : ℕ
    pub entered : EntersEach files reads done there so_far
    pub last : MayAskIfNew name there so_far reads' unread

-- ---- the files, of which this number were looked at, if build files are read so

module _ (reading : Reading) (before : Option Content) (folder : Option (List ℕ)) where
  -- the names that the file at a place enters are entered
  abbrev pub EntersFor : List File → ℕ → ℕ → List File → ℕ → Type 0
  EntersFor files place reads new reads' = (names : List (List ℕ)) × Enters reading (name_of_file place files) (bytes_at place files) names
      × EntersEach before folder files reads names new reads'

  -- they are not known, or one of them is not entered
  abbrev pub StopsFor : List File → ℕ → ℕ → ℕ → Option (List ℕ) → Type 0
  StopsFor files place reads reads' unread = AsksNone reads reads' unread ⊎ ((place < length files) × (names : List (List ℕ))
      × Enters reading (name_of_file place files) (bytes_at place files) names × StopsEntering before folder files reads names reads' unread)

  pub data Looks (reads : ℕ) : List File → ℕ → ℕ → Type 0 where
    root_read : (bytes : List ℕ) → Told before (λ content. held_bytes content folder build_file ≡ Some bytes)
        → Looks reads (file_of build_file bytes ∷ []) 0 (one_more reads)
    next_file : (files new : List File) (place n m : ℕ) → Looks reads files place n → place < length files → EntersFor files place n new m
        → Looks reads new (suc place) m

  -- these are all files
  pub record ReadsFiles (reads : ℕ) (files : List File) (reads' : ℕ) : Type 0 where
    pub place : ℕ
    pub past : length files ≤ place
    pub looks : Looks reads files place reads'

  -- the files are not all read
  pub data StopsReading (reads reads' : ℕ) (unread : Option (List ℕ)) : Type 0 where
    stops_at_root : MayAsk build_file reads reads' unread → StopsReading reads reads' unread
    stops_at_file : (files : List File) (place n : ℕ) → Looks reads files place n → StopsFor files place n reads' unread → StopsReading reads reads' unread
