-- What a commit of a project's files does to a store.
use Rattle.std.specs.Prelude.{◌≡◌, ◌≤◌, ◌⊎◌, ℕ, List, [], ◌∷◌, ◌++◌, length, reverse, codes, bytes_eq, Option, Some, None, if◌then◌else◌}
use Rattle.meson_splice.specs.declared.file_set.File.{File}
use Rattle.meson_store.specs.StoreCalls.{counted}
use Rattle.meson_store.specs.Content.{Content, content_with}
use Rattle.meson_store.specs.Seen.{IsNotReplaced, IsReplaced, Seen, Untouched}
use Rattle.meson_store.specs.declared.store.StoreError.{StoreError}
use Rattle.meson_store.specs.declared.store.StoreError.TheVariants as error
use Rattle.meson_store.specs.declared.store_fault.StoreFault.{StoreFault}
use Rattle.meson_store.specs.declared.store_fault.StoreFault.TheVariants.{WriteFailed, OutOfMemory}

-- the name in the store of a file of the project in that folder
abbrev pub path_in : Option (List ℕ) → List ℕ → List ℕ
path_in None name = name
path_in (Some folder) name = folder ++ codes "/" ++ name

-- a file that gets other bytes: what it held, and what it gets
pub record Put : Type 0 where
  pub path : List ℕ
  pub name : List ℕ
  pub was : List ℕ
  pub bytes : List ℕ

abbrev pub put_at : Option (List ℕ) → File → List ℕ → Put
put_at folder file bytes = record { path = path_in folder file.name; name = file.name; was = file.bytes; bytes = bytes }

-- the files whose bytes differ, in order
abbrev pub puts : Option (List ℕ) → List File → List File → List Put
puts folder (b ∷ before) (a ∷ after) =
    if bytes_eq b.bytes a.bytes then puts folder before after else (put_at folder b a.bytes ∷ puts folder before after)
puts folder _ _ = []

-- the content after these files got their bytes
abbrev pub put_all : List Put → Option Content → Option Content
put_all [] content = content
put_all (p ∷ more) content = put_all more (content_with content p.path p.bytes)

-- the files that a fault lists: those that may have their new bytes
abbrev pub still_new : StoreFault → List (List ℕ)
still_new (WriteFailed name files) = files
still_new _ = []

-- ---- all of them are replaced

-- each of these files got its bytes, and no other
pub record AreReplaced (files : List Put) (before after : Seen) : Type 0 where
  pub put : after.content ≡ put_all files before.content
  pub counts : before.failures ≤ after.failures
  pub counted : after.replaces ≡ counted (length files) before.replaces

-- ---- or one replace fails

-- the files `done` were replaced, and the replace of the next one failed
pub record Stops (files : List Put) (before after : Seen) (why : StoreError) : Type 0 where
  pub done : List Put
  pub failed : Put
  pub rest : List Put
  pub all : files ≡ done ++ (failed ∷ rest)
  pub reached : Seen
  pub are : AreReplaced done before reached
  pub fails : IsNotReplaced why failed.path failed.bytes reached after

-- Files get the bytes again that they held, one after another. The names are those of the files for which that failed.
pub data GoBack : List Put → Seen → Seen → List (List ℕ) → Type 0 where
  all_back : (s : Seen) → GoBack [] s s []
  is_back : (file : Put) (files : List Put) (s t u : Seen) (names : List (List ℕ)) → IsReplaced file.path file.was s t → GoBack files t u names
      → GoBack (file ∷ files) s u names
  is_lost : (file : Put) (files : List Put) (s t u : Seen) (names : List (List ℕ)) (why : StoreError) → IsNotReplaced why file.path file.was s t
      → GoBack files t u names → GoBack (file ∷ files) s u (file.name ∷ names)

-- the files that get their old bytes again: that one, and those that were replaced before it, the last first
abbrev pub to_go_back : StoreError → Put → List Put → List Put
to_go_back error.Device failed done = failed ∷ reverse done
to_go_back _ failed done = reverse done

-- The fault of a replace of the file of that name, if these files did not get their old bytes again. Out of memory is reported if nothing is left to report.
abbrev pub fault_of : List ℕ → StoreError → List (List ℕ) → StoreFault
fault_of name error.OutOfMemory [] = OutOfMemory
fault_of name why still = WriteFailed name still

-- a replace failed, what was replaced got its old bytes again, and the fault reports it
pub record TakenBack (files : List Put) (before after : Seen) (fault : StoreFault) : Type 0 where
  pub why : StoreError
  pub stopped : Seen
  pub stops : Stops files before stopped why
  pub still : List (List ℕ)
  pub back : GoBack (to_go_back why stops.failed stops.done) stopped after still
  pub told : fault ≡ fault_of stops.failed.name why still

-- memory ran out before any file was replaced, or a replace failed
abbrev pub CommitFails : List Put → Seen → Seen → StoreFault → Type 0
CommitFails files before after fault = ((fault ≡ OutOfMemory) × Untouched before after) ⊎ TakenBack files before after fault
