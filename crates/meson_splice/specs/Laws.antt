-- What holds of splices, changes and their inverses.
use Rattle.std.specs.Prelude.{◌≡◌, ℕ, ◌+◌, List, ◌↔◌, Ok}
use Rattle.meson_splice.specs.Past.{undone, undone_times}
use Rattle.meson_splice.specs.Patch.{Patches, inverse_of, inverses_of, patched, patched_all, patched_in, then_ok}
use Rattle.meson_splice.specs.declared.file_set.File.{File}
use Rattle.meson_splice.specs.declared.history.History.{History}
use Rattle.meson_splice.specs.declared.splice.Splice.{Splice}

abbrev pub PatchedMeansPatches : Type 0
PatchedMeansPatches = (b : List ℕ) (s : Splice) (c : List ℕ) → (patched b s ≡ Ok c) ↔ Patches b s c

abbrev pub InverseRestores : Type 0
InverseRestores = (b c : List ℕ) (s : Splice) → patched b s ≡ Ok c → patched c (inverse_of s) ≡ Ok b

abbrev pub InverseRestoresFiles : Type 0
InverseRestoresFiles = (files more : List File) (s : Splice) → patched_in files s ≡ Ok more → patched_in more (inverse_of s) ≡ Ok files

abbrev pub InversesRestore : Type 0
InversesRestore = (files more : List File) (splices : List Splice) → patched_all files splices ≡ Ok more → patched_all more (inverses_of splices) ≡ Ok files

-- one undo, as a number of undos, is an undo
abbrev pub OneIsAnUndo : Type 0
OneIsAnUndo = (h : History) (files : List File) → undone_times 1 h files ≡ undone h files

-- a number of undos and then another number are as many as both together
abbrev pub UndosFollow : Type 0
UndosFollow = (first more : ℕ) (h : History) (files : List File)
    → undone_times (first + more) h files ≡ then_ok (undone_times first h files) (λ s. undone_times more s.0 s.1)
