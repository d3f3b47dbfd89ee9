-- A text in two parts, and what splices at one file make of its bytes.
use Rattle.std.specs.Prelude.{◌≡◌, ℕ, List, ◌++◌, reverse, Some, Err}
use Rattle.meson_splice.specs.Files.{position_of_file, with_bytes}
use Rattle.meson_splice.specs.Patch.{patched_all}
use Rattle.meson_splice.specs.declared.fault.SpliceFault.{SpliceFault}
use Rattle.meson_splice.specs.declared.file_set.File.{File}
use Rattle.meson_splice.specs.declared.gap_text.GapText.{GapText}
use Rattle.meson_splice.specs.declared.splice.Splice.{Splice}

-- the part before the gap, and the one after it, which is kept from its end
abbrev pub gap_text : GapText → List ℕ
gap_text t = t.front.items ++ reverse t.back.items

-- If the file of that name has the bytes b, the splices do what the others do if it has the bytes c.
pub record LeadsTo (file b : List ℕ) (splices : List Splice) (c : List ℕ) (others : List Splice) : Type 0 where
  pub alike : (files : List File) (i : ℕ) → position_of_file file files ≡ Some i
      → patched_all (with_bytes i b files) splices ≡ patched_all (with_bytes i c files) others

-- If the file of that name has the bytes b, the splices are refused in this way.
pub record StopsBy (file b : List ℕ) (splices : List Splice) (e : SpliceFault) : Type 0 where
  pub refused : (files : List File) (i : ℕ) → position_of_file file files ≡ Some i → patched_all (with_bytes i b files) splices ≡ Err e
