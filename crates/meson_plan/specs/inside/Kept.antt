-- What stays kept of files when splices change some of them.
use Rattle.std.specs.Prelude.{◌≡◌, ◌≢◌, ℕ, List, All, Some, IsTrue, get_or}
use Rattle.meson_splice.specs.declared.file_set.File.{File}
use Rattle.meson_splice.specs.declared.splice.Splice.{Splice}
use Rattle.meson_splice.specs.Files.{position_of_file}
use Rattle.meson_calls.specs.declared.kept.Kept.{Kept}
use Rattle.meson_calls.specs.declared.kept.Kept.TheVariants.{Unknown}
use Rattle.meson_calls.specs.Setters.{is_known}

-- An entry of which something is known afterwards was the same before, and none of the splices is at its file.
abbrev pub StayKept : List Kept → List Kept → List File → List Splice → Type 0
StayKept before after files splices =
    (i : ℕ) → IsTrue (is_known (get_or after i Unknown))
    → (get_or after i Unknown ≡ get_or before i Unknown) × All (λ s. position_of_file s.file files ≢ Some i) splices
