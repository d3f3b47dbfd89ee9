-- What a `subdir` call means, and whether that is there. Meson manual, Reference manual, `subdir`.
use Rattle.std.specs.Prelude.{ℕ, Bool, false, not, ◌&&◌, List, bytes_eq, codes, Option, Some, None, option_and_then}
use Rattle.std.specs.List.{list_any}
use Rattle.meson_calls.specs.Project.{Project, nth_file, Placed}
use Rattle.meson_calls.specs.Calls.{Call, calls_function, first_literal}
use Rattle.meson_calls.specs.Folders.{file_in}

-- the file that a `subdir` in the file of this name means
abbrev pub meant_file : {S : Type 0} → List ℕ → Call S → Option (List ℕ)
meant_file name c = option_and_then (file_in name) (first_literal c)

-- ---- a `subdir` of a file that does not exist

abbrev pub has_name : {S : Type 0} → Project S → List ℕ → Bool
has_name p name = list_any (λ f. bytes_eq f.name name) p

abbrev pub is_there : {S : Type 0} → Project S → Option (List ℕ) → Bool
is_there p None = false
is_there p (Some name) = has_name p name

abbrev pub enters_unknown : {S : Type 0} → Project S → Placed (Call S) → Bool
enters_unknown p c = calls_function (codes "subdir") c.it && not (is_there p (option_and_then (λ f. meant_file f.name c.it) (nth_file p c.place.file)))
