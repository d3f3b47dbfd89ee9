-- Which build files are searched: all of them, or the one of a folder alone.
use Rattle.std.specs.Prelude.{ℕ, ◌==◌, List, filter, map, position, bytes_eq, codes, if◌then◌else◌, Option, Some, None, option_map, Result, Ok, ok_or}
use Rattle.meson_splice.specs.declared.file_set.File.{File}
use Rattle.meson_splice.specs.Patch.{then_ok}
use Rattle.meson_calls.specs.declared.call.BorrowedName.{BorrowedName}
use Rattle.meson_calls.specs.declared.call.CallName.{CallName}
use Rattle.meson_calls.specs.declared.call.CallRef.{CallRef}
use Rattle.meson_calls.specs.declared.refusal.Refusal.{Refusal}
use Rattle.meson_calls.specs.declared.refusal.Refusal.TheVariants.{NoFile}
use Rattle.meson_calls.specs.Folders.{build_file, in_folder}
use Rattle.meson_calls.specs.Project.{Project, Placed}

-- a borrowed name
abbrev pub name_at : BorrowedName → CallName
name_at name = record { id = name.id.now; folder = option_map (λ f. f.now) name.folder }

-- a name without a folder
abbrev pub anywhere : List ℕ → CallName
anywhere id = record { id = id; folder = None }

-- the build file of a folder; `.` is the root folder
abbrev pub file_of_folder : List ℕ → List ℕ
file_of_folder folder = if bytes_eq folder (codes ".") then build_file else in_folder folder

abbrev pub names_of : List File → List (List ℕ)
names_of files = map (λ (f : File). f.name) files

abbrev pub project_names : {S : Type 0} → Project S → List (List ℕ)
project_names p = map (λ f. f.name) p

abbrev pub position_of_name : List ℕ → List (List ℕ) → Option ℕ
position_of_name name names = position (λ x. bytes_eq x name) names

abbrev pub numbered_file : List (List ℕ) → List ℕ → Result ℕ Refusal
numbered_file names name = ok_or (position_of_name name names) NoFile

-- the number of the one file that is searched, if a folder is given, among files of these names
abbrev pub searched_file : List (List ℕ) → Option (List ℕ) → Result (Option ℕ) Refusal
searched_file names None = Ok None
searched_file names (Some folder) = then_ok (numbered_file names (file_of_folder folder)) (λ n. Ok (Some n))

-- those places that are in the file that is searched, if it is one alone
abbrev pub places_within : Option ℕ → List CallRef → List CallRef
places_within None cs = cs
places_within (Some n) cs = filter (λ c. c.file == n) cs

-- what is at such places
abbrev pub within : {X : Type 0} → Option ℕ → List (Placed X) → List (Placed X)
within None xs = xs
within (Some n) xs = filter (λ x. x.place.file == n) xs
