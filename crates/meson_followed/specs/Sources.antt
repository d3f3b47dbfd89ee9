-- The sources that a target may have, where variables are followed, as commands name them.
use Rattle.std.specs.Prelude.{ℕ, ◌-◌, ◌==◌, Bool, ◌||◌, List, [], ◌∷◌, ◌++◌, length, take, slice_get, if◌then◌else◌, bytes_eq, Option, Some, None, option_map}
use Rattle.std.specs.List.{filter, filter_map}
use Rattle.std.specs.Option.{option_map_or}
use Rattle.meson_calls.specs.declared.call.CallRef.{CallRef}
use Rattle.meson_calls.specs.Entering.{is_absolute}
use Rattle.meson_calls.specs.Project.{Project, nth_file, place}
use Rattle.meson_calls.specs.Roles.{one_of}
use Rattle.meson_following.specs.Following.{Item, Mark, known, opaque, empty}
use Rattle.meson_sharing.specs.Told.{last_of}
use Rattle.meson_sources.specs.SourceEdits.{Spot}
use Rattle.meson_followed.specs.Paths.{name_from, path_of}

-- the path of a source, whether it is there in each evaluation, the file from whose folder its name is taken, the list that it is an element of and its number in
-- it, if there is one, and the maker in whose value it is, if it is in one
pub record MetSource : Type 0 where
  pub path : List ℕ
  pub sure : Bool
  pub base : ℕ
  pub spot : Option Spot
  pub maker : Option CallRef

-- ---- places: an element is at the place of its list and one step more

abbrev pub list_around : CallRef → CallRef
list_around q = place q.file (take (length q.path.steps - 1) q.path.steps)

abbrev pub number_in_list : CallRef → Option ℕ
number_in_list q = slice_get q.path.steps (length q.path.steps - 1)

abbrev pub spot_at : CallRef → Option Spot
spot_at q = option_map (λ n. record { list = list_around q; number = n }) (number_in_list q)

abbrev pub spot_of_item : {S : Type 0} → Item S → Option Spot
spot_of_item i = if i.listed then spot_at i.place else None

-- ---- paths

abbrev pub file_name : {S : Type 0} → Project S → ℕ → List ℕ
file_name p n = option_map_or (λ f. f.name) (nth_file p n) []

-- the file from whose folder a text is taken: that of the innermost `files` around it, else the one given
abbrev pub base_of : ℕ → Option ℕ → ℕ
base_of n None = n
base_of n (Some files) = files

-- depending on the project and the number of the file of the target's call
module _ {S : Type 0} (p : Project S) (n : ℕ) where
  -- the path that a name in a command means
  abbrev pub named_path : List ℕ → List ℕ
  named_path name = path_of (file_name p n) name

  -- The name for this path where names are taken from the folder of the file of this number. It is written as it is given where it means the same there.
  abbrev pub name_for : List ℕ → (base : ℕ) → List ℕ
  name_for name base = if base == n || is_absolute name then name else name_from (file_name p n) name (file_name p base)

  abbrev pub source_of_item : Item S → MetSource
  source_of_item i = record {
    path = path_of (file_name p (base_of n i.way.files)) i.text;
    sure = i.way.sure;
    base = base_of n i.way.files;
    spot = spot_of_item i;
    maker = last_of i.way.through;
  }

  abbrev pub source_of : Mark S → Option MetSource
  source_of (known i) = Some (source_of_item i)
  source_of opaque = None
  source_of (empty q w) = None

  abbrev pub sources_of : List (Mark S) → List MetSource
  sources_of marks = filter_map source_of marks

  -- each path once, by the first name that means it
  abbrev pub distinct_paths_by : (seen names : List (List ℕ)) → List (List ℕ)
  distinct_paths_by seen [] = []
  distinct_paths_by seen (x ∷ xs) =
      if one_of seen (named_path x) then distinct_paths_by seen xs else x ∷ distinct_paths_by (seen ++ named_path x ∷ []) xs

  abbrev pub distinct_paths : List (List ℕ) → List (List ℕ)
  distinct_paths names = distinct_paths_by [] names

abbrev pub has_path : List ℕ → MetSource → Bool
has_path path s = bytes_eq s.path path

abbrev pub sources_at : List MetSource → List ℕ → List MetSource
sources_at sources path = filter (has_path path) sources
