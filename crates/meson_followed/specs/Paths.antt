-- The paths that names of sources mean. Meson manual, Reference manual, `files` and `executable`: a name is a path from the folder of the build file. A part
-- that is empty or `.` means nothing, and `..` means the folder around.
use Rattle.std.specs.Prelude.{ℕ, ◌-◌, List, [], ◌∷◌, ◌++◌, flat_map, length, map, take, slice_get, if◌then◌else◌, bytes_eq, codes, Option, Some, None}
use Rattle.std.specs.List.{fold, join_with_byte}
use Rattle.meson_calls.specs.Entering.{is_absolute, names_folder}
use Rattle.meson_calls.specs.Folders.{slash_parts}

-- the folders on the way and what is in the last of them; the root of the file system is an empty part
abbrev pub Parts : Type 0
Parts = List (List ℕ)

abbrev pub upward : List ℕ
upward = codes ".."

-- The folder around, by the last part. Nothing is around the root, and what is around the first folder is not known by a name.
abbrev pub around_last : Parts → Option (List ℕ) → Parts
around_last path None = path ++ upward ∷ []
around_last path (Some last) =
    if bytes_eq last [] then path else (if bytes_eq last upward then path ++ upward ∷ [] else take (length path - 1) path)

abbrev pub around : Parts → Parts
around path = around_last path (slice_get path (length path - 1))

-- one part further
abbrev pub onward : Parts → List ℕ → Parts
onward path part = if names_folder part then (if bytes_eq part upward then around path else path ++ part ∷ []) else path

abbrev pub through_parts : Parts → List ℕ → Parts
through_parts path text = fold onward path (slash_parts text)

-- the folder of the file of this name
abbrev pub file_folder : List ℕ → Parts
file_folder file = around (through_parts [] file)

-- where a text begins
abbrev pub start_of : (file text : List ℕ) → Parts
start_of file text = if is_absolute text then [] ∷ [] else file_folder file

-- as one text: each part with a slash after it
abbrev pub written_path : Parts → List ℕ
written_path path = flat_map (λ part. part ++ 47 ∷ []) path

-- the path that a text means in the file of this name
abbrev pub path_of : (file text : List ℕ) → List ℕ
path_of file text = written_path (through_parts (start_of file text) text)

-- ---- names that mean a path

-- The way from a folder to a path: up from each folder that is not on the way to the path, and on through the rest of the path.
abbrev pub way_from : (folder path : Parts) → Parts
way_from [] path = path
way_from (f ∷ fs) [] = map (λ _. upward) (f ∷ fs)
way_from (f ∷ fs) (x ∷ xs) = if bytes_eq f x then way_from fs xs else map (λ _. upward) (f ∷ fs) ++ x ∷ xs

-- as a name: the parts with a slash between; `.` if there are no parts
abbrev pub name_of_way : Parts → List ℕ
name_of_way [] = codes "."
name_of_way (part ∷ more) = join_with_byte 47 (part ∷ more)

-- a name that means in the file of the last name what the text means in the file of the first one
abbrev pub name_from : (file text base : List ℕ) → List ℕ
name_from file text base = name_of_way (way_from (file_folder base) (through_parts (file_folder file) text))
