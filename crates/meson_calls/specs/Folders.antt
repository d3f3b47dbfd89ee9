-- Names of build files, and the file that a call of `subdir` means. Meson manual, Reference manual, `subdir`: it enters the build file of a folder
-- below that of the file that it is in.
use Rattle.std.specs.Prelude.{◌≡◌, ◌⊎◌, ℕ, ◌==◌, nat_lt, Bool, true, not, ◌||◌, ◌&&◌, List, [], ◌∷◌, ◌++◌, if◌then◌else◌, bytes_eq, codes, Option, Some, None}
use Rattle.std.specs.List.{list_any}

-- ---- plain folders: none of the parts between slashes is empty, `.` or `..`, and no character is a control character

-- the parts of a text between slashes, after what was read of the first of them
abbrev pub parts_after : List ℕ → List ℕ → List (List ℕ)
parts_after read [] = read ∷ []
parts_after read (c ∷ cs) = if c == 47 then read ∷ parts_after [] cs else parts_after (read ++ c ∷ []) cs

abbrev pub slash_parts : List ℕ → List (List ℕ)
slash_parts text = parts_after [] text

abbrev pub is_control : ℕ → Bool
is_control c = nat_lt c 32 || c == 127

abbrev pub goes_nowhere : List ℕ → Bool
goes_nowhere part = bytes_eq part [] || bytes_eq part (codes ".") || bytes_eq part (codes "..")

abbrev pub is_plain_folder : List ℕ → Bool
is_plain_folder folder = not (list_any is_control folder) && not (list_any goes_nowhere (slash_parts folder))

-- ---- names: `meson.build`, or a plain folder, a slash and `meson.build`

abbrev pub build_file : List ℕ
build_file = codes "meson.build"

abbrev pub in_folder : List ℕ → List ℕ
in_folder folder = folder ++ codes "/meson.build"

abbrev pub IsFileName : List ℕ → Type 0
IsFileName name = (name ≡ build_file) ⊎ ((folder : List ℕ) × (name ≡ in_folder folder) × (is_plain_folder folder ≡ true))

-- ---- the file that a `subdir` of this folder means in the file of this name

-- the parts of a name but the last, each with the slash after it
abbrev pub folder_parts : List (List ℕ) → List ℕ
folder_parts [] = []
folder_parts (x ∷ []) = []
folder_parts (x ∷ y ∷ more) = x ++ (47 ∷ folder_parts (y ∷ more))

abbrev pub folder_of : List ℕ → List ℕ
folder_of name = folder_parts (slash_parts name)

abbrev pub file_in : List ℕ → List ℕ → Option (List ℕ)
file_in name folder = if is_plain_folder folder then Some (folder_of name ++ in_folder folder) else None
