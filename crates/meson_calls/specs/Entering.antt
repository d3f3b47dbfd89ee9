-- The files that folders mean, by how the build files are read. Meson manual, Reference manual, `subdir`: the name of the folder is put after the folder
-- of the file, with a slash between. It is not absolute, and no part of it is `..`. So a part that is empty or `.` means nothing.
use Rattle.std.specs.Prelude.{◌≡◌, ℕ, ◌==◌, Bool, true, false, not, ◌||◌, List, [], ◌∷◌, filter, if◌then◌else◌, bytes_eq, codes, Option, Some, None, option_and_then}
use Rattle.std.specs.List.{join_with_byte}
use Rattle.meson_calls.specs.declared.call.Reading.{Reading}
use Rattle.meson_calls.specs.declared.call.Reading.TheVariants.{Written, Followed}
use Rattle.meson_calls.specs.Calls.{Call, first_literal}
use Rattle.meson_calls.specs.Folders.{file_in, is_plain_folder, slash_parts}

-- ---- folders written otherwise

-- a part between slashes that names a folder
abbrev pub names_folder : List ℕ → Bool
names_folder part = not (bytes_eq part [] || bytes_eq part (codes "."))

-- a folder written plainly: the parts that name one, with a slash between
abbrev pub plainly : List ℕ → List ℕ
plainly folder = join_with_byte 47 (filter names_folder (slash_parts folder))

abbrev pub is_absolute : List ℕ → Bool
is_absolute [] = false
is_absolute (c ∷ cs) = c == 47

-- The file that a `subdir` of this folder means in the file of this name. Where files are read as they are written, the folder has to be plain.
abbrev pub folder_file : Reading → List ℕ → List ℕ → Option (List ℕ)
folder_file Written name folder = file_in name folder
folder_file Followed name folder = if is_absolute folder then None else file_in name (plainly folder)

-- what a `subdir` with a literal means in the file of this name
abbrev pub meant_as : {S : Type 0} → Reading → List ℕ → Call S → Option (List ℕ)
meant_as reading name c = option_and_then (folder_file reading name) (first_literal c)

-- ---- the laws

-- where they are followed, a plain folder means what it means elsewhere
abbrev pub PlainFoldersStay : Type 0
PlainFoldersStay = (name folder : List ℕ) → is_plain_folder folder ≡ true → folder_file Followed name folder ≡ file_in name folder

-- the folder `s` below the root folder, and none
abbrev pub MeansS : List ℕ → Type 0
MeansS folder = folder_file Followed (codes "meson.build") folder ≡ Some (codes "s/meson.build")

abbrev pub MeansNone : List ℕ → Type 0
MeansNone folder = folder_file Followed (codes "meson.build") folder ≡ None

abbrev pub FolderRows : Type 0
FolderRows =
    MeansS (codes "s") × MeansS (codes "s/") × MeansS (codes "./s") × MeansS (codes ".//s/.")
    × (folder_file Followed (codes "a/meson.build") (codes "./b//c/") ≡ Some (codes "a/b/c/meson.build"))
    × MeansNone [] × MeansNone (codes ".") × MeansNone (codes "./") × MeansNone (codes "/s") × MeansNone (codes "..") × MeansNone (codes "s/../t")
