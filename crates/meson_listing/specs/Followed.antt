-- What is reported of a target whose variables are followed, as JSON: the listing of a target, with the sources that the evaluations of the build files give it.
use Rattle.std.specs.Prelude.{◌≡◌, ℕ, ◌-◌, List, [], length, take, drop, map, bytes_eq, codes, if◌then◌else◌, Option, Some, None}
use Rattle.serde_json.specs.Data.{Data, null, boolean, number, unsigned, string, array, object, Members, no_members, member, put}
use Rattle.serde_json.specs.View.{items_of}
use Rattle.meson_lex.specs.declared.kinds.Span.{Span}
use Rattle.meson_splice.specs.declared.file_set.File.{File}
use Rattle.meson_calls.specs.Folders.{in_folder}
use Rattle.meson_calls.specs.Loading.{name_of_file}
use Rattle.meson_calls.specs.Searching.{file_of_folder}
use Rattle.meson_variables.specs.declared.source.Sources.{Sources}
use Rattle.meson_sharing.specs.Told.{Told, ToldItem}
use Rattle.meson_details.specs.declared.details.Head.{Head}
use Rattle.meson_listing.specs.Entries.{items_data, text_or_null, texts_data}

-- ---- the folder of a file

-- how a name in a folder ends
abbrev pub file_ending : List ℕ
file_ending = in_folder []

-- the folder of the build file of a name; `.` is the root folder
abbrev pub folder_named : List ℕ → List ℕ
folder_named name =
    if bytes_eq (drop (length name - length file_ending) name) file_ending then take (length name - length file_ending) name else codes "."

-- the law: it is the folder in which a search finds that file
abbrev pub FoldersFound : Type 0
FoldersFound = (folder : List ℕ) → folder_named (file_of_folder folder) ≡ folder

-- of the file of a number, if there is one
abbrev pub folder_data : List File → Option ℕ → Data
folder_data files None = null
folder_data files (Some n) = string (folder_named (name_of_file n files))

-- ---- a source

abbrev pub names_or_null : Option (List (List ℕ)) → Data
names_or_null None = null
names_or_null (Some names) = texts_data names

-- the members that say what a source is: its text and the folder from which it is a path, the variable that holds it, whether the target always gets it, and
-- which other targets get it
abbrev pub with_told : List File → ToldItem Span → Members → Members
with_told files t ms =
    put (codes "variable") (text_or_null t.variable) (put (codes "value") (string t.item.text) (put (codes "sure") (boolean t.item.way.sure)
    (put (codes "shared") (names_or_null t.shared) (put (codes "folder") (folder_data files t.item.way.files) ms))))

abbrev pub told_item_data : List File → ToldItem Span → Data
told_item_data files t =
    object (member (codes "at") (number (unsigned t.item.stands.from)) (member (codes "file") (string (name_of_file t.item.place.file files))
    (member (codes "folder") (folder_data files t.item.way.files) (member (codes "shared") (names_or_null t.shared)
    (member (codes "sure") (boolean t.item.way.sure) (member (codes "value") (string t.item.text)
    (member (codes "variable") (text_or_null t.variable) no_members)))))))

abbrev pub told_items_data : List File → List (ToldItem Span) → Data
told_items_data files ts = array (items_of (map (told_item_data files) ts))

-- ---- the whole listing, of a call in the file of this number

-- with these sources, and the number of those that are not known
unfoldable pub target_with : List File → ℕ → Head → (sources : Data) → (unknown : ℕ) → Sources → Data
target_with files file head sources unknown extra =
    object (member (codes "at") (number (unsigned head.at)) (member (codes "extra_files") (items_data files extra.items)
    (member (codes "file") (string (name_of_file file files)) (member (codes "function") (string head.function)
    (member (codes "hidden") (boolean head.hidden) (member (codes "name") (text_or_null head.name)
    (member (codes "opaque_extra_files") (number (unsigned extra.opaque)) (member (codes "opaque_sources") (number (unsigned unknown))
    (member (codes "sources") sources (member (codes "type") (string (codes "target")) no_members))))))))))

abbrev pub followed_data : List File → ℕ → Head → Told Span → Sources → Data
followed_data files file head told extra = target_with files file head (told_items_data files told.items) told.unknown extra
