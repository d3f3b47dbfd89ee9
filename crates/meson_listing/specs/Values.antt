-- What is reported of a value as JSON, with the members of each object in the order of the bytes of their names.
use Rattle.std.specs.Prelude.{ℕ, List, map, codes}
use Rattle.serde_json.specs.Data.{Data, number, unsigned, string, array, object, no_members, member}
use Rattle.serde_json.specs.View.{items_of}
use Rattle.meson_splice.specs.declared.file_set.File.{File}
use Rattle.meson_calls.specs.Loading.{name_of_file}
use Rattle.meson_details.specs.declared.details.ArgumentKey.{ArgumentKey}
use Rattle.meson_details.specs.declared.details.ArgumentKey.TheVariants as key
use Rattle.meson_details.specs.declared.details.Shown.{Shown}
use Rattle.meson_details.specs.declared.details.Shown.TheVariants as shown
use Rattle.meson_details.specs.declared.details.ValueDetails.{ValueDetails}
use Rattle.meson_details.specs.declared.details.ValueDetails.TheVariants as details
use Rattle.meson_listing.specs.Entries.{shown_data, text_or_null}

abbrev pub code_data : List ℕ → Data
code_data text = object (member (codes "code") (string text) no_members)

-- a value as that of a keyword argument; what is shown there by its text in the file is code
abbrev pub told_data : Shown → Data
told_data (shown.Opaque text) = code_data text
told_data s = shown_data s

abbrev pub key_data : ArgumentKey → Data
key_data (key.Number n) = number (unsigned n)
key_data (key.Text text) = string text
key_data (key.Code text) = code_data text

abbrev pub content_data : ArgumentKey × Shown → Data
content_data c = object (member (codes "key") (key_data c.0) (member (codes "value") (told_data c.1) no_members))

abbrev pub contents_data : List (ArgumentKey × Shown) → Data
contents_data cs = array (items_of (map content_data cs))

-- the listing of a value that begins at an offset of the file of this number
unfoldable pub value_data : List File → (file offset : ℕ) → ValueDetails → Data
value_data files file offset (details.Call function name cs) =
    object (member (codes "arguments") (contents_data cs) (member (codes "at") (number (unsigned offset)) (member (codes "file") (string (name_of_file file files))
    (member (codes "function") (string function) (member (codes "name") (text_or_null name) (member (codes "type") (string (codes "arg")) no_members))))))
value_data files file offset (details.List cs) =
    object (member (codes "arguments") (contents_data cs) (member (codes "at") (number (unsigned offset)) (member (codes "file") (string (name_of_file file files))
    (member (codes "type") (string (codes "arg")) no_members))))
value_data files file offset (details.Other s) =
    object (member (codes "at") (number (unsigned offset)) (member (codes "file") (string (name_of_file file files))
    (member (codes "type") (string (codes "arg")) (member (codes "value") (told_data s) no_members))))
