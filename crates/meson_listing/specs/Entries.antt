-- The parts of a listing as JSON, with the members of each object in the order of the bytes of their names.
use Rattle.std.specs.Prelude.{ℕ, List, [], ◌∷◌, map, codes, Option, Some, None}
use Rattle.serde_json.specs.Data.{Data, null, boolean, number, unsigned, string, array, object, Members, no_members, member, put}
use Rattle.serde_json.specs.View.{items_of}
use Rattle.meson_splice.specs.declared.file_set.File.{File}
use Rattle.meson_variables.specs.declared.source.SourceItem.{SourceItem}
use Rattle.meson_variables.specs.declared.source.Sources.{Sources}
use Rattle.meson_calls.specs.Loading.{name_of_file}
use Rattle.meson_details.specs.declared.details.Head.{Head}
use Rattle.meson_details.specs.declared.details.Shown.{Shown}
use Rattle.meson_details.specs.declared.details.Shown.TheVariants as shown

abbrev pub text_or_null : Option (List ℕ) → Data
text_or_null None = null
text_or_null (Some text) = string text

-- ---- sources

abbrev pub item_data : List File → SourceItem → Data
item_data files i = object (member (codes "at") (number (unsigned i.span.from))
    (member (codes "file") (string (name_of_file i.file files))
    (member (codes "value") (string i.value) (member (codes "variable") (text_or_null i.variable) no_members))))

abbrev pub items_data : List File → List SourceItem → Data
items_data files is = array (items_of (map (item_data files) is))

-- ---- the values of keyword arguments

abbrev pub id_data : List ℕ → Data
id_data name = object (member (codes "id") (string name) no_members)

abbrev pub opaque_data : List ℕ → Data
opaque_data text = object (member (codes "opaque") (string text) no_members)

abbrev pub texts_data : List (List ℕ) → Data
texts_data texts = array (items_of (map string texts))

abbrev pub ids_data : List (List ℕ) → Data
ids_data names = array (items_of (map id_data names))

abbrev pub shown_data : Shown → Data
shown_data (shown.Text text) = string text
shown_data (shown.Bool b) = boolean b
shown_data (shown.Id name) = id_data name
shown_data (shown.Texts texts) = texts_data texts
shown_data (shown.Ids names) = ids_data names
shown_data (shown.Opaque text) = opaque_data text

-- each pair is put at its name; the order of the names decides its place
abbrev pub put_each : Members → List (List ℕ × Shown) → Members
put_each ms [] = ms
put_each ms (p ∷ more) = put_each (put p.0 (shown_data p.1) ms) more

abbrev pub keywords_data : List (List ℕ × Shown) → Data
keywords_data pairs = object (put_each no_members pairs)

-- ---- whole listings, of a call in the file of this number

-- without the sources
abbrev pub target_members : List File → ℕ → Head → Sources → Members
target_members files file head extra =
    member (codes "at") (number (unsigned head.at)) (member (codes "extra_files") (items_data files extra.items)
    (member (codes "file") (string (name_of_file file files)) (member (codes "function") (string head.function)
    (member (codes "hidden") (boolean head.hidden) (member (codes "name") (text_or_null head.name)
    (member (codes "opaque_extra_files") (number (unsigned extra.opaque)) no_members))))))

unfoldable pub target_data : List File → ℕ → Head → Sources → Sources → Data
target_data files file head sources extra =
    object (member (codes "at") (number (unsigned head.at)) (member (codes "extra_files") (items_data files extra.items)
    (member (codes "file") (string (name_of_file file files)) (member (codes "function") (string head.function)
    (member (codes "hidden") (boolean head.hidden) (member (codes "name") (text_or_null head.name)
    (member (codes "opaque_extra_files") (number (unsigned extra.opaque)) (member (codes "opaque_sources") (number (unsigned sources.opaque))
    (member (codes "sources") (items_data files sources.items) (member (codes "type") (string (codes "target")) no_members))))))))))

unfoldable pub call_data : List File → ℕ → Head → List (List ℕ × Shown) → Data
call_data files file head pairs =
    object (member (codes "at") (number (unsigned head.at)) (member (codes "file") (string (name_of_file file files))
    (member (codes "function") (string head.function) (member (codes "hidden") (boolean head.hidden)
    (member (codes "kwargs") (keywords_data pairs) (member (codes "type") (string (codes "kwargs")) no_members))))))
