-- Texts in the place of a store's files.
use Rattle.std.specs.Prelude.{List, [], ◌∷◌, Option}
use Rattle.std.specs.FinMap.{insert}
use Rattle.std.specs.Option.{option_map}
use Rattle.meson_splice.specs.declared.file_set.File.{File}
use Rattle.meson_store.specs.Content.{Content}

-- the content if each of these texts were the file of its name
abbrev pub with_texts : List File → Content → Content
with_texts [] content = content
with_texts (text ∷ texts) content = insert (with_texts texts content) text.name text.bytes

-- of a store that may report none
abbrev pub texts_over : List File → Option Content → Option Content
texts_over texts content = option_map (with_texts texts) content
