-- Texts in place of files of a project.
use Rattle.std.specs.Prelude.{ℕ, List, map, Option, None, Result, Ok, Err}
use Rattle.meson_splice.specs.declared.file_set.File.{File}
use Rattle.meson_json.specs.TextsFile.{GivenText}
use Rattle.meson_command.specs.declared.asked.Asked.{Asked}
use Rattle.meson_command.specs.declared.fault.UsageFault.{UsageFault}
use Rattle.meson_store.specs.Commit.{path_in}
use Rattle.meson_store.specs.Seen.{Seen, seen}
use Rattle.meson_store.specs.Texts.{texts_over}
use Rattle.meson_gathering.specs.Gathering.{file_of}

-- the texts as files of a store, each by the name of its file there
abbrev pub placed : Option (List ℕ) → List GivenText → List File
placed dir texts = map (λ t. file_of (path_in dir t.0) t.1) texts

-- a store in which each of these files is there, with its bytes, whatever was there; nothing was replaced in it
abbrev pub laid : List File → Seen → Seen
laid files s = seen (texts_over files s.content) s.failures 0

-- the name of the file of the texts, if the words name one
abbrev pub texts_of : Result Asked UsageFault → Option (List ℕ)
texts_of (Err fault) = None
texts_of (Ok a) = a.texts

-- the same request without texts
abbrev pub plain : Asked → Asked
plain a = record a { texts = None }
