-- The project whose files, trees and notes the code has.
use Rattle.std.specs.Prelude.{ℕ, List}
use Rattle.meson_lex.specs.declared.kinds.Span.{Span}
use Rattle.meson_calls.specs.declared.call.Role.{Role}
use Rattle.meson_calls.specs.declared.noted.Noted.{Noted}
use Rattle.meson_calls.specs.Loading.{IsProject, Loaded, loaded_from, project}
use Rattle.meson_calls.specs.Notes.{note_views}
use Rattle.meson_calls.specs.Project.{Project}
use Rattle.meson_calls.specs.Setters.{AreKept}
use Rattle.meson_calls.specs.Spelling.{AreNotesWith, sought_words}

abbrev pub loaded_in : Noted → Loaded
loaded_in n = loaded_from n.files.now n.trees.now

abbrev pub project_in : Noted → Project Span
project_in n = project (loaded_in n)

-- The files are a project with these trees. The notes are those by which an id is found: those of the project, but for files that cannot matter for the id.
-- What is kept of the files is right.
pub record IsNotedFor (role : Role) (id : List ℕ) (n : Noted) : Type 0 where
  pub whole : IsProject (loaded_in n)
  pub taken : AreNotesWith (sought_words role id) 0 n.files.now n.trees.now (note_views n.notes.now)
  pub kept : AreKept n.kept.now n.files.now n.trees.now
