-- The project of the code's variables, and which of their values are at hand.
use Rattle.std.specs.Prelude.{◌≡◌, ℕ, Bool, true, List}
use Rattle.meson_lex.specs.declared.kinds.Span.{Span}
use Rattle.meson_variables.specs.declared.variables.Sought.{Sought}
use Rattle.meson_variables.specs.declared.variables.Sought.TheVariants as sought
use Rattle.meson_variables.specs.declared.variables.Variables.{Variables}
use Rattle.meson_calls.specs.Project.{Project}
use Rattle.meson_calls.specs.Loading.{IsProject, loaded_from, named_trees, views}
use Rattle.meson_calls.specs.Notes.{notes}
use Rattle.meson_calls.specs.Setters.{AreKept, is_among}
use Rattle.meson_calls.specs.Strings.{NotesGood}
use Rattle.meson_variables.specs.CodeValues.{value_in}
use Rattle.meson_variables.specs.Variables.{single}

abbrev pub project_of : Variables → Project Span
project_of v = named_trees v.files.now (views v.files.now v.trees.now)

-- whether the value of a variable is at hand
abbrev pub is_sought : Sought → List ℕ → Bool
is_sought sought.All x = true
is_sought (sought.These names) x = is_among names.items x

-- The strings in the project's notes are strings of their kinds, and what is kept of the files is right. Each variable whose value is at hand has its right
-- value.
pub record AreVariables (v : Variables) : Type 0 where
  pub whole : IsProject (loaded_from v.files.now v.trees.now)
  pub good : NotesGood (notes (project_of v))
  pub kept : AreKept v.kept.now v.files.now v.trees.now
  pub values : (x : List ℕ) → is_sought v.sought x ≡ true → value_in v.values x ≡ single (project_of v) x
