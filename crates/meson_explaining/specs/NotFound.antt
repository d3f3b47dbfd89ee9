-- Why an id names no call, where the build files are read so.
use Rattle.std.specs.Prelude.{ℕ, List, [], ◌∷◌, ◌++◌, length, filter, codes, is_none}
use Rattle.meson_calls.specs.declared.call.Reading.{Reading}
use Rattle.meson_calls.specs.declared.call.Role.{Role}
use Rattle.meson_calls.specs.declared.call.Role.TheVariants as role
use Rattle.meson_calls.specs.Loading.{Loaded}
use Rattle.meson_inventory.specs.Holdings.{calls_held, subdirs_held, targets_held}
use Rattle.meson_inventory.specs.declared.holdings.HeldCall.{HeldCall}
use Rattle.meson_explaining.specs.Nearest.{near_notes}
use Rattle.meson_explaining.specs.Notes.{few_notes, further}
use Rattle.meson_explaining.specs.declared.explanation.Explanation.{Explanation}
use Rattle.meson_explaining.specs.declared.explanation.Note.{Note}

abbrev pub only_help : List ℕ → Explanation
only_help text = record { notes = []; help = text ∷ [] }

-- how many of the calls no id can name, for want of a literal name
abbrev pub unnamed : List HeldCall → ℕ
unnamed cs = length (filter (λ c. is_none c.head.name) cs)

-- The calls of these with the nearest names, the `subdir` calls that enter no file, and how many of the calls have no literal name.
abbrev pub missing_notes : List ℕ → List ℕ → List HeldCall → List HeldCall → List Note
missing_notes id nameless cs subdirs =
    near_notes id cs ++ (few_notes 2 (codes ", not entered") (codes "further subdir calls that are not entered") subdirs ++ further nameless (unnamed cs))

abbrev pub not_found : Reading → Loaded → Role → List ℕ → Explanation
not_found reading l role.Target id = record {
  notes = missing_notes id (codes "targets without a literal name") (targets_held l) (subdirs_held reading l);
  help = codes "a target is found by its name or its variable, which list shows; --sourcedir FOLDER reads the targets of another folder" ∷ [];
}
not_found reading l role.Dependency id = record {
  notes = missing_notes id (codes "dependencies without a literal name") (calls_held l (codes "dependency")) (subdirs_held reading l);
  help = codes "a dependency is found by its name or its variable; --sourcedir FOLDER reads the dependencies of another folder" ∷ [];
}
not_found reading l role.Project id = only_help (codes "the id of a project is /")
