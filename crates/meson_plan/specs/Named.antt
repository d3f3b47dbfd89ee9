-- The calls that are named, each by its place, whether they are one or more.
use Rattle.std.specs.Prelude.{List, Result, Ok}
use Rattle.meson_splice.specs.Patch.{then_ok}
use Rattle.meson_calls.specs.declared.call.CallName.{CallName}
use Rattle.meson_calls.specs.declared.call.CallRef.{CallRef}
use Rattle.meson_calls.specs.declared.call.Role.{Role}
use Rattle.meson_calls.specs.declared.refusal.Refusal.{Refusal}
use Rattle.meson_calls.specs.Naming.{found_among}
use Rattle.meson_calls.specs.Parts.{parts}
use Rattle.meson_calls.specs.Project.{Project}
use Rattle.meson_calls.specs.Roles.{places}
use Rattle.meson_calls.specs.Searching.{project_names, searched_file, within}

-- in file order and source order; if a folder is given, in its build file alone
abbrev pub places_named : {S : Type 0} → Project S → Role → CallName → Result (List CallRef) Refusal
places_named p r name = then_ok (searched_file (project_names p) name.folder) (λ w. Ok (places (found_among (within w (parts p)) r name.id)))
