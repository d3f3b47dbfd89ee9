-- Where all that sets or reads variables is known. Meson manual, Reference manual: `set_variable`, `get_variable` and `is_variable` take a name, and a file that
-- `subdir` enters has the variables of the file that enters it.
use Rattle.std.specs.Prelude.{ℕ, ◌==◌, Bool, not, ◌&&◌, List, codes, length}
use Rattle.std.specs.List.{list_any}
use Rattle.meson_calls.specs.declared.call.Reading.TheVariants.{Written}
use Rattle.meson_calls.specs.Calls.{is}
use Rattle.meson_calls.specs.Loading.{Loaded}
use Rattle.meson_inventory.specs.Holdings.{calls_held, subdirs_held}
use Rattle.meson_inventory.specs.declared.holdings.HeldCall.{HeldCall}
use Rattle.meson_explaining.specs.Removals.{has_no_name}

-- All build files are known: there is a call of `project`, so that the root file is that of a whole project, and each call of `subdir` enters a file.
abbrev pub is_whole : Loaded → Bool
is_whole l = not (length (calls_held l (codes "project")) == 0) && (length (subdirs_held Written l) == 0)

-- each call of a function has a literal name
abbrev pub all_named : Loaded → List ℕ → Bool
all_named l function = not (list_any has_no_name (calls_held l function))

abbrev pub setters_known : Loaded → Bool
setters_known l = is_whole l && all_named l (codes "set_variable")

abbrev pub readers_known : Loaded → Bool
readers_known l = (is_whole l && all_named l (codes "get_variable")) && all_named l (codes "is_variable")

-- whether one of some calls has this literal name
abbrev pub names_one : List ℕ → List HeldCall → Bool
names_one x cs = list_any (λ c. is x c.head.name) cs
