-- Where a variable is read, by bytes of files, and in which calls that is.
use Rattle.std.specs.Prelude.{ℕ, nat_le, ◌==◌, Bool, ◌&&◌, List, map}
use Rattle.std.specs.List.{list_any}
use Rattle.meson_calls.specs.Loading.{Loaded, project}
use Rattle.meson_calls.specs.Parts.{parts}
use Rattle.meson_calls.specs.Project.{expression_at}
use Rattle.meson_calls.specs.Walks.{read_in}
use Rattle.meson_calls.specs.declared.call.CallRef.{CallRef}
use Rattle.meson_inventory.specs.declared.holdings.HeldCall.{HeldCall}
use Rattle.meson_explaining.specs.Targets.{span_at}
use Rattle.meson_explaining.specs.declared.explanation.Spot.{Spot}

-- the bytes of the expression at a place
abbrev pub spot_at : Loaded → CallRef → Spot
spot_at l c = record {
  file = c.file;
  at = (span_at (expression_at (project l) c)).from;
  end = (span_at (expression_at (project l) c)).to;
}

-- the bytes of the identifiers that are the variable, in file order and source order; a format string has none
abbrev pub reads : Loaded → List ℕ → List Spot
reads l x = map (spot_at l) (read_in x (parts (project l)))

-- whether bytes are those of a call or within it
abbrev pub is_inside : HeldCall → Spot → Bool
is_inside c s = ((c.file == s.file) && nat_le c.head.at s.at) && nat_le s.end c.end

-- within one of some calls
abbrev pub is_in_one : List HeldCall → Spot → Bool
is_in_one cs s = list_any (λ c. is_inside c s) cs
