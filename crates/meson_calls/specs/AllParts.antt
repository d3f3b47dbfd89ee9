-- The parts of a project are all that is in it, in order.
use Rattle.std.specs.Prelude.{◌≡◌, ◌↔◌, ℕ, List, ◌∷◌, map, Some}
use Rattle.std.specs.Cmp.Lexicographic.{slice_cmp}
use Rattle.std.specs.List.{Contains}
use Rattle.std.specs.List.Sorted.{IsStrictlySortedBy}
use Rattle.std.specs.Ordering.{nat_cmp}
use Rattle.meson_lex.specs.declared.kinds.Span.{Span}
use Rattle.meson_syntax.specs.Tree.{Expression}
use Rattle.meson_calls.specs.declared.call.CallRef.{CallRef}
use Rattle.meson_calls.specs.declared.call.Role.{Role}
use Rattle.meson_calls.specs.Parts.{an_expression, parts}
use Rattle.meson_calls.specs.Project.{Project, expression_at, placed}
use Rattle.meson_calls.specs.Naming.{found}
use Rattle.meson_calls.specs.Roles.{places, targets}

-- the law: an expression is among the parts, with a place, exactly if the place's path leads to it
abbrev pub PartsAreAll : Type 0
PartsAreAll = (p : Project Span) (c : CallRef) (e : Expression Span) → Contains (parts p) (placed c (an_expression e)) ↔ (expression_at p c ≡ Some e)

-- ---- in order

-- a place in numbers: that of the file, followed by those of the path
abbrev pub address : CallRef → List ℕ
address c = c.file ∷ c.path.steps

-- Each place is before those after it in the list: first by the file, then by the path. A path that continues another one is after it. So none is there twice.
abbrev pub PlacesRise : List CallRef → Type 0
PlacesRise cs = IsStrictlySortedBy (slice_cmp nat_cmp) (map address cs)

-- the parts are in order, with what is within a part after it; and so are the targets, and what an id finds
pub record IsInOrder (p : Project Span) : Type 0 where
  pub parts_rise : PlacesRise (places (parts p))
  pub targets_rise : PlacesRise (targets p)
  pub found_rise : (r : Role) (id : List ℕ) → PlacesRise (places (found p r id))

-- the law
abbrev pub PartsInOrder : Type 0
PartsInOrder = (p : Project Span) → IsInOrder p
