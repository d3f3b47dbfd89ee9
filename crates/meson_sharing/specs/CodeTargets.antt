-- The targets of a project, as the code has them.
use Rattle.std.specs.Prelude.{ℕ, not, ◌&&◌, List, [], ◌∷◌, map, if◌then◌else◌, Option, None}
use Rattle.std.specs.List.{filter_map, list_any}
use Rattle.meson_lex.specs.declared.kinds.Span.{Span}
use Rattle.meson_calls.specs.declared.call.CallRef.{CallRef}
use Rattle.meson_calls.specs.declared.call.Role.TheVariants as role
use Rattle.meson_calls.specs.Calls.{Call, first_literal}
use Rattle.meson_calls.specs.Notes.{Note, a_call, an_assignment, a_loop}
use Rattle.meson_calls.specs.Project.{Project, Placed, placed}
use Rattle.meson_calls.specs.Roles.{has_role, role_calls}
use Rattle.meson_following.specs.CodeFollowing.{mark_view}
use Rattle.meson_following.specs.Following.{Mark, follow_marks}
use Rattle.meson_following.specs.Makers.{is_same_place}
use Rattle.meson_sharing.specs.declared.targets.Target as code
use Rattle.meson_sharing.specs.Sharing.{is_item_in}

-- the place of a target's call, its name, if that is a literal, and what is met in its sources
pub record Target : Type 0 where
  pub place : CallRef
  pub name : Option (List ℕ)
  pub marks : List (Mark Span)

abbrev pub target_view : code.Target → Target
target_view t = record { place = t.place; name = t.name; marks = map mark_view t.marks.items }

abbrev pub target_of : Project Span → Placed (Call Span) → Target
target_of p c = record { place = c.place; name = first_literal c.it; marks = follow_marks p c }

-- those of a project, in file order and source order
abbrev pub all_targets : Project Span → List Target
all_targets p = map (target_of p) (role_calls p role.Target)

-- that of a note, if it is the call of a target
abbrev pub targets_at : Project Span → CallRef → Note Span → List Target
targets_at p q (a_call c) = if has_role role.Target c then target_of p (placed q c) ∷ [] else []
targets_at p q (an_assignment x sets e) = []
targets_at p q (a_loop xs) = []

abbrev pub targets_of_note : Project Span → Placed (Note Span) → List Target
targets_of_note p n = targets_at p n.place n.it

-- the name of a target, if its call is not the one at the place and it gets an item that is in the value of a maker
abbrev pub sharing_name : CallRef → CallRef → Target → Option (List ℕ)
sharing_name c m t = if not (is_same_place t.place c) && list_any (is_item_in m) t.marks then t.name else None

abbrev pub sharing_names : CallRef → CallRef → List Target → List (List ℕ)
sharing_names c m ts = filter_map (sharing_name c m) ts
