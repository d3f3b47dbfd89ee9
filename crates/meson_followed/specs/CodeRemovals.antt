-- What the code finds and checks where sources are removed or renamed.
use Rattle.std.specs.Prelude.{Bool, List, [], ◌∷◌, if◌then◌else◌, Result, Ok, Err}
use Rattle.meson_calls.specs.declared.call.CallRef.{CallRef}
use Rattle.meson_calls.specs.declared.refusal.Refusal.{Refusal}
use Rattle.meson_calls.specs.declared.refusal.Refusal.TheVariants.{Shared}
use Rattle.meson_calls.specs.Project.{Project}
use Rattle.meson_sources.specs.inside.CodeSpots.{spot_view}
use Rattle.meson_followed.specs.declared.removals.Removal as code
use Rattle.meson_steps.specs.declared.source_change.SharedLists.{SharedLists}
use Rattle.meson_steps.specs.declared.source_change.SharedLists.TheVariants.{Kept, Changed}
use Rattle.meson_followed.specs.FollowedEdits.{Removal, maker_name}
use Rattle.meson_followed.specs.Homes.{by_maker}

abbrev pub removal_view : code.Removal → Removal
removal_view r = record { spot = spot_view r.spot; base = r.base; maker = r.maker }

-- whether each is in a list that passes this test; else the refusal of the first that is not
abbrev pub all_pass : {S : Type 0} → Project S → (CallRef → Bool) → List Removal → Result (Unit {0}) Refusal
all_pass p test [] = Ok tt
all_pass p test (r ∷ more) = if by_maker test r.maker then all_pass p test more else Err (Shared (maker_name p r.maker))

abbrev pub pass_if_kept : {S : Type 0} → Project S → (CallRef → Bool) → SharedLists → List Removal → Result (Unit {0}) Refusal
pass_if_kept p test Kept rs = all_pass p test rs
pass_if_kept p test Changed rs = Ok tt
