-- The call that an id names stands at its place.
use Rattle.std.proofs.Common.{◌≡◌, ℕ, List, Some, refl, ap, ◌∙◌, subst}
use Rattle.std.specs.Prelude.{false, IsTrue, Option, None, Result, Ok, Err, is_some, option_map, option_and_then}
use Rattle.meson_lex.specs.declared.kinds.Span.{Span}
use Rattle.meson_calls.specs.declared.call.CallRef.{CallRef}
use Rattle.meson_calls.specs.declared.call.Role.{Role}
use Rattle.meson_calls.specs.declared.call.Role.TheVariants as role
use Rattle.meson_calls.specs.declared.refusal.Refusal.{Refusal}
use Rattle.meson_calls.specs.Calls.{Call, call_of}
use Rattle.meson_calls.specs.Finding.{the_call}
use Rattle.meson_calls.specs.Loading.{Loaded, project}
use Rattle.meson_calls.specs.Project.{Project, Placed, placed}
use Rattle.meson_calls.specs.Roles.{has_role, is_target, is_target_call}
use Rattle.meson_details.specs.Details.{is_call}
use Rattle.meson_plan.specs.Details.{place_found}
use Rattle.meson_calls.proofs.CallsFound.{RoleAt, role_found}
use Rattle.meson_calls.specs.declared.call.CallName.{CallName}

-- ---- the place

pub record At (found : Result (Placed (Call Span)) Refusal) (place : CallRef) : Type 0 where
  pub one : Placed (Call Span)
  pub is_one : found ≡ Ok one
  pub is_place : one.place ≡ place

pub at_place : (found : Result (Placed (Call Span)) Refusal) (place : CallRef) → place_found found ≡ Ok place → At found place
at_place (Ok c) place is = record { one = c; is_one = refl; is_place = let same : c.place ≡ place = cc in same }
at_place (Err e) place is = absurd cc

call_there : (p : Project Span) (r : Role) (c : Placed (Call Span)) → RoleAt p r c → IsTrue (is_call p c.place)
call_there p r c found = ap (λ o. is_some (option_map (placed c.place) (option_and_then call_of o))) found.at.is_at ∙ ap (λ k. is_some (option_map (placed c.place) k)) found.at.is_call

target_there : (p : Project Span) (c : Placed (Call Span)) → RoleAt p role.Target c → IsTrue (is_target p c.place)
target_there p c found =
    ap is_target_call found.at.is_at ∙ ap (λ (k : Option (Call Span)). elim k [ None ↦ false | Some d ↦ has_role role.Target d ]) found.at.is_call ∙ found.is_one

module _ (l : Loaded) (r : Role) (id : CallName) (place : CallRef) (is : place_found (the_call (project l) r id) ≡ Ok place) where
  pub call_found : IsTrue (is_call (project l) place)
  call_found = let a = at_place (the_call (project l) r id) place is in subst (λ q. IsTrue (is_call (project l) q)) a.is_place (call_there (project l) r a.one (role_found (project l) r id a.one a.is_one))

pub target_found : (l : Loaded) (id : CallName) (place : CallRef) → place_found (the_call (project l) role.Target id) ≡ Ok place → IsTrue (is_target (project l) place)
target_found l id place is =
    let a = at_place (the_call (project l) role.Target id) place is in
    subst (λ q. IsTrue (is_target (project l) q)) a.is_place (target_there (project l) a.one (role_found (project l) role.Target id a.one a.is_one))
