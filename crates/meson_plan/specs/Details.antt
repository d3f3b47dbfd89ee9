-- What an info command reports of a target. Meson manual, Rewriter.
use Rattle.std.specs.Prelude.{◌≡◌, Some, Result, Ok, Err}
use Rattle.meson_lex.specs.declared.kinds.Span.{Span}
use Rattle.meson_splice.specs.Patch.{then_ok}
use Rattle.meson_calls.specs.declared.call.CallRef.{CallRef}
use Rattle.meson_calls.specs.declared.call.Role.TheVariants.{Target}
use Rattle.meson_calls.specs.declared.refusal.Refusal.{Refusal}
use Rattle.meson_calls.specs.Calls.{Call}
use Rattle.meson_calls.specs.Finding.{the_call}
use Rattle.meson_calls.specs.Loading.{Loaded, project}
use Rattle.meson_calls.specs.Project.{Project, Placed}
use Rattle.meson_variables.specs.declared.source.Sources.{Sources}
use Rattle.meson_variables.specs.TargetSources.{sources}
use Rattle.meson_sharing.specs.Told.{Told, told_at}
use Rattle.meson_sources.specs.Extras.{extra_files}
use Rattle.meson_details.specs.Details.{head}
use Rattle.meson_plan.specs.declared.details.TargetDetails.{TargetDetails}
use Rattle.meson_calls.specs.declared.call.CallName.{CallName}

-- the place of the call that is found
abbrev pub place_found : {S : Type 0} → Result (Placed (Call S)) Refusal → Result CallRef Refusal
place_found found = then_ok found (λ c. Ok c.place)

-- the place of the one target that an id names
abbrev pub target_place : Project Span → CallName → Result CallRef Refusal
target_place p name = place_found (the_call p Target name)

-- what is reported of the target at a place
pub record AreDetails (p : Project Span) (place : CallRef) (told : TargetDetails) : Type 0 where
  pub is_place : told.place ≡ place
  pub is_head : head p place ≡ Some told.head
  pub are_sources : sources p place ≡ Some (Ok told.sources)
  pub are_extra : extra_files p place ≡ Some (Ok told.extra_files)

-- what is reported of the sources of the target at a place, where variables are followed
abbrev pub told_sources : Loaded → CallRef → Told Span
told_sources l place = told_at (project l) place

-- one of two keyword arguments is there twice, the sources first
pub data NoDetails (p : Project Span) (place : CallRef) : Refusal → Type 0 where
  no_sources : (refusal : Refusal) → sources p place ≡ Some (Err refusal) → NoDetails p place refusal
  no_extra : (found : Sources) (refusal : Refusal) → sources p place ≡ Some (Ok found) → extra_files p place ≡ Some (Err refusal) → NoDetails p place refusal

-- the id names no target, or more than one; or there are no details of the one that it names
pub data NoTarget (p : Project Span) (name : CallName) : Refusal → Type 0 where
  not_found : (refusal : Refusal) → target_place p name ≡ Err refusal → NoTarget p name refusal
  untold : (place : CallRef) (refusal : Refusal) → target_place p name ≡ Ok place → NoDetails p place refusal → NoTarget p name refusal
