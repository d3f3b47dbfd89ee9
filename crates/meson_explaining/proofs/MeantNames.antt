-- The name that a refusal means is the first with which alone the command is refused.
use Rattle.std.proofs.Common.{◌≡◌, refl}
use Rattle.std.specs.Prelude.{Err}
use Rattle.meson_calls.specs.Loading.{project}
use Rattle.meson_calls.specs.declared.refusal.Refusal.TheVariants as refusal
use Rattle.meson_plan.specs.Planning.{planned}
use Rattle.meson_explaining.specs.NameLaws.{HasMeantName, MeantNamesAreRefused, bad, not_found, unresolved}
use Rattle.meson_explaining.proofs.BadNames.{bad_meant}
use Rattle.meson_explaining.proofs.GoneNames.{gone_meant}

pub meant_names_are_refused : MeantNamesAreRefused
meant_names_are_refused l c why means = elim means as (λ w m. planned (project l) c ≡ Err w → HasMeantName l c w) [
  | bad ↦ bad_meant l c
  | not_found ↦ gone_meant l refusal.SourceNotFound refl (λ target names. refl) (λ target names. refl) (λ target old new. refl) (λ target names shared. refl) (λ target old new shared. refl) c
  | unresolved ↦ gone_meant l refusal.Unresolved refl (λ target names. refl) (λ target names. refl) (λ target old new. refl) (λ target names shared. refl) (λ target old new shared. refl) c
]
