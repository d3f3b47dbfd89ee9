-- A command that asks is done where its listing is made, and refused as that is.
use Rattle.std.proofs.Common.{◌≡◌, [], ◌∷◌, Ok, Err, sym, ap, ◌∙◌}
use Rattle.serde_json.specs.Data.{Data}
use Rattle.meson_splice.specs.Patch.{then_ok}
use Rattle.meson_calls.specs.declared.call.Reading.{Reading}
use Rattle.meson_calls.specs.declared.call.Role.{Role}
use Rattle.meson_calls.specs.declared.refusal.Refusal.{Refusal}
use Rattle.meson_calls.specs.Loading.{Loaded}
use Rattle.meson_steps.specs.declared.argument.ValueName.{ValueName}
use Rattle.meson_steps.specs.declared.command.Command.TheVariants as command
use Rattle.meson_plan.specs.Listing.{kwargs_listing, target_listing, told, value_listing}
use Rattle.meson_plan.specs.ListingLaws.{no_steps}
use Rattle.meson_plan.specs.Performing.{MayRefuse, unplanned}
use Rattle.meson_plan.proofs.Agreeing.{calls_agree, targets_agree, values_agree}
use Rattle.meson_calls.specs.declared.call.CallName.{CallName}

pub target-refused : (l : Loaded) (reading : Reading) (id : CallName) (e : Refusal) → target_listing l reading id ≡ Err e → MayRefuse l (command.TargetInfo id reading) e
target-refused l reading id e is = unplanned e (sym (targets_agree l reading id) ∙ ap no_steps is)

pub call-refused : (l : Loaded) (r : Role) (id : CallName) (e : Refusal) → kwargs_listing l r id ≡ Err e → MayRefuse l (command.KwargsInfo r id) e
call-refused l r id e is = unplanned e (sym (calls_agree l r id) ∙ ap no_steps is)

pub value-refused : (l : Loaded) (n : ValueName) (e : Refusal) → value_listing l n ≡ Err e → MayRefuse l (command.ArgumentInfo n) e
value-refused l n e is = unplanned e (sym (values_agree l n) ∙ ap no_steps is)

pub target-told : (l : Loaded) (reading : Reading) (id : CallName) (d : Data) → target_listing l reading id ≡ Ok d → told l (command.TargetInfo id reading) ≡ Ok (d ∷ [])
target-told l reading id d is = ap (λ listing. then_ok listing (λ d. Ok (d ∷ []))) is
