use Rattle.std.proofs.Common.{◌∙◌, ap, subst, sym}
use Rattle.std.specs.Prelude.{All}
use Rattle.std.proofs.lemmas.Result.{IfOk-weaker}
use Rattle.meson_calls.specs.declared.call.Role.TheVariants as role
use Rattle.meson_calls.specs.Loading.{project}
use Rattle.meson_calls.specs.ChosenNotes.{places_with_role}
use Rattle.meson_calls.proofs.Picked.{role_places}
use Rattle.meson_inventory.specs.Holdings.{held_calls}
use Rattle.meson_inventory.specs.inside.Holdings.{IsCall}
use Rattle.meson_inventory.proofs.CallsHeld.{targets_called}
use Rattle.meson_inventory.proofs.holdings.targets_held.Goals as goal

pub held_calls-requires : goal.held_calls-requires
held_calls-requires c =
    let l = c.args.project.now in
    let are = c.as_slice.ensures.value ∙ c.in_ok-places.ensures ∙ ap (places_with_role role.Target) c.requires ∙ role_places role.Target (project l) in
    subst (All (IsCall l)) (sym are) (targets_called l)

pub returns : goal.returns
returns c =
    let l = c.args.project.now in
    let are = c.as_slice.ensures.value ∙ c.in_ok-places.ensures ∙ ap (places_with_role role.Target) c.requires ∙ role_places role.Target (project l) in
    IfOk-weaker c.held_calls.result _ _ (λ calls is. is ∙ ap (held_calls l) are) c.held_calls.ensures
