use Rattle.std.proofs.Common.{◌≡◌, sym, subst}
use Rattle.std.proofs.lemmas.Result.{IfOk-weaker}
use Rattle.meson_steps.specs.Meanings.{AreMeant}
use Rattle.meson_places.specs.Arguments.{changed_steps, one_changed}
use Rattle.meson_places.specs.Names.{loaded_in}
use Rattle.meson_places.proofs.Meant.{of_none}
use Rattle.meson_places.proofs.Refused.{refused_as}
use Rattle.meson_places.proofs.arguments.changed_steps.Goals as goal

pub returns-in-None-clause-meant : goal.returns-in-None-clause-meant
returns-in-None-clause-meant c = λ may.
    let l = loaded_in c.args.sources in
    let one = one_changed l c.args.name.now c.args.key.now c.args.change.now may c.args.slot in
    let same : changed_steps l c.args.name.now c.args.key.now c.args.change.now may c.args.slot ≡ one = of_none c.in_ok-steps.field-0 _ _ c.in-None.is (c.in_ok-steps.ensures.made may one) in
    IfOk-weaker c.one_changed.result _ _ (λ steps m. subst (λ r. AreMeant r steps.items) (sym same) m) (c.one_changed.ensures.meant may)

pub returns-in-None-clause-refused : goal.returns-in-None-clause-refused
returns-in-None-clause-refused c = λ may.
    let l = loaded_in c.args.sources in
    let one = one_changed l c.args.name.now c.args.key.now c.args.change.now may c.args.slot in
    let same : changed_steps l c.args.name.now c.args.key.now c.args.change.now may c.args.slot ≡ one = of_none c.in_ok-steps.field-0 _ _ c.in-None.is (c.in_ok-steps.ensures.made may one) in
    refused_as c.one_changed.result (changed_steps l c.args.name.now c.args.key.now c.args.change.now may c.args.slot) one same (c.one_changed.ensures.refused may)
