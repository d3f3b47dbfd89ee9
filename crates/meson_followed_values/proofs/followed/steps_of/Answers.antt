use Rattle.std.proofs.Common.{sym, ap, subst}
use Rattle.std.proofs.lemmas.Result.{IfOk-weaker}
use Rattle.meson_steps.specs.Meanings.{AreMeant}
use Rattle.meson_places.specs.declared.slots.Slot.TheVariants as slot
use Rattle.meson_places.specs.Arguments.{changed_steps}
use Rattle.meson_places.proofs.Refused.{refused_as}
use Rattle.meson_followed_values.specs.CodeFollower.{loaded_in}
use Rattle.meson_followed_values.specs.Followed.{steps_of}
use Rattle.meson_followed_values.proofs.followed.steps_of.Goals as goal

pub returns-in-Whole-clause-meant : goal.returns-in-Whole-clause-meant
returns-in-Whole-clause-meant c = λ may.
    let l = loaded_in c.args.follower.now in
    IfOk-weaker c.changed_steps.result _ _
    (λ steps m. subst (λ r. AreMeant r steps.items) (sym (ap (steps_of l c.args.key.now c.args.name.now c.args.change.now may) c.in-Whole.is)) m) (c.changed_steps.ensures.meant may)

pub returns-in-Whole-clause-refused : goal.returns-in-Whole-clause-refused
returns-in-Whole-clause-refused c = λ may.
    let l = loaded_in c.args.follower.now in
    let ch = c.args.change.now in
    refused_as c.changed_steps.result (steps_of l c.args.key.now c.args.name.now ch may c.args.slot)
    (changed_steps l c.args.name.now c.args.key.now ch may (slot.Whole c.in-Whole.place))
    (ap (steps_of l c.args.key.now c.args.name.now ch may) c.in-Whole.is) (c.changed_steps.ensures.refused may)
