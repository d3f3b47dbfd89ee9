use Rattle.std.proofs.Common.{refl, sym, ap, ◌∙◌, subst}
use Rattle.meson_steps.specs.declared.command.Command.TheVariants as command
use Rattle.meson_plan.specs.declared.order.Plan.TheVariants as plan
use Rattle.meson_plan.specs.inside.Orders.{plan_steps}
use Rattle.meson_plan.specs.Planning.{Means}
use Rattle.meson_plan.proofs.order.order_of.Goals as goal

pub returns-in-TargetRemove : goal.returns-in-TargetRemove
returns-in-TargetRemove c = λ l.
    subst (λ k. Means l k (plan_steps l (plan.RemoveTarget c.as_name.result)))
    (sym (c.in-TargetRemove.is ∙ ap command.TargetRemove (sym c.as_name.ensures))) refl
