use Rattle.std.proofs.Common.{refl}
use Rattle.meson_steps.proofs.laws.order_rows.Goals as goal

pub returns-clause-among_four : goal.returns-clause-among_four
returns-clause-among_four c = (refl, refl, refl, refl, refl, refl)

pub returns-clause-in_front : goal.returns-clause-in_front
returns-clause-in_front c = (refl, refl, refl)

pub returns-clause-no_order : goal.returns-clause-no_order
returns-clause-no_order c = (refl, refl, refl, refl, refl, refl, refl, refl, refl, refl)

pub returns-clause-one_after_another : goal.returns-clause-one_after_another
returns-clause-one_after_another c = (refl, refl, refl, refl, refl, refl)

pub returns-clause-in_calls : goal.returns-clause-in_calls
returns-clause-in_calls c = (refl, refl)
