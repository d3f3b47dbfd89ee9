use Rattle.std.proofs.Common.{refl}
use Rattle.meson_rewrite.proofs.steps.all_forgotten.Goals as goal

pub returns-clause-does : goal.returns-clause-does
returns-clause-does c = (c.forget_all.ensures, record { project = refl; info = c.nothing_done.ensures })
