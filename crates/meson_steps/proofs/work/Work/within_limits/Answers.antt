use Rattle.meson_steps.proofs.UnderWay.{is_done, too_deep, too_large}
use Rattle.meson_steps.proofs.work.Work.within_limits.Goals as goal

pub returns-then-not-is_shallow-clause-refused : goal.returns-then-not-is_shallow-clause-refused
returns-then-not-is_shallow-clause-refused c = λ old meant steps is r. too_deep old c.args.self.now meant steps is r (c.is_shallow.ensures.no c.if-not-is_shallow.true)

pub returns-then-not-is_small-clause-refused : goal.returns-then-not-is_small-clause-refused
returns-then-not-is_small-clause-refused c = λ old meant steps is r.
    too_large old c.args.self.now meant steps is r (c.is_shallow.ensures.yes c.if-not-is_shallow.false) (c.is_small.ensures.no c.if-not-is_small.true)

pub returns-clause-done : goal.returns-clause-done
returns-clause-done c = λ old meant steps is r. is_done old c.args.self.now meant steps is r (c.is_shallow.ensures.yes c.if-not-is_shallow.false) (c.is_small.ensures.yes c.if-not-is_small.false)
