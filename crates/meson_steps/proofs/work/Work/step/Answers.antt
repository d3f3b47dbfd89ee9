use Rattle.meson_steps.proofs.Words.{◌∷◌, subst, HasReached, settled}
use Rattle.meson_steps.proofs.HeldWork.{settled_reached}
use Rattle.meson_steps.proofs.work.Work.step.Goals as goal

pub first_step-requires-2 : goal.first_step-requires-2
first_step-requires-2 c =
    let n = c.requires.next.1 in
    let old = c.requires.next.0 in
    let w = c.args.self.now in
    let reached = subst (λ o. HasReached old n.before (n.next ∷ n.rest) (settled o w)) c.in-Some.is n.reached in
    (old, record { before = n.before; next = n.next; rest = n.rest; is = n.is; reached = settled_reached old n.before (n.next ∷ n.rest) w c.settle.new.self c.in-Some.held reached c.in_ok-settle.ensures.done })

pub returns-clause-done : goal.returns-clause-done
returns-clause-done c = λ old before rest s is r.
    let w = c.args.self.now in
    let reached = subst (λ o. HasReached old before (s ∷ rest) (settled o w)) c.in-Some.is r in
    c.first_step-2.ensures.done old before rest s is (settled_reached old before (s ∷ rest) w c.settle.new.self c.in-Some.held reached c.in_ok-settle.ensures.done)

pub returns-clause-restores : goal.returns-clause-restores
returns-clause-restores c = λ first r. c.first_step-2.ensures.restores first (c.in_ok-settle.ensures.restores first r)
