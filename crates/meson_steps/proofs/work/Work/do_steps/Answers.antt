use Rattle.meson_steps.proofs.Words.{◌≡◌, ◌++◌, [], ◌∷◌, rules, sym, ap, ◌∙◌, subst, into_iter_items, YieldsList-from_vec, YieldsList-end, append_assoc, map-id}
use Rattle.meson_steps.proofs.Words.{HasReached, IsUnderWay, settled}
use Rattle.std.proofs.Common.{append-nil}
use Rattle.meson_steps.proofs.HeldWork.{settled_reached}
use Rattle.meson_steps.proofs.UnderWay.{all_reached, next_step, under_way_more}
use Rattle.meson_steps.proofs.work.Work.do_steps.Goals as goal

pub loop-step-init : goal.loop-step-init
loop-step-init c = record { joined = sym c.into_iter-step-iterator.ensures.into_iter_gives.0; under_way = λ old steps left u. u; holds = tt; restores = λ first r. r }

pub step-requires-clause-next : goal.step-requires-clause-next
step-requires-clause-next c =
    let old = c.requires.0 in
    let left = into_iter_items c.next.new.self in
    let all : c.args.steps.items ≡ c.loop-step.yielded ++ c.in-Some.step ∷ left = c.loop-step.invariant.joined ∙ ap (λ xs. c.loop-step.yielded ++ xs) c.in-Some.ensures.steps.0 in
    let u = subst (λ xs. IsUnderWay old c.requires.1 xs c.args.self.now) all c.requires.2 in
    (old, next_step old (settled c.loop-step.held c.loop-step.self) c.requires.1 c.in-Some.step left (c.loop-step.invariant.under_way old c.requires.1 (c.in-Some.step ∷ left) u))

pub loop-step-preserved : goal.loop-step-preserved
loop-step-preserved c =
    let rest = into_iter_items c.next.new.self in record {
      joined = c.loop-step.invariant.joined ∙ ap (λ xs. c.loop-step.yielded ++ xs) c.in-Some.ensures.steps.0 ∙ sym (append_assoc c.loop-step.yielded (c.in-Some.step ∷ []) rest);
      under_way = λ old steps left u.
          under_way_more old (settled c.loop-step.held c.loop-step.self) (settled c.in_ok-held.held c.step.new.self) steps c.in-Some.step left
          (c.loop-step.invariant.under_way old steps (c.in-Some.step ∷ left) (subst (λ xs. IsUnderWay old steps xs c.args.self.now) (append_assoc c.loop-step.yielded (c.in-Some.step ∷ []) left) u))
          (c.in_ok-held.ensures.done old);
      holds = c.in_ok-held.ensures.holds;
      restores = λ first r. c.in_ok-held.ensures.restores first (c.loop-step.invariant.restores first r);
    }

pub returns-in_default-clause-done : goal.returns-in_default-clause-done
returns-in_default-clause-done c = λ old steps u.
    let t = YieldsList-end (YieldsList-from_vec {s = c.into_iter-step-iterator.result} c.args.steps.items (search rules) (search rules)) c.loop-step.yielded c.loop-step.step-iterator c.loop-step.yielded_by c.next.result c.next.new.self c.in-None.is c.next.ensures.steps in
    let all : c.args.steps.items ≡ c.loop-step.yielded ++ [] = sym (sym (map-id c.loop-step.yielded) ∙ t.0) ∙ sym (simp append-nil) in
    subst (λ o. HasReached old steps [] (settled o c.loop-step.self)) c.in_default.is
    (all_reached old (settled c.loop-step.held c.loop-step.self) steps (c.loop-step.invariant.under_way old steps [] (subst (λ xs. IsUnderWay old steps xs c.args.self.now) all u)))

pub returns-clause-done : goal.returns-clause-done
returns-clause-done c = λ old steps u.
    let t = YieldsList-end (YieldsList-from_vec {s = c.into_iter-step-iterator.result} c.args.steps.items (search rules) (search rules)) c.loop-step.yielded c.loop-step.step-iterator c.loop-step.yielded_by c.next.result c.next.new.self c.in-None.is c.next.ensures.steps in
    let all : c.args.steps.items ≡ c.loop-step.yielded ++ [] = sym (sym (map-id c.loop-step.yielded) ∙ t.0) ∙ sym (simp append-nil) in
    settled_reached old steps [] c.loop-step.self c.settle.new.self c.in-Some-held.held
    (subst (λ o. HasReached old steps [] (settled o c.loop-step.self)) c.in-Some-held.is
    (all_reached old (settled c.loop-step.held c.loop-step.self) steps (c.loop-step.invariant.under_way old steps [] (subst (λ xs. IsUnderWay old steps xs c.args.self.now) all u))))
    c.in_ok-settle.ensures.done

pub returns-in_err-held-clause-restores : goal.returns-in_err-held-clause-restores
returns-in_err-held-clause-restores c = λ first r. c.in_err-held.ensures.restores first (c.loop-step.invariant.restores first r)

pub returns-in_err-settle-clause-restores : goal.returns-in_err-settle-clause-restores
returns-in_err-settle-clause-restores c = λ first r. c.in_err-settle.ensures.restores first (c.loop-step.invariant.restores first r)

pub returns-clause-restores : goal.returns-clause-restores
returns-clause-restores c = λ first r. c.in_ok-settle.ensures.restores first (c.loop-step.invariant.restores first r)
