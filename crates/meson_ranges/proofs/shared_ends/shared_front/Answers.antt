use Rattle.std.proofs.Common.{◌+◌, ◌<◌, length, refl, subst, sym, arith}
use Rattle.std.proofs.lemmas.List.{take_more_same}
use Rattle.meson_ranges.specs.Trimming.{IsSharedFront}
use Rattle.meson_ranges.proofs.Longest.{IsLongestOf, as_long, front_ends, front_whole, none_longer, none_yet, one_longer}
use Rattle.meson_ranges.proofs.shared_ends.shared_front.Goals as goal
use Rattle.meson_ranges.proofs.shared_ends.shared_front.Goals.{then-may_cut+then-may_cut-2, else-may_cut, else-may_cut-via-then-may_cut+else-may_cut-2, else-may_cut-via-else-may_cut}

pub loop-n-init : goal.loop-n-init
loop-n-init c = (refl, none_yet (IsSharedFront c.args.was.now c.args.now.now))

pub returns-then-was-n-clause-in_was : goal.returns-then-was-n-clause-in_was
returns-then-was-n-clause-in_was c = omega (arith, c.loop-n.invariant.1.within)

pub returns-then-was-n-clause-in_now : goal.returns-then-was-n-clause-in_now
returns-then-was-n-clause-in_now c = omega (arith, c.loop-n.invariant.1.within)

pub returns-then-was-n-clause-longest : goal.returns-then-was-n-clause-longest
returns-then-was-n-clause-longest c =
    let was = c.args.was.now in
    let now = c.args.now.now in
    none_longer (IsSharedFront was now) c.loop-n.n c.loop-n.front c.loop-n.invariant.1 (front_ends was now c.loop-n.n c.if-was-n.true)

pub loop-n-preserved : goal.loop-n-preserved
loop-n-preserved c =
    let was = c.args.was.now in
    let now = c.args.now.now in
    let in_was : c.loop-n.n < length was = omega arith in
    let in_now : c.loop-n.n < length now = omega arith in
    let same = take_more_same was now c.loop-n.n 0 in_was in_now c.loop-n.invariant.0 c.if-was-n.false in
    let longest = elim c.if-may_cut.branch as (λ _. IsLongestOf (IsSharedFront was now) (c.loop-n.n + 1) c.if-may_cut.front) [
      | then-may_cut+then-may_cut-2 w ↦
          let cut_was = c.may_cut.ensures.may w.if-may_cut.true in
          let cut_now = w.may_cut-then-may_cut.ensures.may w.if-may_cut-2.true in
          subst (IsLongestOf (IsSharedFront was now) (c.loop-n.n + 1)) (sym w.front-is)
          (one_longer (IsSharedFront was now) c.loop-n.n c.loop-n.front c.loop-n.invariant.1
          (record { same = same; cut_was = cut_was; cut_now = cut_now }))
      | else-may_cut w ↦
          subst (IsLongestOf (IsSharedFront was now) (c.loop-n.n + 1)) (sym w.front-is)
          (as_long (IsSharedFront was now) c.loop-n.n c.loop-n.front c.loop-n.invariant.1
          (elim w.else-may_cut.branch as (λ _. IsSharedFront was now (c.loop-n.n + 1) → ⊥) [
            | else-may_cut-via-then-may_cut+else-may_cut-2 v ↦
                λ shared. v.may_cut-then-may_cut.ensures.may_not v.if-may_cut-2.false shared.cut_now
            | else-may_cut-via-else-may_cut v ↦ λ shared. c.may_cut.ensures.may_not v.if-may_cut.false shared.cut_was
          ]))
    ] in
    (same, longest)

pub returns-clause-in_was : goal.returns-clause-in_was
returns-clause-in_was c = omega (arith, c.loop-n.invariant.1.within)

pub returns-clause-in_now : goal.returns-clause-in_now
returns-clause-in_now c = omega (arith, c.loop-n.invariant.1.within)

pub returns-clause-longest : goal.returns-clause-longest
returns-clause-longest c =
    let was = c.args.was.now in
    let now = c.args.now.now in
    none_longer (IsSharedFront was now) c.loop-n.n c.loop-n.front c.loop-n.invariant.1 (front_whole was now c.loop-n.n (omega arith))
