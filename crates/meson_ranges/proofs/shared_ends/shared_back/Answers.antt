use Rattle.std.proofs.Common.{◌+◌, ◌<◌, length, subst, sym, arith}
use Rattle.meson_ranges.specs.Trimming.{IsSharedBack}
use Rattle.meson_ranges.proofs.Longest.{IsLongestOf, as_long, back_ends, back_more, cut_now, cut_was, none_longer, one_longer, shared_back}
use Rattle.meson_ranges.proofs.shared_ends.shared_back.Goals as goal
use Rattle.meson_ranges.proofs.shared_ends.shared_back.Goals.{then-may_cut+then-may_cut-2, else-may_cut, else-may_cut-via-then-may_cut+else-may_cut-2, else-may_cut-via-else-may_cut}

pub returns-then-was-was_at-clause-longest : goal.returns-then-was-was_at-clause-longest
returns-then-was-was_at-clause-longest c =
    let was = c.args.was.now in
    let now = c.args.now.now in
    let in_was : c.loop-n.n < length was = omega arith in
    let in_now : c.loop-n.n < length now = omega arith in
    none_longer (IsSharedBack was now) c.loop-n.n c.loop-n.back c.loop-n.invariant.1 (back_ends was now c.loop-n.n in_was in_now c.if-was-was_at.true)

pub loop-n-preserved : goal.loop-n-preserved
loop-n-preserved c =
    let was = c.args.was.now in
    let now = c.args.now.now in
    let n = c.loop-n.n in
    let in_was : n < length was = omega arith in
    let in_now : n < length now = omega arith in
    let same = back_more was now n in_was in_now c.if-was-was_at.false c.loop-n.invariant.0 in
    let longest = elim c.if-may_cut.branch as (λ _. IsLongestOf (IsSharedBack was now) (n + 1) c.if-may_cut.back) [
      | then-may_cut+then-may_cut-2 w ↦
          let whole_was = c.may_cut.ensures.may w.if-may_cut.true in
          let whole_now = w.may_cut-then-may_cut.ensures.may w.if-may_cut-2.true in
          subst (IsLongestOf (IsSharedBack was now) (n + 1)) (sym w.back-is)
          (one_longer (IsSharedBack was now) n c.loop-n.back c.loop-n.invariant.1 (shared_back was now n in_was in_now same whole_was whole_now))
      | else-may_cut w ↦
          subst (IsLongestOf (IsSharedBack was now) (n + 1)) (sym w.back-is)
          (as_long (IsSharedBack was now) n c.loop-n.back c.loop-n.invariant.1
          (elim w.else-may_cut.branch as (λ _. IsSharedBack was now (n + 1) → ⊥) [
            | else-may_cut-via-then-may_cut+else-may_cut-2 v ↦
                λ shared. v.may_cut-then-may_cut.ensures.may_not v.if-may_cut-2.false (cut_now was now n shared)
            | else-may_cut-via-else-may_cut v ↦ λ shared. c.may_cut.ensures.may_not v.if-may_cut.false (cut_was was now n shared)
          ]))
    ] in
    (same, longest)
