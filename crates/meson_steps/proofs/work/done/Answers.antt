use Rattle.meson_steps.proofs.Words.{◌≢◌, OutOfMemory, MayNotBeDone, so_far}
use Rattle.meson_steps.proofs.UnderWay.{refused_anyway, under_way_first}
use Rattle.meson_steps.proofs.work.done.Goals as goal

pub do_steps-requires : goal.do_steps-requires
do_steps-requires c =
    let w = c.args.work.now in
    let p = c.requires.planned.1 in
    (so_far w, p.steps, under_way_first w c.requires.fresh p.steps c.args.steps.items p.are_doable)

pub returns-clause-done : goal.returns-clause-done
returns-clause-done c = λ meant p.
    let w = c.args.work.now in
    c.within_limits.ensures.done (so_far w) meant p.steps p.are_planned
    (c.in_ok-do_steps.ensures.done (so_far w) p.steps (under_way_first w c.requires.fresh p.steps c.args.steps.items p.are_doable))

pub returns-clause-refused : goal.returns-clause-refused
returns-clause-refused c = λ meant p.
    let w = c.args.work.now in
    let reached = c.in_ok-do_steps.ensures.done (so_far w) p.steps (under_way_first w c.requires.fresh p.steps c.args.steps.items p.are_doable) in
    refused_anyway (MayNotBeDone (so_far w) meant) (λ e. e ≢ OutOfMemory) c.within_limits.result (c.within_limits.ensures.refused (so_far w) meant p.steps p.are_planned reached)
