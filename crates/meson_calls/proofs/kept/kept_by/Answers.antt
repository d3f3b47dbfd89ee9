use Rattle.meson_calls.proofs.Words.{sym, ap, ◌∙◌, keeper_view}
use Rattle.meson_calls.proofs.Visits.{all_gathered}
use Rattle.meson_calls.proofs.kept.kept_by.Goals as goal

pub returns-in-Assignments-clause-kept : goal.returns-in-Assignments-clause-kept
returns-in-Assignments-clause-kept c = λ ps none comes.
    let a = c.in-Assignments.assignments in
    all_gathered a.loops a.found.items ps none (sym (ap keeper_view c.in-Assignments.is) ∙ comes) c.if-loops.false
