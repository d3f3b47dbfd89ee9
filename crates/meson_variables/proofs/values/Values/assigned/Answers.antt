use Rattle.meson_variables.proofs.Words.{◌≤◌, ◌+◌, length, drop, ◌∙◌, sym, ap, arith, at_drop_more, at_drop_all, chosen, note_view, note_views, met_in}
use Rattle.meson_variables.proofs.Words.{note_assigned, assigned_notes, with_assigned}
use Rattle.meson_variables.proofs.Assignments.{resumed, next_met, all_met}
use Rattle.meson_variables.proofs.values.Values.assigned.Goals as goal

pub loop-i-init : goal.loop-i-init
loop-i-init c = λ x.
    let all = assigned_notes x (note_views c.args.notes.now) in
    ap (λ before. resumed before all) (c.new-values.ensures x) ∙ all_met all

pub loop-i-preserved : goal.loop-i-preserved
loop-i-preserved c = λ x.
    let notes = c.args.notes.now in
    let i = c.loop-i.i in
    let n = c.index-notes-i.result in
    let before = met_in c.loop-i.values x in
    let more = assigned_notes x (note_views (drop (i + 1) notes)) in
    ap (λ o. resumed o more) (c.in_ok-meet.ensures x)
    ∙ ap (λ m. resumed (with_assigned before (chosen (note_assigned x) (note_view m))) more) c.index-notes-i.is
    ∙ sym (next_met before _ more)
    ∙ sym (at_drop_more (λ ns. resumed before (assigned_notes x (note_views ns))) notes i n c.loop-i-test.true)
    ∙ c.loop-i.invariant x

pub returns : goal.returns
returns c = λ x.
    let notes = c.args.notes.now in
    let past : length notes ≤ c.loop-i.i = omega arith in
    sym (at_drop_all (λ ns. resumed (met_in c.loop-i.values x) (assigned_notes x (note_views ns))) notes c.loop-i.i past) ∙ c.loop-i.invariant x
