use Rattle.meson_calls.proofs.Words.{filter_map, ◌++◌, [], ◌∷◌, take, sym, ap, ◌∙◌, append_assoc, take_all, take_more, filter_map-append, taken_view, kept_note}
use Rattle.meson_calls.proofs.AssignmentsKept.{kept_setters}
use Rattle.meson_calls.proofs.notes.with_assignments.Goals as goal

pub loop-i-preserved : goal.loop-i-preserved
loop-i-preserved c =
    let before = taken_view c.args.taken in
    let ks = c.args.assignments.now in
    let i = c.loop-i.i in
    let k = c.index-assignments-i.result in
    let note = kept_note c.args.names.now c.args.file c.args.source.now c.args.parsed.now in
    let here = filter_map note (take i ks) in
    c.in_ok-take_kept.ensures
    ∙ ap (λ ns. ns ++ filter_map note (k ∷ [])) c.loop-i.invariant
    ∙ append_assoc before here (filter_map note (k ∷ []))
    ∙ ap (λ ns. before ++ ns) (sym (filter_map-append note (take i ks) (k ∷ [])) ∙ ap (filter_map note) (ap (λ x. take i ks ++ x ∷ []) c.index-assignments-i.is ∙ sym (take_more ks i k c.loop-i-test.true)))

pub returns : goal.returns
returns c =
    let before = taken_view c.args.taken in
    let ks = c.args.assignments.now in
    let note = kept_note c.args.names.now c.args.file c.args.source.now c.args.parsed.now in
    c.loop-i.invariant
    ∙ ap (λ xs. before ++ filter_map note xs) (take_all c.loop-i.i ks c.loop-i-test.false)
    ∙ ap (λ ns. before ++ ns) (kept_setters c.args.names.now c.args.file c.args.source.now c.args.parsed.now c.requires.spanned ks c.requires.are)
