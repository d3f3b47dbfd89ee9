use Rattle.meson_calls.proofs.Words.{◌||◌, ◌+◌, ◌∙◌, drop, sym, ap, at_drop_more, note_view, note_views, any_sets_by_call, sets_by_call}
use Rattle.meson_calls.proofs.kept.any_sets_by_call.Goals as goal

pub returns-then-sets_by_call : goal.returns-then-sets_by_call
returns-then-sets_by_call c =
    let notes = c.args.notes.now in
    let i = c.loop-i.i in
    let here = ap (λ n. sets_by_call (note_view n).it) (sym c.index-notes-i.is) ∙ sym c.sets_by_call.ensures ∙ c.if-sets_by_call.true in
    sym (sym c.loop-i.invariant ∙ at_drop_more (λ ns. any_sets_by_call (note_views ns)) notes i c.index-notes-i.result c.loop-i-test.true ∙ ap (λ b. b || any_sets_by_call (note_views (drop (i + 1) notes))) here)

pub loop-i-preserved : goal.loop-i-preserved
loop-i-preserved c =
    let notes = c.args.notes.now in
    let i = c.loop-i.i in
    let here = ap (λ n. sets_by_call (note_view n).it) (sym c.index-notes-i.is) ∙ sym c.sets_by_call.ensures ∙ c.if-sets_by_call.false in
    sym (at_drop_more (λ ns. any_sets_by_call (note_views ns)) notes i c.index-notes-i.result c.loop-i-test.true ∙ ap (λ b. b || any_sets_by_call (note_views (drop (i + 1) notes))) here) ∙ c.loop-i.invariant
