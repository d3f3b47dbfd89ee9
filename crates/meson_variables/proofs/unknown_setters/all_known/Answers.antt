use Rattle.meson_variables.proofs.Words.{◌∙◌, sym, ap, subst, not, note_view, AreGood, note_words, good_at, is_unknown_in}
use Rattle.meson_variables.proofs.Anys.{any_here}
use Rattle.meson_variables.proofs.unknown_setters.all_known.Goals as goal

pub is_unknown-requires-clause-good : goal.is_unknown-requires-clause-good
is_unknown-requires-clause-good c = subst (λ n. AreGood (note_words (note_view n).it)) (sym c.index-notes-i.is) (good_at c.args.notes.now c.loop-i.i c.index-notes-i.result c.loop-i-test.true c.requires.good)

pub returns-then-branch : goal.returns-then-branch
returns-then-branch c =
    let files = c.args.files.now in
    let is = ap (λ n. is_unknown_in files (note_view n).place (note_view n).it) (sym c.index-notes-i.is) ∙ sym c.in_ok-is_unknown.ensures ∙ c.if-branch.true in
    ap not (sym (any_here (λ n. is_unknown_in files n.place n.it) note_view c.args.notes.now c.loop-i.i _ c.loop-i-test.true is))
