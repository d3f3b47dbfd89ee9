use Rattle.meson_targets.proofs.Words.{◌≡◌, ◌∙◌, sym, ap, ap₂, subst, true, ◌&&◌, note_view, AreGood, note_words, good_at, place_view, is_outside, note_uses}
use Rattle.meson_variables.proofs.Anys.{any_here}
use Rattle.meson_targets.proofs.uses.is_noted_outside.Goals as goal

pub note_uses-requires : goal.note_uses-requires
note_uses-requires c = subst (λ n. AreGood (note_words (note_view n).it)) (sym c.index-notes-i.is) (good_at c.args.notes.now c.loop-i.i c.index-notes-i.result c.loop-i-test.true c.requires)

pub returns-then-branch : goal.returns-then-branch
returns-then-branch c =
    let line = place_view c.args.line.now in
    let name = c.args.name.now in
    let outside : is_outside line (note_view c.index-notes-i.result).place ≡ true = sym c.is_outside.ensures ∙ c.if-is_outside.true in
    let uses : note_uses name (note_view c.index-notes-i.result).it ≡ true = sym c.in_ok-note_uses.ensures ∙ c.if-branch.true in
    let is = ap (λ n. is_outside line (note_view n).place && note_uses name (note_view n).it) (sym c.index-notes-i.is) ∙ ap₂ (λ a b. a && b) outside uses in
    sym (any_here (λ n. is_outside line n.place && note_uses name n.it) note_view c.args.notes.now c.loop-i.i _ c.loop-i-test.true is)
