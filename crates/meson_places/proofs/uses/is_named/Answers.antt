use Rattle.std.proofs.Common.{◌≡◌, sym, ap, ◌∙◌, subst}
use Rattle.std.specs.Prelude.{true}
use Rattle.meson_calls.specs.Notes.{note_view}
use Rattle.meson_calls.specs.Strings.{AreGood, note_words}
use Rattle.meson_calls.proofs.GoodNotes.{good_at}
use Rattle.meson_variables.proofs.Anys.{any_here}
use Rattle.meson_places.specs.Uses.{note_names}
use Rattle.meson_places.proofs.uses.is_named.Goals as goal

pub note_names-requires : goal.note_names-requires
note_names-requires c = subst (λ n. AreGood (note_words (note_view n).it)) (sym c.index-notes-i.is) (good_at c.args.notes.now c.loop-i.i c.index-notes-i.result c.loop-i-test.true c.requires)

pub returns-then-branch : goal.returns-then-branch
returns-then-branch c =
    let name = c.args.name.now in
    let names : note_names name (note_view c.index-notes-i.result).it ≡ true = sym c.in_ok-note_names.ensures ∙ c.if-branch.true in
    let is = ap (λ n. note_names name (note_view n).it) (sym c.index-notes-i.is) ∙ names in
    sym (any_here (λ n. note_names name n.it) note_view c.args.notes.now c.loop-i.i c.index-notes-i.result c.loop-i-test.true is)
