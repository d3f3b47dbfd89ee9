use Rattle.meson_calls.proofs.Words.{sym, subst, note_view, AreGood, note_words}
use Rattle.meson_calls.proofs.GoodNotes.{good_at}
use Rattle.meson_calls.proofs.naming.with_name.Goals as goal

pub has_name-requires : goal.has_name-requires
has_name-requires c = subst (λ n. AreGood (note_words (note_view n).it)) (sym c.index-notes-i.is) (good_at c.args.notes.now c.loop-i.i c.index-notes-i.result c.loop-i-test.true c.requires)
