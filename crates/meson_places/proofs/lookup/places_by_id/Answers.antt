use Rattle.std.proofs.Common.{sym, subst}
use Rattle.meson_calls.specs.Notes.{note_view}
use Rattle.meson_calls.specs.Strings.{AreGood, note_words}
use Rattle.meson_calls.proofs.GoodNotes.{good_at}
use Rattle.meson_places.proofs.lookup.places_by_id.Goals as goal

pub named_place-requires : goal.named_place-requires
named_place-requires c = subst (λ n. AreGood (note_words (note_view n).it)) (sym c.index-notes-i.is) (good_at c.args.notes.now c.loop-i.i c.index-notes-i.result c.loop-i-test.true c.requires)
