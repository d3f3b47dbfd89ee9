use Rattle.std.proofs.Common.{◌++◌, ap, ◌∙◌, map, refl, string_bytes}
use Rattle.meson_calls.specs.Notes.{note_view}
use Rattle.meson_calls.proofs.GoodNotes.{good_at}
use Rattle.meson_entering.specs.Loops.{assigned_texts}
use Rattle.meson_entering.proofs.Turns.{ended, through}
use Rattle.meson_entering.proofs.loops.Loops.add_variable.Goals as goal

pub add_assigned-requires : goal.add_assigned-requires
add_assigned-requires c = good_at c.args.self.now.notes.now c.loop-i.i c.index-self-i.result c.loop-i-test.true c.requires

pub returns : goal.returns
returns c =
    let x = c.args.variable.now in
    let notes = c.args.self.now.notes.now in
    ended (λ n. assigned_texts x (note_view n)) notes c.loop-i.i _ _ c.loop-i-test.false c.loop-i.invariant
    ∙ ap (λ ts. map string_bytes c.args.texts.now.items ++ ts) (through (assigned_texts x) note_view notes _ refl)
