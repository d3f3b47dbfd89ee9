use Rattle.std.proofs.Common.{◌∙◌, ap}
use Rattle.std.specs.Prelude.{None}
use Rattle.std.specs.List.{last_or}
use Rattle.meson_syntax.specs.View.{view}
use Rattle.meson_calls.specs.Notes.{note_view}
use Rattle.meson_entering.specs.Loops.{list_around}
use Rattle.meson_entering.proofs.Around.{none_left}
use Rattle.meson_entering.proofs.Turns.{chosen_through}
use Rattle.meson_entering.proofs.loops.Loops.innermost_list.Goals as goal

pub returns : goal.returns
returns c =
    let list = list_around (view c.args.self.now.source.now c.args.self.now.tree.now) c.args.name.now c.args.path.now in
    let notes = c.args.self.now.notes.now in
    none_left (λ n. list (note_view n)) notes c.loop-i.i _ _ c.loop-i-test.false c.loop-i.invariant ∙ ap (last_or None) (chosen_through list note_view notes)
