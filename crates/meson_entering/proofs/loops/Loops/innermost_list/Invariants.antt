use Rattle.std.proofs.Common.{◌≡◌, drop}
use Rattle.std.specs.Prelude.{None, option_map}
use Rattle.std.specs.List.{filter_map, last_or}
use Rattle.meson_syntax.specs.View.{expr_view, view}
use Rattle.meson_calls.specs.Notes.{note_view}
use Rattle.meson_entering.specs.Loops.{list_around}
use Rattle.meson_entering.proofs.loops.Loops.innermost_list.Given as goal

abbrev pub invariant-loop-i : goal.invariant-loop-i
invariant-loop-i l =
    last_or (option_map (λ e. expr_view l.self.source.now e.now) l.innermost)
    (filter_map (λ n. list_around (view l.self.source.now l.self.tree.now) l.name l.path (note_view n)) (drop l.i l.self.notes.now))
    ≡ last_or None (filter_map (λ n. list_around (view l.self.source.now l.self.tree.now) l.name l.path (note_view n)) l.self.notes.now)
