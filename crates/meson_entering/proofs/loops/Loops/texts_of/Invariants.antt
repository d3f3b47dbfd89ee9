use Rattle.std.proofs.Common.{◌≡◌, ◌++◌, drop, map, string_bytes}
use Rattle.std.specs.List.{flat_map}
use Rattle.meson_syntax.specs.View.{expr_view}
use Rattle.meson_calls.specs.Notes.{note_views}
use Rattle.meson_entering.specs.Loops.{summand_texts}
use Rattle.meson_entering.proofs.loops.Loops.texts_of.Given as goal

abbrev pub invariant-loop-i : goal.invariant-loop-i
invariant-loop-i l =
    map string_bytes l.texts.items ++ flat_map (λ e. summand_texts (note_views l.self.notes.now) (expr_view l.self.source.now e.now)) (drop l.i l.summands.items)
    ≡ flat_map (λ e. summand_texts (note_views l.self.notes.now) (expr_view l.self.source.now e.now)) l.summands.items
