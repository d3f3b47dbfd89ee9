use Rattle.std.proofs.Common.{◌≡◌, ◌++◌, drop, map, string_bytes}
use Rattle.std.specs.List.{flat_map}
use Rattle.meson_calls.specs.Notes.{note_view}
use Rattle.meson_entering.specs.Loops.{assigned_texts}
use Rattle.meson_entering.proofs.loops.Loops.add_variable.Given as goal

abbrev pub invariant-loop-i : goal.invariant-loop-i
invariant-loop-i l =
    map string_bytes l.texts.items ++ flat_map (λ n. assigned_texts l.variable (note_view n)) (drop l.i l.self.notes.now)
    ≡ map string_bytes l.fn.texts.items ++ flat_map (λ n. assigned_texts l.variable (note_view n)) l.self.notes.now
