use Rattle.std.proofs.Common.{◌≡◌, [], ◌++◌, drop, map}
use Rattle.std.specs.Prelude.{filter}
use Rattle.meson_explaining.specs.Nearest.{is_far}
use Rattle.meson_explaining.specs.Notes.{call_note}
use Rattle.meson_explaining.proofs.nearest.Compared.add_at.Given as goal

abbrev pub invariant-loop-i : goal.invariant-loop-i
invariant-loop-i l =
    let at = is_far l.self.id.now l.distance in
    l.notes.items ++ map (call_note []) (filter at (drop l.i l.self.calls.now)) ≡ l.initial.notes.items ++ map (call_note []) (filter at l.self.calls.now)
