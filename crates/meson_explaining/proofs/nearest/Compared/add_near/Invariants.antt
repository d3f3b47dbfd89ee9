use Rattle.std.proofs.Common.{◌≡◌, [], ◌++◌, map}
use Rattle.meson_explaining.specs.Nearest.{nearer}
use Rattle.meson_explaining.specs.Notes.{call_note}
use Rattle.meson_explaining.proofs.nearest.Compared.add_near.Given as goal

abbrev pub invariant-loop-distance : goal.invariant-loop-distance
invariant-loop-distance l = l.notes.items ≡ l.initial.notes.items ++ map (call_note []) (nearer l.self.id.now l.distance l.self.calls.now)
