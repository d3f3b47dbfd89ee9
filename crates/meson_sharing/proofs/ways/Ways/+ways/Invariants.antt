use Rattle.std.proofs.Common.{◌≡◌, ◌+◌, ◌++◌, drop}
use Rattle.meson_calls.specs.Project.{place}
use Rattle.meson_sharing.proofs.WayTurns.{elements_from, operands_from}
use Rattle.meson_sharing.proofs.ways.Ways.+ways.Given as goal

abbrev pub invariant-in_elements-loop-i : goal.invariant-in_elements-loop-i
invariant-in_elements-loop-i l =
    (l.path.items ≡ l.fn.path.items)
    × (l.found.items ++ elements_from l.self.source.now (place l.self.file l.fn.path.items) l.i (drop l.i l.args)
    ≡ l.fn.found.items ++ elements_from l.self.source.now (place l.self.file l.fn.path.items) 0 l.args)

abbrev pub invariant-in_operands-loop-i : goal.invariant-in_operands-loop-i
invariant-in_operands-loop-i l =
    (l.path.items ≡ l.fn.path.items)
    × (l.found.items ++ operands_from l.self.source.now (place l.self.file l.fn.path.items) (l.i + 1) (drop l.i l.rest)
    ≡ l.fn.found.items ++ operands_from l.self.source.now (place l.self.file l.fn.path.items) 1 l.rest)
