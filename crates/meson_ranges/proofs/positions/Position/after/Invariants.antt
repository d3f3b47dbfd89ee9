use Rattle.std.proofs.Common.{◌≡◌, ◌≤◌, ◌+◌, ◌*◌, drop}
use Rattle.meson_ranges.specs.Positions.{position_after}
use Rattle.meson_ranges.proofs.positions.Position.after.Given as goal

-- the rest leads from here to the end of the text, and each byte is at most one line and two units
abbrev pub invariant-bytes : goal.invariant-bytes
invariant-bytes l =
    (position_after l.position (drop l.byte-index l.text) ≡ position_after l.fn.self l.text)
    × (l.position.line ≤ l.fn.self.line + l.byte-index)
    × (l.position.character ≤ l.fn.self.character + 2 * l.byte-index)
