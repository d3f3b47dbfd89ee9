-- A position that is counted on.
use Rattle.std.specs.Prelude.{◌≡◌, ℕ, ◌*◌, ◌≤◌, List, length}
use Rattle.meson_ranges.specs.Positions.{position_of}
use Rattle.meson_ranges.specs.declared.positions.Position.{Position}

-- the position of an offset in a text; it is at most as far as the offset
abbrev pub IsCounted : List ℕ → ℕ → Position → Type 0
IsCounted bytes at_ p = (p ≡ position_of bytes at_) × (at_ ≤ length bytes) × (p.line ≤ at_) × (p.character ≤ 2 * at_)
