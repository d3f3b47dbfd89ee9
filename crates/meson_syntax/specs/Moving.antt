-- What a move makes of a border.
use Rattle.std.specs.Prelude.{ℕ, ◌+◌, ◌-◌, ◌^◌, ◌<◌, nat_le, if◌then◌else◌}
use Rattle.meson_syntax.specs.declared.moving.Move.{Move}
use Rattle.meson_lex.specs.declared.kinds.Span.{Span}

-- ---- borders

abbrev pub span_by : (ℕ → ℕ) → Span → Span
span_by g s = record { from = g s.from; to = g s.to }

-- the place of a border once the `was` bytes before `end` became `now` bytes: one at `end` or after it moves by the difference
abbrev pub moved : (end was now : ℕ) → ℕ → ℕ
moved end was now n = if nat_le end n then (n - was) + now else n

abbrev pub border_by : Move → ℕ → ℕ
border_by by = moved by.end by.was by.now

-- no border up to the furthest moves to where a `usize` ends
abbrev pub MayMove : Move → ℕ → Type 0
MayMove by furthest = (furthest - by.was) + by.now < 2 ^ 64
