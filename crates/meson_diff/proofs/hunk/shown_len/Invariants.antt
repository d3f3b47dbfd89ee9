use Rattle.std.proofs.Common.{◌≡◌, ◌+◌, ◌-◌, length}
use Rattle.meson_diff.specs.Hunks.{shown_len}
use Rattle.meson_diff.proofs.hunk.shown_len.Given as goal

abbrev pub invariant-loop-i : goal.invariant-loop-i
invariant-loop-i l =
    (l.i - l.from) + shown_len l.entries l.i (length l.entries - l.i) ≡ shown_len l.entries l.from (length l.entries - l.from)
