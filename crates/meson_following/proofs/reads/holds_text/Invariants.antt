use Rattle.std.proofs.Common.{◌≡◌, drop}
use Rattle.meson_following.specs.Reads.{holds_text}
use Rattle.meson_following.proofs.reads.holds_text.Given as goal

abbrev pub invariant-loop-i : goal.invariant-loop-i
invariant-loop-i l = holds_text l.part (drop l.i l.text) ≡ holds_text l.part l.text
