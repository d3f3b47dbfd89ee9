use Rattle.std.proofs.Common.{◌≡◌, ◌+◌, length}
use Rattle.std.specs.Prelude.{option_map}
use Rattle.meson_lex.specs.Scan.{tripled_len}
use Rattle.meson_lex.proofs.strings.tripled_len.Given as goal

abbrev pub invariant-loop-i : goal.invariant-loop-i
invariant-loop-i l = record {
  counted : l.len + length l.rest ≡ length l.bytes;
  closes : tripled_len l.bytes ≡ option_map (λ k. l.len + k) (tripled_len l.rest);
}

abbrev pub decreases-loop-i : goal.decreases-loop-i
decreases-loop-i l = length l.rest
