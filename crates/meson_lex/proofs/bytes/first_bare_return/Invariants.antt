use Rattle.std.proofs.Common.{◌≡◌, ◌+◌, length}
use Rattle.std.specs.Prelude.{option_map}
use Rattle.meson_lex.specs.Bytes.{first_bare_return}
use Rattle.meson_lex.proofs.bytes.first_bare_return.Given as goal

abbrev pub invariant-loop-i : goal.invariant-loop-i
invariant-loop-i l = record {
  counted : l.place + length l.rest ≡ length l.bytes;
  first : first_bare_return l.bytes ≡ option_map (λ k. l.place + k) (first_bare_return l.rest);
}

abbrev pub decreases-loop-i : goal.decreases-loop-i
decreases-loop-i l = length l.rest
