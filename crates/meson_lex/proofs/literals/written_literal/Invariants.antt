use Rattle.std.proofs.Common.{◌≡◌, ◌∷◌, take}
use Rattle.std.specs.Prelude.{flat_map}
use Rattle.meson_lex.specs.Literals.{written_byte}
use Rattle.meson_lex.proofs.literals.written_literal.Given as goal

abbrev pub invariant-loop-b : goal.invariant-loop-b
invariant-loop-b l = l.out.items ≡ 39 ∷ flat_map written_byte (take l.b-index l.text)
