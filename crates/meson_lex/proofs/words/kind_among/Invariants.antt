use Rattle.std.proofs.Common.{◌≡◌, drop, map}
use Rattle.meson_lex.specs.Scan.{kind_among}
use Rattle.meson_lex.proofs.words.kind_among.Given as goal

abbrev pub invariant-loop-i : goal.invariant-loop-i
invariant-loop-i l = kind_among (map (λ w. w.1) l.words) l.word ≡ kind_among (map (λ w. w.1) (drop l.i l.words)) l.word
