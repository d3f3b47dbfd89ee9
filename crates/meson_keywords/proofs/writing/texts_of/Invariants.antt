use Rattle.meson_keywords.proofs.Words.{◌≡◌, map, take}
use Rattle.meson_keywords.proofs.writing.texts_of.Given as goal

abbrev pub invariant-loop-i : goal.invariant-loop-i
invariant-loop-i l = map (λ x. x.now) l.all.items ≡ take l.i l.texts
