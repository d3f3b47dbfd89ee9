-- What is known of the texts so far: they are UTF-8, and the answer is that of the rest.
use Rattle.meson_keywords.proofs.Words.{◌≡◌, All, drop, map, take, IsUtf8, are_elements}
use Rattle.meson_keywords.proofs.value_kinds.are_elements.Given as goal

abbrev pub invariant-loop-i : goal.invariant-loop-i
invariant-loop-i l = record {
  known : are_elements l.kind (drop l.i (map (λ x. x.now) l.texts)) ≡ are_elements l.kind (map (λ x. x.now) l.texts);
  utf8 : All IsUtf8 (take l.i (map (λ x. x.now) l.texts));
}
