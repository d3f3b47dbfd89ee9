use Rattle.meson_keywords.proofs.Words.{◌≡◌, ◌∷◌, All, map, take, IsUtf8, comma_between, element_bytes}
use Rattle.meson_keywords.proofs.writing.written_list.Given as goal

abbrev pub invariant-loop-i : goal.invariant-loop-i
invariant-loop-i l = record {
  written : l.out.items ≡ 91 ∷ comma_between (take l.i (map (element_bytes l.kind) (map (λ x. x.now) l.texts)));
  texts : All IsUtf8 (take l.i (map (λ x. x.now) l.texts));
}
