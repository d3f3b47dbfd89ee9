use Rattle.meson_keywords.proofs.Words.{◌≡◌, ◌++◌, ◌∷◌, [], drop, map, Some, reverse, expr_view, Source, distinct_by, text_in}
use Rattle.meson_keywords.proofs.elements.other_values.Given as goal

abbrev pub invariant-loop-i : goal.invariant-loop-i
invariant-loop-i l =
    (text : Source) → text_in l.kind (expr_view l.source l.element) ≡ Some text
    → map (λ x. x.now) l.all.items ++ distinct_by (reverse (map (λ x. x.now) l.all.items) ++ text ∷ []) (map (λ x. x.now) (drop l.i l.values))
    ≡ distinct_by (text ∷ []) (map (λ x. x.now) l.values)
