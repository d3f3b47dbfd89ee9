use Rattle.meson_keywords.proofs.Words.{◌≡◌, ◌++◌, drop, map, reverse, filter_map, args_view, distinct_by, element_text}
use Rattle.meson_keywords.proofs.elements.new_values.Given as goal

abbrev pub invariant-loop-i : goal.invariant-loop-i
invariant-loop-i l =
    map (λ x. x.now) l.all.items ++ distinct_by (reverse (map (λ x. x.now) l.all.items) ++ (filter_map (element_text l.kind) (args_view l.source l.elements))) (map (λ x. x.now) (drop l.i l.values))
    ≡ distinct_by (filter_map (element_text l.kind) (args_view l.source l.elements)) (map (λ x. x.now) l.values)
