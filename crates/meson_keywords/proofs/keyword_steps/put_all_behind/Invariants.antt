use Rattle.meson_keywords.proofs.Words.{◌≡◌, ◌+◌, ◌++◌, drop, map, Some, bare, all_behind, written_element}
use Rattle.meson_keywords.proofs.keyword_steps.put_all_behind.Given as goal

abbrev pub invariant-loop-i : goal.invariant-loop-i
invariant-loop-i l =
    map Some l.steps.items ++ map bare (all_behind l.list (l.many + l.i) (map (written_element l.kind) (map (λ x. x.now) (drop l.i l.texts))))
    ≡ map Some l.initial.steps.items ++ map bare (all_behind l.list l.many (map (written_element l.kind) (map (λ x. x.now) l.texts)))
