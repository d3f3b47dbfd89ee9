use Rattle.meson_keywords.proofs.Words.{◌∷◌, map, Ok, take, once, remove, AreTasksBehind}
use Rattle.meson_keywords.proofs.tasks.remove_one.Given as goal

abbrev pub invariant-loop-i : goal.invariant-loop-i
invariant-loop-i l = AreTasksBehind (Ok (once l.key ∷ map (remove l.key l.kind) (take l.i (map (λ x. x.now) l.values.items)))) l.fn.tasks.items l.tasks.items
