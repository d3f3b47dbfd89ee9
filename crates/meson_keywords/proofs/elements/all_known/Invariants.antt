use Rattle.meson_keywords.proofs.Words.{◌≡◌, drop, args_view, all_of_kind}
use Rattle.meson_keywords.proofs.elements.all_known.Given as goal

abbrev pub invariant-loop-i : goal.invariant-loop-i
invariant-loop-i l = all_of_kind l.kind (args_view l.source (drop l.i l.elements)) ≡ all_of_kind l.kind (args_view l.source l.elements)
