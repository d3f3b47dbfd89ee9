use Rattle.meson_keywords.proofs.Words.{◌≡◌, drop, list_any, args_view, says}
use Rattle.meson_keywords.proofs.elements.is_there.Given as goal

abbrev pub invariant-loop-i : goal.invariant-loop-i
invariant-loop-i l = list_any (says l.kind l.text) (args_view l.source (drop l.i l.elements)) ≡ list_any (says l.kind l.text) (args_view l.source l.elements)
