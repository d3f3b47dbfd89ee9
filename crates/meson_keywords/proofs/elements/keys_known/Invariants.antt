use Rattle.meson_keywords.proofs.Words.{◌≡◌, drop, args_view, keys_known}
use Rattle.meson_keywords.proofs.elements.keys_known.Given as goal

abbrev pub invariant-loop-i : goal.invariant-loop-i
invariant-loop-i l = keys_known (args_view l.source (drop l.i l.elements)) ≡ keys_known (args_view l.source l.elements)
