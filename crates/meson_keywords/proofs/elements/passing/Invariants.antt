use Rattle.meson_keywords.proofs.Words.{◌≡◌, ◌++◌, drop, args_view, passing, test_of}
use Rattle.meson_keywords.proofs.elements.passing.Given as goal

abbrev pub invariant-loop-i : goal.invariant-loop-i
invariant-loop-i l = l.all.items ++ passing (test_of l.test) l.i (args_view l.source (drop l.i l.elements)) ≡ passing (test_of l.test) 0 (args_view l.source l.elements)
