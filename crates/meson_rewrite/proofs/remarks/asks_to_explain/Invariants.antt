use Rattle.std.proofs.Common.{◌≡◌, drop, map, string_bytes}
use Rattle.meson_rewrite.specs.Remarks.{asks_to_explain}
use Rattle.meson_rewrite.proofs.remarks.asks_to_explain.Given as goal

abbrev pub invariant-loop-i : goal.invariant-loop-i
invariant-loop-i l = asks_to_explain (map string_bytes (drop l.i l.words)) ≡ asks_to_explain (map string_bytes l.words)
