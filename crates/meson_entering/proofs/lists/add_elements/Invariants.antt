use Rattle.std.proofs.Common.{◌≡◌, ◌++◌, drop, map, string_bytes}
use Rattle.std.specs.List.{flat_map}
use Rattle.meson_entering.proofs.Sums.{text_of}
use Rattle.meson_entering.proofs.lists.add_elements.Given as goal

abbrev pub invariant-loop-i : goal.invariant-loop-i
invariant-loop-i l = map string_bytes l.texts.items ++ flat_map (text_of l.source) (drop l.i l.args) ≡ map string_bytes l.fn.texts.items ++ flat_map (text_of l.source) l.args
