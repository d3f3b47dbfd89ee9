use Rattle.std.proofs.Common.{◌≡◌, ◌++◌, drop, map, string_bytes}
use Rattle.std.specs.List.{flat_map}
use Rattle.meson_syntax.specs.View.{expr_view}
use Rattle.meson_entering.specs.Lists.{own_texts}
use Rattle.meson_entering.proofs.lists.add_value.Given as goal

abbrev pub invariant-loop-i : goal.invariant-loop-i
invariant-loop-i l =
    map string_bytes l.texts.items ++ flat_map (λ e. own_texts (expr_view l.source e.now)) (drop l.i l.summands.items)
    ≡ map string_bytes l.fn.texts.items ++ flat_map (λ e. own_texts (expr_view l.source e.now)) l.summands.items
