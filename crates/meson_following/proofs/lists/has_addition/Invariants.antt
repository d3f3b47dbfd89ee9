use Rattle.std.proofs.Common.{◌≡◌, drop, map}
use Rattle.std.specs.List.{list_any}
use Rattle.meson_following.specs.CodeMakers.{maker_view}
use Rattle.meson_following.proofs.lists.has_addition.Given as goal

abbrev pub invariant-loop-maker : goal.invariant-loop-maker
invariant-loop-maker l = list_any (λ m. m.adds) (map maker_view (drop l.maker-index l.makers)) ≡ list_any (λ m. m.adds) (map maker_view l.makers)
