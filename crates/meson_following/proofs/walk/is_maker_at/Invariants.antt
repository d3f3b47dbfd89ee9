use Rattle.std.proofs.Common.{◌≡◌, drop, map}
use Rattle.std.specs.List.{list_any}
use Rattle.meson_following.specs.CodeMakers.{maker_view}
use Rattle.meson_following.specs.Following.{one_of_places}
use Rattle.meson_following.proofs.walk.is_maker_at.Given as goal

abbrev pub invariant-loop-maker : goal.invariant-loop-maker
invariant-loop-maker l =
    list_any (λ m. one_of_places l.places m.value.place) (map maker_view (drop l.maker-index l.makers)) ≡ list_any (λ m. one_of_places l.places m.value.place) (map maker_view l.makers)
