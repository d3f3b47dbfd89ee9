use Rattle.std.proofs.Common.{◌≡◌, drop, map}
use Rattle.std.specs.List.{fold}
use Rattle.meson_followed.specs.Paths.{onward}
use Rattle.meson_followed.proofs.paths.go_through.Given as goal

abbrev pub invariant-loop-i : goal.invariant-loop-i
invariant-loop-i l =
    fold onward (map (λ x. x.now) l.parts.items) (map (λ x. x.now) (drop l.i l.all.items))
    ≡ fold onward (map (λ x. x.now) l.initial.parts.items) (map (λ x. x.now) l.all.items)
