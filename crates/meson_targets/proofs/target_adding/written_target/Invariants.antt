use Rattle.meson_targets.proofs.Words.{◌≡◌, take}
use Rattle.meson_targets.proofs.NewTargets.{so_far}
use Rattle.meson_targets.proofs.target_adding.written_target.Given as goal

abbrev pub invariant-loop-i : goal.invariant-loop-i
invariant-loop-i l = l.out.items ≡ so_far (λ x. x.now) l.kind l.name (take l.i l.sources)
