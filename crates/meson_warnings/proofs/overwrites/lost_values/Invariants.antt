use Rattle.std.proofs.Common.{◌≡◌, ◌++◌, drop}
use Rattle.std.specs.Prelude.{flat_map}
use Rattle.meson_warnings.specs.Overwrites.{lost_value}
use Rattle.meson_warnings.proofs.overwrites.lost_values.Given as goal
use Rattle.meson_calls.specs.Searching.{name_at}

abbrev pub invariant-loop-key : goal.invariant-loop-key
invariant-loop-key l =
    l.notes.items ++ flat_map (λ p. lost_value l.project l.subject.role (name_at l.subject.name) p.0) (drop l.key-index l.pairs)
    ≡ flat_map (λ p. lost_value l.project l.subject.role (name_at l.subject.name) p.0) l.pairs
