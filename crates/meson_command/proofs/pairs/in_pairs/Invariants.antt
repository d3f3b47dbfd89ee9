use Rattle.std.proofs.Common.{◌≡◌, ◌++◌, map}
use Rattle.std.specs.Prelude.{option_map}
use Rattle.std.specs.Slice.Iter.{chunks_rest, chunks_size}
use Rattle.meson_command.specs.Pairs.{in_pairs}
use Rattle.meson_command.proofs.pairs.in_pairs.Given as goal

abbrev pub invariant-loop-pair : goal.invariant-loop-pair
invariant-loop-pair l =
    (goal.iterator-loop-pair).can_next l.pair-iterator ×
    (goal.iterator-loop-pair).is_finite l.pair-iterator ×
    (chunks_size l.pair-iterator ≡ 2) ×
    (in_pairs (map (λ w. w.now) l.words) ≡ option_map (λ rest. l.pairs.items ++ rest) (in_pairs (map (λ w. w.now) (chunks_rest l.pair-iterator))))
