use Rattle.std.proofs.Common.{◌≡◌, map, string_bytes}
use Rattle.std.specs.Ordering.{nat_cmp}
use Rattle.std.specs.Cmp.Lexicographic.{slice_cmp}
use Rattle.std.specs.FinMap.{get, find}
use Rattle.std.specs.VecDeque.Iter.{deque_iter_rest}
use Rattle.meson_store.proofs.memory.Memory.get.Given as goal

-- what is left of the log has the same answer
abbrev pub invariant-loop-written : goal.invariant-loop-written
invariant-loop-written l =
    get l.self.files l.name ≡ find (slice_cmp nat_cmp) l.name (map (λ w. (string_bytes w.name, w.bytes.items)) (deque_iter_rest l.written-iterator))
