use Rattle.meson_calls.proofs.Words.{bytes_eq, ◌≡◌, ℕ, List, take, is_file}
use Rattle.std.specs.HashSet.{contains_by}
use Rattle.meson_calls.proofs.file_names.names_of.Given as goal

abbrev pub invariant-loop-i : goal.invariant-loop-i
invariant-loop-i l = (x : List ℕ) → contains_by (λ k. bytes_eq x k.now) l.names ≡ is_file (take l.i l.files) x
