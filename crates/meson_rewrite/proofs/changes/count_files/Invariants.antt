use Rattle.std.proofs.Common.{◌≡◌, ◌-◌, ◌≤◌, ℕ, List, drop, length}
use Rattle.std.specs.Prelude.{bytes_eq}
use Rattle.std.specs.HashSet.{contains_by}
use Rattle.meson_rewrite.specs.Changes.{edited_files, is_edited}
use Rattle.meson_rewrite.proofs.changes.count_files.Given as goal

-- the set has the names of the splices that were passed, the last ones, and the count is that of their files
abbrev pub invariant-loop-passed : goal.invariant-loop-passed
invariant-loop-passed l =
    let gone = drop (length l.splices - l.passed) l.splices in
    record {
      fits : l.files ≤ l.passed;
      counted : l.files ≡ length (edited_files gone);
      names : (x : List ℕ) → contains_by (λ k. bytes_eq x k.now) l.names ≡ is_edited x gone;
    }
