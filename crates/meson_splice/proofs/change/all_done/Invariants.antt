use Rattle.std.proofs.Common.{◌≡◌, ◌-◌, drop, length}
use Rattle.meson_splice.specs.inside.Ordered.{ordered}
use Rattle.meson_splice.specs.Patch.{patched_all}
use Rattle.meson_splice.specs.Saved.{bytes_put_back}
use Rattle.meson_splice.proofs.change.all_done.Given as goal

-- what is left leads to the same end, and putting back to the start
abbrev pub invariant-loop-done : goal.invariant-loop-done
invariant-loop-done l = record {
  to_come : patched_all l.initial.files (ordered l.way l.splices) ≡ patched_all l.files (drop l.done (ordered l.way l.splices));
  to_start : bytes_put_back l.saved.items l.files ≡ bytes_put_back l.initial.saved.items l.initial.files;
}

abbrev pub decreases-loop-done : goal.decreases-loop-done
decreases-loop-done l = length l.splices - l.done
