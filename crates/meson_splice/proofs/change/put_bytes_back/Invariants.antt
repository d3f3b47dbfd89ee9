use Rattle.std.proofs.Common.{◌≡◌, length}
use Rattle.meson_splice.specs.Saved.{bytes_put_back}
use Rattle.meson_splice.proofs.change.put_bytes_back.Given as goal

abbrev pub invariant-loop-last : goal.invariant-loop-last
invariant-loop-last l = bytes_put_back l.left.items l.files ≡ bytes_put_back l.initial.left.items l.initial.files

abbrev pub decreases-loop-last : goal.decreases-loop-last
decreases-loop-last l = length l.left.items
