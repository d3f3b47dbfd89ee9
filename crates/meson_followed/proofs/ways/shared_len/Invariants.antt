use Rattle.std.proofs.Common.{◌≡◌, ◌≤◌, drop, length, map}
use Rattle.meson_followed.specs.Paths.{way_from}
use Rattle.meson_followed.proofs.ways.shared_len.Given as goal

abbrev pub invariant-loop-i : goal.invariant-loop-i
invariant-loop-i l = record {
  in_path : l.i ≤ length l.path;
  way : way_from (map (λ part. part.now) (drop l.i l.folder)) (map (λ part. part.now) (drop l.i l.path))
      ≡ way_from (map (λ part. part.now) l.folder) (map (λ part. part.now) l.path);
}
