use Rattle.std.proofs.Common.{◌≡◌, ◌++◌, drop, map}
use Rattle.serde_json.specs.View.{view}
use Rattle.meson_rewrite.specs.Objects.{sum_data}
use Rattle.meson_rewrite.proofs.objects.sums_object.Given as goal

-- the digests so far, and those that are left
abbrev pub invariant-loop-i : goal.invariant-loop-i
invariant-loop-i l = map view l.list.items ++ map sum_data (drop l.i l.files) ≡ map sum_data l.files
