use Rattle.std.proofs.Common.{◌≡◌, drop, map}
use Rattle.meson_calls.specs.Roles.{one_of}
use Rattle.meson_followed.specs.CodeEdits.{path_now}
use Rattle.meson_followed.proofs.named.has_path.Given as goal

abbrev pub invariant-loop-i : goal.invariant-loop-i
invariant-loop-i l = one_of (map path_now (drop l.i l.named)) l.path ≡ one_of (map path_now l.named) l.path
