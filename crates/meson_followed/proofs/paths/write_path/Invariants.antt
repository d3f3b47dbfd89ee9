use Rattle.std.proofs.Common.{◌≡◌, ◌++◌, drop, map}
use Rattle.std.specs.Prelude.{string_bytes}
use Rattle.meson_followed.specs.Paths.{written_path}
use Rattle.meson_followed.proofs.paths.write_path.Given as goal

abbrev pub invariant-loop-i : goal.invariant-loop-i
invariant-loop-i l =
    string_bytes l.text ++ written_path (map (λ x. x.now) (drop l.i l.parts)) ≡ written_path (map (λ x. x.now) l.parts)
