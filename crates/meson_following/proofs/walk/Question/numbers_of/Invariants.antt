use Rattle.std.proofs.Common.{◌≡◌, ◌++◌, drop, map}
use Rattle.std.specs.Prelude.{string_bytes}
use Rattle.meson_following.specs.Effects.{numbers_of}
use Rattle.meson_following.specs.Walks.{project_of}
use Rattle.meson_following.proofs.walk.Question.numbers_of.Given as goal

abbrev pub invariant-loop-i : goal.invariant-loop-i
invariant-loop-i l = l.numbers.items ++ numbers_of (project_of l.self) (map string_bytes (drop l.i l.names)) ≡ numbers_of (project_of l.self) (map string_bytes l.names)
