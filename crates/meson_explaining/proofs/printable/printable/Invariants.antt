use Rattle.std.proofs.Common.{◌≡◌, ◌++◌, drop}
use Rattle.std.specs.Prelude.{flat_map, string_bytes}
use Rattle.meson_explaining.specs.Lines.{printable, shown_char}
use Rattle.meson_explaining.proofs.printable.printable.Given as goal

abbrev pub invariant-loop-c : goal.invariant-loop-c
invariant-loop-c l = string_bytes l.shown ++ flat_map shown_char (drop l.c-index l.c-items) ≡ printable l.text
