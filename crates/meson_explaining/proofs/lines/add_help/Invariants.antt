use Rattle.std.proofs.Common.{◌≡◌, ◌++◌, drop}
use Rattle.std.specs.Prelude.{flat_map, string_bytes}
use Rattle.meson_explaining.specs.Lines.{help_line}
use Rattle.meson_explaining.proofs.lines.add_help.Given as goal

abbrev pub invariant-loop-text : goal.invariant-loop-text
invariant-loop-text l = string_bytes l.lines ++ flat_map help_line (drop l.text-index l.help) ≡ string_bytes l.initial.lines ++ flat_map help_line l.help
