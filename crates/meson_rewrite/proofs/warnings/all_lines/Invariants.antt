use Rattle.std.proofs.Common.{◌++◌, ℕ, List, drop}
use Rattle.std.specs.Prelude.{string_bytes}
use Rattle.meson_rewrite.specs.Warnings.{Gathers, lines_of}
use Rattle.meson_rewrite.proofs.warnings.all_lines.Given as goal

-- what is gathered of the commands that are left comes after the lines so far
abbrev pub invariant-loop-command : goal.invariant-loop-command
invariant-loop-command l =
    (more : List ℕ) → Gathers ℕ lines_of l.found (drop l.command-index l.commands) more → Gathers ℕ lines_of l.project l.commands (string_bytes l.lines ++ more)
