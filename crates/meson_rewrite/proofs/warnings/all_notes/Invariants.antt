use Rattle.std.proofs.Common.{◌++◌, List, drop}
use Rattle.meson_rewrite.specs.Warnings.{Gathers, notes_of}
use Rattle.meson_rewrite.specs.declared.notes.PlacedNote.{PlacedNote}
use Rattle.meson_rewrite.proofs.warnings.all_notes.Given as goal

-- what is gathered of the commands that are left comes after the notes so far
abbrev pub invariant-loop-command : goal.invariant-loop-command
invariant-loop-command l =
    (more : List PlacedNote) → Gathers PlacedNote notes_of l.found (drop l.command-index l.commands) more
    → Gathers PlacedNote notes_of l.project l.commands (l.notes.items ++ more)
