use Rattle.meson_edit.proofs.lines.Alike.{lines-alike}
use Rattle.meson_edit.proofs.lines.Exchanged.{quiet-taken, quiet-added, file-end-stands, file-is-lines}
use Rattle.meson_edit.proofs.lines.Statements.{statement-lines, lines-there, come-and-go}
use Rattle.meson_edit.proofs.trees.whole_lines.Goals as goal

pub returns : goal.returns
returns c = record { statements = statement-lines; there = lines-there; come_and_go = come-and-go; files_end = file-end-stands; quiet_before = quiet-taken; quiet_behind = quiet-added; files = file-is-lines; alike = lines-alike }
