use Rattle.meson_edit.proofs.lines.Depths.{lines-deepen, rooms-suffice}
use Rattle.meson_edit.proofs.lines.Exchanged.{lines-exchanged, lines-read, lines-level}
use Rattle.meson_edit.proofs.trees.exchanged_lines.Goals as goal

pub returns : goal.returns
returns c = record { lines_exchange = lines-exchanged; lines_read_again = lines-read; lines_level = lines-level; lines_deepen = lines-deepen; rooms_suffice = rooms-suffice }
