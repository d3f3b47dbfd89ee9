use Rattle.meson_ranges.proofs.FilesUtf8.{file_edits_are_utf8}
use Rattle.meson_ranges.proofs.laws.file_edits_are_utf8.Goals as goal

pub returns : goal.returns
returns c = file_edits_are_utf8
