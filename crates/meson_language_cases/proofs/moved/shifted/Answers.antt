use Rattle.meson_syntax.specs.Reads.{of_files}
use Rattle.meson_edit.proofs.borders.Files.{trees-end}
use Rattle.meson_language_cases.proofs.moved.shifted.Goals as goal

pub shift-requires-clause-ends : goal.shift-requires-clause-ends
shift-requires-clause-ends c = (trees-end of_files c.args.text.now c.in-Ok.file c.in-Ok.ensures.reads).1
