use Rattle.meson_calls.proofs.GoodNotes.{taken_good}
use Rattle.meson_code.proofs.unused.is_unused.Goals as goal

pub is_named-requires : goal.is_named-requires
is_named-requires c = let n = c.args.noted.now in taken_good n.files.now n.trees.now c.requires.project.parsed _ c.requires.notes
