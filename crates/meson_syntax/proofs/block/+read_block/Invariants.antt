use Rattle.meson_syntax.proofs.block.+read_block.Given as goal

abbrev pub decreases-read_block : goal.decreases-read_block
decreases-read_block l = l.depth
