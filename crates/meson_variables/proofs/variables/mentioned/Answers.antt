use Rattle.meson_variables.proofs.Words.{arith, as_many}
use Rattle.meson_variables.proofs.variables.mentioned.Goals as goal

pub bytes-requires : goal.bytes-requires
bytes-requires c = omega (arith, as_many c.args.files.now c.args.trees.now c.requires.parsed)
