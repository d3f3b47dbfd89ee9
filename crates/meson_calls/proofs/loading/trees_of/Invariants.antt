use Rattle.meson_calls.proofs.Words.{take, AreParsed}
use Rattle.meson_calls.proofs.loading.trees_of.Given as goal

abbrev pub invariant-loop-index : goal.invariant-loop-index
invariant-loop-index l = AreParsed (take l.index l.files) l.trees.items
