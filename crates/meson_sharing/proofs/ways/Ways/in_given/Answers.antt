use Rattle.std.proofs.Common.{arith}
use Rattle.meson_calls.proofs.WalkedWords.{arg_some, pair_some}
use Rattle.meson_sharing.proofs.ways.Ways.in_given.Goals as goal

pub overflow_add-result : goal.overflow_add-result
overflow_add-result c = let some = arg_some c.args.self.now.source.now c.args.arg.now in omega (arith, some, c.requires)

pub overflow_add-result-in-Named : goal.overflow_add-result-in-Named
overflow_add-result-in-Named c = let some = arg_some c.args.self.now.source.now c.args.arg.now in omega (arith, some, c.requires)

pub overflow_add-result-in-Pair : goal.overflow_add-result-in-Pair
overflow_add-result-in-Pair c = let some = pair_some c.args.self.now.source.now _ _ _ _ c.in-Pair.is in omega (arith, some, c.requires)
