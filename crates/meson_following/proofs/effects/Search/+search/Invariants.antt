use Rattle.std.proofs.Common.{◌≡◌, drop}
use Rattle.std.specs.List.{list_any}
use Rattle.meson_following.specs.CodeEffects.{does}
use Rattle.meson_following.proofs.SearchParts.{within_args, within_operands, within_tails}
use Rattle.meson_following.proofs.effects.Search.+search.Given as goal

abbrev pub invariant-in_list-loop-i : goal.invariant-in_list-loop-i
invariant-in_list-loop-i l =
    list_any (does l.self.deed l.self.variable.now) (within_args l.self.source.now (drop l.i l.args)) ≡ list_any (does l.self.deed l.self.variable.now) (within_args l.self.source.now l.args)

abbrev pub invariant-in_operands-loop-i : goal.invariant-in_operands-loop-i
invariant-in_operands-loop-i l =
    list_any (does l.self.deed l.self.variable.now) (within_operands l.self.source.now (drop l.i l.operands)) ≡ list_any (does l.self.deed l.self.variable.now) (within_operands l.self.source.now l.operands)

abbrev pub invariant-in_tails-loop-i : goal.invariant-in_tails-loop-i
invariant-in_tails-loop-i l =
    list_any (does l.self.deed l.self.variable.now) (within_tails l.self.source.now (drop l.i l.tails)) ≡ list_any (does l.self.deed l.self.variable.now) (within_tails l.self.source.now l.tails)
