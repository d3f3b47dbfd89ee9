use Rattle.meson_calls.proofs.Words.{◌≡◌, ◌*◌, drop, place, keeper_view, with_parts}
use Rattle.meson_calls.proofs.StatementParts.{list_parts, conditions_parts}
use Rattle.meson_calls.proofs.part.Walk.+statements.Given as goal

abbrev pub invariant-in_branches-loop-i : goal.invariant-in_branches-loop-i
invariant-in_branches-loop-i l =
    (l.path.items ≡ l.fn.path.items)
    × (with_parts (keeper_view l.keeper) (conditions_parts l.self.source.now (place l.self.file l.fn.path.items) (2 * l.i) (drop l.i l.branches))
    ≡ with_parts (keeper_view l.fn.keeper) (conditions_parts l.self.source.now (place l.self.file l.fn.path.items) 0 l.branches))

abbrev pub invariant-in_stmts-loop-i : goal.invariant-in_stmts-loop-i
invariant-in_stmts-loop-i l =
    (l.path.items ≡ l.fn.path.items)
    × (with_parts (keeper_view l.keeper) (list_parts l.self.source.now (place l.self.file l.fn.path.items) l.i (drop l.i l.stmts))
    ≡ with_parts (keeper_view l.fn.keeper) (list_parts l.self.source.now (place l.self.file l.fn.path.items) 0 l.stmts))
