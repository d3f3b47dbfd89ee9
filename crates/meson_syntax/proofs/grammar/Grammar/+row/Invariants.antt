use Rattle.std.proofs.Common.{◌≡◌, ◌-◌, ◌+◌, ◌*◌, Some}
use Rattle.meson_syntax.specs.inside.Cursor.{input}
use Rattle.meson_syntax.specs.inside.Reading.{operands_from, row_at, expression, room}
use Rattle.meson_syntax.specs.inside.Rows.{operands, row_with}
use Rattle.meson_syntax.specs.View.{expr_view, operands_view}
use Rattle.meson_syntax.proofs.grammar.Grammar.+row.Given as goal

abbrev pub decreases-row : goal.decreases-row
decreases-row g l = 4 * l.level + 3

abbrev pub decreases-row_with : goal.decreases-row_with
decreases-row_with g l = 4 * l.level + 2

abbrev pub decreases-longer : goal.decreases-longer
decreases-longer g l = 4 * l.level + 1

abbrev pub decreases-operands : goal.decreases-operands
decreases-operands g l = 4 * l.level

abbrev pub invariant-operands-loop-turn : goal.invariant-operands-loop-turn
invariant-operands-loop-turn g l =
    operands (room l.self.depth) (expression l.self.depth) l.level (input l.self.source.now l.fn.tokens)
    ≡ operands_from (room l.self.depth) (expression l.self.depth) l.level (row_at (room l.self.depth) (expression l.self.depth) (l.level - 1)) (l._turn-end - l._turn) (operands_view l.self.source.now l.found) (input l.self.source.now l.tokens)

abbrev pub invariant-row_with-loop-tighter : goal.invariant-row_with-loop-tighter
invariant-row_with-loop-tighter g l =
    row_with (room l.self.depth) (expression l.self.depth) l.tighter l.start (expr_view l.self.source.now l.fn.first) (input l.self.source.now l.fn.tokens)
    ≡ Some (expr_view l.self.source.now l.read, input l.self.source.now l.tokens)
