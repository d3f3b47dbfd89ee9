use Rattle.std.proofs.Common.{◌≡◌, suc, ◌-◌}
use Rattle.meson_syntax.specs.inside.Cursor.{input}
use Rattle.meson_syntax.specs.inside.Reading.{room, expression}
use Rattle.meson_syntax.specs.inside.ReadingFiles.{statement_lines, lines_from, block_within}
use Rattle.meson_syntax.specs.View.{stmts_view}
use Rattle.meson_syntax.proofs.grammar.Grammar.lines.Given as goal

abbrev pub invariant-loop-turn : goal.invariant-loop-turn
invariant-loop-turn g l =
    statement_lines (room l.self.depth) (expression (suc l.self.depth)) (expression l.self.depth) (block_within l.self.depth) (input l.self.source.now l.fn.tokens)
    ≡ lines_from (room l.self.depth) (expression (suc l.self.depth)) (expression l.self.depth) (block_within l.self.depth) (l._turn-end - l._turn) (stmts_view l.self.source.now l.found) (input l.self.source.now l.tokens)
