use Rattle.std.proofs.Common.{◌≡◌, ◌-◌}
use Rattle.meson_syntax.specs.inside.Reading.{tails, tails_from, expression, room}
use Rattle.meson_syntax.specs.inside.Cursor.{input}
use Rattle.meson_syntax.specs.View.{tails_view}
use Rattle.meson_syntax.proofs.grammar.Grammar.tails.Given as goal

abbrev pub invariant-loop-turn : goal.invariant-loop-turn
invariant-loop-turn g l =
    tails (room l.self.depth) (expression l.self.depth) (input l.self.source.now l.fn.tokens)
    ≡ tails_from (room l.self.depth) (expression l.self.depth) (l._turn-end - l._turn) (tails_view l.self.source.now l.found) (input l.self.source.now l.tokens)
