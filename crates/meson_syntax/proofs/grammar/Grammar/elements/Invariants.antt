use Rattle.std.proofs.Common.{◌≡◌, ◌-◌}
use Rattle.meson_syntax.specs.inside.Reading.{listed_elements, elements_from, expression, room}
use Rattle.meson_syntax.specs.inside.Cursor.{input}
use Rattle.meson_syntax.specs.View.{args_view}
use Rattle.meson_syntax.proofs.grammar.Grammar.elements.Given as goal

abbrev pub invariant-loop-turn : goal.invariant-loop-turn
invariant-loop-turn g l =
    listed_elements (room l.self.depth) (expression l.self.depth) l.bracket (input l.self.source.now l.fn.tokens)
    ≡ elements_from (room l.self.depth) (expression l.self.depth) l.bracket (l._turn-end - l._turn) l.seen (args_view l.self.source.now l.found) (input l.self.source.now l.tokens)
