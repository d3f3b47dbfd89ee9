use Rattle.meson_syntax.specs.inside.Cursor.{input}
use Rattle.meson_syntax.specs.inside.Reading.{expression, room}
use Rattle.std.proofs.Common.{sym, ◌∙◌}
use Rattle.meson_syntax.proofs.Alone.{chosen-alone}
use Rattle.meson_syntax.proofs.grammar.Grammar.chosen.Goals as goal

pub returns-then-is_alone : goal.returns-then-is_alone
returns-then-is_alone g c =
    rw (chosen-alone (room c.args.self.now.depth) (expression c.args.self.now.depth) (input c.args.self.now.source.now c.args.tokens.now) (sym c.is_alone.ensures ∙ c.if-is_alone.true)) c.primary.ensures
