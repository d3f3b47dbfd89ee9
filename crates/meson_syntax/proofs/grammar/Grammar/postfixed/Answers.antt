use Rattle.std.proofs.Common.{arith}
use Rattle.std.proofs.lemmas.Grind.{common_steps}
use Rattle.meson_syntax.specs.inside.Alone.{tailed}
use Rattle.meson_syntax.specs.inside.Cursor.{input}
use Rattle.meson_syntax.specs.inside.Reading.{expression, postfixed, room}
use Rattle.meson_syntax.specs.View.{expr_view}
use Rattle.meson_syntax.proofs.Alone.{tailed-none}
use Rattle.meson_syntax.proofs.grammar.Grammar.postfixed.Goals as goal

pub returns-then-not-sees-2 : goal.returns-then-not-sees-2
unfolding postfixed tailed
returns-then-not-sees-2 g c =
    let e = tailed-none (room c.args.self.now.depth) (expression c.args.self.now.depth) c.from-start.result (expr_view c.args.self.now.source.now c.in_ok-base.base) (input c.args.self.now.source.now c.primary.new.tokens) in
    grind (arith, common_steps)
