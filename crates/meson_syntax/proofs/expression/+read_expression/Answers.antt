use Rattle.std.proofs.Common.{◌≡◌, ap, arith}
use Rattle.meson_syntax.specs.inside.Reading.{expression}
use Rattle.meson_syntax.specs.inside.Cursor.{input}
use Rattle.meson_syntax.proofs.Turns.{deeper}
use Rattle.meson_syntax.proofs.expression.+read_expression.Goals as goal

pub returns-then-depth-eq0 : goal.returns-then-depth-eq0
unfolding expression
returns-then-depth-eq0 t c =
    let none : c.args.depth ≡ 0 = omega arith in
    (λ _. ap (λ n. expression n (input c.args.source.now c.args.tokens.now)) none, tt)

pub returns : goal.returns
unfolding expression
returns t c = rw (deeper (λ n. expression n (input c.args.source.now c.args.tokens.now)) c.args.depth (omega arith)) c.chosen.ensures
