use Rattle.std.proofs.Common.{◌≡◌, ap, arith}
use Rattle.meson_syntax.specs.inside.ReadingFiles.{block_within}
use Rattle.meson_syntax.specs.inside.Cursor.{input}
use Rattle.meson_syntax.proofs.Turns.{deeper}
use Rattle.meson_syntax.proofs.block.+read_block.Goals as goal

pub returns-then-depth-eq0 : goal.returns-then-depth-eq0
unfolding block_within
returns-then-depth-eq0 t c =
    let none : c.args.depth ≡ 0 = omega arith in
    (λ _. ap (λ n. block_within n (input c.args.source.now c.args.tokens.now)) none, tt)

pub returns : goal.returns
unfolding block_within
returns t c = rw (deeper (λ n. block_within n (input c.args.source.now c.args.tokens.now)) c.args.depth (omega arith)) c.block.ensures
