use Rattle.std.proofs.Common.{arith, suc}
use Rattle.std.proofs.lemmas.Grind.{common_steps}
use Rattle.meson_syntax.specs.inside.Cursor.{input}
use Rattle.meson_syntax.specs.inside.Reading.{room, expression}
use Rattle.meson_syntax.specs.inside.ReadingFiles.{lines_from, block_within}
use Rattle.meson_syntax.specs.View.{stmts_view}
use Rattle.meson_syntax.proofs.Turns.{one_more, no_more}
use Rattle.meson_syntax.proofs.Views.{stmts_view-push}
use Rattle.meson_syntax.proofs.grammar.Grammar.lines.Goals as goal

pub returns-then-ends_block : goal.returns-then-ends_block
unfolding lines_from
returns-then-ends_block g c =
    let e = one_more (λ n. lines_from (room c.args.self.now.depth) (expression (suc c.args.self.now.depth)) (expression c.args.self.now.depth) (block_within c.args.self.now.depth) n (stmts_view c.args.self.now.source.now c.loop-turn.found) (input c.args.self.now.source.now c.loop-turn.tokens)) _ c.loop-turn._turn c.loop-turn-test.true c.loop-turn.invariant in
    grind (arith, common_steps)

pub returns-in_err-line : goal.returns-in_err-line
unfolding lines_from
returns-in_err-line g c =
    let e = one_more (λ n. lines_from (room c.args.self.now.depth) (expression (suc c.args.self.now.depth)) (expression c.args.self.now.depth) (block_within c.args.self.now.depth) n (stmts_view c.args.self.now.source.now c.loop-turn.found) (input c.args.self.now.source.now c.loop-turn.tokens)) _ c.loop-turn._turn c.loop-turn-test.true c.loop-turn.invariant in
    grind (arith, common_steps)

pub loop-turn-preserved : goal.loop-turn-preserved
unfolding lines_from
loop-turn-preserved g c =
    let e = one_more (λ n. lines_from (room c.args.self.now.depth) (expression (suc c.args.self.now.depth)) (expression c.args.self.now.depth) (block_within c.args.self.now.depth) n (stmts_view c.args.self.now.source.now c.loop-turn.found) (input c.args.self.now.source.now c.loop-turn.tokens)) _ c.loop-turn._turn c.loop-turn-test.true c.loop-turn.invariant in
    let p = stmts_view-push c.args.self.now.source.now c.loop-turn.found c.in_ok-line.field-0 in
    grind (arith, common_steps)

pub returns : goal.returns
unfolding lines_from
returns g c =
    let e = no_more (λ n. lines_from (room c.args.self.now.depth) (expression (suc c.args.self.now.depth)) (expression c.args.self.now.depth) (block_within c.args.self.now.depth) n (stmts_view c.args.self.now.source.now c.loop-turn.found) (input c.args.self.now.source.now c.loop-turn.tokens)) _ c.loop-turn._turn c.loop-turn-test.false c.loop-turn.invariant in
    grind (arith, common_steps)
