use Rattle.std.proofs.Common.{arith}
use Rattle.std.proofs.lemmas.Grind.{common_steps}
use Rattle.meson_syntax.specs.inside.Reading.{tails_from, expression, room}
use Rattle.meson_syntax.specs.inside.Cursor.{input}
use Rattle.meson_syntax.specs.View.{tails_view}
use Rattle.meson_syntax.proofs.Turns.{one_more, no_more}
use Rattle.meson_syntax.proofs.Views.{tails_view-push}
use Rattle.meson_syntax.proofs.grammar.Grammar.tails.Goals as goal

pub returns-in_err-method : goal.returns-in_err-method
unfolding tails_from
returns-in_err-method g c =
    let e = one_more (λ n. tails_from (room c.args.self.now.depth) (expression c.args.self.now.depth) n (tails_view c.args.self.now.source.now c.loop-turn.found) (input c.args.self.now.source.now c.loop-turn.tokens)) _ c.loop-turn._turn c.loop-turn-test.true c.loop-turn.invariant in
    grind (arith, common_steps, tails_view-push)

pub returns-in_err-index : goal.returns-in_err-index
unfolding tails_from
returns-in_err-index g c =
    let e = one_more (λ n. tails_from (room c.args.self.now.depth) (expression c.args.self.now.depth) n (tails_view c.args.self.now.source.now c.loop-turn.found) (input c.args.self.now.source.now c.loop-turn.tokens)) _ c.loop-turn._turn c.loop-turn-test.true c.loop-turn.invariant in
    grind (arith, common_steps, tails_view-push)

pub returns-else-sees-2 : goal.returns-else-sees-2
unfolding tails_from
returns-else-sees-2 g c =
    let e = one_more (λ n. tails_from (room c.args.self.now.depth) (expression c.args.self.now.depth) n (tails_view c.args.self.now.source.now c.loop-turn.found) (input c.args.self.now.source.now c.loop-turn.tokens)) _ c.loop-turn._turn c.loop-turn-test.true c.loop-turn.invariant in
    grind (arith, common_steps, tails_view-push)

pub loop-turn-preserved : goal.loop-turn-preserved
unfolding tails_from
loop-turn-preserved g c =
    let e = one_more (λ n. tails_from (room c.args.self.now.depth) (expression c.args.self.now.depth) n (tails_view c.args.self.now.source.now c.loop-turn.found) (input c.args.self.now.source.now c.loop-turn.tokens)) _ c.loop-turn._turn c.loop-turn-test.true c.loop-turn.invariant in
    grind (arith, common_steps, tails_view-push)

pub returns : goal.returns
unfolding tails_from
returns g c =
    let e = no_more (λ n. tails_from (room c.args.self.now.depth) (expression c.args.self.now.depth) n (tails_view c.args.self.now.source.now c.loop-turn.found) (input c.args.self.now.source.now c.loop-turn.tokens)) _ c.loop-turn._turn c.loop-turn-test.false c.loop-turn.invariant in
    grind (arith, common_steps)
