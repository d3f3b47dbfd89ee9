use Rattle.std.proofs.Common.{arith}
use Rattle.std.proofs.lemmas.Grind.{common_steps}
use Rattle.meson_syntax.specs.inside.Reading.{elements_from, expression, room}
use Rattle.meson_syntax.specs.inside.Cursor.{input}
use Rattle.meson_syntax.specs.View.{args_view}
use Rattle.meson_syntax.proofs.Turns.{one_more, no_more}
use Rattle.meson_syntax.proofs.Views.{args_view-push}
use Rattle.meson_syntax.proofs.grammar.Grammar.elements.Goals as goal

pub returns-in_err-element : goal.returns-in_err-element
unfolding elements_from
returns-in_err-element g c =
    let e = one_more (λ n. elements_from (room c.args.self.now.depth) (expression c.args.self.now.depth) c.args.bracket n c.loop-turn.seen (args_view c.args.self.now.source.now c.loop-turn.found) (input c.args.self.now.source.now c.loop-turn.tokens)) _ c.loop-turn._turn c.loop-turn-test.true c.loop-turn.invariant in
    grind (arith, common_steps)

pub returns-in_err-expect : goal.returns-in_err-expect
unfolding elements_from
returns-in_err-expect g c =
    let e = one_more (λ n. elements_from (room c.args.self.now.depth) (expression c.args.self.now.depth) c.args.bracket n c.loop-turn.seen (args_view c.args.self.now.source.now c.loop-turn.found) (input c.args.self.now.source.now c.loop-turn.tokens)) _ c.loop-turn._turn c.loop-turn-test.true c.loop-turn.invariant in
    grind (arith, common_steps)

pub returns-then-not-eat : goal.returns-then-not-eat
unfolding elements_from
returns-then-not-eat g c =
    let e = one_more (λ n. elements_from (room c.args.self.now.depth) (expression c.args.self.now.depth) c.args.bracket n c.loop-turn.seen (args_view c.args.self.now.source.now c.loop-turn.found) (input c.args.self.now.source.now c.loop-turn.tokens)) _ c.loop-turn._turn c.loop-turn-test.true c.loop-turn.invariant in
    let p = args_view-push c.args.self.now.source.now c.loop-turn.found c.in_ok-element.element in
    grind (arith, common_steps)

pub returns-then-eat : goal.returns-then-eat
unfolding elements_from
returns-then-eat g c =
    let e = one_more (λ n. elements_from (room c.args.self.now.depth) (expression c.args.self.now.depth) c.args.bracket n c.loop-turn.seen (args_view c.args.self.now.source.now c.loop-turn.found) (input c.args.self.now.source.now c.loop-turn.tokens)) _ c.loop-turn._turn c.loop-turn-test.true c.loop-turn.invariant in
    let p = args_view-push c.args.self.now.source.now c.loop-turn.found c.in_ok-element.element in
    grind (arith, common_steps)

pub loop-turn-preserved : goal.loop-turn-preserved
unfolding elements_from
loop-turn-preserved g c =
    let e = one_more (λ n. elements_from (room c.args.self.now.depth) (expression c.args.self.now.depth) c.args.bracket n c.loop-turn.seen (args_view c.args.self.now.source.now c.loop-turn.found) (input c.args.self.now.source.now c.loop-turn.tokens)) _ c.loop-turn._turn c.loop-turn-test.true c.loop-turn.invariant in
    let p = args_view-push c.args.self.now.source.now c.loop-turn.found c.in_ok-element.element in
    let named = c.is_named-seen.ensures c.args.self.now.source.now in
    grind (arith, common_steps)

pub returns : goal.returns
unfolding elements_from
returns g c =
    let e = no_more (λ n. elements_from (room c.args.self.now.depth) (expression c.args.self.now.depth) c.args.bracket n c.loop-turn.seen (args_view c.args.self.now.source.now c.loop-turn.found) (input c.args.self.now.source.now c.loop-turn.tokens)) _ c.loop-turn._turn c.loop-turn-test.false c.loop-turn.invariant in
    grind (arith, common_steps)
