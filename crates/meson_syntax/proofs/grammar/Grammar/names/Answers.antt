use Rattle.std.proofs.Common.{arith}
use Rattle.std.proofs.lemmas.Grind.{common_steps}
use Rattle.meson_syntax.specs.inside.Cursor.{input}
use Rattle.meson_syntax.specs.inside.ReadingFiles.{names_from}
use Rattle.meson_syntax.specs.View.{names_at}
use Rattle.meson_syntax.proofs.Turns.{one_more, no_more}
use Rattle.meson_syntax.proofs.Views.{names_at-push}
use Rattle.meson_syntax.proofs.grammar.Grammar.names.Goals as goal

pub returns-then-not-eat : goal.returns-then-not-eat
unfolding names_from
returns-then-not-eat g c =
    let e = one_more (λ n. names_from n (names_at c.args.self.now.source.now c.loop-turn.found) (input c.args.self.now.source.now c.loop-turn.tokens)) _ c.loop-turn._turn c.loop-turn-test.true c.loop-turn.invariant in
    grind (arith, common_steps)

pub returns-in_err-name : goal.returns-in_err-name
unfolding names_from
returns-in_err-name g c =
    let e = one_more (λ n. names_from n (names_at c.args.self.now.source.now c.loop-turn.found) (input c.args.self.now.source.now c.loop-turn.tokens)) _ c.loop-turn._turn c.loop-turn-test.true c.loop-turn.invariant in
    grind (arith, common_steps)

pub loop-turn-preserved : goal.loop-turn-preserved
unfolding names_from
loop-turn-preserved g c =
    let e = one_more (λ n. names_from n (names_at c.args.self.now.source.now c.loop-turn.found) (input c.args.self.now.source.now c.loop-turn.tokens)) _ c.loop-turn._turn c.loop-turn-test.true c.loop-turn.invariant in
    let p = names_at-push c.args.self.now.source.now c.loop-turn.found c.in_ok-name.name in
    grind (arith, common_steps)

pub returns : goal.returns
unfolding names_from
returns g c =
    let e = no_more (λ n. names_from n (names_at c.args.self.now.source.now c.loop-turn.found) (input c.args.self.now.source.now c.loop-turn.tokens)) _ c.loop-turn._turn c.loop-turn-test.false c.loop-turn.invariant in
    grind (arith, common_steps)
