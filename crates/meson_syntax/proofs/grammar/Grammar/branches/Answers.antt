use Rattle.std.proofs.Common.{arith, suc}
use Rattle.std.proofs.lemmas.Grind.{common_steps}
use Rattle.meson_syntax.specs.inside.Cursor.{input}
use Rattle.meson_syntax.specs.inside.Reading.{room, expression}
use Rattle.meson_syntax.specs.inside.ReadingFiles.{branches_from, block_within}
use Rattle.meson_syntax.specs.View.{branches_view}
use Rattle.meson_syntax.proofs.Turns.{one_more, no_more}
use Rattle.meson_syntax.proofs.Views.{branches_view-push}
use Rattle.meson_syntax.proofs.grammar.Grammar.branches.Goals as goal

pub returns-then-not-sees : goal.returns-then-not-sees
unfolding branches_from
returns-then-not-sees g c =
    let e = one_more (λ n. branches_from (room c.args.self.now.depth) (expression (suc c.args.self.now.depth)) (expression c.args.self.now.depth) (block_within c.args.self.now.depth) n (branches_view c.args.self.now.source.now c.loop-turn.found) (input c.args.self.now.source.now c.loop-turn.tokens)) _ c.loop-turn._turn c.loop-turn-test.true c.loop-turn.invariant in
    grind (arith, common_steps)

pub returns-in_err-branch : goal.returns-in_err-branch
unfolding branches_from
returns-in_err-branch g c =
    let e = one_more (λ n. branches_from (room c.args.self.now.depth) (expression (suc c.args.self.now.depth)) (expression c.args.self.now.depth) (block_within c.args.self.now.depth) n (branches_view c.args.self.now.source.now c.loop-turn.found) (input c.args.self.now.source.now c.loop-turn.tokens)) _ c.loop-turn._turn c.loop-turn-test.true c.loop-turn.invariant in
    grind (arith, common_steps)

pub loop-turn-preserved : goal.loop-turn-preserved
unfolding branches_from
loop-turn-preserved g c =
    let e = one_more (λ n. branches_from (room c.args.self.now.depth) (expression (suc c.args.self.now.depth)) (expression c.args.self.now.depth) (block_within c.args.self.now.depth) n (branches_view c.args.self.now.source.now c.loop-turn.found) (input c.args.self.now.source.now c.loop-turn.tokens)) _ c.loop-turn._turn c.loop-turn-test.true c.loop-turn.invariant in
    let p = branches_view-push c.args.self.now.source.now c.loop-turn.found c.in_ok-branch.branch in
    grind (arith, common_steps)

pub returns : goal.returns
unfolding branches_from
returns g c =
    let e = no_more (λ n. branches_from (room c.args.self.now.depth) (expression (suc c.args.self.now.depth)) (expression c.args.self.now.depth) (block_within c.args.self.now.depth) n (branches_view c.args.self.now.source.now c.loop-turn.found) (input c.args.self.now.source.now c.loop-turn.tokens)) _ c.loop-turn._turn c.loop-turn-test.false c.loop-turn.invariant in
    grind (arith, common_steps)
