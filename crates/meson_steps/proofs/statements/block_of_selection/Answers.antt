use Rattle.meson_steps.proofs.Words.{◌≡◌, ◌+◌, ◌-◌, arith, otherwise_view, otherwise_parts}
use Rattle.meson_steps.proofs.StatementsThere.{condition_none, block_here, block_later}
use Rattle.meson_steps.proofs.statements.block_of_selection.Goals as goal

pub returns-then-left-eq0 : goal.returns-then-left-eq0
returns-then-left-eq0 c = λ source.
    condition_none source (otherwise_parts (otherwise_view source c.args.otherwise.now)) c.args.branches.now c.loop-i.i c.loop-i.left _ c.loop-i-test.true (c.loop-i.invariant source) c.if-left-eq0.true

pub returns-then-left-eq1 : goal.returns-then-left-eq1
returns-then-left-eq1 c = λ source.
    block_here source (otherwise_parts (otherwise_view source c.args.otherwise.now)) c.args.branches.now c.loop-i.i c.index-branches-i.result c.loop-i.left _ c.loop-i-test.true (c.loop-i.invariant source) c.if-left-eq1.true

pub loop-i-preserved : goal.loop-i-preserved
loop-i-preserved c = λ source.
    let zero_not = c.if-left-eq0.false in
    let one_not = c.if-left-eq1.false in
    let enough : c.loop-i.left ≡ (c.loop-i.left - 2) + 2 = omega (arith, zero_not, one_not) in
    block_later source (otherwise_parts (otherwise_view source c.args.otherwise.now)) c.args.branches.now c.loop-i.i c.loop-i.left _ c.loop-i-test.true (c.loop-i.invariant source) (c.loop-i.left - 2) enough
