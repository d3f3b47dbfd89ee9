use Rattle.std.proofs.Common.{◌≡◌, suc, ◌-◌, ◌≤◌, length, sym, ◌∙◌, arith}
use Rattle.meson_steps.proofs.Ascending.{ascend_here, ascend_last, ascend_more}
use Rattle.meson_steps.proofs.order.ascend.Goals as goal

pub loop-i-preserved : goal.loop-i-preserved
loop-i-preserved c =
    let i = c.loop-i.i in
    let next : suc (i - 1) ≡ i = omega (arith, c.loop-i.auto.i) in
    ascend_more c.args.keys.now (i - 1) i c.index-keys-i.result c.index-keys-i-in-loop-i.result next c.loop-i-test.true c.index-keys-i.is c.index-keys-i-in-loop-i.is
    (sym c.is_less.ensures ∙ c.if-not-is_less.false)
    ∙ c.loop-i.invariant

pub returns-then-not-is_less : goal.returns-then-not-is_less
returns-then-not-is_less c =
    let i = c.loop-i.i in
    let next : suc (i - 1) ≡ i = omega (arith, c.loop-i.auto.i) in
    sym
    (sym c.loop-i.invariant
    ∙ ascend_here c.args.keys.now (i - 1) i c.index-keys-i.result c.index-keys-i-in-loop-i.result next c.loop-i-test.true c.index-keys-i.is c.index-keys-i-in-loop-i.is
    (sym c.is_less.ensures ∙ c.if-not-is_less.true))

pub returns : goal.returns
returns c =
    let i = c.loop-i.i in
    let past : length c.args.keys.now ≤ suc (i - 1) = omega (arith, c.loop-i-test.false, c.loop-i.auto.i) in
    sym (sym c.loop-i.invariant ∙ ascend_last c.args.keys.now (i - 1) past)
