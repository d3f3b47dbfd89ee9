use Rattle.std.proofs.Common.{◌∙◌, ap, sym, arith, Some}
use Rattle.serde_json.specs.Find.{as_str}
use Rattle.meson_json.proofs.EachFacts.{each_of-more, each_of-refuses, each_of-all}
use Rattle.meson_json.proofs.members.texts.Goals as goal

pub returns-in_default : goal.returns-in_default
returns-in_default c =
    sym (c.loop-value.invariant ∙ each_of-refuses as_str c.args.list.now c.loop-value.value-index c.loop-value.all.items c.value-item.result c.loop-value-test.true c.value-item.is (sym c.in_default.ensures))

pub loop-value-preserved : goal.loop-value-preserved
loop-value-preserved c =
    let gives = sym c.in-Some.ensures ∙ ap (λ s. Some s) (sym c.in_ok-owned.ensures) in
    rw c.in_ok-push.ensures.items
    (c.loop-value.invariant ∙ each_of-more as_str c.args.list.now c.loop-value.value-index c.loop-value.all.items c.value-item.result c.in_ok-owned.field-0 c.loop-value-test.true c.value-item.is gives)

pub returns : goal.returns
returns c =
    rw c.of.ensures (sym (c.loop-value.invariant ∙ each_of-all as_str c.args.list.now c.loop-value.value-index c.loop-value.all.items (omega arith)))
