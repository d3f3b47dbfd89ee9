use Rattle.std.proofs.Common.{◌∙◌, sym, arith}
use Rattle.meson_json.specs.Settings.{given_value}
use Rattle.meson_json.proofs.EachFacts.{each_of-more, each_of-refuses, each_of-all}
use Rattle.meson_json.proofs.members.given_values.Goals as goal

pub returns-in_default : goal.returns-in_default
returns-in_default c =
    sym (c.loop-value.invariant
    ∙ each_of-refuses given_value c.args.list.now c.loop-value.value-index c.loop-value.all.items c.value-item.result c.loop-value-test.true c.value-item.is (sym c.in_ok-given.ensures ∙ c.in_default.is))

pub loop-value-preserved : goal.loop-value-preserved
loop-value-preserved c =
    rw c.in_ok-push.ensures.items
    (c.loop-value.invariant
    ∙ each_of-more given_value c.args.list.now c.loop-value.value-index c.loop-value.all.items c.value-item.result c.in-Some.given c.loop-value-test.true c.value-item.is (sym c.in_ok-given.ensures ∙ c.in-Some.is))

pub returns : goal.returns
returns c = sym (c.loop-value.invariant ∙ each_of-all given_value c.args.list.now c.loop-value.value-index c.loop-value.all.items (omega arith))
