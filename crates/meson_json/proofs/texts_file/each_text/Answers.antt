use Rattle.std.proofs.Common.{◌∙◌, sym, arith}
use Rattle.meson_json.specs.TextsFile.{text_of_data}
use Rattle.meson_json.proofs.EachFacts.{each_of-more, each_of-refuses, each_of-all}
use Rattle.meson_json.proofs.texts_file.each_text.Goals as goal

pub returns-in_default : goal.returns-in_default
returns-in_default c =
    sym (c.loop-value.invariant ∙ each_of-refuses text_of_data c.args.list.now c.loop-value.value-index c.loop-value.all.items c.value-item.result c.loop-value-test.true c.value-item.is (sym c.in_ok-text.ensures ∙ c.in_default.is))

pub loop-value-preserved : goal.loop-value-preserved
loop-value-preserved c =
    rw c.in_ok-push.ensures.items
    (c.loop-value.invariant ∙ each_of-more text_of_data c.args.list.now c.loop-value.value-index c.loop-value.all.items c.value-item.result c.in-Some.text c.loop-value-test.true c.value-item.is (sym c.in_ok-text.ensures ∙ c.in-Some.is))

pub returns : goal.returns
returns c =
    rw c.of.ensures (sym (c.loop-value.invariant ∙ each_of-all text_of_data c.args.list.now c.loop-value.value-index c.loop-value.all.items (omega arith)))
