use Rattle.std.proofs.Common.{◌∙◌, sym}
use Rattle.meson_json.specs.Settings.{option_value}
use Rattle.meson_json.proofs.EachFacts.{Entry, each_member-more, each_member-refuses, each_member-all}
use Rattle.meson_json.proofs.members.option_texts.Goals as goal

pub returns-in_default : goal.returns-in_default
returns-in_default c =
    let l = c.loop-name in
    let e : Entry = (c.in-Some.name.now, c.in-Some.value.now) in
    sym (l.invariant ∙ each_member-refuses option_value l.name-iterator c.next.new.self e l.pairs.items c.in-Some.ensures.steps (sym c.in_ok-text.ensures ∙ c.in_default.is))

pub loop-name-preserved : goal.loop-name-preserved
loop-name-preserved c =
    let l = c.loop-name in
    let e : Entry = (c.in-Some.name.now, c.in-Some.value.now) in
    let named = c.in_ok-owned.ensures ∙ c.as_str.ensures.value in
    rw (c.in_ok-push.ensures.items, named)
    (l.invariant ∙ each_member-more option_value l.name-iterator c.next.new.self e l.pairs.items c.in-Some-2.text c.in-Some.ensures.steps (sym c.in_ok-text.ensures ∙ c.in-Some-2.is))

pub returns : goal.returns
returns c =
    let l = c.loop-name in
    rw c.of.ensures (sym (l.invariant ∙ each_member-all option_value l.name-iterator l.pairs.items c.in-None.ensures.steps.0))
