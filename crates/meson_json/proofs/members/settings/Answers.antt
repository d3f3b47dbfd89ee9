use Rattle.std.proofs.Common.{◌∙◌, sym}
use Rattle.meson_json.specs.Settings.{setting_of}
use Rattle.meson_json.proofs.EachFacts.{Entry, each_member-more, each_member-refuses, each_member-all}
use Rattle.meson_json.proofs.members.settings.Goals as goal

pub returns-in_default : goal.returns-in_default
returns-in_default c =
    let l = c.loop-name in
    let e : Entry = (c.in-Some.name.now, c.in-Some.value.now) in
    sym (l.invariant ∙ each_member-refuses setting_of l.name-iterator c.next.new.self e l.pairs.items c.in-Some.ensures.steps (sym c.in_ok-setting.ensures ∙ c.in_default.is))

pub loop-name-preserved : goal.loop-name-preserved
loop-name-preserved c =
    let l = c.loop-name in
    let e : Entry = (c.in-Some.name.now, c.in-Some.value.now) in
    let named = c.in_ok-owned.ensures ∙ c.as_str.ensures.value in
    rw (c.in_ok-push.ensures.items, named)
    (l.invariant ∙ each_member-more setting_of l.name-iterator c.next.new.self e l.pairs.items c.in-Some-2.setting c.in-Some.ensures.steps (sym c.in_ok-setting.ensures ∙ c.in-Some-2.is))

pub returns : goal.returns
returns c =
    let l = c.loop-name in
    rw c.of.ensures (sym (l.invariant ∙ each_member-all setting_of l.name-iterator l.pairs.items c.in-None.ensures.steps.0))
