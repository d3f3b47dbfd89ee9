use Rattle.std.proofs.Common.{◌∙◌, sym}
use Rattle.meson_json.proofs.EachFacts.{Entry, names_of-more, names_of-all}
use Rattle.meson_json.proofs.members.names.Goals as goal

pub loop-name-preserved : goal.loop-name-preserved
loop-name-preserved c =
    let l = c.loop-name in
    let e : Entry = (c.in-Some.name.now, c.in-Some.field-0-1.now) in
    rw (c.in_ok-push.ensures.items, c.in_ok-owned.ensures, c.as_str.ensures.value)
    (l.invariant ∙ names_of-more l.name-iterator c.next.new.self e l.names.items c.in-Some.ensures.steps)

pub returns : goal.returns
returns c =
    let l = c.loop-name in
    rw c.of.ensures (sym (l.invariant ∙ names_of-all l.name-iterator l.names.items c.in-None.ensures.steps.0))
