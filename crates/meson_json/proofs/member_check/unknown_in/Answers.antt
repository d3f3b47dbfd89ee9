use Rattle.std.proofs.Common.{◌≡◌, ◌∙◌, Some, ap, sym, true, false, string_bytes}
use Rattle.meson_json.specs.Known.{is_known}
use Rattle.meson_json.proofs.EachFacts.{Entry}
use Rattle.meson_json.proofs.KnownFacts.{find-ends, find-passes, find-stops}
use Rattle.meson_json.proofs.member_check.unknown_in.Goals as goal

pub returns-then-not-is_known : goal.returns-then-not-is_known
returns-then-not-is_known c =
    let l = c.loop-name in
    let e : Entry = (c.in-Some.name.now, c.in-Some.field-0-1.now) in
    let unknown : is_known c.args.command.now (string_bytes e.0) ≡ false =
    ap (is_known c.args.command.now) (sym c.as_str.ensures.value) ∙ sym c.is_known.ensures ∙ c.if-not-is_known.true in
    sym (l.invariant ∙ find-stops c.args.command.now l.name-iterator c.next.new.self e c.in-Some.ensures.steps unknown
    ∙ ap (λ name. Some name) (sym c.as_str-then-not-is_known.ensures.value))

pub loop-name-preserved : goal.loop-name-preserved
loop-name-preserved c =
    let l = c.loop-name in
    let e : Entry = (c.in-Some.name.now, c.in-Some.field-0-1.now) in
    let known : is_known c.args.command.now (string_bytes e.0) ≡ true =
    ap (is_known c.args.command.now) (sym c.as_str.ensures.value) ∙ sym c.is_known.ensures ∙ c.if-not-is_known.false in
    l.invariant ∙ find-passes c.args.command.now l.name-iterator c.next.new.self e c.in-Some.ensures.steps known

pub returns : goal.returns
returns c = sym (c.loop-name.invariant ∙ find-ends c.args.command.now c.loop-name.name-iterator c.in-None.ensures.steps.0)
