use Rattle.meson_variables.proofs.Words.{◌∙◌, sym, ap, is_named, arg_view}
use Rattle.meson_variables.proofs.NamedElements.{names_left, names_of_list, name_found, name_skipped, names_ended}
use Rattle.meson_variables.proofs.meeting.are_named.Goals as goal

pub returns-then-is_named : goal.returns-then-is_named
returns-then-is_named c = λ source.
    let is = ap (λ a. is_named (arg_view source a)) (sym c.index-args-i.is) ∙ sym (c.is_named.ensures source) ∙ c.if-is_named.true in
    sym (names_of_list source c.args.list.now ∙ sym (ap (names_left source) c.get-args.ensures) ∙ sym (c.loop-i.invariant source)
    ∙ name_found source c.get-args.result.now c.loop-i.i c.index-args-i.result c.loop-i-test.true is)

pub loop-i-preserved : goal.loop-i-preserved
loop-i-preserved c = λ source.
    let is = ap (λ a. is_named (arg_view source a)) (sym c.index-args-i.is) ∙ sym (c.is_named.ensures source) ∙ c.if-is_named.false in
    name_skipped source c.get-args.result.now c.loop-i.i c.index-args-i.result c.loop-i-test.true is ∙ c.loop-i.invariant source

pub returns : goal.returns
returns c = λ source.
    sym (names_of_list source c.args.list.now ∙ sym (ap (names_left source) c.get-args.ensures) ∙ sym (c.loop-i.invariant source)
    ∙ names_ended source c.get-args.result.now c.loop-i.i c.loop-i-test.false)
