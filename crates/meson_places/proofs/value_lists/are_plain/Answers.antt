use Rattle.std.proofs.Common.{sym, ap, ◌∙◌}
use Rattle.std.proofs.lemmas.List.{at_drop_all}
use Rattle.std.specs.List.{list_all}
use Rattle.meson_syntax.specs.View.{arg_view, args_view}
use Rattle.meson_places.specs.Slots.{has_no_name}
use Rattle.meson_places.proofs.ListElements.{all_more, all_not}
use Rattle.meson_places.proofs.value_lists.are_plain.Goals as goal

pub returns-then-not-has_no_name : goal.returns-then-not-has_no_name
returns-then-not-has_no_name c = λ source.
    let here = ap (λ a. has_no_name (arg_view source a)) (sym c.index-elements-i.is) ∙ sym (c.has_no_name.ensures source) ∙ c.if-not-has_no_name.true in
    sym (sym (c.loop-i.invariant source) ∙ all_not source c.args.elements.now c.loop-i.i c.index-elements-i.result c.loop-i-test.true has_no_name here)

pub loop-i-preserved : goal.loop-i-preserved
loop-i-preserved c = λ source.
    let here = ap (λ a. has_no_name (arg_view source a)) (sym c.index-elements-i.is) ∙ sym (c.has_no_name.ensures source) ∙ c.if-not-has_no_name.false in
    sym (all_more source c.args.elements.now c.loop-i.i c.index-elements-i.result c.loop-i-test.true has_no_name here) ∙ c.loop-i.invariant source

pub returns : goal.returns
returns c = λ source. sym (sym (c.loop-i.invariant source) ∙ at_drop_all (λ xs. list_all has_no_name (args_view source xs)) c.args.elements.now c.loop-i.i c.loop-i-test.false)
