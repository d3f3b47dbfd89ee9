use Rattle.std.proofs.Common.{◌+◌, List, ◌++◌, append_assoc, drop, map, sym, ap, ◌∙◌, subst}
use Rattle.std.specs.Prelude.{Some}
use Rattle.std.proofs.lemmas.List.{at_drop_more, map-append}
use Rattle.meson_syntax.specs.View.{args_view}
use Rattle.meson_calls.specs.GoodLists.{GoodArgs}
use Rattle.meson_steps.specs.ListSteps.{bare}
use Rattle.meson_steps.specs.Steps.{Step}
use Rattle.meson_places.specs.declared.value_lists.FoundList.{FoundList}
use Rattle.meson_places.specs.SaidElements.{lists_edited, passing_edited, says_one}
use Rattle.meson_places.specs.inside.Found.{found_lists}
use Rattle.meson_places.proofs.ValueListsThere.{good_list}
use Rattle.meson_places.proofs.said_elements.edit_lists.Goals as goal

pub edit_elements-requires : goal.edit_elements-requires
edit_elements-requires c =
    subst (λ x. GoodArgs c.args.source.now x.elements.now) (sym c.index-lists-i.is) (good_list c.args.source.now c.args.lists.now c.loop-i.i c.index-lists-i.result c.loop-i-test.true c.requires)

pub loop-i-preserved : goal.loop-i-preserved
loop-i-preserved c = λ w same.
    let source = c.args.source.now in
    let lists = c.args.lists.now in
    let i = c.loop-i.i in
    let d = c.index-lists-i.result in
    let test = says_one source c.args.said.values.now in
    let of_lists : List FoundList → List Step = λ ls. lists_edited w test (found_lists source ls) in
    let of_one : FoundList → List Step = λ x. passing_edited x.place w test 0 (args_view source x.elements.now) in
    let old = map Some c.loop-i.steps.items in
    let rest = of_lists (drop (i + 1) lists) in
    ap (λ l. l ++ map bare rest) (c.in_ok-edit_elements.ensures.done w same) ∙ append_assoc old (map bare (of_one d)) (map bare rest)
    ∙ ap (λ l. old ++ l) (sym (map-append bare (of_one d) rest)) ∙ ap (λ x. old ++ map bare (of_one x ++ rest)) c.index-lists-i.is
    ∙ ap (λ p. old ++ map bare p) (sym (at_drop_more of_lists lists i d c.loop-i-test.true)) ∙ c.loop-i.invariant w same
