use Rattle.std.proofs.Common.{sym, ap, ◌∙◌}
use Rattle.meson_syntax.specs.View.{args_view, expr_view}
use Rattle.meson_places.specs.Slots.{elements_in, number_by, number_in}
use Rattle.meson_places.proofs.Refused.{refused_as, found_as}
use Rattle.meson_places.proofs.slots.number_in.Goals as goal

pub number_by-requires : goal.number_by-requires
number_by-requires c = c.elements_in.ensures.good c.args.source.now c.requires

pub returns-clause-found : goal.returns-clause-found
returns-clause-found c =
    let source = c.args.source.now in
    let key = c.args.key.now in
    let e = expr_view source c.args.value.now in
    found_as c.number_by.result (number_in key e) (number_by c.list_kind.result key (args_view source c.elements_in.result.now))
    (ap (λ k. number_by k key (elements_in e)) (sym (c.list_kind.ensures source)) ∙ ap (number_by c.list_kind.result key) (sym (c.elements_in.ensures.elements source)))
    c.number_by.ensures.found

pub returns-clause-refused : goal.returns-clause-refused
returns-clause-refused c =
    let source = c.args.source.now in
    let key = c.args.key.now in
    let e = expr_view source c.args.value.now in
    refused_as c.number_by.result (number_in key e) (number_by c.list_kind.result key (args_view source c.elements_in.result.now))
    (ap (λ k. number_by k key (elements_in e)) (sym (c.list_kind.ensures source)) ∙ ap (number_by c.list_kind.result key) (sym (c.elements_in.ensures.elements source)))
    c.number_by.ensures.refused
