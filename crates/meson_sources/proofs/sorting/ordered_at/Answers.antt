use Rattle.meson_calls.specs.GoodLists.{GoodArgs}
use Rattle.meson_calls.proofs.Loads.{as_many}
use Rattle.meson_sources.proofs.sorting.ordered_at.Goals as goal
use Rattle.meson_sources.proofs.Words.{[], ap, arith, option_map, subst, sym, ◌∙◌, bytes_at, Span, list_at, ListAt, view, project_of}
use Rattle.meson_sources.proofs.sorted.Found.{all_ordered, are_good, are_there, is_ordered, none_past, none_there}

pub returns-then-list-trees-clause-is : goal.returns-then-list-trees-clause-is
returns-then-list-trees-clause-is c =
    let v = c.args.variables.now in
    let list = c.args.list.now in
    is_ordered v.files.now (project_of v) c.args.call.now list c.without_elements.result c.first_sorted-from.result c.plain_len-end.result c.first_sorted-from.ensures.is c.plain_len-end.ensures.counted
    [] (none_past v.files.now v.trees.now list c.if-list-trees.true) (c.without_elements.ensures (bytes_at list.file v.files.now))

pub returns-then-list-trees-clause-end : goal.returns-then-list-trees-clause-end
returns-then-list-trees-clause-end c = (c.without_elements.ensures []).end ∙ c.plain_len-end.ensures.counted

pub returns-then-list-trees-clause-small : goal.returns-then-list-trees-clause-small
returns-then-list-trees-clause-small c =
    let made = c.without_elements.ensures [] in
    let from = made.from in
    let end = made.end in
    let few = c.first_sorted-from.ensures.small in
    let small = c.plain_len-end.ensures.small in
    (omega (arith, from, few), omega (arith, end, small))

pub bytes-source-requires : goal.bytes-source-requires
bytes-source-requires c =
    let v = c.args.variables.now in
    let many = as_many v.files.now v.trees.now c.requires in
    let within = c.if-list-trees.false in
    omega (arith, many, within)

pub of-requires : goal.of-requires
of-requires c =
    let v = c.args.variables.now in
    let list = c.args.list.now in
    let bytes = bytes_at list.file v.files.now in
    let is = c.in-Some.ensures bytes ∙ ap (λ t. option_map (λ (q : ListAt Span). q.list) (list_at (view bytes t) list.path.steps)) c.index-trees-list.is in
    let good = are_good v.files.now v.trees.now list c.index-trees-list.result (as_many v.files.now v.trees.now c.requires) c.if-list-trees.false c.in-Some.found.now c.requires is in
    subst (λ b. GoodArgs b c.get.result.now) (sym c.bytes-source.ensures) (subst (GoodArgs bytes) (sym c.get.ensures) good)

pub returns-in-Some-clause-is : goal.returns-in-Some-clause-is
returns-in-Some-clause-is c =
    let v = c.args.variables.now in
    let list = c.args.list.now in
    let bytes = bytes_at list.file v.files.now in
    let is = c.in-Some.ensures bytes ∙ ap (λ t. option_map (λ (q : ListAt Span). q.list) (list_at (view bytes t) list.path.steps)) c.index-trees-list.is in
    let there = are_there v.files.now v.trees.now list c.index-trees-list.result (as_many v.files.now v.trees.now c.requires) c.if-list-trees.false c.in-Some.found.now is in
    all_ordered v.files.now (project_of v) c.args.call.now list c.first_sorted-from.result c.plain_len-end.result c.first_sorted-from.ensures.is c.plain_len-end.ensures.counted
    c.bytes-source.result.now c.get.result.now c.bytes-source.ensures c.in-Some.found.now c.get.ensures there c.of.result c.of.ensures

pub returns-in-None-clause-is : goal.returns-in-None-clause-is
returns-in-None-clause-is c =
    let v = c.args.variables.now in
    let list = c.args.list.now in
    let bytes = bytes_at list.file v.files.now in
    let is = c.in-None.ensures bytes ∙ ap (λ t. option_map (λ (q : ListAt Span). q.list) (list_at (view bytes t) list.path.steps)) c.index-trees-list.is in
    let none = none_there v.files.now v.trees.now list c.index-trees-list.result (as_many v.files.now v.trees.now c.requires) c.if-list-trees.false is in
    is_ordered v.files.now (project_of v) c.args.call.now list c.without_elements-in-None.result c.first_sorted-from.result c.plain_len-end.result c.first_sorted-from.ensures.is c.plain_len-end.ensures.counted
    [] none (c.without_elements-in-None.ensures bytes)

pub returns-in-None-clause-end : goal.returns-in-None-clause-end
returns-in-None-clause-end c = (c.without_elements-in-None.ensures []).end ∙ c.plain_len-end.ensures.counted

pub returns-in-None-clause-small : goal.returns-in-None-clause-small
returns-in-None-clause-small c =
    let made = c.without_elements-in-None.ensures [] in
    let from = made.from in
    let end = made.end in
    let few = c.first_sorted-from.ensures.small in
    let small = c.plain_len-end.ensures.small in
    (omega (arith, from, few), omega (arith, end, small))
