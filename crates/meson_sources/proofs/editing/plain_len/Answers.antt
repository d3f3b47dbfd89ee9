use Rattle.meson_sources.proofs.editing.plain_len.Goals as goal
use Rattle.meson_calls.proofs.Loads.{as_many}
use Rattle.meson_sources.proofs.Words.{filter, option_map, ap, length, ◌∙◌, bytes_at, Span, list_at, ListAt, args_view, view, is_plain}
use Rattle.meson_sources.proofs.added.Counts.{no_plains, plains_nowhere, plains_there}

pub returns-then-list-trees-clause-counted : goal.returns-then-list-trees-clause-counted
returns-then-list-trees-clause-counted c = no_plains c.args.variables.now.files.now c.args.variables.now.trees.now c.args.list.now c.if-list-trees.true

pub returns-in-Some-clause-counted : goal.returns-in-Some-clause-counted
returns-in-Some-clause-counted c =
    let files = c.args.variables.now.files.now in
    let trees = c.args.variables.now.trees.now in
    let list = c.args.list.now in
    let bytes = bytes_at list.file files in
    let is = c.in-Some.ensures bytes ∙ ap (λ t. option_map (λ (q : ListAt Span). q.list) (list_at (view bytes t) list.path.steps)) c.index-trees-list.is in
    c.count_plain.ensures.counted bytes ∙ ap (λ xs. length (filter is_plain (args_view bytes xs))) c.get.ensures
    ∙ plains_there files trees list c.index-trees-list.result (as_many files trees c.requires) c.if-list-trees.false c.in-Some.list.now is

pub returns-in-None-clause-counted : goal.returns-in-None-clause-counted
returns-in-None-clause-counted c =
    let files = c.args.variables.now.files.now in
    let trees = c.args.variables.now.trees.now in
    let list = c.args.list.now in
    let bytes = bytes_at list.file files in
    let is = c.in-None.ensures bytes ∙ ap (λ t. option_map (λ (q : ListAt Span). q.list) (list_at (view bytes t) list.path.steps)) c.index-trees-list.is in
    plains_nowhere files trees list c.index-trees-list.result (as_many files trees c.requires) c.if-list-trees.false is
