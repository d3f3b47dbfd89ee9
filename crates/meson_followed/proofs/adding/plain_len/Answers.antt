use Rattle.std.proofs.Common.{length, ap, ◌∙◌}
use Rattle.std.specs.Prelude.{None, filter, option_map}
use Rattle.meson_lex.specs.declared.kinds.Span.{Span}
use Rattle.meson_splice.specs.Files.{bytes_at}
use Rattle.meson_syntax.specs.Paths.{ListAt, list_at}
use Rattle.meson_syntax.specs.View.{args_view, view}
use Rattle.meson_calls.proofs.Loads.{as_many}
use Rattle.meson_sources.specs.SourceEdits.{is_plain}
use Rattle.meson_followed.proofs.PlainElements.{none_plain, plain_in, plain_in_list}
use Rattle.meson_followed.proofs.adding.plain_len.Goals as goal

pub returns-then-list-trees-clause-counted : goal.returns-then-list-trees-clause-counted
returns-then-list-trees-clause-counted c = none_plain c.args.follower.now.files.now c.args.follower.now.trees.now c.args.list.now c.if-list-trees.true

pub returns-in-Some-clause-counted : goal.returns-in-Some-clause-counted
returns-in-Some-clause-counted c =
    let files = c.args.follower.now.files.now in
    let trees = c.args.follower.now.trees.now in
    let list = c.args.list.now in
    let bytes = bytes_at list.file files in
    let is = c.in-Some.ensures bytes ∙ ap (λ t. option_map (λ (q : ListAt Span). q.list) (list_at (view bytes t) list.path.steps)) c.index-trees-list.is in
    c.count_plain.ensures.counted bytes ∙ ap (λ xs. length (filter is_plain (args_view bytes xs))) c.get.ensures
    ∙ plain_in_list files trees list c.index-trees-list.result (as_many files trees c.requires.parsed) c.if-list-trees.false c.in-Some.list.now is

pub returns-in-None-clause-counted : goal.returns-in-None-clause-counted
returns-in-None-clause-counted c =
    let files = c.args.follower.now.files.now in
    let trees = c.args.follower.now.trees.now in
    let list = c.args.list.now in
    let bytes = bytes_at list.file files in
    let is = c.in-None.ensures bytes ∙ ap (λ t. option_map (λ (q : ListAt Span). q.list) (list_at (view bytes t) list.path.steps)) c.index-trees-list.is in
    plain_in files trees list c.index-trees-list.result (as_many files trees c.requires.parsed) c.if-list-trees.false None is
