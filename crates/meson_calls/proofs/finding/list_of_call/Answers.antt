-- A call that stands in trees has its list there.
use Rattle.meson_calls.proofs.Words.{option_map, ◌≡◌, ◌≤◌, length, ap, ◌∙◌, arith, None, Some, bytes_at, Span, ListAt, list_at, view, some-injective}
use Rattle.meson_calls.proofs.CallLists.{inside, list_is}
use Rattle.meson_calls.proofs.finding.list_of_call.Goals as goal

pub unreachable-requires : goal.unreachable-requires
unreachable-requires c =
    let within = inside c.args.trees.now c.args.call.now c.requires in
    let past : length c.args.trees.now ≤ c.args.call.now.file = c.if-call-trees.true in
    absurd (omega (arith, within, past))

pub unreachable-requires-in-None : goal.unreachable-requires-in-None
unreachable-requires-in-None c =
    let place = c.args.call.now in
    let bytes = bytes_at place.file c.requires.files in
    let there : None ≡ Some c.requires.call.it.arguments = c.in-None.ensures bytes ∙ ap (λ t. option_map (λ (q : ListAt Span). q.list) (list_at (view bytes t) place.path.steps)) c.index-trees-call.is
    ∙ list_is c.args.trees.now place c.requires c.index-trees-call.result in
    cc

pub returns : goal.returns
returns c = λ k.
    let place = c.args.call.now in
    let bytes = bytes_at place.file k.files in
    some-injective _ _
    (c.in-Some.ensures bytes ∙ ap (λ t. option_map (λ (q : ListAt Span). q.list) (list_at (view bytes t) place.path.steps)) c.index-trees-call.is ∙ list_is c.args.trees.now place k c.index-trees-call.result)
