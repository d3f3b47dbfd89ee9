use Rattle.meson_keywords.proofs.Words.{◌∙◌, sym, expr_view}
use Rattle.meson_keywords.proofs.ElementsSay.{one_there}
use Rattle.meson_calls.proofs.FirstValue.{good_value, not_a_name, pair_no_name, value_is}
use Rattle.meson_keywords.proofs.elements.the_value.Goals as goal

pub unreachable-requires-in-Plain : goal.unreachable-requires-in-Plain
unreachable-requires-in-Plain c =
    let s = c.args.subject in
    not_a_name s.source.now c.args.key.now s.args.now c.in-Some.number c.index-args-number.result c.if-number-args.false c.in-Some.ensures c.in-Plain.field-0 (sym c.index-args-number.is ∙ c.in-Plain.is)

pub unreachable-requires-in-Pair : goal.unreachable-requires-in-Pair
unreachable-requires-in-Pair c =
    let s = c.args.subject in
    pair_no_name s.source.now c.args.key.now s.args.now c.in-Some.number c.index-args-number.result c.if-number-args.false c.in-Some.ensures c.in-Pair.span c.in-Pair.key c.in-Pair.value
    (sym c.index-args-number.is ∙ c.in-Pair.is)

pub returns-in-Named-clause-good : goal.returns-in-Named-clause-good
returns-in-Named-clause-good c =
    let s = c.args.subject in
    good_value s.source.now s.args.now c.in-Some.number c.index-args-number.result c.if-number-args.false c.requires.good c.in-Named.span c.in-Named.name c.in-Named.value (sym c.index-args-number.is ∙ c.in-Named.is)

pub returns-in-Named-clause-found : goal.returns-in-Named-clause-found
returns-in-Named-clause-found c =
    let s = c.args.subject in
    one_there s.source.now c.args.key.now s.args.now c.in-Some.number c.in-Some.ensures c.count_named.result c.count_named.ensures c.if-count_named-gt1.false (expr_view s.source.now c.in-Named.value)
    (value_is s.source.now c.args.key.now s.args.now c.in-Some.number c.index-args-number.result c.if-number-args.false c.in-Some.ensures c.in-Named.span c.in-Named.name c.in-Named.value (sym c.index-args-number.is ∙ c.in-Named.is))
