use Rattle.meson_sources.proofs.extra_edits.without_home.Goals as goal
use Rattle.meson_calls.specs.Refusals.{RefusedAs}
use Rattle.meson_calls.proofs.FirstValue.{not_a_name, pair_no_name, good_value}
use Rattle.meson_sources.proofs.Words.{OnOk, arith, length, map, subst, sym, ◌<◌, ◌∙◌, length-map, IsFirstNamed, AreBehind}
use Rattle.meson_sources.proofs.commands.Meant.{lone}

pub behind_value-requires : goal.behind_value-requires
behind_value-requires c =
    good_value c.args.source.now c.args.args.now c.in-Some.number c.index-args-number.result c.if-number-args.false c.requires c.in-Named.span c.in-Named.name c.in-Named.value
    (sym c.index-args-number.is ∙ c.in-Named.is)

pub unreachable-requires-in-Plain : goal.unreachable-requires-in-Plain
unreachable-requires-in-Plain c =
    not_a_name c.args.source.now c.as_slice.result.now c.args.args.now c.in-Some.number c.index-args-number.result c.if-number-args.false c.in-Some.ensures c.in-Plain.field-0 (sym c.index-args-number.is ∙ c.in-Plain.is)

pub unreachable-requires-in-Pair : goal.unreachable-requires-in-Pair
unreachable-requires-in-Pair c =
    pair_no_name c.args.source.now c.as_slice.result.now c.args.args.now c.in-Some.number c.index-args-number.result c.if-number-args.false c.in-Some.ensures c.in-Pair.span c.in-Pair.key c.in-Pair.value
    (sym c.index-args-number.is ∙ c.in-Pair.is)

pub returns-in-Named-clause-done : goal.returns-in-Named-clause-done
returns-in-Named-clause-done c =
    let names = map (λ x. x.now) c.args.names.now in
    let first = subst (λ k. IsFirstNamed c.args.source.now k c.args.args.now c.in-Some.number) c.as_slice.ensures c.in-Some.ensures in
    let some : 0 < length names = omega (arith, length-map c.args.names.now (λ x. x.now)) in
    let is = lone c.args.source.now _ c.args.args.now c.in-Some.number c.index-args-number.result c.if-number-args.false first c.args.call.now names some c.in-Named.span c.in-Named.name c.in-Named.value (sym c.index-args-number.is ∙ c.in-Named.is) in
    subst (λ r. OnOk c.behind_value.result (AreBehind r c.args.steps.now.items c.behind_value.new.steps.items)) is c.behind_value.ensures.done

pub returns-in-Named-clause-refused : goal.returns-in-Named-clause-refused
returns-in-Named-clause-refused c =
    let names = map (λ x. x.now) c.args.names.now in
    let first = subst (λ k. IsFirstNamed c.args.source.now k c.args.args.now c.in-Some.number) c.as_slice.ensures c.in-Some.ensures in
    let some : 0 < length names = omega (arith, length-map c.args.names.now (λ x. x.now)) in
    let is = lone c.args.source.now _ c.args.args.now c.in-Some.number c.index-args-number.result c.if-number-args.false first c.args.call.now names some c.in-Named.span c.in-Named.name c.in-Named.value (sym c.index-args-number.is ∙ c.in-Named.is) in
    subst (λ r. RefusedAs c.behind_value.result r) is c.behind_value.ensures.refused
