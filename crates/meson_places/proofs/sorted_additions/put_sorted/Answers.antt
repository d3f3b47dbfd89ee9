use Rattle.std.proofs.Common.{◌≡◌, ◌≤◌, ◌<◌, length, map, get_or, sym, ap, ◌∙◌, arith}
use Rattle.std.proofs.lemmas.List.{get_or-map, length-map}
use Rattle.meson_places.specs.SortedAdditions.{given_key}
use Rattle.meson_places.specs.Values.{given_bytes}
use Rattle.meson_places.proofs.SortedSteps.{added_as, added_at, all_reached, as_many, one_put}
use Rattle.meson_places.proofs.sorted_additions.put_sorted.Goals as goal

pub loop-i-preserved : goal.loop-i-preserved
loop-i-preserved c = record {
  from = c.put.ensures.from ∙ c.loop-i.invariant.from;
  end = omega (arith, c.in_ok-put.ensures.end, c.loop-i.invariant.end);
  steps = λ o is new keys bytes.
      let i = c.loop-i.i in
      let d = c.index-values-i.result in
      let vs = map (λ x. x.now) c.args.values.now in
      let within : i < length vs = omega (arith, c.loop-i-test.true, length-map c.args.values.now (λ y. y.now)) in
      let value : get_or vs i d.now ≡ d.now = get_or-map (λ y. y.now) c.args.values.now i d d.now c.loop-i-test.true ∙ ap (λ y. y.now) (sym c.index-values-i.is) in
      let a = added_as new i _ c.in_ok-key.key _ c.get.result.now (ap given_key value ∙ sym c.in_ok-key.ensures) (ap given_bytes value ∙ sym c.in_ok-new.ensures.done ∙ sym c.get.ensures)
      (added_at new vs keys bytes i d.now within) in
      one_put c.args.list.now o new i c.loop-i.into c.put.new.self c.loop-i.steps.items c.put.new.steps.items c.in_ok-key.key c.get.result.now a (c.loop-i.invariant.steps o is new keys bytes) c.in_ok-put.ensures.list
      c.in_ok-put.ensures.steps;
}

pub returns-clause-done : goal.returns-clause-done
returns-clause-done c = λ o is new keys bytes.
    let vs = map (λ x. x.now) c.args.values.now in
    let past : length new ≤ c.loop-i.i = omega (arith, as_many new vs keys, length-map c.args.values.now (λ y. y.now), c.loop-i-test.false) in
    all_reached c.args.list.now o new c.loop-i.i c.loop-i.into c.loop-i.steps.items past (c.loop-i.invariant.steps o is new keys bytes)
