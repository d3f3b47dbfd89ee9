use Rattle.std.proofs.Common.{◌≡◌, ◌+◌, ◌<◌, ◌∷◌, ◌++◌, get_or, length, map, sym, ap, ◌∙◌, arith, add-one}
use Rattle.std.proofs.lemmas.List.{get_or-map, length-map}
use Rattle.meson_places.specs.Values.{given_bytes}
use Rattle.meson_steps.proofs.Between.{next_behind}
use Rattle.meson_places.proofs.lone_values.beside_bytes.Goals as goal

pub loop-i-preserved : goal.loop-i-preserved
loop-i-preserved c =
    let i = c.loop-i.i in
    let vs = map (λ x. x.now) c.args.values.now in
    let gs = map given_bytes vs in
    let xs = c.args.old.now ∷ gs in
    let d = c.index-values-i.result in
    let x = given_bytes d.now in
    let test = c.loop-i-test.true in
    let one : i < length vs = omega (arith, test, length-map c.args.values.now (λ y. y.now)) in
    let within : i + 1 < length xs = omega (arith, one, length-map vs given_bytes) in
    let value : get_or vs i d.now ≡ d.now = get_or-map (λ y. y.now) c.args.values.now i d d.now test ∙ ap (λ y. y.now) (sym c.index-values-i.is) in
    let is : get_or xs (i + 1) x ≡ x = ap (λ n. get_or xs n x) (add-one i) ∙ get_or-map given_bytes vs i d.now x one ∙ ap given_bytes value in
    let written = c.in_ok-extend_from_slice-4.ensures.items ∙ ap (λ t. c.extend_from_slice-in-loop-i.new.self.items ++ t) (c.get.ensures ∙ c.in_ok-value.ensures.done) in
    next_behind xs (i + 1) x within is c.loop-i.out.items c.extend_from_slice-in-loop-i-2.new.self.items c.loop-i.invariant c.extend_from_slice-in-loop-i.new.self.items (omega arith) c.in_ok-extend_from_slice-3.ensures.items written
