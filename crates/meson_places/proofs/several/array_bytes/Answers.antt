use Rattle.std.proofs.Common.{◌≡◌, ◌<◌, ◌++◌, get_or, length, map, sym, ap, ◌∙◌, arith}
use Rattle.std.proofs.lemmas.List.{get_or-map, length-map}
use Rattle.meson_places.specs.Values.{given_bytes}
use Rattle.meson_steps.proofs.Between.{first_behind, next_behind}
use Rattle.meson_places.proofs.several.array_bytes.Goals as goal
use Rattle.meson_places.proofs.several.array_bytes.Goals.{then-i-gt0+in_ok-extend_from_slice-2, else-i-gt0}

pub loop-i-preserved : goal.loop-i-preserved
loop-i-preserved c =
    let i = c.loop-i.i in
    let gs = c.args.values.now in
    let xs = map given_bytes gs in
    let g = c.index-values-i.result in
    let x = given_bytes g in
    let test = c.loop-i-test.true in
    let within : i < length xs = omega (arith, test, length-map gs given_bytes) in
    let is : get_or xs i x ≡ x = get_or-map given_bytes gs i g x test ∙ ap given_bytes (sym c.index-values-i.is) in
    let before = c.loop-i.out.items in
    let after = c.extend_from_slice-in-loop-i.new.self.items in
    let so_far = c.loop-i.invariant in
    let written = c.in_ok-extend_from_slice-3.ensures.items ∙ ap (λ t. c.if-i-gt0.out.items ++ t) (c.get.ensures ∙ c.in_ok-value.ensures.done) in
    elim c.if-i-gt0.branch [
      | then-i-gt0+in_ok-extend_from_slice-2 w ↦ next_behind xs i x within is before after so_far c.if-i-gt0.out.items w.if-i-gt0.true (ap (λ v. v.items) w.out-is ∙ w.in_ok-extend_from_slice-2.ensures.items) written
      | else-i-gt0 w ↦ first_behind xs i x within is before after so_far (omega (arith, w.if-i-gt0.false)) (written ∙ ap (λ v. v.items ++ x) w.out-is)
    ]
