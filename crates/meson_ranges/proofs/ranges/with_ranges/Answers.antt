use Rattle.std.proofs.Common.{◌+◌, ◌-◌, ◌*◌, ◌≤◌, ◌∷◌, ◌++◌, [], ap, ap₂, drop, length, subst, sym, take, ◌∙◌, arith}
use Rattle.std.specs.Vec.Iter.{into_iter_items}
use Rattle.std.proofs.lemmas.List.{append_assoc}
use Rattle.meson_ranges.specs.Positions.{position_after}
use Rattle.meson_ranges.proofs.Ranged.{AreLeft, end_place, next_fits, one_less, one_more_ranged, slice_size, start_place}
use Rattle.meson_ranges.proofs.ranges.with_ranges.Goals as goal

pub loop-edit-preserved : goal.loop-edit-preserved
loop-edit-preserved c =
    let text = c.args.text.now in
    let from = c.loop-edit.from in
    let p = c.loop-edit.position in
    let e = c.in-Some.edit in
    let rest = into_iter_items c.next.new.self in
    let begin = c.after-start.result in
    let end = c.after-end.result in
    let next = c.in-Some.ensures.steps.0 in
    let left = subst (λ es. AreLeft text es from p) next c.loop-edit.invariant.left in
    let fits = next_fits text e rest from p left in
    let at = c.at.ensures in
    let was = c.was.ensures in
    let begins = start_place text e rest from p begin left (c.after-start.ensures.value ∙ ap (λ n. position_after p (take (n - from) (drop from text))) at) in
    let ends = end_place text e rest from p begin end left begins (c.after-end.ensures.value ∙ ap (position_after begin) was) in
    let to = c.at.result in
    let size = slice_size text from to (omega (arith, at, fits.before)) (omega (arith, at, fits.within)) in
    let was_size = ap length was in
    let line : end.line ≤ e.at + length e.was =
    omega (arith, at, fits.before, size, was_size, left.line, c.after-start.ensures.line_grows, c.after-end.ensures.line_grows) in
    let character : end.character ≤ 2 * (e.at + length e.was) =
    omega (arith, at, fits.before, size, was_size, left.character, c.after-start.ensures.character_grows, c.after-end.ensures.character_grows) in
    let place = ap₂ (λ n l. n + length l) c.at-in-loop-edit.ensures c.was-in-loop-edit.ensures in
    record {
      joined = c.loop-edit.invariant.joined ∙ ap (λ xs. c.loop-edit.yielded ++ xs) next ∙ sym (append_assoc c.loop-edit.yielded (e ∷ []) rest);
      left = subst (λ n. AreLeft text rest n end) (sym place) (one_less text e rest from p end left ends line character);
      made = c.in_ok-push.ensures.items ∙ one_more_ranged text e c.loop-edit.yielded c.loop-edit.all.items begin end begins ends c.loop-edit.invariant.made;
    }
