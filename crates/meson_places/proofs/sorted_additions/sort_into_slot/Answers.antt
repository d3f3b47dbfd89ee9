use Rattle.std.proofs.Common.{◌≡◌, Some, Err, sym, ap, ◌∙◌, subst}
use Rattle.std.specs.Prelude.{◌≢◌, MatchOption, MatchResult, option_and_then, option_map}
use Rattle.meson_calls.specs.declared.refusal.Refusal.TheVariants.{OutOfMemory}
use Rattle.meson_calls.specs.Loading.{project}
use Rattle.meson_calls.specs.Project.{expression_at, placed}
use Rattle.meson_steps.specs.Meanings.{AreMeant}
use Rattle.meson_places.specs.Behind.{placed_at, placed_value}
use Rattle.meson_places.specs.Changes.{slot_place}
use Rattle.meson_places.specs.Names.{loaded_in}
use Rattle.meson_places.specs.SortedAdditions.{sort_into_value}
use Rattle.meson_places.specs.inside.Behind.{found_value}
use Rattle.meson_places.proofs.sorted_additions.sort_into_slot.Goals as goal

pub returns-in-Some-find_value : goal.returns-in-Some-find_value
returns-in-Some-find_value c = record {
  made = λ may otherwise.
      let l = loaded_in c.args.sources in
      let p = project l in
      let gs = c.args.values.now in
      let place = c.in-Some.place in
      let e = found_value c.in-Some-find_value.found in
      let at_ : slot_place p c.args.slot.now ≡ Some place = sym c.in_ok-place.ensures ∙ c.in-Some.is in
      let value : expression_at p place ≡ Some e = sym c.in-Some-find_value.ensures.found in
      let whole : placed_value p c.args.slot.now ≡ Some (placed place e) = ap (option_and_then (placed_at p)) at_ ∙ ap (option_map (placed place)) value in
      subst (λ v. MatchResult c.sort_into_value.result (λ o. MatchOption o (sort_into_value l gs may otherwise v ≡ otherwise) (λ steps. AreMeant (sort_into_value l gs may otherwise v) steps.items)) (λ f. f ≢ OutOfMemory → sort_into_value l gs may otherwise v ≡ Err f))
      (sym whole) (c.sort_into_value.ensures.made may otherwise);
}
