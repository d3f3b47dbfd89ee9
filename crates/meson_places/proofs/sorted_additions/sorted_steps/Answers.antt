use Rattle.std.proofs.Common.{◌≡◌, Err, sym, subst}
use Rattle.std.specs.Prelude.{◌≢◌, MatchResult}
use Rattle.meson_calls.specs.declared.refusal.Refusal.TheVariants.{OutOfMemory}
use Rattle.meson_steps.specs.Meanings.{AreMeant}
use Rattle.meson_places.specs.AssignedArrays.{added_steps}
use Rattle.meson_places.specs.Names.{loaded_in}
use Rattle.meson_places.specs.SortedAdditions.{sorted_steps}
use Rattle.meson_places.proofs.Meant.{made_passed, of_none, of_some}
use Rattle.meson_places.proofs.sorted_additions.sorted_steps.Goals as goal

pub returns-in_err-steps : goal.returns-in_err-steps
returns-in_err-steps c = record {
  made = λ may.
      let l = loaded_in c.args.sources in
      let otherwise = added_steps l c.args.values.now may c.args.key.now c.args.slot.now in
      made_passed _ (sorted_steps l c.args.values.now may c.args.key.now c.args.slot.now) c.from_residual.result c.in_err-steps.field-0.0 c.from_residual.ensures.1 (λ other. c.in_err-steps.ensures.made may otherwise other);
}

pub returns-in-Some : goal.returns-in-Some
returns-in-Some c = record {
  made = λ may.
      let otherwise = added_steps (loaded_in c.args.sources) c.args.values.now may c.args.key.now c.args.slot.now in
      of_some c.in_ok-steps.field-0 c.in-Some.steps _ _ c.in-Some.is (c.in_ok-steps.ensures.made may otherwise);
}

pub returns-in-None : goal.returns-in-None
returns-in-None c = record {
  made = λ may.
      let l = loaded_in c.args.sources in
      let otherwise = added_steps l c.args.values.now may c.args.key.now c.args.slot.now in
      let whole = of_none c.in_ok-steps.field-0 _ _ c.in-None.is (c.in_ok-steps.ensures.made may otherwise) in
      subst (λ m. MatchResult c.added_steps.result (λ steps. AreMeant m steps.items) (λ f. f ≢ OutOfMemory → m ≡ Err f)) (sym whole) (c.added_steps.ensures.made may);
}
