use Rattle.std.proofs.Common.{◌≡◌, Some, None, Err, refl, sym, ap, ◌∙◌, subst}
use Rattle.std.specs.Prelude.{◌≢◌, MatchResult, option_map}
use Rattle.meson_calls.specs.declared.refusal.Refusal.TheVariants.{OutOfMemory}
use Rattle.meson_calls.specs.Loading.{project}
use Rattle.meson_steps.specs.Meanings.{AreMeant}
use Rattle.meson_places.specs.AssignedArrays.{assigned_text, set_all_by}
use Rattle.meson_places.specs.Names.{loaded_in}
use Rattle.meson_places.specs.Several.{written_array}
use Rattle.meson_places.proofs.ArrayWritten.{array_value}
use Rattle.meson_places.proofs.Meant.{made_of}
use Rattle.meson_places.proofs.assigned_arrays.set_all_steps.Goals as goal

pub returns-in_ok-array-in-Some : goal.returns-in_ok-array-in-Some
returns-in_ok-array-in-Some c = record {
  made = λ may.
      let l = loaded_in c.args.sources in
      let gs = c.args.values.now in
      let s = c.args.slot.now in
      let found : assigned_text (project l) s ≡ Some c.in-Some.place.now = sym c.in_ok-place.ensures ∙ ap (option_map (λ x. x.now)) c.in-Some.is in
      subst (λ m. MatchResult c.assign_array.result (λ steps. AreMeant m steps.items) (λ f. f ≢ OutOfMemory → m ≡ Err f)) (sym (ap (set_all_by l gs may c.args.key.now s) found))
      (c.assign_array.ensures.made (written_array gs may) (sym c.in_ok-array-in-Some.ensures.done) (array_value gs may) refl);
}

pub returns-in-None : goal.returns-in-None
returns-in-None c = record {
  made = λ may.
      let l = loaded_in c.args.sources in
      let gs = c.args.values.now in
      let s = c.args.slot.now in
      let found : assigned_text (project l) s ≡ None = sym c.in_ok-place.ensures ∙ ap (option_map (λ x. x.now)) c.in-None.is in
      subst (λ m. MatchResult c.set_all.result (λ steps. AreMeant m steps.items) (λ f. f ≢ OutOfMemory → m ≡ Err f)) (sym (ap (set_all_by l gs may c.args.key.now s) found))
      (made_of _ _ c.set_all.result (c.set_all.ensures.meant may) (c.set_all.ensures.refused may));
}
