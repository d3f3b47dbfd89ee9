use Rattle.std.proofs.Common.{◌≡◌, Err, sym, ap, ◌∙◌, subst}
use Rattle.std.specs.Prelude.{◌≢◌, MatchResult}
use Rattle.meson_syntax.specs.View.{expr_view}
use Rattle.meson_calls.specs.declared.refusal.Refusal.TheVariants.{OutOfMemory}
use Rattle.meson_calls.specs.Project.{child}
use Rattle.meson_steps.specs.Meanings.{AreMeant}
use Rattle.meson_places.specs.Names.{loaded_in}
use Rattle.meson_places.specs.NewElements.{add_to_lone, add_to_value, lone_token}
use Rattle.meson_places.proofs.Meant.{made_passed, of_none, of_some}
use Rattle.meson_places.proofs.new_elements.add_there.Goals as goal

pub returns-in_err-steps : goal.returns-in_err-steps
returns-in_err-steps c = record {
  made = λ may lone.
      let l = loaded_in c.args.sources in
      let gs = c.args.values.now in
      let h = c.args.held in
      let e = expr_view h.source.now h.child.value.now in
      let otherwise = add_to_lone l gs may h.key.now h.list.now h.number e (lone_token e) in
      let here = c.in_ok-place.ensures ∙ ap (λ q. child q h.child.number) c.as_place.ensures in
      made_passed _ (add_to_value l gs may otherwise (child h.list.now h.child.number) e) c.from_residual-in_err-steps.result c.in_err-steps.field-0.0 c.from_residual-in_err-steps.ensures.1
      (λ other. ap (λ q. add_to_value l gs may otherwise q e) (sym here) ∙ c.in_err-steps.ensures.made may otherwise other);
}

pub returns-in-Some : goal.returns-in-Some
returns-in-Some c = record {
  made = λ may lone.
      let l = loaded_in c.args.sources in
      let gs = c.args.values.now in
      let h = c.args.held in
      let e = expr_view h.source.now h.child.value.now in
      let otherwise = add_to_lone l gs may h.key.now h.list.now h.number e (lone_token e) in
      let here = c.in_ok-place.ensures ∙ ap (λ q. child q h.child.number) c.as_place.ensures in
      subst (λ m. AreMeant m c.in-Some.steps.items) (ap (λ q. add_to_value l gs may otherwise q e) here)
      (of_some c.in_ok-steps.field-0 c.in-Some.steps _ _ c.in-Some.is (c.in_ok-steps.ensures.made may otherwise));
}

pub returns : goal.returns
returns c = record {
  made = λ may lone.
      let l = loaded_in c.args.sources in
      let gs = c.args.values.now in
      let h = c.args.held in
      let e = expr_view h.source.now h.child.value.now in
      let otherwise = add_to_lone l gs may h.key.now h.list.now h.number e (lone_token e) in
      let here = c.in_ok-place.ensures ∙ ap (λ q. child q h.child.number) c.as_place.ensures in
      let whole = ap (λ q. add_to_value l gs may otherwise q e) (sym here) ∙ of_none c.in_ok-steps.field-0 _ _ c.in-None.is (c.in_ok-steps.ensures.made may otherwise) in
      subst (λ m. MatchResult c.add_to_lone.result (λ steps. AreMeant m steps.items) (λ f. f ≢ OutOfMemory → m ≡ Err f)) (sym whole) (c.add_to_lone.ensures.made may lone);
}
