use Rattle.std.proofs.Common.{◌≡◌, Some, Err, sym, ap, ◌∙◌, subst}
use Rattle.std.specs.Prelude.{◌≢◌, MatchResult}
use Rattle.meson_calls.specs.declared.refusal.Refusal.TheVariants.{OutOfMemory}
use Rattle.meson_calls.specs.Loading.{project}
use Rattle.meson_calls.specs.Project.{child}
use Rattle.meson_steps.specs.Meanings.{AreMeant}
use Rattle.meson_places.specs.Changes.{element_child}
use Rattle.meson_places.specs.Names.{loaded_in}
use Rattle.meson_places.specs.NewElements.{add_steps, add_there}
use Rattle.meson_places.specs.inside.Wanted.{child_view}
use Rattle.meson_places.proofs.ListsThere.{element_there}
use Rattle.meson_places.proofs.LoneValues.{lone_stands}
use Rattle.meson_places.proofs.Meant.{made_of}
use Rattle.meson_places.proofs.new_elements.add_steps.Goals as goal

pub returns-in-Some : goal.returns-in-Some
returns-in-Some c = record {
  made = λ may.
      let l = loaded_in c.args.sources in
      let gs = c.args.values.now in
      let key = c.args.key.now in
      let list = c.in-Element.list in
      let n = c.in-Element.number in
      let v = child_view c.bytes.result.now c.in-Some.child in
      let there : element_child (project l) list n ≡ Some v = sym c.in-Some.ensures.child ∙ ap (λ s. Some (child_view s c.in-Some.child)) (sym c.bytes.ensures) in
      let whole = ap (add_steps l gs may key) c.in-Element.is ∙ ap (add_there l gs may key list n) there in
      let at_ = (element_there (project l) list n v there).at_child in
      subst (λ m. MatchResult c.add_there.result (λ steps. AreMeant m steps.items) (λ f. f ≢ OutOfMemory → m ≡ Err f)) (sym whole)
      (c.add_there.ensures.made may (λ x token. lone_stands l c.requires (child list v.number) v.value at_ x token));
}

pub returns-in-Absent : goal.returns-in-Absent
returns-in-Absent c = record {
  made = λ may.
      subst (λ m. MatchResult c.add_array.result (λ steps. AreMeant m steps.items) (λ f. f ≢ OutOfMemory → m ≡ Err f))
      (sym (ap (add_steps (loaded_in c.args.sources) c.args.values.now may c.args.key.now) c.in-Absent.is))
      (made_of _ _ c.add_array.result (c.add_array.ensures.meant may) (c.add_array.ensures.refused may));
}

pub returns-in-Whole : goal.returns-in-Whole
returns-in-Whole c = record {
  made = λ may.
      subst (λ m. MatchResult c.add_to_whole.result (λ steps. AreMeant m steps.items) (λ f. f ≢ OutOfMemory → m ≡ Err f))
      (sym (ap (add_steps (loaded_in c.args.sources) c.args.values.now may c.args.key.now) c.in-Whole.is))
      (c.add_to_whole.ensures.made may);
}
