use Rattle.std.proofs.Common.{◌≡◌, Some, Err, sym, ap, ◌∙◌, subst}
use Rattle.std.specs.Prelude.{◌≢◌, MatchResult}
use Rattle.meson_calls.specs.declared.refusal.Refusal.TheVariants.{OutOfMemory}
use Rattle.meson_calls.specs.Loading.{project}
use Rattle.meson_steps.specs.Meanings.{AreMeant}
use Rattle.meson_places.specs.Changes.{element_child}
use Rattle.meson_places.specs.Names.{loaded_in}
use Rattle.meson_places.specs.Removals.{remove_steps, remove_there}
use Rattle.meson_places.specs.inside.Wanted.{child_view}
use Rattle.meson_places.proofs.removals.remove_steps.Goals as goal

pub returns-in-Some : goal.returns-in-Some
returns-in-Some c = record {
  made =
      let l = loaded_in c.args.sources in
      let gs = c.args.values.now in
      let key = c.args.key.now in
      let list = c.in-Element.list in
      let n = c.in-Element.number in
      let v = child_view c.bytes.result.now c.in-Some.child in
      let there : element_child (project l) list n ≡ Some v = sym c.in-Some.ensures.child ∙ ap (λ s. Some (child_view s c.in-Some.child)) (sym c.bytes.ensures) in
      let whole = ap (remove_steps l gs key) c.in-Element.is ∙ ap (remove_there l gs key list n) there in
      subst (λ m. MatchResult c.remove_there.result (λ steps. AreMeant m steps.items) (λ f. f ≢ OutOfMemory → m ≡ Err f)) (sym whole) (c.remove_there.ensures.made l c.bytes.ensures);
}
