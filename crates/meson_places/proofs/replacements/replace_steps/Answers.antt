use Rattle.std.proofs.Common.{◌≡◌, Some, Err, sym, ap, ◌∙◌, subst}
use Rattle.std.specs.Prelude.{◌≢◌, MatchResult}
use Rattle.meson_calls.specs.declared.refusal.Refusal.TheVariants.{OutOfMemory}
use Rattle.meson_calls.specs.Loading.{project}
use Rattle.meson_steps.specs.Meanings.{AreMeant}
use Rattle.meson_places.specs.Changes.{element_child}
use Rattle.meson_places.specs.Names.{loaded_in}
use Rattle.meson_places.specs.Replacements.{exchange, exchange_steps, replace_there}
use Rattle.meson_places.specs.inside.Wanted.{child_view}
use Rattle.meson_places.proofs.replacements.replace_steps.Goals as goal

pub returns-in-Some : goal.returns-in-Some
returns-in-Some c = record {
  made = λ may.
      let l = loaded_in c.args.sources in
      let x = exchange c.args.pair.old.now c.args.pair.new.now may in
      let key = c.args.key.now in
      let list = c.in-Element.list in
      let n = c.in-Element.number in
      let v = child_view c.bytes.result.now c.in-Some.child in
      let there : element_child (project l) list n ≡ Some v = sym c.in-Some.ensures.child ∙ ap (λ s. Some (child_view s c.in-Some.child)) (sym c.bytes.ensures) in
      let whole = ap (exchange_steps l x key) c.in-Element.is ∙ ap (replace_there l x key list n) there in
      subst (λ m. MatchResult c.replace_there.result (λ steps. AreMeant m steps.items) (λ f. f ≢ OutOfMemory → m ≡ Err f)) (sym whole) (c.replace_there.ensures.made may);
}

pub returns-in-Whole : goal.returns-in-Whole
returns-in-Whole c = record {
  made = λ may.
      let x = exchange c.args.pair.old.now c.args.pair.new.now may in
      subst (λ m. MatchResult c.replace_whole.result (λ steps. AreMeant m steps.items) (λ f. f ≢ OutOfMemory → m ≡ Err f))
      (sym (ap (exchange_steps (loaded_in c.args.sources) x c.args.key.now) c.in-Whole.is)) (c.replace_whole.ensures.made may);
}
