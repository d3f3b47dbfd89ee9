use Rattle.std.proofs.Common.{◌≡◌, Err, sym, ap, ◌∙◌, subst}
use Rattle.std.specs.Prelude.{◌≢◌, MatchResult}
use Rattle.meson_splice.specs.Files.{bytes_at}
use Rattle.meson_syntax.specs.View.{expr_view}
use Rattle.meson_calls.specs.declared.refusal.Refusal.TheVariants.{OutOfMemory}
use Rattle.meson_calls.specs.Project.{child}
use Rattle.meson_steps.specs.Meanings.{AreMeant}
use Rattle.meson_places.specs.Names.{loaded_in}
use Rattle.meson_places.specs.Replacements.{exchange, replace_by, replace_in, replace_lone}
use Rattle.meson_places.specs.ValueLists.{lists_of}
use Rattle.meson_places.proofs.Meant.{made_passed, of_none, of_some}
use Rattle.meson_places.proofs.replacements.replace_there.Goals as goal

pub returns-in_err-steps : goal.returns-in_err-steps
returns-in_err-steps c = record {
  made = λ may.
      let l = loaded_in c.args.sources in
      let h = c.args.held in
      let key = h.key.now in
      let list = h.list.now in
      let x = exchange c.args.pair.old.now c.args.pair.new.now may in
      let bytes = bytes_at list.file l.files in
      let e = expr_view h.source.now h.child.value.now in
      let otherwise = replace_lone l key bytes x list h.number e in
      let here = c.in_ok-place.ensures ∙ ap (λ q. child q h.child.number) c.as_place.ensures in
      let whole : replace_in l key x otherwise (child list h.child.number) e ≡ replace_by l key h.source.now x otherwise (lists_of c.in_ok-place.place e) =
      ap (λ s. replace_by l key s x otherwise (lists_of (child list h.child.number) e)) (sym c.requires.source) ∙ ap (λ q. replace_by l key h.source.now x otherwise (lists_of q e)) (sym here) in
      made_passed _ (replace_in l key x otherwise (child list h.child.number) e) c.from_residual-in_err-steps.result c.in_err-steps.field-0.0 c.from_residual-in_err-steps.ensures.1
      (λ other. whole ∙ c.in_err-steps.ensures.made may otherwise other);
}

pub returns-in-Some : goal.returns-in-Some
returns-in-Some c = record {
  made = λ may.
      let l = loaded_in c.args.sources in
      let h = c.args.held in
      let key = h.key.now in
      let list = h.list.now in
      let x = exchange c.args.pair.old.now c.args.pair.new.now may in
      let bytes = bytes_at list.file l.files in
      let e = expr_view h.source.now h.child.value.now in
      let otherwise = replace_lone l key bytes x list h.number e in
      let here = c.in_ok-place.ensures ∙ ap (λ q. child q h.child.number) c.as_place.ensures in
      let whole : replace_in l key x otherwise (child list h.child.number) e ≡ replace_by l key h.source.now x otherwise (lists_of c.in_ok-place.place e) =
      ap (λ s. replace_by l key s x otherwise (lists_of (child list h.child.number) e)) (sym c.requires.source) ∙ ap (λ q. replace_by l key h.source.now x otherwise (lists_of q e)) (sym here) in
      subst (λ m. AreMeant m c.in-Some.steps.items) (sym whole) (of_some c.in_ok-steps.field-0 c.in-Some.steps _ _ c.in-Some.is (c.in_ok-steps.ensures.made may otherwise));
}

pub returns : goal.returns
returns c = record {
  made = λ may.
      let l = loaded_in c.args.sources in
      let h = c.args.held in
      let key = h.key.now in
      let list = h.list.now in
      let x = exchange c.args.pair.old.now c.args.pair.new.now may in
      let bytes = bytes_at list.file l.files in
      let e = expr_view h.source.now h.child.value.now in
      let otherwise = replace_lone l key bytes x list h.number e in
      let here = c.in_ok-place.ensures ∙ ap (λ q. child q h.child.number) c.as_place.ensures in
      let whole : replace_in l key x otherwise (child list h.child.number) e ≡ replace_by l key h.source.now x otherwise (lists_of c.in_ok-place.place e) =
      ap (λ s. replace_by l key s x otherwise (lists_of (child list h.child.number) e)) (sym c.requires.source) ∙ ap (λ q. replace_by l key h.source.now x otherwise (lists_of q e)) (sym here) in
      let lone = whole ∙ of_none c.in_ok-steps.field-0 _ _ c.in-None.is (c.in_ok-steps.ensures.made may otherwise) ∙ ap (λ s. replace_lone l key s x list h.number e) (sym c.requires.source) in
      subst (λ m. MatchResult c.replace_lone.result (λ steps. AreMeant m steps.items) (λ f. f ≢ OutOfMemory → m ≡ Err f)) (sym lone) (c.replace_lone.ensures.made may);
}
