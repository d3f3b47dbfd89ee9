use Rattle.std.proofs.Common.{◌≡◌, ◌<◌, List, length, Some, Result, Err, sym, ap, ◌∙◌, subst, arith}
use Rattle.meson_splice.specs.Files.{bytes_at}
use Rattle.meson_syntax.specs.Grammar.{expression_words}
use Rattle.meson_syntax.specs.View.{expr_view}
use Rattle.meson_calls.specs.declared.refusal.Refusal.{Refusal}
use Rattle.meson_calls.specs.declared.refusal.Refusal.TheVariants.{NoSuchValue, NotRemovable}
use Rattle.meson_calls.specs.Loading.{project}
use Rattle.meson_calls.specs.Project.{expression_at}
use Rattle.meson_calls.specs.Strings.{AreGood}
use Rattle.meson_calls.proofs.Loads.{as_many}
use Rattle.meson_steps.specs.Meanings.{AreMeant}
use Rattle.meson_steps.specs.Steps.{Step}
use Rattle.meson_places.specs.Names.{loaded_in}
use Rattle.meson_places.specs.Removals.{remove_by, remove_whole}
use Rattle.meson_places.specs.ValueLists.{lists_of}
use Rattle.meson_places.proofs.Meant.{made_passed, of_none, of_some}
use Rattle.meson_places.proofs.Standing.{past_all, stands, value_good}
use Rattle.meson_places.proofs.removals.remove_whole.Goals as goal

pub returns-then-place-sources : goal.returns-then-place-sources
returns-then-place-sources c = record {
  made = λ other.
      ap (remove_whole (loaded_in c.args.sources) c.args.values.now c.args.key.now c.args.place.now) (past_all c.args.sources.files.now c.args.sources.trees.now c.args.place.now c.if-place-sources.true)
      ∙ ap (λ k. Err (NoSuchValue k)) (sym c.in_ok-clone.ensures.cases);
}

pub bytes-source-requires : goal.bytes-source-requires
bytes-source-requires c =
    let many = as_many c.args.sources.files.now c.args.sources.trees.now c.requires in
    let within : c.args.place.now.file < length c.args.sources.files.now = omega arith in
    within

pub remove_from-requires : goal.remove_from-requires
remove_from-requires c =
    let files = c.args.sources.files.now in
    let trees = c.args.sources.trees.now in
    let at_ = c.args.place.now in
    let bytes = bytes_at at_.file files in
    subst (λ s. AreGood (expression_words (expr_view s c.in-Some.value.now))) (sym c.bytes-source.ensures)
    (value_good files trees at_ c.index-sources-place.result (as_many files trees c.requires) c.if-place-sources.false (expr_view bytes c.in-Some.value.now) c.requires (c.in-Some.ensures bytes))

pub returns-in_err-steps-in-Some : goal.returns-in_err-steps-in-Some
returns-in_err-steps-in-Some c = record {
  made =
      let l = loaded_in c.args.sources in
      let files = c.args.sources.files.now in
      let trees = c.args.sources.trees.now in
      let at_ = c.args.place.now in
      let gs = c.args.values.now in
      let key = c.args.key.now in
      let gone : Result (List Step) Refusal = Err NotRemovable in
      let source = c.bytes-source.result.now in
      let e = expr_view source c.in-Some.value.now in
      let here : expression_at (project l) at_ ≡ Some e =
      stands files trees at_ c.index-sources-place.result (as_many files trees c.requires) c.if-place-sources.false ∙ sym (c.in-Some.ensures (bytes_at at_.file files)) ∙ ap (λ s. Some (expr_view s c.in-Some.value.now)) (sym c.bytes-source.ensures) in
      let whole : remove_whole l gs key at_ (expression_at (project l) at_) ≡ remove_by key source gs gone e (lists_of at_ e) =
      ap (remove_whole l gs key at_) here ∙ ap (λ s. remove_by key s gs gone e (lists_of at_ e)) (sym c.bytes-source.ensures) in
      made_passed _ (remove_whole l gs key at_ (expression_at (project l) at_)) c.from_residual-in_err-steps-in-Some.result c.in_err-steps-in-Some.field-0.0
      c.from_residual-in_err-steps-in-Some.ensures.1 (λ other. whole ∙ c.in_err-steps-in-Some.ensures.made gone other);
}

pub returns-in-Some-2 : goal.returns-in-Some-2
returns-in-Some-2 c = record {
  made =
      let l = loaded_in c.args.sources in
      let files = c.args.sources.files.now in
      let trees = c.args.sources.trees.now in
      let at_ = c.args.place.now in
      let gs = c.args.values.now in
      let key = c.args.key.now in
      let gone : Result (List Step) Refusal = Err NotRemovable in
      let source = c.bytes-source.result.now in
      let e = expr_view source c.in-Some.value.now in
      let here : expression_at (project l) at_ ≡ Some e =
      stands files trees at_ c.index-sources-place.result (as_many files trees c.requires) c.if-place-sources.false ∙ sym (c.in-Some.ensures (bytes_at at_.file files)) ∙ ap (λ s. Some (expr_view s c.in-Some.value.now)) (sym c.bytes-source.ensures) in
      let whole : remove_whole l gs key at_ (expression_at (project l) at_) ≡ remove_by key source gs gone e (lists_of at_ e) =
      ap (remove_whole l gs key at_) here ∙ ap (λ s. remove_by key s gs gone e (lists_of at_ e)) (sym c.bytes-source.ensures) in
      subst (λ m. AreMeant m c.in-Some-2.steps.items) (sym whole) (of_some c.in_ok-steps-in-Some.field-0 c.in-Some-2.steps _ _ c.in-Some-2.is (c.in_ok-steps-in-Some.ensures.made gone));
}

pub returns-in-None-2 : goal.returns-in-None-2
returns-in-None-2 c = record {
  made = λ other.
      let l = loaded_in c.args.sources in
      let files = c.args.sources.files.now in
      let trees = c.args.sources.trees.now in
      let at_ = c.args.place.now in
      let gs = c.args.values.now in
      let key = c.args.key.now in
      let gone : Result (List Step) Refusal = Err NotRemovable in
      let source = c.bytes-source.result.now in
      let e = expr_view source c.in-Some.value.now in
      let here : expression_at (project l) at_ ≡ Some e =
      stands files trees at_ c.index-sources-place.result (as_many files trees c.requires) c.if-place-sources.false ∙ sym (c.in-Some.ensures (bytes_at at_.file files)) ∙ ap (λ s. Some (expr_view s c.in-Some.value.now)) (sym c.bytes-source.ensures) in
      let whole : remove_whole l gs key at_ (expression_at (project l) at_) ≡ remove_by key source gs gone e (lists_of at_ e) =
      ap (remove_whole l gs key at_) here ∙ ap (λ s. remove_by key s gs gone e (lists_of at_ e)) (sym c.bytes-source.ensures) in
      whole ∙ of_none c.in_ok-steps-in-Some.field-0 _ _ c.in-None-2.is (c.in_ok-steps-in-Some.ensures.made gone);
}

pub returns-in_ok-clone-in-None : goal.returns-in_ok-clone-in-None
returns-in_ok-clone-in-None c = record {
  made = λ other.
      let files = c.args.sources.files.now in
      let trees = c.args.sources.trees.now in
      let at_ = c.args.place.now in
      ap (remove_whole (loaded_in c.args.sources) c.args.values.now c.args.key.now at_)
      (stands files trees at_ c.index-sources-place.result (as_many files trees c.requires) c.if-place-sources.false ∙ sym (c.in-None.ensures (bytes_at at_.file files)))
      ∙ ap (λ k. Err (NoSuchValue k)) (sym c.in_ok-clone-in-None.ensures.cases);
}
