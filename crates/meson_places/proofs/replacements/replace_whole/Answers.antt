use Rattle.std.specs.Prelude.{◌≢◌, MatchResult}
use Rattle.std.proofs.Common.{◌≡◌, ◌<◌, List, length, Some, Result, Err, sym, ap, ◌∙◌, subst, arith}
use Rattle.meson_splice.specs.Files.{bytes_at}
use Rattle.meson_syntax.specs.Grammar.{expression_words}
use Rattle.meson_syntax.specs.View.{expr_view}
use Rattle.meson_calls.specs.declared.refusal.Refusal.{Refusal}
use Rattle.meson_calls.specs.declared.refusal.Refusal.TheVariants.{NoSuchValue, OutOfMemory}
use Rattle.meson_calls.specs.Loading.{project}
use Rattle.meson_calls.specs.Project.{expression_at}
use Rattle.meson_calls.specs.Strings.{AreGood}
use Rattle.meson_calls.proofs.Loads.{as_many}
use Rattle.meson_steps.specs.Meanings.{AreMeant}
use Rattle.meson_steps.specs.Steps.{Step}
use Rattle.meson_places.specs.Names.{loaded_in}
use Rattle.meson_places.specs.Replacements.{exchange, if_assigned, replace_by, replace_whole}
use Rattle.meson_places.specs.ValueLists.{lists_of}
use Rattle.meson_places.proofs.Meant.{made_passed, of_none, of_some}
use Rattle.meson_places.proofs.Standing.{past_all, stands, value_good}
use Rattle.meson_places.proofs.replacements.replace_whole.Goals as goal

pub returns-then-place-sources : goal.returns-then-place-sources
returns-then-place-sources c = record {
  made = λ may other.
      let x = exchange c.args.pair.old.now c.args.pair.new.now may in
      ap (replace_whole (loaded_in c.args.sources) x c.args.key.now c.args.place.now) (past_all c.args.sources.files.now c.args.sources.trees.now c.args.place.now c.if-place-sources.true)
      ∙ ap (λ k. Err (NoSuchValue k)) (sym c.in_ok-clone.ensures.cases);
}

pub bytes-source-requires : goal.bytes-source-requires
bytes-source-requires c =
    let many = as_many c.args.sources.files.now c.args.sources.trees.now c.requires in
    let within : c.args.place.now.file < length c.args.sources.files.now = omega arith in
    within

pub replace_in-requires-clause-good : goal.replace_in-requires-clause-good
replace_in-requires-clause-good c =
    let files = c.args.sources.files.now in
    let trees = c.args.sources.trees.now in
    let at_ = c.args.place.now in
    let bytes = bytes_at at_.file files in
    subst (λ s. AreGood (expression_words (expr_view s c.in-Some.value.now))) (sym c.bytes-source.ensures)
    (value_good files trees at_ c.index-sources-place.result (as_many files trees c.requires) c.if-place-sources.false (expr_view bytes c.in-Some.value.now) c.requires (c.in-Some.ensures bytes))

pub returns-in_err-steps-in-Some : goal.returns-in_err-steps-in-Some
returns-in_err-steps-in-Some c = record {
  made = λ may.
      let l = loaded_in c.args.sources in
      let files = c.args.sources.files.now in
      let trees = c.args.sources.trees.now in
      let at_ = c.args.place.now in
      let x = exchange c.args.pair.old.now c.args.pair.new.now may in
      let key = c.args.key.now in
      let source = c.bytes-source.result.now in
      let e = expr_view source c.in-Some.value.now in
      let gone : Result (List Step) Refusal = if_assigned l key x at_ e in
      let here : expression_at (project l) at_ ≡ Some e =
      stands files trees at_ c.index-sources-place.result (as_many files trees c.requires) c.if-place-sources.false ∙ sym (c.in-Some.ensures (bytes_at at_.file files)) ∙ ap (λ s. Some (expr_view s c.in-Some.value.now)) (sym c.bytes-source.ensures) in
      let whole : replace_whole l x key at_ (expression_at (project l) at_) ≡ replace_by l key source x gone (lists_of at_ e) =
      ap (replace_whole l x key at_) here ∙ ap (λ s. replace_by l key s x gone (lists_of at_ e)) (sym c.bytes-source.ensures) in
      made_passed _ (replace_whole l x key at_ (expression_at (project l) at_)) c.from_residual-in_err-steps-in-Some.result c.in_err-steps-in-Some.field-0.0
      c.from_residual-in_err-steps-in-Some.ensures.1 (λ other. whole ∙ c.in_err-steps-in-Some.ensures.made may gone other);
}

pub returns-in-Some-2 : goal.returns-in-Some-2
returns-in-Some-2 c = record {
  made = λ may.
      let l = loaded_in c.args.sources in
      let files = c.args.sources.files.now in
      let trees = c.args.sources.trees.now in
      let at_ = c.args.place.now in
      let x = exchange c.args.pair.old.now c.args.pair.new.now may in
      let key = c.args.key.now in
      let source = c.bytes-source.result.now in
      let e = expr_view source c.in-Some.value.now in
      let gone : Result (List Step) Refusal = if_assigned l key x at_ e in
      let here : expression_at (project l) at_ ≡ Some e =
      stands files trees at_ c.index-sources-place.result (as_many files trees c.requires) c.if-place-sources.false ∙ sym (c.in-Some.ensures (bytes_at at_.file files)) ∙ ap (λ s. Some (expr_view s c.in-Some.value.now)) (sym c.bytes-source.ensures) in
      let whole : replace_whole l x key at_ (expression_at (project l) at_) ≡ replace_by l key source x gone (lists_of at_ e) =
      ap (replace_whole l x key at_) here ∙ ap (λ s. replace_by l key s x gone (lists_of at_ e)) (sym c.bytes-source.ensures) in
      subst (λ m. AreMeant m c.in-Some-2.steps.items) (sym whole) (of_some c.in_ok-steps-in-Some.field-0 c.in-Some-2.steps _ _ c.in-Some-2.is (c.in_ok-steps-in-Some.ensures.made may gone));
}

pub if_assigned-requires-clause-good : goal.if_assigned-requires-clause-good
if_assigned-requires-clause-good c =
    let files = c.args.sources.files.now in
    let trees = c.args.sources.trees.now in
    let at_ = c.args.place.now in
    let bytes = bytes_at at_.file files in
    subst (λ s. AreGood (expression_words (expr_view s c.in-Some.value.now))) (sym c.bytes-source.ensures)
    (value_good files trees at_ c.index-sources-place.result (as_many files trees c.requires) c.if-place-sources.false (expr_view bytes c.in-Some.value.now) c.requires (c.in-Some.ensures bytes))

pub returns-in-None-2 : goal.returns-in-None-2
returns-in-None-2 c = record {
  made = λ may.
      let l = loaded_in c.args.sources in
      let files = c.args.sources.files.now in
      let trees = c.args.sources.trees.now in
      let at_ = c.args.place.now in
      let x = exchange c.args.pair.old.now c.args.pair.new.now may in
      let key = c.args.key.now in
      let source = c.bytes-source.result.now in
      let e = expr_view source c.in-Some.value.now in
      let gone : Result (List Step) Refusal = if_assigned l key x at_ e in
      let here : expression_at (project l) at_ ≡ Some e =
      stands files trees at_ c.index-sources-place.result (as_many files trees c.requires) c.if-place-sources.false ∙ sym (c.in-Some.ensures (bytes_at at_.file files)) ∙ ap (λ s. Some (expr_view s c.in-Some.value.now)) (sym c.bytes-source.ensures) in
      let whole : replace_whole l x key at_ (expression_at (project l) at_) ≡ replace_by l key source x gone (lists_of at_ e) =
      ap (replace_whole l x key at_) here ∙ ap (λ s. replace_by l key s x gone (lists_of at_ e)) (sym c.bytes-source.ensures) in
      subst (λ m. MatchResult c.if_assigned.result (λ steps. AreMeant m steps.items) (λ f. f ≢ OutOfMemory → m ≡ Err f))
      (sym (whole ∙ of_none c.in_ok-steps-in-Some.field-0 _ _ c.in-None-2.is (c.in_ok-steps-in-Some.ensures.made may gone))) (c.if_assigned.ensures.made may);
}

pub returns-in_ok-clone-in-None : goal.returns-in_ok-clone-in-None
returns-in_ok-clone-in-None c = record {
  made = λ may other.
      let files = c.args.sources.files.now in
      let trees = c.args.sources.trees.now in
      let at_ = c.args.place.now in
      let x = exchange c.args.pair.old.now c.args.pair.new.now may in
      ap (replace_whole (loaded_in c.args.sources) x c.args.key.now at_)
      (stands files trees at_ c.index-sources-place.result (as_many files trees c.requires) c.if-place-sources.false ∙ sym (c.in-None.ensures (bytes_at at_.file files)))
      ∙ ap (λ k. Err (NoSuchValue k)) (sym c.in_ok-clone-in-None.ensures.cases);
}
