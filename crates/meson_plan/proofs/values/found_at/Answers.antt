use Rattle.std.proofs.Common.{◌≡◌, Some, get_or, sym, ap, ap₂, ◌∙◌, subst, arith}
use Rattle.std.specs.Prelude.{option_map}
use Rattle.meson_splice.specs.Files.{bytes_at}
use Rattle.meson_syntax.specs.Grammar.{expression_words}
use Rattle.meson_syntax.specs.View.{expr_view, view}
use Rattle.meson_edit.specs.Standing.{expression_span}
use Rattle.meson_calls.specs.Strings.{AreGood}
use Rattle.meson_calls.proofs.CallsAt.{spanned_at}
use Rattle.meson_calls.proofs.Loads.{as_many}
use Rattle.meson_details.specs.Values.{HasTexts, value_details}
use Rattle.meson_places.proofs.Standing.{past_all, stands, value_good}
use Rattle.meson_plan.specs.Values.{found_in}
use Rattle.meson_plan.proofs.ExpressionTexts.{expression_texts}
use Rattle.meson_plan.proofs.values.found_at.Goals as goal

pub returns-then-place-sources : goal.returns-then-place-sources
returns-then-place-sources c =
    let files = c.args.sources.files.now in
    let at_ = c.args.place.now in
    sym (ap (option_map (found_in (bytes_at at_.file files) at_.file)) (past_all files c.args.sources.trees.now at_ c.if-place-sources.true))

pub bytes-source-requires : goal.bytes-source-requires
bytes-source-requires c =
    let many = as_many c.args.sources.files.now c.args.sources.trees.now c.requires in
    omega arith

pub value_details-requires-clause-good : goal.value_details-requires-clause-good
value_details-requires-clause-good c =
    let files = c.args.sources.files.now in
    let trees = c.args.sources.trees.now in
    let at_ = c.args.place.now in
    let bytes = bytes_at at_.file files in
    subst (λ s. AreGood (expression_words (expr_view s c.in-Some.value.now))) (sym c.bytes-source.ensures)
    (value_good files trees at_ c.index-sources-place.result (as_many files trees c.requires) c.if-place-sources.false (expr_view bytes c.in-Some.value.now) c.requires (c.in-Some.ensures bytes))

pub value_details-requires-clause-texts : goal.value_details-requires-clause-texts
value_details-requires-clause-texts c =
    let files = c.args.sources.files.now in
    let trees = c.args.sources.trees.now in
    let at_ = c.args.place.now in
    let bytes = bytes_at at_.file files in
    let d = c.index-sources-place.result in
    let spanned = spanned_at files trees at_.file d c.if-place-sources.false c.requires in
    subst (λ s. HasTexts s (expr_view s c.in-Some.value.now)) (sym c.bytes-source.ensures)
    (expression_texts bytes (view bytes (get_or trees at_.file d)) spanned at_.path.steps (expr_view bytes c.in-Some.value.now) (sym (c.in-Some.ensures bytes)))

pub returns-in_ok-details-in-Some : goal.returns-in_ok-details-in-Some
returns-in_ok-details-in-Some c =
    let files = c.args.sources.files.now in
    let trees = c.args.sources.trees.now in
    let at_ = c.args.place.now in
    let bytes = bytes_at at_.file files in
    let e = expr_view bytes c.in-Some.value.now in
    let told = c.in_ok-details-in-Some.ensures ∙ ap (λ s. value_details s (expr_view s c.in-Some.value.now)) c.bytes-source.ensures in
    ap₂ (λ s d. Some (record { file = at_.file; span = s; details = d })) (c.span_of.ensures bytes) told
    ∙ ap (option_map (found_in bytes at_.file))
    (c.in-Some.ensures bytes ∙ sym (stands files trees at_ c.index-sources-place.result (as_many files trees c.requires) c.if-place-sources.false))

pub returns-in-None : goal.returns-in-None
returns-in-None c =
    let files = c.args.sources.files.now in
    let trees = c.args.sources.trees.now in
    let at_ = c.args.place.now in
    let bytes = bytes_at at_.file files in
    sym (ap (option_map (found_in bytes at_.file))
    (stands files trees at_ c.index-sources-place.result (as_many files trees c.requires) c.if-place-sources.false ∙ sym (c.in-None.ensures bytes)))
