-- What stands at the place of a call is that call, over its file's bytes.
use Rattle.std.proofs.Common.{◌≡◌, Some, get_or, refl, sym, ap, ◌∙◌, subst, arith}
use Rattle.meson_splice.specs.Files.{bytes_at}
use Rattle.meson_syntax.specs.Paths as paths
use Rattle.meson_syntax.specs.View.{expr_view, list_view, name_at, view}
use Rattle.meson_calls.specs.Calls.{call_of}
use Rattle.meson_details.specs.Called.{called_view}
use Rattle.meson_calls.proofs.CallsAt.{listing_good, spanned_at}
use Rattle.meson_calls.proofs.Loads.{as_many}
use Rattle.meson_details.proofs.CalledNames.{called_named}
use Rattle.meson_details.proofs.CallsThere.{contrary, past_files, no_expression, other_expression, stands}
use Rattle.meson_details.proofs.GoodWords.{list_words}
use Rattle.meson_details.specs.ValueTexts.{ListHasTexts}
use Rattle.meson_details.proofs.ValuesAreTexts.{call_texts}
use Rattle.meson_details.proofs.called.call_at.Goals as goal

pub unreachable-requires : goal.unreachable-requires
unreachable-requires c =
    contrary _ (past_files c.args.files.now c.args.trees.now c.args.call.now c.if-call-trees.true) c.requires.there

pub bytes-requires : goal.bytes-requires
bytes-requires c =
    let many = as_many c.args.files.now c.args.trees.now c.requires.parsed in
    omega arith

pub unreachable-requires-in-None-call_in : goal.unreachable-requires-in-None-call_in
unreachable-requires-in-None-call_in c =
    let files = c.args.files.now in
    let trees = c.args.trees.now in
    let call = c.args.call.now in
    let bytes = bytes_at call.file files in
    let is = c.in-Some.ensures bytes ∙ ap (λ t. paths.expression_on_path (view bytes t) call.path.steps) c.index-trees-call.is in
    let other = ap (λ s. call_of (expr_view s c.in-Some.expr.now)) (sym c.bytes.ensures) ∙ c.in-None-call_in.ensures in
    contrary _ (other_expression files trees call c.index-trees-call.result (as_many files trees c.requires.parsed) c.if-call-trees.false (expr_view bytes c.in-Some.expr.now) is other) c.requires.there

pub unreachable-requires-in-None : goal.unreachable-requires-in-None
unreachable-requires-in-None c =
    let files = c.args.files.now in
    let trees = c.args.trees.now in
    let call = c.args.call.now in
    let bytes = bytes_at call.file files in
    contrary _ (no_expression files trees call c.index-trees-call.result (as_many files trees c.requires.parsed) c.if-call-trees.false
    (c.in-None.ensures bytes ∙ ap (λ t. paths.expression_on_path (view bytes t) call.path.steps) c.index-trees-call.is)) c.requires.there

pub returns-clause-at : goal.returns-clause-at
returns-clause-at c =
    let files = c.args.files.now in
    let trees = c.args.trees.now in
    let call = c.args.call.now in
    let bytes = bytes_at call.file files in
    let is = c.in-Some.ensures bytes ∙ ap (λ t. paths.expression_on_path (view bytes t) call.path.steps) c.index-trees-call.is in
    stands files trees call c.index-trees-call.result (as_many files trees c.requires.parsed) c.if-call-trees.false
    ∙ sym is ∙ ap (λ s. Some (expr_view s c.in-Some.expr.now)) (sym c.bytes.ensures) ∙ ap Some c.in-Some-call_in.ensures.1

pub returns-clause-good : goal.returns-clause-good
returns-clause-good c =
    let files = c.args.files.now in
    let trees = c.args.trees.now in
    let call = c.args.call.now in
    let bytes = bytes_at call.file files in
    let called = c.in-Some-call_in.called in
    let is = c.in-Some.ensures bytes ∙ ap (λ t. paths.expression_on_path (view bytes t) call.path.steps) c.index-trees-call.is in
    let same : expr_view bytes c.in-Some.expr.now ≡ called_view called = ap (λ s. expr_view s c.in-Some.expr.now) (sym c.bytes.ensures) ∙ c.in-Some-call_in.ensures.1 in
    let at = ap Some (sym same) ∙ is in
    listing_good files trees call c.index-trees-call.result (as_many files trees c.requires.parsed) c.if-call-trees.false (called_view called) (list_view called.source.now called.arguments.now)
    c.requires.parsed at refl

pub returns-clause-texts : goal.returns-clause-texts
returns-clause-texts c =
    let files = c.args.files.now in
    let trees = c.args.trees.now in
    let call = c.args.call.now in
    let bytes = bytes_at call.file files in
    let d = c.index-trees-call.result in
    let called = c.in-Some-call_in.called in
    let source = called.source.now in
    let list = list_view source called.arguments.now in
    let is = c.in-Some.ensures bytes ∙ ap (λ t. paths.expression_on_path (view bytes t) call.path.steps) c.index-trees-call.is in
    let same : expr_view bytes c.in-Some.expr.now ≡ called_view called = ap (λ s. expr_view s c.in-Some.expr.now) (sym c.bytes.ensures) ∙ c.in-Some-call_in.ensures.1 in
    let spanned = spanned_at files trees call.file d c.if-call-trees.false c.requires.parsed in
    let texts = call_texts bytes (view bytes (get_or trees call.file d)) spanned call.path.steps called.span (name_at source called.name) list (sym is ∙ ap Some same) in
    subst (λ s. ListHasTexts s list) (sym (c.in-Some-call_in.ensures.0 ∙ c.bytes.ensures)) texts

pub returns-clause-words : goal.returns-clause-words
returns-clause-words c = list_words (list_view c.in-Some-call_in.called.source.now c.in-Some-call_in.called.arguments.now) (returns-clause-good c)

pub returns-clause-named : goal.returns-clause-named
returns-clause-named c =
    let files = c.args.files.now in
    let trees = c.args.trees.now in
    let call = c.args.call.now in
    let bytes = bytes_at call.file files in
    let called = c.in-Some-call_in.called in
    let is = c.in-Some.ensures bytes ∙ ap (λ t. paths.expression_on_path (view bytes t) call.path.steps) c.index-trees-call.is in
    let same : expr_view bytes c.in-Some.expr.now ≡ called_view called = ap (λ s. expr_view s c.in-Some.expr.now) (sym c.bytes.ensures) ∙ c.in-Some-call_in.ensures.1 in
    called_named files trees call.file call.path.steps c.index-trees-call.result c.if-call-trees.false c.requires.parsed called.span (name_at called.source.now called.name) (list_view called.source.now called.arguments.now) (ap Some (sym same) ∙ is)
