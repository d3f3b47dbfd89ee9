use Rattle.std.proofs.Common.{◌<◌, length, Some, sym, ap, ◌∙◌, subst, arith}
use Rattle.meson_splice.specs.Files.{bytes_at}
use Rattle.meson_syntax.specs.Grammar.{expression_words}
use Rattle.meson_syntax.specs.View.{expr_view}
use Rattle.meson_calls.specs.Strings.{AreGood}
use Rattle.meson_calls.proofs.Loads.{as_many}
use Rattle.meson_places.proofs.Standing.{past_all, stands, value_good}
use Rattle.meson_places.proofs.variables.find_value.Goals as goal

pub returns-then-place-sources-clause-found : goal.returns-then-place-sources-clause-found
returns-then-place-sources-clause-found c = sym (past_all c.args.sources.files.now c.args.sources.trees.now c.args.place.now c.if-place-sources.true)

pub bytes-source-requires : goal.bytes-source-requires
bytes-source-requires c =
    let many = as_many c.args.sources.files.now c.args.sources.trees.now c.requires in
    let within : c.args.place.now.file < length c.args.sources.files.now = omega arith in
    within

pub returns-in-Some-clause-found : goal.returns-in-Some-clause-found
returns-in-Some-clause-found c =
    let files = c.args.sources.files.now in
    let trees = c.args.sources.trees.now in
    let at_ = c.args.place.now in
    ap (λ s. Some (expr_view s c.in-Some.value.now)) c.bytes-source.ensures ∙ c.in-Some.ensures (bytes_at at_.file files)
    ∙ sym (stands files trees at_ c.index-sources-place.result (as_many files trees c.requires) c.if-place-sources.false)

pub returns-in-Some-clause-good : goal.returns-in-Some-clause-good
returns-in-Some-clause-good c =
    let files = c.args.sources.files.now in
    let trees = c.args.sources.trees.now in
    let at_ = c.args.place.now in
    let bytes = bytes_at at_.file files in
    record {
      source = c.bytes-source.ensures;
      good = subst (λ s. AreGood (expression_words (expr_view s c.in-Some.value.now))) (sym c.bytes-source.ensures)
          (value_good files trees at_ c.index-sources-place.result (as_many files trees c.requires) c.if-place-sources.false (expr_view bytes c.in-Some.value.now) c.requires (c.in-Some.ensures bytes));
    }

pub returns-in-None-clause-found : goal.returns-in-None-clause-found
returns-in-None-clause-found c =
    let files = c.args.sources.files.now in
    let trees = c.args.sources.trees.now in
    let at_ = c.args.place.now in
    c.in-None.ensures (bytes_at at_.file files) ∙ sym (stands files trees at_ c.index-sources-place.result (as_many files trees c.requires) c.if-place-sources.false)
