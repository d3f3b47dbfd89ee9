use Rattle.std.proofs.Common.{Some, sym, ap, ◌∙◌}
use Rattle.std.specs.Prelude.{option_map}
use Rattle.meson_splice.specs.Files.{bytes_at}
use Rattle.meson_edit.specs.Standing.{expression_span}
use Rattle.meson_calls.proofs.Loads.{as_many}
use Rattle.meson_places.proofs.Standing.{past_all, stands}
use Rattle.meson_places.proofs.spans.span_at.Goals as goal

pub returns-then-place-sources : goal.returns-then-place-sources
returns-then-place-sources c =
    sym (ap (option_map expression_span) (past_all c.args.sources.files.now c.args.sources.trees.now c.args.place.now c.if-place-sources.true))

pub returns-in-Some : goal.returns-in-Some
returns-in-Some c =
    let files = c.args.sources.files.now in
    let trees = c.args.sources.trees.now in
    let at_ = c.args.place.now in
    let bytes = bytes_at at_.file files in
    ap Some (c.span_of.ensures bytes)
    ∙ sym (ap (option_map expression_span)
    (stands files trees at_ c.index-sources-place.result (as_many files trees c.requires) c.if-place-sources.false ∙ sym (c.in-Some.ensures bytes)))

pub returns-in-None : goal.returns-in-None
returns-in-None c =
    let files = c.args.sources.files.now in
    let trees = c.args.sources.trees.now in
    let at_ = c.args.place.now in
    let bytes = bytes_at at_.file files in
    sym (ap (option_map expression_span)
    (stands files trees at_ c.index-sources-place.result (as_many files trees c.requires) c.if-place-sources.false ∙ sym (c.in-None.ensures bytes)))
