use Rattle.meson_splice.specs.Files.{bytes_at}
use Rattle.meson_targets.specs.inside.TargetViews.{place_view}
use Rattle.meson_code.proofs.Outside.{no_file, span_fits, span_none, span_some}
use Rattle.meson_code.proofs.removal.Removal.span.Goals as goal

pub returns-then-place-self-clause-value : goal.returns-then-place-self-clause-value
returns-then-place-self-clause-value c =
    let s = c.args.self.now in
    no_file s.sources.files.now s.sources.trees.now c.requires (place_view s.statement.now) c.if-place-self.true

pub returns-in-Some-clause-value : goal.returns-in-Some-clause-value
returns-in-Some-clause-value c =
    let s = c.args.self.now in
    let a = place_view s.statement.now in
    span_some s.sources.files.now s.sources.trees.now c.requires a c.index-self-place.result c.if-place-self.false c.in-Some.span (c.in-Some.ensures (bytes_at a.block.file s.sources.files.now))

pub returns-in-Some-clause-ordered : goal.returns-in-Some-clause-ordered
returns-in-Some-clause-ordered c =
    let s = c.args.self.now in
    let a = place_view s.statement.now in
    (span_fits s.sources.files.now s.sources.trees.now c.requires a c.index-self-place.result c.if-place-self.false c.in-Some.span (c.in-Some.ensures (bytes_at a.block.file s.sources.files.now))).0

pub returns-in-Some-clause-within : goal.returns-in-Some-clause-within
returns-in-Some-clause-within c =
    let s = c.args.self.now in
    let a = place_view s.statement.now in
    (span_fits s.sources.files.now s.sources.trees.now c.requires a c.index-self-place.result c.if-place-self.false c.in-Some.span (c.in-Some.ensures (bytes_at a.block.file s.sources.files.now))).1

pub returns-in-None-clause-value : goal.returns-in-None-clause-value
returns-in-None-clause-value c =
    let s = c.args.self.now in
    let a = place_view s.statement.now in
    span_none s.sources.files.now s.sources.trees.now c.requires a c.index-self-place.result c.if-place-self.false (c.in-None.ensures (bytes_at a.block.file s.sources.files.now))
