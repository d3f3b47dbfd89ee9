use Rattle.std.proofs.Common.{◌<◌, [], ◌∙◌, sym, ap₂, length, refl, arith}
use Rattle.std.specs.List.{list_any}
use Rattle.meson_splice.specs.declared.file_set.File.{File}
use Rattle.meson_calls.proofs.Loads.{nth_bytes}
use Rattle.meson_targets.specs.inside.TargetViews.{place_view}
use Rattle.meson_places.specs.Names.{loaded_in}
use Rattle.meson_places.specs.Uses.{placeholder, source_holds}
use Rattle.meson_code.specs.Removal.{span_at, texts_beside, texts_from}
use Rattle.meson_code.proofs.FirstFound.{any_here, not_here}
use Rattle.meson_code.proofs.removal.Removal.is_formatted_outside.Goals as goal

abbrev none : File
none = record { name = []; bytes = [] }

pub returns-then-file_holds : goal.returns-then-file_holds
returns-then-file_holds c =
    let s = c.args.self.now in
    let files = s.sources.files.now in
    let a = place_view s.statement.now in
    let span = span_at (loaded_in s.sources) a in
    let part = placeholder c.args.name.now in
    let within : c.loop-i.i < length files = omega (arith, c.loop-i-test.true, c.len-i-end.ensures) in
    let same = ap₂ (λ p bytes. list_any (source_holds p) (texts_beside a.block.file span c.loop-i.i bytes)) (c.as_slice.ensures.value ∙ c.in_ok-part.ensures) (nth_bytes files c.loop-i.i none within) in
    any_here (source_holds part) (texts_from a.block.file span) (λ n f. texts_beside a.block.file span n f.bytes) (λ n f fs. refl) files c.loop-i.i none _ within c.loop-i.invariant
    (sym c.if-file_holds.true ∙ c.file_holds.ensures ∙ same)

pub loop-i-preserved : goal.loop-i-preserved
loop-i-preserved c =
    let s = c.args.self.now in
    let files = s.sources.files.now in
    let a = place_view s.statement.now in
    let span = span_at (loaded_in s.sources) a in
    let part = placeholder c.args.name.now in
    let within : c.loop-i.i < length files = omega (arith, c.loop-i-test.true, c.len-i-end.ensures) in
    let same = ap₂ (λ p bytes. list_any (source_holds p) (texts_beside a.block.file span c.loop-i.i bytes)) (c.as_slice.ensures.value ∙ c.in_ok-part.ensures) (nth_bytes files c.loop-i.i none within) in
    not_here (source_holds part) (texts_from a.block.file span) (λ n f. texts_beside a.block.file span n f.bytes) (λ n f fs. refl) files c.loop-i.i none _ within c.loop-i.invariant
    (sym c.if-file_holds.false ∙ c.file_holds.ensures ∙ same)
