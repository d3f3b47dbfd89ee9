use Rattle.std.proofs.Common.{◌≡◌, ◌<◌, [], get_or, length, sym, ap₂, ◌∙◌, arith}
use Rattle.std.specs.Prelude.{true, false, ◌||◌}
use Rattle.std.proofs.lemmas.List.Folds.{list_any_at, list_any_more}
use Rattle.meson_splice.specs.declared.file_set.File.{File}
use Rattle.meson_calls.proofs.Loads.{nth_bytes}
use Rattle.meson_places.specs.Uses.{placeholder, source_holds}
use Rattle.meson_places.proofs.uses.is_formatted.Goals as goal

abbrev none : File
none = record { name = []; bytes = [] }

pub returns-then-source_holds : goal.returns-then-source_holds
returns-then-source_holds c =
    let files = c.args.files.now in
    let part = placeholder c.args.name.now in
    let within : c.loop-i.i < length files = omega (arith, c.loop-i-test.true, c.len-i-end.ensures) in
    let same = ap₂ source_holds (c.as_slice.ensures.value ∙ c.in_ok-part.ensures) (c.bytes.ensures ∙ nth_bytes files c.loop-i.i none within) in
    let holds : source_holds part (get_or files c.loop-i.i none).bytes ≡ true = sym same ∙ sym c.source_holds.ensures ∙ c.if-source_holds.true in
    sym (list_any_at (λ (f : File). source_holds part f.bytes) files c.loop-i.i none within holds)

pub loop-i-preserved : goal.loop-i-preserved
loop-i-preserved c =
    let files = c.args.files.now in
    let part = placeholder c.args.name.now in
    let within : c.loop-i.i < length files = omega (arith, c.loop-i-test.true, c.len-i-end.ensures) in
    let same = ap₂ source_holds (c.as_slice.ensures.value ∙ c.in_ok-part.ensures) (c.bytes.ensures ∙ nth_bytes files c.loop-i.i none within) in
    let other : source_holds part (get_or files c.loop-i.i none).bytes ≡ false = sym same ∙ sym c.source_holds.ensures ∙ c.if-source_holds.false in
    list_any_more (λ (f : File). source_holds part f.bytes) files c.loop-i.i none within ∙ ap₂ (λ a b. a || b) c.loop-i.invariant other
