use Rattle.std.proofs.Common.{Some, sym, ap, ◌∙◌}
use Rattle.std.specs.Prelude.{option_map}
use Rattle.meson_splice.specs.Files.{bytes_at}
use Rattle.meson_edit.specs.Standing.{expression_span}
use Rattle.meson_calls.specs.Loading.{project}
use Rattle.meson_places.specs.Changes.{slot_value}
use Rattle.meson_places.specs.Names.{loaded_in}
use Rattle.meson_places.proofs.spans.slot_span.Goals as goal

pub returns-in-Some : goal.returns-in-Some
returns-in-Some c =
    let p = project (loaded_in c.args.sources) in
    let bytes = bytes_at c.in-Element.list.file c.args.sources.files.now in
    ap Some (c.span_of.ensures bytes)
    ∙ ap (λ o. option_map expression_span (option_map (λ x. x.value) o)) c.in-Some.ensures.child
    ∙ sym (ap (λ s. option_map expression_span (slot_value p s)) c.in-Element.is)

pub returns-in-None : goal.returns-in-None
returns-in-None c =
    let p = project (loaded_in c.args.sources) in
    ap (λ o. option_map expression_span (option_map (λ x. x.value) o)) c.in-None.ensures.child
    ∙ sym (ap (λ s. option_map expression_span (slot_value p s)) c.in-Element.is)
