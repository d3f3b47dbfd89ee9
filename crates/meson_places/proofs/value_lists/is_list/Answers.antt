use Rattle.std.proofs.Common.{◌≡◌, true, codes, sym, ap, ap₂, ◌∙◌}
use Rattle.std.specs.Prelude.{◌&&◌, bytes_eq}
use Rattle.std.specs.List.{list_all}
use Rattle.meson_syntax.specs.View.{expr_view, list_view, text_at}
use Rattle.meson_edit.specs.Edits.{elements}
use Rattle.meson_calls.proofs.Nested.{call_view}
use Rattle.meson_places.specs.Slots.{elements_in, has_no_name}
use Rattle.meson_places.specs.ValueLists.{is_list}
use Rattle.meson_places.proofs.value_lists.is_list.Goals as goal

pub returns-then-eq : goal.returns-then-eq
returns-then-eq c =
    let source = c.args.source.now in
    let view = ap (expr_view source) c.in-Call.is ∙ call_view source c.in-Call.span c.in-Call.name c.in-Call.arguments in
    let are = c.are_plain.ensures source ∙ ap (list_all has_no_name) (c.elements_in.ensures.elements source ∙ ap elements_in view) in
    let same : bytes_eq (text_at source c.in-Call.name) (codes "files") ≡ true = sym (c.eq.ensures ∙ ap₂ bytes_eq c.text_of.ensures c.as_slice.ensures) ∙ c.if-eq.true in
    are ∙ ap (λ b. b && list_all has_no_name (elements (list_view source c.in-Call.arguments))) (sym same) ∙ sym (ap is_list view)
