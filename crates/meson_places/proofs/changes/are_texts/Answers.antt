use Rattle.std.proofs.Common.{sym, ap, ◌∙◌}
use Rattle.std.specs.Prelude.{◌&&◌}
use Rattle.std.specs.List.{list_all}
use Rattle.std.proofs.lemmas.Result.{IfOk-weaker}
use Rattle.meson_syntax.specs.View.{expr_view}
use Rattle.meson_places.specs.Slots.{elements_in}
use Rattle.meson_places.specs.Values.{is_text}
use Rattle.meson_places.proofs.changes.are_texts.Goals as goal

pub all_texts-requires : goal.all_texts-requires
all_texts-requires c = c.elements_in.ensures.good c.args.source.now c.requires

pub returns-then-not-is_array : goal.returns-then-not-is_array
returns-then-not-is_array c =
    let source = c.args.source.now in
    sym (ap (λ b. b && list_all is_text (elements_in (expr_view source c.args.value.now))) (sym (c.is_array.ensures source) ∙ c.if-not-is_array.true))

pub returns : goal.returns
returns c =
    let source = c.args.source.now in
    let e = expr_view source c.args.value.now in
    IfOk-weaker c.all_texts.result _ _
    (λ b all. all ∙ ap (list_all is_text) (c.elements_in.ensures.elements source)
    ∙ sym (ap (λ a. a && list_all is_text (elements_in e)) (sym (c.is_array.ensures source) ∙ c.if-not-is_array.false)))
    c.all_texts.ensures
