use Rattle.meson_steps.proofs.Words.{◌≡◌, true, false, sym, ap, ◌∙◌, ◌&&◌, not, args_view, list_view, elements, list_elements, list_is, has_trailing, one_plain}
use Rattle.meson_steps.proofs.code.is_lone.Goals as goal

pub returns-then-one_plain : goal.returns-then-one_plain
returns-then-one_plain c = λ source.
    let l = c.args.list.now in
    let lone : one_plain (elements (list_view source l)) ≡ true =
    ap one_plain (list_elements source l ∙ ap (args_view source) (sym c.get.ensures)) ∙ sym (c.one_plain.ensures source) ∙ c.if-one_plain.true in
    sym (ap (λ b. b && not (has_trailing (list_view source l))) lone ∙ ap (λ k. not (has_trailing k)) (list_is source l))

pub returns-else-one_plain : goal.returns-else-one_plain
returns-else-one_plain c = λ source.
    let l = c.args.list.now in
    let none : one_plain (elements (list_view source l)) ≡ false =
    ap one_plain (list_elements source l ∙ ap (args_view source) (sym c.get.ensures)) ∙ sym (c.one_plain.ensures source) ∙ c.if-one_plain.false in
    c.if-one_plain.false ∙ sym (ap (λ b. b && not (has_trailing (list_view source l))) none)
