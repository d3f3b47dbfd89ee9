use Rattle.meson_variables.proofs.Words.{◌≡◌, ◌∙◌, sym, ap, ◌&&◌, true, false, bytes_eq, codes, text_at, list_view, is, first_literal, call_with}
use Rattle.meson_variables.proofs.setters.set_name.Goals as goal

pub returns-in_ok-name : goal.returns-in_ok-name
returns-in_ok-name c = λ x.
    let call = call_with (text_at c.args.source.now c.args.function) (list_view c.args.source.now c.args.arguments.now) in
    let is_it : bytes_eq call.function (codes "set_variable") ≡ true =
    ap (λ t. bytes_eq t (codes "set_variable")) (sym c.text_of.ensures) ∙ ap (bytes_eq c.text_of.result.now) (sym c.as_slice.ensures) ∙ sym c.eq.ensures ∙ c.if-eq.true in
    ap (is x) (c.in_ok-name.ensures call.function) ∙ ap (λ b. b && is x (first_literal call)) (sym is_it)

pub returns-else-eq : goal.returns-else-eq
returns-else-eq c = λ x.
    let call = call_with (text_at c.args.source.now c.args.function) (list_view c.args.source.now c.args.arguments.now) in
    let is_not : bytes_eq call.function (codes "set_variable") ≡ false =
    ap (λ t. bytes_eq t (codes "set_variable")) (sym c.text_of.ensures) ∙ ap (bytes_eq c.text_of.result.now) (sym c.as_slice.ensures) ∙ sym c.eq.ensures ∙ c.if-eq.false in
    ap (λ b. b && is x (first_literal call)) (sym is_not)
