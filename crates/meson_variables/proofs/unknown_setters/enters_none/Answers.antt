use Rattle.meson_variables.proofs.Words.{◌≡◌, ◌∙◌, sym, ap, ◌&&◌, not, true, bytes_eq, codes, text_at, list_view, first_literal, call_with, is_entered}
use Rattle.meson_variables.proofs.Words.{meant_in}
use Rattle.meson_variables.proofs.unknown_setters.enters_none.Goals as goal

pub returns-in_ok-there : goal.returns-in_ok-there
returns-in_ok-there c =
    let call = call_with (text_at c.args.source.now c.args.function) (list_view c.args.source.now c.args.arguments.now) in
    let there = is_entered c.args.files.now (meant_in c.args.files.now c.args.file (first_literal call)) in
    let is_it : bytes_eq call.function (codes "subdir") ≡ true =
    ap (λ t. bytes_eq t (codes "subdir")) (sym c.text_of.ensures) ∙ ap (bytes_eq c.text_of.result.now) (sym c.as_slice.ensures) ∙ sym c.eq.ensures ∙ c.if-eq.true in
    ap not (c.in_ok-there.ensures call.function) ∙ ap (λ b. b && not there) (sym is_it)
