use Rattle.meson_variables.proofs.Words.{◌≡◌, ◌∙◌, sym, ap, true, not, ◌&&◌, bytes_eq, codes, text_at, list_view, are_named}
use Rattle.meson_variables.proofs.meeting.is_files.Goals as goal

pub returns-then-eq : goal.returns-then-eq
returns-then-eq c =
    let source = c.args.source.now in
    let l = list_view source c.args.arguments.now in
    let files : bytes_eq (text_at source c.args.function) (codes "files") ≡ true =
    ap (λ x. bytes_eq x (codes "files")) (sym c.text_of.ensures) ∙ ap (bytes_eq c.text_of.result.now) (sym c.as_slice.ensures) ∙ sym c.eq.ensures ∙ c.if-eq.true in
    ap not (c.are_named.ensures source) ∙ ap (λ b. b && not (are_named l)) (sym files)
