use Rattle.std.proofs.Common.{sym, ap, ◌∙◌, arith}
use Rattle.std.proofs.lemmas.Bool.{cond-true, cond-false}
use Rattle.meson_lex.specs.Items.{Lexeme}
use Rattle.meson_layout.specs.Looks.{is_comment, is_line_end}
use Rattle.meson_layout.proofs.LineSpots.{comment-line-is}
use Rattle.meson_layout.proofs.line_spots.comment_line_len.Goals as goal

pub returns-then-at_line_start-clause-value : goal.returns-then-at_line_start-clause-value
returns-then-at_line_start-clause-value c =
    let ends = ap (λ (x : Lexeme). is_line_end x.kind) (sym c.end.view_is) ∙ sym c.is_line_end.ensures ∙ c.if-is_line_end.true in
    let notes = ap (λ (x : Lexeme). is_comment x.kind) (sym c.note.view_is) ∙ sym c.is_comment.ensures ∙ c.if-is_comment.true in
    sym (comment-line-is c.args.items.now c.note-item.result c.end-item.result c.last_blanks-n.result (omega arith) c.end-item.is c.note-item.is ends notes
    c.last_blanks-n.ensures.value c.last_blanks-n.ensures.within
    ∙ cond-true _ _ _ (sym c.at_line_start.ensures ∙ c.if-at_line_start.true))

pub returns-else-at_line_start-clause-value : goal.returns-else-at_line_start-clause-value
returns-else-at_line_start-clause-value c =
    let ends = ap (λ (x : Lexeme). is_line_end x.kind) (sym c.end.view_is) ∙ sym c.is_line_end.ensures ∙ c.if-is_line_end.true in
    let notes = ap (λ (x : Lexeme). is_comment x.kind) (sym c.note.view_is) ∙ sym c.is_comment.ensures ∙ c.if-is_comment.true in
    sym (comment-line-is c.args.items.now c.note-item.result c.end-item.result c.last_blanks-n.result (omega arith) c.end-item.is c.note-item.is ends notes
    c.last_blanks-n.ensures.value c.last_blanks-n.ensures.within
    ∙ cond-false _ _ _ (sym c.at_line_start.ensures ∙ c.if-at_line_start.false))
