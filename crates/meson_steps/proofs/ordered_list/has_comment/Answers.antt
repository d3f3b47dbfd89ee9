use Rattle.std.proofs.Common.{◌∷◌, sym, ap, ◌∙◌}
use Rattle.std.specs.Prelude.{if◌then◌else◌}
use Rattle.meson_lex.proofs.ScanLexed.{scan_only}
use Rattle.meson_steps.specs.OrderedLists.{comment_in, has_comment, is_comment}
use Rattle.meson_steps.proofs.ordered_list.has_comment.Goals as goal

pub returns-then-ends_line : goal.returns-then-ends_line
unfolding has_comment
returns-then-ends_line c =
    let rest = c.next.new.self in
    let x = c.in-Ok.item in
    let scanned = c.into_iter-item-iterator.ensures.into_iter_gives ∙ scan_only 0 c.args.text.now c.items-item-items.result c.items-item-items.ensures.lexed in
    c.is_comment.ensures ∙ ap (λ b. if b then is_comment x.kind else comment_in rest) (sym c.if-ends_line.true ∙ c.ends_line.ensures)
    ∙ ap (λ r. comment_in (r ∷ rest)) (sym c.in-Ok.is) ∙ ap comment_in (sym c.in-Some.ensures.steps)
    ∙ (c.loop-item.invariant ∙ ap comment_in scanned)

pub returns : goal.returns
unfolding has_comment
returns c =
    ap comment_in (sym c.in-None.ensures.steps.0) ∙ c.loop-item.invariant
    ∙ ap comment_in (c.into_iter-item-iterator.ensures.into_iter_gives ∙ scan_only 0 c.args.text.now c.items-item-items.result c.items-item-items.ensures.lexed)
