use Rattle.std.proofs.Common.{◌≡◌, ◌∷◌, Err, ap, ◌∙◌}
use Rattle.meson_layout.proofs.ReadItems.{read, read-all}
use Rattle.meson_statements.specs.declared.endings.Ending.TheVariants as ending
use Rattle.meson_statements.specs.Gaps.{blank_lines, ending_after}
use Rattle.meson_statements.proofs.FileEnds.{ending-fault, ending-over}
use Rattle.meson_statements.proofs.endings.blank_lines_at_end.Goals as goal

pub loop-item-preserved : goal.loop-item-preserved
loop-item-preserved c =
    let are : c.loop-item.item-iterator ≡ Err c.in_default.field-0 ∷ c.next.new.self = c.in-Some.ensures.steps ∙ ap (λ i. i ∷ c.next.new.self) c.in_default.is in
    ending-fault c.args.source.now _ c.loop-item.ending c.in_default.field-0 _ c.next.new.self c.loop-item.invariant are

pub returns : goal.returns
returns c = λ xs list.
    c.blank_lines.ensures
    ∙ ap blank_lines (ending-over c.args.source.now _ c.loop-item.ending c.loop-item.item-iterator c.loop-item.invariant c.in-None.ensures.steps.0)
    ∙ ap (λ rs. blank_lines (ending_after (ending.Lines 0) (read c.args.source.now rs))) c.into_iter-item-iterator.ensures.into_iter_gives
    ∙ ap (λ ys. blank_lines (ending_after (ending.Lines 0) ys)) (read-all c.args.source.now c.items-item-items.result xs c.items-item-items.ensures.lexed list)
