use Rattle.std.proofs.Common.{◌≡◌, ◌∷◌, Ok, Err, ap, sym, ◌∙◌}
use Rattle.meson_layout.proofs.ReadItems.{read, read-all}
use Rattle.meson_layout.specs.Statements.{line_end_of}
use Rattle.meson_statements.proofs.FileEnds.{seeking-fault, seeking-found, seeking-over}
use Rattle.meson_statements.proofs.endings.line_end.Goals as goal

pub loop-item-preserved : goal.loop-item-preserved
loop-item-preserved c =
    let are : c.loop-item.item-iterator ≡ Err c.in_default.field-0 ∷ c.next.new.self = c.in-Some.ensures.steps ∙ ap (λ i. i ∷ c.next.new.self) c.in_default.is in
    seeking-fault c.args.source.now _ c.in_default.field-0 _ c.next.new.self c.loop-item.invariant are

pub returns-then-is_line_end : goal.returns-then-is_line_end
returns-then-is_line_end c = λ xs list.
    let are : c.loop-item.item-iterator ≡ Ok c.in-Ok.item ∷ c.next.new.self = c.in-Some.ensures.steps ∙ ap (λ i. i ∷ c.next.new.self) c.in-Ok.is in
    c.text.ensures
    ∙ seeking-found c.args.source.now _ c.in-Ok.item _ c.next.new.self c.loop-item.invariant are (sym c.is_line_end.ensures ∙ c.if-is_line_end.true)
    ∙ ap (λ rs. (line_end_of (read c.args.source.now rs)).text) c.into_iter-item-iterator.ensures.into_iter_gives
    ∙ ap (λ ys. (line_end_of ys).text) (read-all c.args.source.now c.items-item-items.result xs c.items-item-items.ensures.lexed list)

pub returns : goal.returns
returns c = λ xs list.
    seeking-over c.args.source.now _ c.loop-item.item-iterator c.loop-item.invariant c.in-None.ensures.steps.0
    ∙ ap (λ rs. (line_end_of (read c.args.source.now rs)).text) c.into_iter-item-iterator.ensures.into_iter_gives
    ∙ ap (λ ys. (line_end_of ys).text) (read-all c.args.source.now c.items-item-items.result xs c.items-item-items.ensures.lexed list)
