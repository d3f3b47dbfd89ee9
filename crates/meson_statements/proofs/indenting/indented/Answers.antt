use Rattle.std.proofs.Common.{◌≡◌, ◌∷◌, true, Err, ap, ◌∙◌}
use Rattle.meson_lex.specs.Items.{joined}
use Rattle.meson_layout.proofs.ReadItems.{read, read-all}
use Rattle.meson_statements.specs.declared.indenting.Lines.{Lines}
use Rattle.meson_statements.specs.Indented.{indented}
use Rattle.meson_statements.proofs.Writing.{writing-fault, writing-over}
use Rattle.meson_statements.proofs.indenting.indented.Goals as goal

pub loop-item-preserved : goal.loop-item-preserved
loop-item-preserved c =
    let are : c.loop-item.item-iterator ≡ Err c.in_default.field-0 ∷ c.next.new.self = c.in-Some.ensures.steps ∙ ap (λ i. i ∷ c.next.new.self) c.in_default.is in
    writing-fault c.args.source.now (record { indent = c.args.indent; end = c.args.end }) _ c.loop-item.spot c.loop-item.now.items c.in_default.field-0 _ c.next.new.self
    c.loop-item.invariant are

pub returns : goal.returns
returns c = λ xs list.
    let lines : Lines = record { indent = c.args.indent; end = c.args.end } in
    c.in_ok-extend_from_slice.ensures.items
    ∙ writing-over c.args.source.now lines _ c.loop-item.spot c.loop-item.now.items c.loop-item.item-iterator c.loop-item.invariant c.in-None.ensures.steps.0
    ∙ ap (λ rs. joined (indented c.args.indent.now c.args.end.now true (read c.args.source.now rs))) c.into_iter-item-iterator.ensures.into_iter_gives
    ∙ ap (λ ys. joined (indented c.args.indent.now c.args.end.now true ys)) (read-all c.args.source.now c.items-item-items.result xs c.items-item-items.ensures.lexed list)
