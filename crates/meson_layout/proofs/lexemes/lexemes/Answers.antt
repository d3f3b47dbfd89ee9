use Rattle.std.proofs.Common.{◌≡◌, ◌∷◌, ◌++◌, [], Ok, Err, ap, subst, sym, ◌∙◌}
use Rattle.meson_lex.specs.Items.{Lexeme}
use Rattle.meson_layout.proofs.Fronts.{IsReading, reading-end, reading-fault, reading-item, reading-over, up_to}
use Rattle.meson_layout.proofs.ReadItems.{read, read-all}
use Rattle.meson_layout.proofs.lexemes.lexemes.Goals as goal

pub loop-item-preserved : goal.loop-item-preserved
loop-item-preserved c =
    let are : c.loop-item.item-iterator ≡ Err c.in_default.field-0 ∷ c.next.new.self = c.in-Some.ensures.steps ∙ ap (λ i. i ∷ c.next.new.self) c.in_default.is in
    reading-fault c.args.src.now c.args.end _ c.loop-item.all.items c.in_default.field-0 _ c.next.new.self c.loop-item.invariant are

pub loop-item-preserved-in-Ok : goal.loop-item-preserved-in-Ok
loop-item-preserved-in-Ok c =
    let are : c.loop-item.item-iterator ≡ Ok c.in-Ok.item ∷ c.next.new.self = c.in-Some.ensures.steps ∙ ap (λ i. i ∷ c.next.new.self) c.in-Ok.is in
    let kept = c.push_reserved.ensures.items ∙ ap (λ xs. xs ++ record { kind = c.in-Ok.item.kind; text = c.text.result.now } ∷ []) c.reserve.ensures.items in
    let whole = up_to c.args.end (read c.args.src.now c.into_iter-item-iterator.result) in
    subst (λ xs. IsReading c.args.src.now c.args.end whole xs c.next.new.self) (sym kept)
    (reading-item c.args.src.now c.args.end whole c.loop-item.all.items _ c.in-Ok.item _ c.next.new.self c.loop-item.invariant are c.if-item-end.false
    (ap (λ t. let x : Lexeme = record { kind = c.in-Ok.item.kind; text = t } in x) c.text.ensures))

pub returns-then-item-end-clause-done : goal.returns-then-item-end-clause-done
returns-then-item-end-clause-done c = λ xs list.
    let are : c.loop-item.item-iterator ≡ Ok c.in-Ok.item ∷ c.next.new.self = c.in-Some.ensures.steps ∙ ap (λ i. i ∷ c.next.new.self) c.in-Ok.is in
    reading-end c.args.src.now c.args.end _ c.loop-item.all.items c.in-Ok.item _ c.next.new.self c.loop-item.invariant are c.if-item-end.true
    ∙ ap (λ rs. up_to c.args.end (read c.args.src.now rs)) c.into_iter-item-iterator.ensures.into_iter_gives
    ∙ ap (up_to c.args.end) (read-all c.args.src.now c.items-item-items.result xs c.items-item-items.ensures.lexed list)

pub returns-clause-done : goal.returns-clause-done
returns-clause-done c = λ xs list.
    reading-over c.args.src.now c.args.end _ c.loop-item.all.items c.loop-item.item-iterator c.loop-item.invariant c.in-None.ensures.steps.0
    ∙ ap (λ rs. up_to c.args.end (read c.args.src.now rs)) c.into_iter-item-iterator.ensures.into_iter_gives
    ∙ ap (up_to c.args.end) (read-all c.args.src.now c.items-item-items.result xs c.items-item-items.ensures.lexed list)
