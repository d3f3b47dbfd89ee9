use Rattle.std.proofs.Common.{◌≡◌, sym, ap, ◌∙◌}
use Rattle.std.specs.Prelude.{true, ◌||◌}
use Rattle.std.specs.List.{list_any}
use Rattle.meson_lex.proofs.ScanLexed.{scan_only}
use Rattle.meson_places.specs.Uses.{item_holds}
use Rattle.meson_places.proofs.uses.source_holds.Goals as goal

pub returns-then-item_holds : goal.returns-then-item_holds
returns-then-item_holds c =
    let text = c.args.source.now in
    let test = item_holds text c.args.part.now in
    let holds : test c.in-Some.item ≡ true = sym c.item_holds.ensures ∙ c.if-item_holds.true in
    sym (ap (λ b. b || list_any test c.next.new.self) holds) ∙ ap (list_any test) (sym c.in-Some.ensures.steps) ∙ c.loop-item.invariant
    ∙ ap (list_any test) (c.into_iter-item-iterator.ensures.into_iter_gives ∙ scan_only 0 text c.items-item-items.result c.items-item-items.ensures.lexed)

pub returns : goal.returns
returns c =
    let text = c.args.source.now in
    let test = item_holds text c.args.part.now in
    ap (list_any test) (sym c.in-None.ensures.steps.0) ∙ c.loop-item.invariant
    ∙ ap (list_any test) (c.into_iter-item-iterator.ensures.into_iter_gives ∙ scan_only 0 text c.items-item-items.result c.items-item-items.ensures.lexed)
