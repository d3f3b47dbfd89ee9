use Rattle.std.proofs.Common.{sym, ap, ◌∙◌}
use Rattle.meson_inventory.specs.Holdings.{held_call}
use Rattle.meson_inventory.proofs.CallsHeld.{one_more}
use Rattle.meson_inventory.proofs.holdings.held_calls.Goals as goal

pub loop-place-preserved : goal.loop-place-preserved
loop-place-preserved c =
    let l = c.args.project.now in
    c.in_ok-push.ensures.items
    ∙ one_more l c.args.places.now c.loop-place.place-index c.place-item.result c.in_ok-held_call.field-0 c.loop-place.calls.items c.loop-place-test.true
    (sym (ap (held_call l) c.place-item.is) ∙ c.in_ok-held_call.ensures) c.loop-place.invariant
