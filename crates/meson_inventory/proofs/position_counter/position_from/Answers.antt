use Rattle.meson_inventory.proofs.PositionsCounted.{counted_on}
use Rattle.meson_inventory.proofs.position_counter.position_from.Goals as goal

pub returns : goal.returns
returns c =
    counted_on c.args.bytes.now c.args.from c.args.to c.args.position c.after.result c.requires.counted c.requires.later c.requires.within
    c.after.ensures.value c.after.ensures.line_grows c.after.ensures.character_grows
