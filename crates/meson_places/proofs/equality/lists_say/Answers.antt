use Rattle.meson_places.proofs.ValueListsThere.{good_list}
use Rattle.meson_places.proofs.equality.lists_say.Goals as goal

pub any_says-requires : goal.any_says-requires
any_says-requires c =
    let source = c.args.source.now in
    good_list source c.args.lists.now c.loop-i.i c.index-lists-i.result c.loop-i-test.true c.requires
