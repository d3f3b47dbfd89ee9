use Rattle.meson_places.proofs.ValueListsThere.{good_list}
use Rattle.meson_places.proofs.insertions.find_mark.Goals as goal

pub number_saying-requires : goal.number_saying-requires
number_saying-requires c =
    let source = c.args.source.now in
    good_list source c.args.lists.now c.loop-i.i c.index-lists-i.result c.loop-i-test.true c.requires
