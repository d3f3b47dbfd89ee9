use Rattle.std.proofs.Common.{ap, is_some, option_map}
use Rattle.meson_rewrite.proofs.PlacedTexts.{new-path}
use Rattle.meson_rewrite.proofs.texts.place.Goals as goal

pub push_new-requires : goal.push_new-requires
push_new-requires c =
    let texts = c.args.texts.now in
    rw (c.in_ok-path.ensures, c.get.ensures, c.loop-text.invariant)
    (ap is_some (new-path (option_map (λ n. n.now) c.args.dir) texts c.requires c.loop-text.text-index c.text-item.result c.loop-text-test.true c.text-item.is))
