use Rattle.std.proofs.Common.{◌<◌, length, arith}
use Rattle.meson_following.specs.Makers.{max_makers}
use Rattle.meson_following.proofs.MakerLists.{limited_long}
use Rattle.meson_following.proofs.makers.Made.limited.Goals as goal

pub returns-then-len-gt-MAX_MAKERS : goal.returns-then-len-gt-MAX_MAKERS
returns-then-len-gt-MAX_MAKERS c =
    let more : max_makers < length c.args.makers.items = omega arith in
    limited_long c.args.makers.items c.truncate.new.self.items c.args.unknown c.truncate.ensures.items more
