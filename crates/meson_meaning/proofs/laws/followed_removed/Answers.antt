use Rattle.meson_meaning.proofs.FollowedGone.{only_followed_go}
use Rattle.meson_meaning.proofs.laws.followed_removed.Goals as goal

pub returns : goal.returns
returns c = only_followed_go
