use Rattle.meson_entering.proofs.Lawful.{followed_enters_more}
use Rattle.meson_entering.proofs.laws.followed_enters_more.Goals as goal

pub returns : goal.returns
returns c = followed_enters_more
