use Rattle.meson_warnings.proofs.Told.{left_are_unread}
use Rattle.meson_warnings.proofs.laws.left_are_unread.Goals as goal

pub returns : goal.returns
returns c = left_are_unread
