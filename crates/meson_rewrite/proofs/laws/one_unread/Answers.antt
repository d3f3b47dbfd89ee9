use Rattle.meson_rewrite.proofs.OneUnread.{one-unread}
use Rattle.meson_rewrite.proofs.laws.one_unread.Goals as goal

pub returns : goal.returns
returns c = one-unread
