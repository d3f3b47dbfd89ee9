use Rattle.meson_splice.proofs.Times.{one-is-an-undo, undos-follow}
use Rattle.meson_splice.proofs.laws.undos_follow.Goals as goal

pub returns : goal.returns
returns c = record { one = one-is-an-undo; more = undos-follow }
