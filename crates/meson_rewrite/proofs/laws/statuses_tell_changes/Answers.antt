use Rattle.meson_rewrite.proofs.ChangesTold.{statuses-tell-changes}
use Rattle.meson_rewrite.proofs.laws.statuses_tell_changes.Goals as goal

pub returns : goal.returns
returns c = statuses-tell-changes
