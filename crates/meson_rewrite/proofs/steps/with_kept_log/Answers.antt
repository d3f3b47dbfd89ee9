use Rattle.std.proofs.Common.{ap, is_some}
use Rattle.meson_rewrite.proofs.LogName.{no_log}
use Rattle.meson_rewrite.proofs.steps.with_kept_log.Goals as goal

pub push_new-requires : goal.push_new-requires
push_new-requires c = rw (c.in_ok-name.ensures.ok) (ap is_some (no_log c.args.files c.requires))
