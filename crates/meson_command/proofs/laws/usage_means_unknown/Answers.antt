use Rattle.meson_command.proofs.Usages.{usage-law}
use Rattle.meson_command.proofs.laws.usage_means_unknown.Goals as goal

pub returns : goal.returns
returns c = usage-law
