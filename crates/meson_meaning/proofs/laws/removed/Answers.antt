use Rattle.meson_meaning.proofs.RemovedMissing.{only_extra_goes, only_removed_go}
use Rattle.meson_meaning.proofs.laws.removed.Goals as goal

pub returns-clause-sources : goal.returns-clause-sources
returns-clause-sources c = only_removed_go

pub returns-clause-extra_files : goal.returns-clause-extra_files
returns-clause-extra_files c = only_extra_goes
