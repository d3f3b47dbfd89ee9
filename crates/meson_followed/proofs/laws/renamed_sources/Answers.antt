use Rattle.meson_followed.proofs.RenameLaws.{old_are_renamed}
use Rattle.meson_followed.proofs.WrittenNames.{names-mean-paths}
use Rattle.meson_followed.proofs.laws.renamed_sources.Goals as goal

pub returns-clause-old_are_renamed : goal.returns-clause-old_are_renamed
returns-clause-old_are_renamed c = old_are_renamed

pub returns-clause-names_mean_paths : goal.returns-clause-names_mean_paths
returns-clause-names_mean_paths c = names-mean-paths
