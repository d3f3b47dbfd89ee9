use Rattle.meson_command.proofs.Entries.{entry-law}
use Rattle.meson_command.proofs.laws.words_mean_the_entry.Goals as goal

pub returns : goal.returns
returns c = entry-law
