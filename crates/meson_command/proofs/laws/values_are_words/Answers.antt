use Rattle.meson_command.proofs.LaterWords.{code-law, later-law}
use Rattle.meson_command.proofs.laws.values_are_words.Goals as goal

pub returns-clause-later : goal.returns-clause-later
returns-clause-later c = later-law

pub returns-clause-code : goal.returns-clause-code
returns-clause-code c = code-law
