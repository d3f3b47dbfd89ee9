use Rattle.meson_command.proofs.WordsInPairs.{odd-law, pairs-law, unset-law}
use Rattle.meson_command.proofs.laws.pairs_are_the_words.Goals as goal

pub returns-clause-pairs : goal.returns-clause-pairs
returns-clause-pairs c = pairs-law

pub returns-clause-odd : goal.returns-clause-odd
returns-clause-odd c = odd-law

pub returns-clause-unset : goal.returns-clause-unset
returns-clause-unset c = unset-law
