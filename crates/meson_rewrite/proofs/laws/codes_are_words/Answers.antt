use Rattle.meson_rewrite.proofs.CodeWords.{codes_are_words}
use Rattle.meson_rewrite.proofs.laws.codes_are_words.Goals as goal

pub returns : goal.returns
returns c = codes_are_words
