use Rattle.meson_rewrite.proofs.SubjectWords.{subjects_are_words}
use Rattle.meson_rewrite.proofs.laws.subjects_are_words.Goals as goal

pub returns : goal.returns
returns c = subjects_are_words
