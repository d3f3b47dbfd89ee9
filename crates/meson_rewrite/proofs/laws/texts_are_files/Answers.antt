use Rattle.meson_rewrite.proofs.TextLaws.{answers-as-files, texts-are-files}
use Rattle.meson_rewrite.proofs.laws.texts_are_files.Goals as goal

pub returns-clause-files : goal.returns-clause-files
returns-clause-files c = texts-are-files

pub returns-clause-answers : goal.returns-clause-answers
returns-clause-answers c = answers-as-files
