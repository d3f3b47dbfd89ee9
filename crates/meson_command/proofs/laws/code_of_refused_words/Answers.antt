use Rattle.meson_command.proofs.ReadCode.{refused-law}
use Rattle.meson_command.proofs.laws.code_of_refused_words.Goals as goal

pub returns : goal.returns
returns c = refused-law
