use Rattle.meson_lex.proofs.TokenWords.{words-located}
use Rattle.meson_lex.proofs.laws.located_tokens.Goals as goal

pub returns : goal.returns
returns c = words-located
