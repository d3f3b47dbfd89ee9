use Rattle.meson_lex.proofs.ScanLexed.{one_lexed}
use Rattle.meson_lex.proofs.laws.one_answer.Goals as goal

pub returns : goal.returns
returns c = one_lexed
