use Rattle.meson_lex.proofs.Written.{literal_value}
use Rattle.meson_lex.proofs.laws.literal_reads_back.Goals as goal

pub returns : goal.returns
returns c = literal_value
