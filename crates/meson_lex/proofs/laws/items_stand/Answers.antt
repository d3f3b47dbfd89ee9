use Rattle.meson_lex.proofs.Standing.{lexed_stand}
use Rattle.meson_lex.proofs.laws.items_stand.Goals as goal

pub returns : goal.returns
returns c = lexed_stand
