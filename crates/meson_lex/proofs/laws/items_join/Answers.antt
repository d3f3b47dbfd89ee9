use Rattle.meson_lex.proofs.Seams.{AreItems-append, AreItems-split}
use Rattle.meson_lex.proofs.laws.items_join.Goals as goal

pub returns : goal.returns
returns c = record { join = AreItems-append; split = AreItems-split }
