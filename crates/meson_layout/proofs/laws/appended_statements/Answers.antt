use Rattle.meson_layout.proofs.AppendLaws.{append-law}
use Rattle.meson_layout.proofs.laws.appended_statements.Goals as goal

pub returns : goal.returns
returns c = append-law
