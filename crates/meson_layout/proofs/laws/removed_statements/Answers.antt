use Rattle.meson_layout.proofs.StatementLaws.{statement-removal-law}
use Rattle.meson_layout.proofs.laws.removed_statements.Goals as goal

pub returns : goal.returns
returns c = statement-removal-law
