use Rattle.meson_statements.proofs.Counted.{counted}
use Rattle.meson_statements.proofs.laws.blank_lines.Goals as goal

pub returns : goal.returns
returns c = counted
