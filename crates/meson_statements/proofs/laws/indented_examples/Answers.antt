use Rattle.std.proofs.Common.{refl}
use Rattle.meson_statements.proofs.laws.indented_examples.Goals as goal

pub returns : goal.returns
returns c = record {
  lines = refl;
  returns = refl;
  empty = refl;
  blank = refl;
  further = refl;
  string = refl;
  bracket = refl;
  joined_line = refl;
  none = refl;
}
