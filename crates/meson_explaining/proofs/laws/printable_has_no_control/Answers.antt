use Rattle.meson_explaining.proofs.Printed.{printable_has_no_control}
use Rattle.meson_explaining.proofs.laws.printable_has_no_control.Goals as goal

pub returns : goal.returns
returns c = printable_has_no_control
