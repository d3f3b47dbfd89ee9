use Rattle.meson_explaining.proofs.Excerpted.{fault_lines_have_no_control}
use Rattle.meson_explaining.proofs.laws.fault_lines_have_no_control.Goals as goal

pub returns : goal.returns
returns c = fault_lines_have_no_control
