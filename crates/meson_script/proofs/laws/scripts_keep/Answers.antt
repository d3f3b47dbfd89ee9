use Rattle.meson_script.proofs.Untouched.{scripts-keep}
use Rattle.meson_script.proofs.laws.scripts_keep.Goals as goal

pub returns : goal.returns
returns c = scripts-keep
