use Rattle.meson_diff.proofs.Patched.{patched_is_new}
use Rattle.meson_diff.proofs.laws.patched_is_new.Goals as goal

pub returns : goal.returns
returns c = patched_is_new
