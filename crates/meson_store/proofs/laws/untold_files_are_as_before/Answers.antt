use Rattle.meson_store.proofs.Leaving.{untold-is-as-before}
use Rattle.meson_store.proofs.laws.untold_files_are_as_before.Goals as goal

pub returns : goal.returns
returns c = untold-is-as-before
