use Rattle.meson_script.proofs.Loading.{loads-or-wants-memory}
use Rattle.meson_script.proofs.laws.loads_or_wants_memory.Goals as goal

pub returns : goal.returns
returns c = loads-or-wants-memory
