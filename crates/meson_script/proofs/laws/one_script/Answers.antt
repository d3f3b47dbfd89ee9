use Rattle.meson_script.proofs.SameTrees.{one-project}
use Rattle.meson_script.proofs.Scripts.{not-stopped, one-result, one-stop}
use Rattle.meson_script.proofs.laws.one_script.Goals as goal

pub returns-clause-performed : goal.returns-clause-performed
returns-clause-performed c = one-result

pub returns-clause-places : goal.returns-clause-places
returns-clause-places c = one-project

pub returns-clause-apart : goal.returns-clause-apart
returns-clause-apart c = not-stopped

pub returns-clause-refused : goal.returns-clause-refused
returns-clause-refused c = one-stop
