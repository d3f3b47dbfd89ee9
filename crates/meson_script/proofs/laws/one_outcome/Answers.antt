use Rattle.meson_script.proofs.Outcomes.{not-refused, one-outcome, one-refusal}
use Rattle.meson_script.proofs.laws.one_outcome.Goals as goal

pub returns-clause-performed : goal.returns-clause-performed
returns-clause-performed c = one-outcome

pub returns-clause-apart : goal.returns-clause-apart
returns-clause-apart c = not-refused

pub returns-clause-refused : goal.returns-clause-refused
returns-clause-refused c = one-refusal
