use Rattle.meson_followed_values.proofs.Owned.{adds_to_own_value, loses_each_value, loses_own_values}
use Rattle.meson_followed_values.proofs.laws.own_values.Goals as goal

pub returns-clause-added : goal.returns-clause-added
returns-clause-added c = adds_to_own_value

pub returns-clause-lost : goal.returns-clause-lost
returns-clause-lost c = loses_own_values

pub returns-clause-each : goal.returns-clause-each
returns-clause-each c = loses_each_value
