use Rattle.meson_variables.proofs.Words.{project_good}
use Rattle.meson_variables.proofs.variables.Variables.mentioning.Goals as goal

pub returns-in_ok-values-in-None-clause-holds : goal.returns-in_ok-values-in-None-clause-holds
returns-in_ok-values-in-None-clause-holds c =
    record { whole = c.requires.whole; good = project_good c.args.files.now c.args.trees.now c.requires.whole.parsed; kept = c.requires.kept; values = λ x all. c.in_ok-values-in-None.ensures x }
