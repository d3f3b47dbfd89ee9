use Rattle.meson_variables.proofs.Words.{◌≡◌, ℕ, List, subst, IfSome, project_in, project_good, value_in, single}
use Rattle.meson_variables.proofs.variables.Variables.near_noted.Goals as goal

pub returns-in-Some-clause-holds : goal.returns-in-Some-clause-holds
returns-in-Some-clause-holds c =
    let n = c.args.noted.now in
    let whole = c.requires.2.whole in
    let so = subst (λ o. IfSome o (λ values. (x : List ℕ) → value_in values x ≡ single (project_in n) x)) c.in-Some.is c.in_ok-values.ensures in
    record { whole = whole; good = project_good n.files.now n.trees.now whole.parsed; kept = c.requires.2.kept; values = λ x all. so x }
