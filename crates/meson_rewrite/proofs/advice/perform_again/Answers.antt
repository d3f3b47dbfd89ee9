use Rattle.meson_script.proofs.RunFacts.{runs-of}
use Rattle.meson_rewrite.proofs.advice.perform_again.Goals as goal

pub returns-in-Ok : goal.returns-in-Ok
returns-in-Ok c =
    let to = c.in-Ok.ensures.done in
    let runs = runs-of to.runs in
    record { splices = _; relexed = _; listings = runs.0; runs = runs.1 }
