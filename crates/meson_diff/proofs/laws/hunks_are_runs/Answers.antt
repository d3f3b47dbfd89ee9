use Rattle.meson_diff.proofs.Pieces.{hunks_hold_all}
use Rattle.meson_diff.proofs.Runs.{hidden_are_kept, hunks_are_runs}
use Rattle.meson_diff.proofs.laws.hunks_are_runs.Goals as goal

pub returns : goal.returns
returns c = record { runs = hunks_are_runs; all = hunks_hold_all; kept = hidden_are_kept }
