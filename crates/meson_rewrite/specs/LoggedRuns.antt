-- The runs of the log, as `history` lists them.
use Rattle.std.specs.Prelude.{ℕ, List, [], ◌∷◌, Option, Some, None}
use Rattle.meson_splice.specs.declared.change.Change.{Change}
use Rattle.meson_rewrite.specs.declared.logged_runs.LoggedRun.{LoggedRun}
use Rattle.meson_rewrite.specs.declared.logged_runs.Side.{Side}

-- of runs of a side, the newest first, the first one, which has this number
abbrev pub newest_run : Side → ℕ → List Change → Option LoggedRun
newest_run side number [] = None
newest_run side number (c ∷ older) = Some (record { side = side; number = number; title = c.title })
