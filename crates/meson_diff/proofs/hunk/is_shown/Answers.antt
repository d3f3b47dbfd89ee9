use Rattle.std.proofs.Common.{Bool, ◌+◌, ◌-◌, ◌∙◌, ap, ap₂}
use Rattle.std.specs.Prelude.{slice_range}
use Rattle.std.specs.List.{list_any}
use Rattle.meson_diff.specs.Alignment.{is_changed}
use Rattle.meson_diff.specs.declared.entry.Entry.{Entry}
use Rattle.meson_diff.proofs.Runs.{slice_range_min}
use Rattle.meson_diff.proofs.hunk.is_shown.Goals as goal

pub returns : goal.returns
returns c =
    let entries = c.args.entries.now in
    let changes : Entry → Bool = λ e. is_changed e.mark in
    c.any_changed.ensures
    ∙ ap₂ (λ a b. list_any changes (slice_range entries a b)) c.saturating_sub-from.ensures c.min-to.ensures
    ∙ ap (list_any changes) (slice_range_min entries (c.args.i - 3) (c.args.i + 1 + 3))
