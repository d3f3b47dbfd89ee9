use Rattle.std.proofs.Common.{◌≡◌, ◌+◌, ◌-◌, ◌∙◌, ap, arith, length, subst, sym}
use Rattle.std.specs.Prelude.{reverse}
use Rattle.meson_rewrite.proofs.Names.{runs-left, stops-steps, undo-within}
use Rattle.meson_rewrite.specs.LoggedRuns.{newest_run}
use Rattle.meson_rewrite.specs.declared.logged_runs.Side.TheVariants as side
use Rattle.meson_rewrite.specs.inside.Edited.{IsWithin}
use Rattle.meson_rewrite.proofs.steps.back_to.Goals as goal

pub overflow_sub-runs : goal.overflow_sub-runs
overflow_sub-runs c =
    let old = c.args.session.now in
    let between = c.undo_to.new.self in
    let stops = c.in-Err.ensures.refused in
    let left = runs-left stops.done old.history between.history old.project.files between.project.files stops.are_done in
    omega (arith, left, ap length c.get-left.ensures, ap length c.get-runs.ensures)

pub undo_stop-requires : goal.undo_stop-requires
undo_stop-requires c =
    let between = c.undo_to.new.self in
    subst (λ files. IsWithin c.in-Err.fault (length files)) (sym c.files.ensures) (undo-within between.history between.project.files c.in-Err.fault c.in-Err.ensures.refused.refused)

pub returns-in_ok-run-in-Err-clause-refused : goal.returns-in_ok-run-in-Err-clause-refused
returns-in_ok-run-in-Err-clause-refused c =
    let old = c.args.session.now in
    let between = c.undo_to.new.self in
    let stops = c.in-Err.ensures.refused in
    let left = runs-left stops.done old.history between.history old.project.files between.project.files stops.are_done in
    let number : length c.get-runs.result.now - length c.get-left.result.now + 1 ≡ stops.done + 1 =
    omega (arith, left, ap length c.get-left.ensures, ap length c.get-runs.ensures) in
    let newest = c.in_ok-run-in-Err.ensures ∙ ap (λ n. newest_run side.Undo n (reverse c.get-left.result.now)) number
    ∙ ap (λ runs. newest_run side.Undo (stops.done + 1) (reverse runs)) c.get-left.ensures in
    stops-steps c.args.count old between c.files.result.now c.files.ensures c.in-Err.fault stops c.in_ok-run-in-Err.run' newest c.undo_stop.result c.undo_stop.ensures
