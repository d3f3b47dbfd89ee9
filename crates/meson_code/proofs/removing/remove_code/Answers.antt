use Rattle.std.proofs.Common.{◌≡◌, ◌++◌, Ok, Err, ap, ◌∙◌, subst}
use Rattle.std.specs.Prelude.{if◌then◌else◌}
use Rattle.std.proofs.lemmas.Result.{err_from_is_err_and}
use Rattle.meson_splice.specs.Patch.{then_ok}
use Rattle.meson_steps.specs.Done.{unmeant}
use Rattle.meson_steps.specs.Working.{so_far}
use Rattle.meson_targets.specs.inside.TargetViews.{place_view}
use Rattle.meson_places.specs.Names.{loaded_in}
use Rattle.meson_code.specs.Anchors.{the_anchor}
use Rattle.meson_code.specs.Removal.{removed_at}
use Rattle.meson_code.specs.Removing.{code_removed_at, steps_after}
use Rattle.meson_code.proofs.AnchorsFound.{anchors_are_there}
use Rattle.meson_code.proofs.removing.remove_code.Goals as goal

pub returns-in_err-statement-clause-refused : goal.returns-in_err-statement-clause-refused
returns-in_err-statement-clause-refused c =
    let error = err_from_is_err_and c.from_residual.result c.from_residual.ensures.1 in
    rw (error.1, error.2) (λ other.
    let old = so_far c.args.work.now in
    let s = c.args.removal.statement.now in
    let e = c.in_err-statement.field-0.0 in
    let why = subst (λ l. the_anchor l s ≡ Err e) c.sources_of-sources.ensures (c.in_err-statement.ensures.refused other) in
    unmeant e (ap (λ r. then_ok r (code_removed_at old c.args.removal.unused)) why))

pub remove_with_unused-requires-clause-there : goal.remove_with_unused-requires-clause-there
remove_with_unused-requires-clause-there c =
    let s = c.args.removal.statement.now in
    let a = place_view c.in_ok-statement.statement in
    anchors_are_there (so_far c.args.work.now) s a (subst (λ l. the_anchor l s ≡ Ok a) c.sources_of-sources.ensures c.in_ok-statement.ensures.found)

pub removed_at-requires-clause-there : goal.removed_at-requires-clause-there
removed_at-requires-clause-there c =
    let s = c.args.removal.statement.now in
    anchors_are_there (loaded_in c.sources_of-sources.result) s (place_view c.in_ok-statement.statement) c.in_ok-statement.ensures.found

pub returns-in_err-steps-clause-refused : goal.returns-in_err-steps-clause-refused
returns-in_err-steps-clause-refused c =
    let error = err_from_is_err_and c.from_residual-in_err-steps.result c.from_residual-in_err-steps.ensures.1 in
    rw (error.1, error.2) (λ other.
    let old = so_far c.args.work.now in
    let s = c.args.removal.statement.now in
    let unused = c.args.removal.unused in
    let a = place_view c.in_ok-statement.statement in
    let e = c.in_err-steps.field-0.0 in
    let found = subst (λ l. the_anchor l s ≡ Ok a) c.sources_of-sources.ensures c.in_ok-statement.ensures.found in
    let why = subst (λ l. removed_at l a ≡ Err e) c.sources_of-sources.ensures (c.in_err-steps.ensures.refused other) in
    unmeant e (ap (λ r. then_ok r (code_removed_at old unused)) found ∙ ap (λ m. then_ok m (λ ss. Ok (if unused then ss ++ steps_after old a else ss))) why))
