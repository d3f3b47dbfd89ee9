use Rattle.std.proofs.Common.{[], ◌∷◌, sym, ap, ◌∙◌}
use Rattle.std.proofs.lemmas.Result.{IfOk-weaker}
use Rattle.meson_calls.specs.Loading.{project}
use Rattle.meson_targets.specs.inside.TargetViews.{place_view}
use Rattle.meson_targets.proofs.TargetsDoable.{statement_doable}
use Rattle.meson_places.specs.Names.{loaded_in}
use Rattle.meson_code.specs.Removal.{blank_lines, removal_step, unless_needed}
use Rattle.meson_code.proofs.removal.removed_at.Goals as goal

pub returns-clause-plan : goal.returns-clause-plan
returns-clause-plan c =
    let l = loaded_in c.args.sources in
    let a = place_view c.args.statement in
    let step = removal_step (project l) a in
    IfOk-weaker c.removal_step.result _ _ (λ steps bare. record {
      steps = step ∷ [];
      are_planned = ap (λ o. unless_needed o step) (sym c.in_ok-name.ensures ∙ c.in_default.is);
      are_doable = record { bare = bare; doable = statement_doable l c.requires.project (blank_lines (project l) a) a c.requires.there.0 c.requires.there.1 };
    }) c.removal_step.ensures.bare
