use Rattle.std.proofs.Common.{length, ◌∙◌, ap}
use Rattle.meson_calls.specs.Roles.{is_target}
use Rattle.meson_calls.specs.Loading.{named_trees, views, project}
use Rattle.meson_calls.proofs.Loads.{as_many}
use Rattle.meson_plan.proofs.project.Project.is_target.Goals as goal

pub is_target-requires : goal.is_target-requires
is_target-requires c = ap length c.as_slice.ensures.value ∙ as_many _ _ c.self.invariant.0.parsed

pub returns : goal.returns
returns c =
    let files = c.self.inside.files in
    let call = c.args.call.now in
    c.is_target.ensures
    ∙ ap (λ ts. is_target (named_trees files (views files ts)) call) c.as_slice.ensures.value
    ∙ ap (λ l. is_target (project l) call) c.self.view_is
