-- What an order means: its steps, or why it is refused.
use Rattle.std.specs.Prelude.{◌≡◌, ℕ, List}
use Rattle.meson_calls.specs.declared.call.Role.{Role}
use Rattle.meson_calls.specs.declared.call.Role.TheVariants as role
use Rattle.meson_calls.specs.Loading.{Loaded, project}
use Rattle.meson_steps.specs.Done.{Meaning}
use Rattle.meson_steps.specs.declared.command.Command.{Command}
use Rattle.meson_steps.specs.declared.command.Command.TheVariants as command
use Rattle.meson_sources.specs.Targeted.{renamed_steps, sorted_steps, target_steps}
use Rattle.meson_followed.specs.Changes.{target_changed}
use Rattle.meson_targets.specs.TargetEdits.{named_removed}
use Rattle.meson_targets.specs.TargetViews.{new_target}
use Rattle.meson_keywords.specs.Changing.{request_steps}
use Rattle.meson_keywords.specs.Tasking.{request_view}
use Rattle.meson_plan.specs.Planning.{Means}
use Rattle.meson_plan.specs.declared.order.Order.{Order}
use Rattle.meson_plan.specs.declared.order.Order.TheVariants as order
use Rattle.meson_plan.specs.declared.order.Plan.{Plan}
use Rattle.meson_plan.specs.declared.order.Plan.TheVariants as plan
use Rattle.meson_calls.specs.Searching.{name_at}

-- the role and the name or variable of the call that is searched for
abbrev pub sought : Plan → Role × List ℕ
sought (plan.OnTarget target change names) = (role.Target, target.id.now)
sought (plan.SortSources target names) = (role.Target, target.id.now)
sought (plan.RenameSources target names) = (role.Target, target.id.now)
sought (plan.FollowSources target change shared) = (role.Target, target.id.now)
sought (plan.AddTarget new) = (role.Target, new.name.now)
sought (plan.RemoveTarget target) = (role.Target, target.id.now)

abbrev pub plan_steps : Loaded → Plan → Meaning
plan_steps l (plan.OnTarget target change names) = target_steps (project l) (name_at target) change names.now
plan_steps l (plan.SortSources target names) = sorted_steps l.files (project l) (name_at target) names.now
plan_steps l (plan.RenameSources target names) = renamed_steps (project l) (name_at target) names.old.now names.new.now
plan_steps l (plan.FollowSources target change shared) = target_changed (project l) (name_at target) change.now shared
plan_steps l (plan.AddTarget new) = new_target (project l) new
plan_steps l (plan.RemoveTarget target) = named_removed (project l) (name_at target)

-- an order of a command: its steps are those that the command means, or it is the change of a value, the code or the removal that the command is
abbrev pub IsOrder : Command → Order → Type 0
IsOrder c (order.Planned q) = (l : Loaded) → Means l c (plan_steps l q)
IsOrder c (order.Changed r) = (l : Loaded) → Means l c (request_steps (project l) (request_view r))
IsOrder c (order.OnValue name change) = c ≡ command.Argument name.now change.now
IsOrder c (order.InsertCode i) = c ≡ command.CodeInsert i.place.now i.code.now i.blank
IsOrder c (order.RemoveCode r) = c ≡ command.CodeRemove r.statement.now r.unused

-- what a command means, as it is done or refused
abbrev pub Ends : Loaded → Command → (Meaning → Type 0) → Type 0
Ends l c Ended = (meant : Meaning) × Means l c meant × Ended meant
