-- The code's statements of targets and targets to be, and what they mean.
use Rattle.std.specs.Prelude.{List, Result}
use Rattle.meson_lex.specs.declared.kinds.Span.{Span}
use Rattle.meson_calls.specs.declared.refusal.Refusal.{Refusal}
use Rattle.meson_calls.specs.Project.{Project}
use Rattle.meson_steps.specs.Steps.{Step}
use Rattle.meson_targets.specs.declared.target_adding.NewTarget.{NewTarget}
use Rattle.meson_targets.specs.TargetEdits.{target_added}

-- the steps that a new target means
abbrev pub new_target : Project Span → NewTarget → Result (List Step) Refusal
new_target p new = target_added p new.name.now new.kind.now new.folder.now new.sources.now
