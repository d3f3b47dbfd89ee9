use Rattle.std.proofs.Common.{◌∙◌}
use Rattle.meson_warnings.proofs.SomeNames.{any_views}
use Rattle.meson_warnings.proofs.unset_names.is_assigned.Goals as goal

pub returns : goal.returns
returns c = c.any_assigns.ensures ∙ any_views c.args.name.now c.args.parts.now
