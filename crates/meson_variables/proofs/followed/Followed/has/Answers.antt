use Rattle.meson_variables.proofs.Words.{◌∙◌}
use Rattle.meson_variables.proofs.followed.Followed.has.Goals as goal

pub returns : goal.returns
returns c = c.contains.ensures ∙ c.args.self.now.same c.args.name.now
