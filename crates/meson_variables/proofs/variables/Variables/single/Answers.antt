use Rattle.meson_variables.proofs.Words.{◌∙◌, sym}
use Rattle.meson_variables.proofs.variables.Variables.single.Goals as goal

pub returns-then-has : goal.returns-then-has
returns-then-has c = c.of.ensures ∙ c.requires.values c.args.name.now (sym c.has.ensures ∙ c.if-has.true)
