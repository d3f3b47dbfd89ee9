use Rattle.std.proofs.Common.{rules}
use Rattle.meson_rewrite.proofs.Insides.{text_inside}
use Rattle.meson_rewrite.proofs.quoted.write_inside.Goals as goal

pub returns : goal.returns
returns g c = text_inside _ _ _ _ _ (g.D.Display.output c.args.text.now) (λ name. search rules) c.write.ensures.writes
