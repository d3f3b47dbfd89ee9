use Rattle.meson_steps.proofs.Words.{None, Some, list_at, view}
use Rattle.meson_steps.proofs.ListSpots.{looked_spot}
use Rattle.meson_steps.proofs.layouts.looked_at.Goals as goal

pub returns-in-Some : goal.returns-in-Some
returns-in-Some c = λ source. looked_spot c.args.of_list (list_at (view source c.args.tree.now) c.args.path.now.steps) (Some c.in-Some.spot) c.if-not-of_list.false (c.in-Some.ensures source)

pub returns-in-None : goal.returns-in-None
returns-in-None c = λ source. looked_spot c.args.of_list (list_at (view source c.args.tree.now) c.args.path.now.steps) None c.if-not-of_list.false (c.in-None.ensures source)
