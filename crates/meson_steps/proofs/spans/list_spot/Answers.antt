use Rattle.meson_steps.proofs.Words.{◌∙◌, ap, sym, option_and_then, view}
use Rattle.meson_steps.proofs.ListSpots.{spot_in, spot_reached}
use Rattle.meson_steps.proofs.spans.list_spot.Goals as goal

pub returns-in-Some : goal.returns-in-Some
returns-in-Some c = λ source. c.spot_in.ensures source ∙ ap (option_and_then spot_in) (c.in-Some.ensures source) ∙ sym (spot_reached (view source c.args.tree.now) c.args.path.now.steps)

pub returns-in-None : goal.returns-in-None
returns-in-None c = λ source. ap (option_and_then spot_in) (c.in-None.ensures source) ∙ sym (spot_reached (view source c.args.tree.now) c.args.path.now.steps)
