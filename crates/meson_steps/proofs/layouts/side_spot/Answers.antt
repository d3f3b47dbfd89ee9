use Rattle.meson_steps.proofs.Words.{◌∙◌, ap, sym, option_map, view}
use Rattle.meson_layout.specs.declared.primitive.LineSpot.TheVariants as spot
use Rattle.meson_steps.specs.inside.Working.{side_spot}
use Rattle.meson_steps.proofs.layouts.side_spot.Goals as goal

pub returns-in-Some : goal.returns-in-Some
returns-in-Some c = λ source. ap (option_map (spot.Above)) (c.in-Some.ensures source) ∙ ap (side_spot (view source c.args.tree.now) c.args.path.now.steps) (sym c.in-Above.is)

pub returns-in-None : goal.returns-in-None
returns-in-None c = λ source. ap (option_map (spot.Above)) (c.in-None.ensures source) ∙ ap (side_spot (view source c.args.tree.now) c.args.path.now.steps) (sym c.in-Above.is)

pub returns-in-Some-statement_span : goal.returns-in-Some-statement_span
returns-in-Some-statement_span c = λ source. ap (option_map (spot.Below)) (c.in-Some-statement_span.ensures source) ∙ ap (side_spot (view source c.args.tree.now) c.args.path.now.steps) (sym c.in-Below.is)

pub returns-in-None-statement_span : goal.returns-in-None-statement_span
returns-in-None-statement_span c = λ source. ap (option_map (spot.Below)) (c.in-None-statement_span.ensures source) ∙ ap (side_spot (view source c.args.tree.now) c.args.path.now.steps) (sym c.in-Below.is)
