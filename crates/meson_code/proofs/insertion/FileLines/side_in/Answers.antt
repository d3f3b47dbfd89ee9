use Rattle.std.proofs.Common.{Some, sym, ap, ◌∙◌}
use Rattle.std.specs.Prelude.{option_map}
use Rattle.meson_syntax.specs.View.{view}
use Rattle.meson_statements.specs.declared.places.Side.TheVariants as beside
use Rattle.meson_code.specs.Insertion.{side_in}
use Rattle.meson_code.proofs.insertion.FileLines.side_in.Goals as goal

pub returns-in-Some : goal.returns-in-Some
returns-in-Some c = λ source. ap (option_map beside.Above) (c.in-Some.ensures source) ∙ ap (side_in (view source c.args.tree.now) c.args.self.now.block.path.steps) (sym c.in-Above.is)

pub returns-in-None : goal.returns-in-None
returns-in-None c = λ source. ap (option_map beside.Above) (c.in-None.ensures source) ∙ ap (side_in (view source c.args.tree.now) c.args.self.now.block.path.steps) (sym c.in-Above.is)

pub returns-in-Some-statement_span : goal.returns-in-Some-statement_span
returns-in-Some-statement_span c = λ source. ap (option_map beside.Below) (c.in-Some-statement_span.ensures source) ∙ ap (side_in (view source c.args.tree.now) c.args.self.now.block.path.steps) (sym c.in-Below.is)

pub returns-in-None-statement_span : goal.returns-in-None-statement_span
returns-in-None-statement_span c = λ source. ap (option_map beside.Below) (c.in-None-statement_span.ensures source) ∙ ap (side_in (view source c.args.tree.now) c.args.self.now.block.path.steps) (sym c.in-Below.is)

pub returns-in-End : goal.returns-in-End
returns-in-End c = λ source. ap (λ o. Some (beside.End o)) (c.last_span.ensures source) ∙ ap (side_in (view source c.args.tree.now) c.args.self.now.block.path.steps) (sym c.in-End.is)
