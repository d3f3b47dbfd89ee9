use Rattle.std.proofs.Common.{[], ◌∷◌}
use Rattle.meson_syntax.specs.Children.{an_expression}
use Rattle.meson_syntax.specs.inside.Children.{rust_operands_parts}
use Rattle.meson_syntax.specs.View.{expr_view}
use Rattle.meson_syntax.proofs.Looks.{among-first, among-others}
use Rattle.meson_syntax.proofs.path.in_row.Goals as goal

pub returns-in-Node : goal.returns-in-Node
returns-in-Node c = λ source. among-first (an_expression (expr_view source c.args.first.now) ∷ []) (rust_operands_parts source c.args.rest.now) c.args.n _ (c.in-Node.ensures source)

pub returns-in-Left : goal.returns-in-Left
returns-in-Left c = λ source.
    among-others (an_expression (expr_view source c.args.first.now) ∷ []) (rust_operands_parts source c.args.rest.now) c.args.n c.in-Left.left _ (c.in-Left.ensures source) (c.in_operands.ensures source)
