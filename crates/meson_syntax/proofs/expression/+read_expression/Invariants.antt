use Rattle.meson_syntax.proofs.expression.+read_expression.Given as goal

abbrev pub decreases-read_expression : goal.decreases-read_expression
decreases-read_expression l = l.depth
