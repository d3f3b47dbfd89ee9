use Rattle.meson_steps.proofs.Words.{ap, ◌∙◌, sym, option_and_then, view, block_at, statement_in}
use Rattle.meson_steps.proofs.StatementsThere.{in_inside}
use Rattle.meson_steps.proofs.statements.stmt_at.Goals as goal

pub returns-in-Some : goal.returns-in-Some
returns-in-Some c = λ source.
    c.stmt_in.ensures source ∙ ap (option_and_then (λ b. statement_in b c.args.n)) (c.in-Some.ensures source)
    ∙ sym (in_inside (block_at (view source c.args.tree.now) c.args.path.now.steps) c.args.n)

pub returns-in-None : goal.returns-in-None
returns-in-None c = λ source.
    ap (option_and_then (λ b. statement_in b c.args.n)) (c.in-None.ensures source)
    ∙ sym (in_inside (block_at (view source c.args.tree.now) c.args.path.now.steps) c.args.n)
