use Rattle.std.proofs.Common.{◌∙◌, ap, sym, Some, rules}
use Rattle.meson_syntax.specs.Paths.{nth}
use Rattle.meson_syntax.proofs.Looks.{nth-here, nth-past}
use Rattle.meson_syntax.proofs.PartsOf.{stmt_part, stmts-parts}
use Rattle.meson_syntax.proofs.path.in_statements.Goals as goal

pub returns-in-Some : goal.returns-in-Some
returns-in-Some c = λ source.
    let stmts = c.args.statements.now in
    let found = c.in-Some.ensures.lookup in
    ap (λ s. Some (stmt_part source s)) found.1
    ∙ sym (nth-here (stmt_part source) stmts c.args.n c.in-Some.statement.now (search rules))
    ∙ sym (ap (λ l. nth l c.args.n) (stmts-parts source stmts))

pub returns-in-None : goal.returns-in-None
returns-in-None c = λ source.
    let stmts = c.args.statements.now in
    sym (nth-past (stmt_part source) stmts c.args.n (search rules))
    ∙ sym (ap (λ l. nth l c.args.n) (stmts-parts source stmts))
