use Rattle.meson_targets.proofs.Words.{sym, ap, ◌∙◌, arith, option_and_then, bytes_at, stmt_view, view, block_at, statement_in, as_many, held_by, place_view}
use Rattle.meson_targets.proofs.StatementsRemoved.{no_statement, statement_is}
use Rattle.meson_targets.proofs.holder.held_at.Goals as goal

pub returns-then-line-trees : goal.returns-then-line-trees
returns-then-line-trees c = no_statement c.args.files.now c.args.trees.now (place_view c.args.line.now) c.if-line-trees.true

pub bytes-requires : goal.bytes-requires
bytes-requires c =
    let within = c.if-line-trees.false in
    let many = as_many c.args.files.now c.args.trees.now c.requires in
    omega (arith, within, many)

pub returns-in-Some : goal.returns-in-Some
returns-in-Some c =
    let files = c.args.files.now in
    let trees = c.args.trees.now in
    let line = place_view c.args.line.now in
    let bytes = bytes_at line.block.file files in
    c.held_by.ensures
    ∙ ap (λ s. held_by (stmt_view s c.in-Some.stmt.now)) c.bytes.ensures
    ∙ ap (option_and_then held_by) (c.in-Some.ensures bytes ∙ ap (λ t. option_and_then (λ b. statement_in b.inside line.number) (block_at (view bytes t) line.block.path.steps)) c.index-trees-line.is)
    ∙ sym (ap (option_and_then held_by) (statement_is files trees line c.index-trees-line.result (as_many files trees c.requires) c.if-line-trees.false))

pub returns-in-None : goal.returns-in-None
returns-in-None c =
    let files = c.args.files.now in
    let trees = c.args.trees.now in
    let line = place_view c.args.line.now in
    let bytes = bytes_at line.block.file files in
    ap (option_and_then held_by) (c.in-None.ensures bytes ∙ ap (λ t. option_and_then (λ b. statement_in b.inside line.number) (block_at (view bytes t) line.block.path.steps)) c.index-trees-line.is)
    ∙ sym (ap (option_and_then held_by) (statement_is files trees line c.index-trees-line.result (as_many files trees c.requires) c.if-line-trees.false))
