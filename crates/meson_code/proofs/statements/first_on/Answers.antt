use Rattle.meson_calls.proofs.WalkedWords.{file_fits}
use Rattle.meson_code.proofs.statements.first_on.Goals as goal

pub in_stmts-requires : goal.in_stmts-requires
in_stmts-requires c = record { fits = file_fits c.args.line.source.now c.args.parsed.now _ c.get.ensures c.requires }
