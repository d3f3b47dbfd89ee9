use Rattle.std.proofs.Common.{◌∙◌, arith}
use Rattle.std.proofs.lemmas.Result.{err_from_is_err_and}
use Rattle.meson_json.proofs.ScriptFacts.{entries-more, entries-refused, entries-all}
use Rattle.meson_json.proofs.script.entry_commands.Goals as goal

pub returns-in_err-command-clause-refused : goal.returns-in_err-command-clause-refused
returns-in_err-command-clause-refused c =
    let error = err_from_is_err_and c.from_residual.result c.from_residual.ensures.1 in
    rw (error.1, error.2) (λ n.
    let l = c.loop-index in
    l.invariant ∙ entries-refused c.args.unknown c.args.list.now l.index l.commands.items c.index-list-index.result c.in_err-command.field-0.0 c.loop-index-test.true c.index-list-index.is (c.in_err-command.ensures.refused n))

pub loop-index-preserved : goal.loop-index-preserved
loop-index-preserved c =
    let l = c.loop-index in
    rw c.in_ok-push.ensures.items
    (l.invariant ∙ entries-more c.args.unknown c.args.list.now l.index l.commands.items c.index-list-index.result c.in_ok-command.command c.loop-index-test.true c.index-list-index.is c.in_ok-command.ensures.ok)

pub returns-clause-ok : goal.returns-clause-ok
returns-clause-ok c =
    let l = c.loop-index in
    rw c.of.ensures (l.invariant ∙ entries-all c.args.unknown c.args.list.now l.index l.commands.items (omega arith))
