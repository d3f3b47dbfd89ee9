use Rattle.std.proofs.Common.{◌∙◌, arith}
use Rattle.std.proofs.lemmas.Result.{err_from_is_err_and}
use Rattle.meson_command.proofs.ValuesMeant.{fault-meant, meant-all, meant-more}
use Rattle.meson_command.proofs.argument.values_meant.Goals as goal

pub loop-word-preserved : goal.loop-word-preserved
loop-word-preserved c =
    rw c.in_ok-push.ensures.items
    (c.loop-word.invariant
    ∙ meant-more c.args.words.now c.loop-word.word-index c.loop-word.values.items c.word-item.result c.in_ok-value.value c.loop-word-test.true c.word-item.is c.in_ok-value.ensures.given)

pub returns-in_err-value-clause-refused : goal.returns-in_err-value-clause-refused
returns-in_err-value-clause-refused c =
    let p = err_from_is_err_and c.from_residual.result c.from_residual.ensures.1 in
    rw (p.1, p.2)
    (fault-meant c.in_err-value.field-0.0 c.args.words.now c.loop-word.word-index c.loop-word.values.items c.word-item.result c.loop-word-test.true c.word-item.is c.loop-word.invariant
    c.in_err-value.ensures.refused)

pub returns-clause-ok : goal.returns-clause-ok
returns-clause-ok c = c.loop-word.invariant ∙ meant-all c.args.words.now c.loop-word.word-index c.loop-word.values.items (omega arith)
