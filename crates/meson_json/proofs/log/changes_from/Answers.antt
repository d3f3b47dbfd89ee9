use Rattle.std.proofs.Common.{◌∙◌, arith}
use Rattle.std.proofs.lemmas.Result.{err_from_is_err_and}
use Rattle.meson_json.specs.Log.{change_has_text, change_of}
use Rattle.meson_json.proofs.EachFacts.{all-more, each_of-more, each_of-refuses, each_of-all}
use Rattle.meson_json.proofs.log.changes_from.Goals as goal

pub returns-in_err-change-clause-refused : goal.returns-in_err-change-clause-refused
returns-in_err-change-clause-refused c =
    let error = err_from_is_err_and c.from_residual.result c.from_residual.ensures.1 in
    rw (error.1, error.2) (λ n.
    let r = c.in_err-change.ensures.refused n in
    (r.0, c.loop-value.invariant.read ∙ each_of-refuses (change_of c.args.version) c.args.list.now c.loop-value.value-index c.loop-value.changes.items c.value-item.result c.loop-value-test.true c.value-item.is r.1))

pub loop-value-preserved : goal.loop-value-preserved
loop-value-preserved c = record {
  read =
      rw c.in_ok-push.ensures.items
      (c.loop-value.invariant.read ∙ each_of-more (change_of c.args.version) c.args.list.now c.loop-value.value-index c.loop-value.changes.items c.value-item.result c.in_ok-change.change c.loop-value-test.true c.value-item.is c.in_ok-change.ensures.ok);
  text = rw c.in_ok-push.ensures.items (all-more change_has_text c.loop-value.changes.items c.in_ok-change.change c.loop-value.invariant.text c.in_ok-change.ensures.text);
}

pub returns-clause-ok : goal.returns-clause-ok
returns-clause-ok c =
    rw c.of.ensures (c.loop-value.invariant.read ∙ each_of-all (change_of c.args.version) c.args.list.now c.loop-value.value-index c.loop-value.changes.items (omega arith))
