use Rattle.std.proofs.Common.{◌∙◌, arith}
use Rattle.std.proofs.lemmas.Result.{err_from_is_err_and}
use Rattle.meson_json.specs.Log.{is_text, splice_of_data}
use Rattle.meson_json.proofs.EachFacts.{all-more, each_of-more, each_of-refuses, each_of-all}
use Rattle.meson_json.proofs.log.splices_from.Goals as goal

pub returns-in_err-splice-clause-refused : goal.returns-in_err-splice-clause-refused
returns-in_err-splice-clause-refused c =
    let error = err_from_is_err_and c.from_residual.result c.from_residual.ensures.1 in
    rw (error.1, error.2) (λ n.
    let r = c.in_err-splice.ensures.refused n in
    (r.0, c.loop-value.invariant.read ∙ each_of-refuses splice_of_data c.args.list.now c.loop-value.value-index c.loop-value.splices.items c.value-item.result c.loop-value-test.true c.value-item.is r.1))

pub loop-value-preserved : goal.loop-value-preserved
loop-value-preserved c = record {
  read =
      rw c.in_ok-push.ensures.items
      (c.loop-value.invariant.read ∙ each_of-more splice_of_data c.args.list.now c.loop-value.value-index c.loop-value.splices.items c.value-item.result c.in_ok-splice.splice c.loop-value-test.true c.value-item.is c.in_ok-splice.ensures.ok);
  text = rw c.in_ok-push.ensures.items (all-more is_text c.loop-value.splices.items c.in_ok-splice.splice c.loop-value.invariant.text c.in_ok-splice.ensures.text);
}

pub returns-clause-ok : goal.returns-clause-ok
returns-clause-ok c =
    rw c.of.ensures (c.loop-value.invariant.read ∙ each_of-all splice_of_data c.args.list.now c.loop-value.value-index c.loop-value.splices.items (omega arith))
