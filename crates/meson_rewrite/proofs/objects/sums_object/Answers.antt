use Rattle.std.proofs.Common.{◌<◌, length, arith}
use Rattle.serde_json.specs.View.{view}
use Rattle.meson_rewrite.proofs.PlainObjects.{one-sum}
use Rattle.meson_rewrite.proofs.objects.sums_object.Goals as goal

pub loop-i-preserved : goal.loop-i-preserved
loop-i-preserved c =
    let within : c.loop-i.i < length c.args.files.now = omega (arith, c.loop-i-test.true, c.len-i-end.ensures) in
    one-sum c.args.files.now c.loop-i.i c.name.result.now c.bytes.result.now within c.name.ensures c.bytes.ensures view c.loop-i.list.items _ c.in_ok-sum_object.field-0 _
    c.in_ok-push.ensures.items c.in_ok-sum_object.ensures c.loop-i.invariant
