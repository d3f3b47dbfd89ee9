use Rattle.std.proofs.Common.{◌<◌, length, arith}
use Rattle.serde_json.specs.View.{view}
use Rattle.meson_inventory.proofs.FileSteps.{one_value}
use Rattle.meson_inventory.proofs.inventory.files_value.Goals as goal

pub loop-i-preserved : goal.loop-i-preserved
loop-i-preserved c =
    let within : c.loop-i.i < length c.args.files.now = omega (arith, c.loop-i-test.true, c.len-i-end.ensures) in
    one_value c.args.files.now c.loop-i.i within c.file_name.result.now c.file_name.ensures view c.loop-i.list.items _ c.in_ok-try_from_str.field-0 _
    c.in_ok-push.ensures.items c.in_ok-try_from_str.ensures c.loop-i.invariant
