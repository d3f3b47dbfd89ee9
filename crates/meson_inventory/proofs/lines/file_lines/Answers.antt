use Rattle.std.proofs.Common.{◌<◌, length, arith}
use Rattle.std.specs.Prelude.{string_bytes}
use Rattle.meson_inventory.proofs.FileSteps.{one_line}
use Rattle.meson_inventory.proofs.lines.file_lines.Goals as goal

pub loop-i-preserved : goal.loop-i-preserved
loop-i-preserved c =
    let within : c.loop-i.i < length c.args.files.now = omega (arith, c.loop-i-test.true, c.len-i-end.ensures) in
    one_line c.args.files.now c.loop-i.i within c.file_name.result.now c.file_name.ensures (string_bytes c.loop-i.text) _ _ _
    c.in_ok-push_str.ensures.bytes c.in_ok-push_str-2.ensures.bytes c.loop-i.invariant
