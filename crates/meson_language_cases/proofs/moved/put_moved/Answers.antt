use Rattle.std.proofs.Common.{arith}
use Rattle.meson_edit.proofs.borders.Files.{lists-end}
use Rattle.meson_language_cases.proofs.moved.put_moved.Goals as goal

pub move_by-requires : goal.move_by-requires
move_by-requires c =
    let far = lists-end c.bracket_of.result c.args.text.now c.in-Ok.list c.in-Ok.ensures.reads in
    omega (arith, far)
