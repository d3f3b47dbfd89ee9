use Rattle.std.proofs.Common.{sym, arith}
use Rattle.meson_splice.proofs.Saving.{with_bytes-beyond}
use Rattle.meson_splice.proofs.file_set.FileSet.restore.Goals as goal

pub returns-else-i-len : goal.returns-else-i-len
returns-else-i-len c = rw (← c.self.view_is) (sym (with_bytes-beyond c.self.inside.files.items c.args.i c.args.bytes (omega arith)))
