use Rattle.meson_entering.proofs.NoSubdirs.{not_found}
use Rattle.meson_entering.proofs.entering.may_enter.Goals as goal

pub returns : goal.returns
returns c = not_found c.args.bytes.now _ c.find.result c.is_some.result c.find.ensures c.as_slice.ensures c.is_some.ensures
