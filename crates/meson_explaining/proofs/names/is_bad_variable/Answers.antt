use Rattle.std.proofs.Common.{ap}
use Rattle.std.specs.Prelude.{not}
use Rattle.meson_explaining.proofs.Identifiers.{identifier_is}
use Rattle.meson_explaining.proofs.names.is_bad_variable.Goals as goal

pub returns : goal.returns
returns c = ap not (identifier_is c.is_identifier.result c.args.text.now c.is_identifier.ensures)
