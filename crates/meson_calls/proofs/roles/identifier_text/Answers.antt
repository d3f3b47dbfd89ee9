use Rattle.meson_calls.proofs.IdentifierTexts.{identifier_utf8}
use Rattle.meson_calls.proofs.roles.identifier_text.Goals as goal

pub unreachable-requires : goal.unreachable-requires
unreachable-requires c = c.in-Err.ensures.cases.0 (identifier_utf8 c.args.name.now c.requires)
