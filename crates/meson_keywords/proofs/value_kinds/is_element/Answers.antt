-- The test of one text.
use Rattle.meson_keywords.proofs.Words.{ap, ◌∙◌, is_identifier}
use Rattle.meson_keywords.proofs.ElementTests.{lone_identifier}
use Rattle.meson_steps.proofs.Identifiers.{identifier_is}
use Rattle.meson_keywords.proofs.value_kinds.is_element.Goals as goal

pub returns-in-Identifier-clause-known : goal.returns-in-Identifier-clause-known
returns-in-Identifier-clause-known c =
    lone_identifier c.args.kind c.args.text.now c.is_identifier.result c.in-Identifier.is
    (identifier_is c.is_identifier.result c.get-text.result.now c.is_identifier.ensures ∙ ap is_identifier c.get-text.ensures)
