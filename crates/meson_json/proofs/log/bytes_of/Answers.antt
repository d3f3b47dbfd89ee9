use Rattle.std.proofs.Common.{◌∙◌, ap}
use Rattle.std.specs.Str.{is_utf8}
use Rattle.std.proofs.lemmas.Str.{is_utf8-from_IsUtf8}
use Rattle.meson_json.proofs.log.bytes_of.Goals as goal

pub returns-clause-text : goal.returns-clause-text
returns-clause-text c =
    ap is_utf8 (c.of.ensures ∙ c.in_ok-from_slice.ensures.items ∙ c.as_bytes.ensures.value) ∙ is_utf8-from_IsUtf8 c.args.text.now c.utf8.text
