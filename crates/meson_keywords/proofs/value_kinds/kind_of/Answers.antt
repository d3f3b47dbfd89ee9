-- A key of a kind is an identifier of the tables.
use Rattle.meson_keywords.proofs.Words.{sym, ◌∙◌, subst, IsKey}
use Rattle.meson_keywords.proofs.KeyNames.{identifier_list_key, switch_key, text_key, text_list_key}
use Rattle.meson_keywords.proofs.value_kinds.kind_of.Goals as goal

pub returns-then-is_text_key-clause-key : goal.returns-then-is_text_key-clause-key
returns-then-is_text_key-clause-key c =
    subst IsKey (c.as_bytes-name.ensures.value ∙ c.get.ensures)
    (text_key c.args.role c.as_bytes-name.result.now c.as_bytes-name.ensures.utf8 (sym c.is_text_key.ensures ∙ c.if-is_text_key.true))

pub returns-then-is_switch_key-clause-key : goal.returns-then-is_switch_key-clause-key
returns-then-is_switch_key-clause-key c =
    subst IsKey (c.as_bytes-name.ensures.value ∙ c.get.ensures)
    (switch_key c.args.role c.as_bytes-name.result.now c.as_bytes-name.ensures.utf8 (sym c.is_switch_key.ensures ∙ c.if-is_switch_key.true))

pub returns-then-is_text_list_key-clause-key : goal.returns-then-is_text_list_key-clause-key
returns-then-is_text_list_key-clause-key c =
    subst IsKey (c.as_bytes-name.ensures.value ∙ c.get.ensures)
    (text_list_key c.args.role c.as_bytes-name.result.now c.as_bytes-name.ensures.utf8 (sym c.is_text_list_key.ensures ∙ c.if-is_text_list_key.true))

pub returns-then-is_identifier_list_key-clause-key : goal.returns-then-is_identifier_list_key-clause-key
returns-then-is_identifier_list_key-clause-key c =
    subst IsKey (c.as_bytes-name.ensures.value ∙ c.get.ensures)
    (identifier_list_key c.args.role c.as_bytes-name.result.now c.as_bytes-name.ensures.utf8 (sym c.is_identifier_list_key.ensures ∙ c.if-is_identifier_list_key.true))
