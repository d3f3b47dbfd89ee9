-- A keyword argument that commands change is there once, or the call is refused.
use Rattle.std.proofs.Common.{sym, ◌∙◌}
use Rattle.meson_details.proofs.ChangedKeys.{changed_key_text}
use Rattle.meson_details.proofs.Told.{key_went, key_refused}
use Rattle.meson_details.proofs.duplicates.key_told.Goals as goal

pub at_most_once-requires : goal.at_most_once-requires
at_most_once-requires c = changed_key_text c.args.role c.args.key.now (sym c.is_key.ensures ∙ c.if-is_key.true)

pub returns-then-is_key-clause-told : goal.returns-then-is_key-clause-told
returns-then-is_key-clause-told c = λ function.
    let is = sym c.is_key.ensures ∙ c.if-is_key.true in
    key_went c.args.source.now c.args.arguments.now function c.args.role c.args.key.now is c.at_most_once.result c.at_most_once.ensures.few

pub returns-then-is_key-clause-refused : goal.returns-then-is_key-clause-refused
returns-then-is_key-clause-refused c = λ function.
    let is = sym c.is_key.ensures ∙ c.if-is_key.true in
    key_refused c.args.source.now c.args.arguments.now function c.args.role c.args.key.now is c.at_most_once.result c.at_most_once.ensures.twice
