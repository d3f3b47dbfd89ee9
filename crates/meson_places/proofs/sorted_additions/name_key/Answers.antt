use Rattle.std.proofs.Common.{◌≡◌, true, false, sym, ap, ◌∙◌}
use Rattle.std.specs.Prelude.{Bool, if◌then◌else◌}
use Rattle.meson_steps.specs.declared.order.SortKey.{SortKey}
use Rattle.meson_steps.specs.declared.order.SortKey.TheVariants as key
use Rattle.meson_steps.specs.Identifiers.{is_identifier}
use Rattle.meson_steps.proofs.Identifiers.{identifier_is}
use Rattle.meson_places.proofs.sorted_additions.name_key.Goals as goal

pub returns-then-not-is_identifier : goal.returns-then-not-is_identifier
returns-then-not-is_identifier c =
    let code = c.args.code.now in
    let is : is_identifier code ≡ false = sym (identifier_is c.is_identifier.result code c.is_identifier.ensures) ∙ c.if-not-is_identifier.true in
    let by : Bool → SortKey = λ b. if b then key.Name code else key.Other in
    sym (ap by is)

pub returns : goal.returns
returns c =
    let code = c.args.code.now in
    let is : is_identifier code ≡ true = sym (identifier_is c.is_identifier.result code c.is_identifier.ensures) ∙ c.if-not-is_identifier.false in
    let by : Bool → SortKey = λ b. if b then key.Name code else key.Other in
    ap key.Name (c.of.ensures ∙ c.in_ok-name.ensures.items ∙ c.as_bytes.ensures.value) ∙ sym (ap by is)
