use Rattle.std.proofs.Common.{◌≡◌, Err, sym, ap, ◌∙◌, subst}
use Rattle.std.specs.Prelude.{if◌then◌else◌}
use Rattle.std.proofs.lemmas.Result.{IfOk-weaker}
use Rattle.meson_calls.specs.declared.refusal.Refusal.TheVariants.{BadName}
use Rattle.meson_steps.specs.Meanings.{AreMeant}
use Rattle.meson_places.specs.Changes.{added_keyword, keyword_behind}
use Rattle.meson_places.specs.Values.{is_identifier}
use Rattle.meson_places.proofs.Refused.{refused_as}
use Rattle.meson_steps.proofs.Identifiers.{identifier_is}
use Rattle.meson_places.proofs.additions.keyword_steps.Goals as goal

pub returns-then-not-is_identifier-clause-refused : goal.returns-then-not-is_identifier-clause-refused
returns-then-not-is_identifier-clause-refused c = λ w other.
    let r = c.args.receiver in
    let is = sym (identifier_is c.is_identifier.result c.get.result.now c.is_identifier.ensures ∙ ap is_identifier c.get.ensures) ∙ c.if-not-is_identifier.true in
    ap (λ b. if b then keyword_behind r.spaced w c.args.key.now r.list.now r.many else Err BadName) is

pub returns-clause-meant : goal.returns-clause-meant
returns-clause-meant c = λ w is_w.
    let r = c.args.receiver in
    let xs = r.many in
    let is = sym (identifier_is c.is_identifier.result c.get.result.now c.is_identifier.ensures ∙ ap is_identifier c.get.ensures) ∙ c.if-not-is_identifier.false in
    let same : added_keyword r.spaced w c.args.key.now r.list.now xs ≡ keyword_behind r.spaced w c.args.key.now r.list.now xs =
    ap (λ b. if b then keyword_behind r.spaced w c.args.key.now r.list.now xs else Err BadName) is in
    IfOk-weaker c.keyword_behind.result _ _ (λ steps m. subst (λ x. AreMeant x steps.items) (sym same) m) (c.keyword_behind.ensures.meant w is_w)

pub returns-clause-refused : goal.returns-clause-refused
returns-clause-refused c = λ w.
    let r = c.args.receiver in
    let xs = r.many in
    let is = sym (identifier_is c.is_identifier.result c.get.result.now c.is_identifier.ensures ∙ ap is_identifier c.get.ensures) ∙ c.if-not-is_identifier.false in
    refused_as c.keyword_behind.result (added_keyword r.spaced w c.args.key.now r.list.now xs) (keyword_behind r.spaced w c.args.key.now r.list.now xs)
    (ap (λ b. if b then keyword_behind r.spaced w c.args.key.now r.list.now xs else Err BadName) is) (c.keyword_behind.ensures.refused w)
