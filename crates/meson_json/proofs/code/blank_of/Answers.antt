use Rattle.std.proofs.Common.{◌∙◌, arith, sym}
use Rattle.meson_json.proofs.BlankCounts.{failed, many, one, plus}
use Rattle.meson_json.proofs.code.blank_of.Goals as goal

pub returns-then-starts_with : goal.returns-then-starts_with
returns-then-starts_with c = plus _ (sym (c.starts_with.ensures.byte (omega arith) (omega arith) (λ w o h. h)) ∙ c.if-starts_with.true)

pub returns-in-Err : goal.returns-in-Err
returns-in-Err c = failed _ (sym (c.starts_with.ensures.byte (omega arith) (omega arith) (λ w o h. h)) ∙ c.if-starts_with.false) c.in-Err.ensures.value.0

pub returns-in-Ok : goal.returns-in-Ok
returns-in-Ok c = one _ (sym (c.starts_with.ensures.byte (omega arith) (omega arith) (λ w o h. h)) ∙ c.if-starts_with.false) _ (let few = c.if-count-le-MAX_BLANK_LINES.true in omega (arith, few)) c.in-Ok.ensures.value.0

pub returns-in-Ok-2 : goal.returns-in-Ok-2
returns-in-Ok-2 c = many _ (sym (c.starts_with.ensures.byte (omega arith) (omega arith) (λ w o h. h)) ∙ c.if-starts_with.false) _ (let over = c.if-count-le-MAX_BLANK_LINES.false in omega (arith, over)) c.in-Ok.ensures.value.0
