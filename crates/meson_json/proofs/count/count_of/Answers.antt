use Rattle.std.proofs.Common.{◌∙◌, arith, sym}
use Rattle.meson_json.proofs.Counting.{failed, none, one, plus}
use Rattle.meson_json.proofs.count.count_of.Goals as goal

pub returns-then-starts_with : goal.returns-then-starts_with
returns-then-starts_with c = plus _ (sym (c.starts_with.ensures.byte (omega arith) (omega arith) (λ w o h. h)) ∙ c.if-starts_with.true)

pub returns-in-Ok-eq0 : goal.returns-in-Ok-eq0
returns-in-Ok-eq0 c = none _ (sym (c.starts_with.ensures.byte (omega arith) (omega arith) (λ w o h. h)) ∙ c.if-starts_with.false) _ c.in-Ok-eq0.field-0-test c.in-Ok-eq0.ensures.value.0

pub returns-in-Ok : goal.returns-in-Ok
returns-in-Ok c = one _ (sym (c.starts_with.ensures.byte (omega arith) (omega arith) (λ w o h. h)) ∙ c.if-starts_with.false) _ (let not = c.in-Ok.count-test.1 in omega (arith, not)) c.in-Ok.ensures.value.0

pub returns-in-Err : goal.returns-in-Err
returns-in-Err c = failed _ (sym (c.starts_with.ensures.byte (omega arith) (omega arith) (λ w o h. h)) ∙ c.if-starts_with.false) c.in-Err.ensures.value.0
