use Rattle.std.proofs.Common.{◌∙◌, arith, sym}
use Rattle.meson_places.proofs.Numbers.{failed, plus, read}
use Rattle.meson_places.proofs.keys.number_of.Goals as goal

pub returns-then-starts_with : goal.returns-then-starts_with
returns-then-starts_with c = plus _ (sym (c.starts_with.ensures.byte (omega arith) (omega arith) (λ w o h. h)) ∙ c.if-starts_with.true)

pub returns-in-Ok : goal.returns-in-Ok
returns-in-Ok c = read _ (sym (c.starts_with.ensures.byte (omega arith) (omega arith) (λ w o h. h)) ∙ c.if-starts_with.false) _ c.in-Ok.ensures.value.0

pub returns-in-Err : goal.returns-in-Err
returns-in-Err c = failed _ (sym (c.starts_with.ensures.byte (omega arith) (omega arith) (λ w o h. h)) ∙ c.if-starts_with.false) c.in-Err.ensures.value.0
