use Rattle.std.proofs.Common.{◌≡◌, ◌∙◌, Bool, true, false, refl, subst, sym}
use Rattle.std.specs.Prelude.{not}
use Rattle.meson_rewrite.specs.Faults.{IsExplained, has_none, is_told, not_asked, ran_out}
use Rattle.meson_rewrite.proofs.faults.explained.Goals as goal

is-false : (b : Bool) → not b ≡ true → b ≡ false
is-false true is = absurd (let never : ⊥ = cc in never)
is-false false is = refl

is-true : (b : Bool) → not b ≡ false → b ≡ true
is-true true is = refl
is-true false is = absurd (let never : ⊥ = cc in never)

pub returns-then-not-flags : goal.returns-then-not-flags
returns-then-not-flags c = not_asked (is-false c.args.flags.explain c.if-not-flags.true)

pub returns-in-Ok-Some : goal.returns-in-Ok-Some
returns-in-Ok-Some c =
    subst (IsExplained c.args.flags c.args.stop) (sym c.advised.ensures)
    (is_told c.in-Ok-Some.advice (is-true c.args.flags.explain c.if-not-flags.false) (sym c.in-Ok-Some.ensures ∙ c.in-Ok-Some.field-0-is))

pub returns-in-Ok-None : goal.returns-in-Ok-None
returns-in-Ok-None c = has_none (sym c.in-Ok-None.ensures ∙ c.in-Ok-None.field-0-is)

pub returns-in-Err : goal.returns-in-Err
returns-in-Err c = subst (IsExplained c.args.flags c.args.stop) (sym c.advised-in-Err.ensures) (ran_out (is-true c.args.flags.explain c.if-not-flags.false))
