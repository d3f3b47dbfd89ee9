use Rattle.std.proofs.Common.{◌≡◌, ◌⊎◌, Ok, inr, refl, subst, sym}
use Rattle.std.specs.Prelude.{IfErr, IfOk}
use Rattle.meson_rewrite.specs.Requests.{IsBad}
use Rattle.meson_rewrite.specs.Stops.{WantsMemory}
use Rattle.meson_rewrite.proofs.Scripts.{of-no-text, of-text}
use Rattle.meson_rewrite.proofs.request.script_in.Goals as goal

pub returns-in-Ok-clause-ok : goal.returns-in-Ok-clause-ok
returns-in-Ok-clause-ok c =
    subst (λ r. IfOk c.script_from.result (λ s. r ≡ Ok s.commands)) (sym (of-text c.args.unknown c.args.bytes.now c.in-Ok.text.now c.in-Ok.ensures.cases.0 c.in-Ok.ensures.cases.1)) c.script_from.ensures.ok

pub returns-in-Ok-clause-none : goal.returns-in-Ok-clause-none
returns-in-Ok-clause-none c =
    subst (λ r. IfErr c.script_from.result (λ why. WantsMemory why ⊎ IsBad c.args.flags r why)) (sym (of-text c.args.unknown c.args.bytes.now c.in-Ok.text.now c.in-Ok.ensures.cases.0 c.in-Ok.ensures.cases.1)) c.script_from.ensures.none

pub returns-in-Err-clause-none : goal.returns-in-Err-clause-none
returns-in-Err-clause-none c = inr (_, (_, (of-no-text c.args.unknown c.args.bytes.now c.in-Err.ensures.cases.0, (refl, c.script_advice-advice.ensures))))
