use Rattle.std.proofs.Common.{◌≡◌, ◌⊎◌, ◌∙◌, inl, inr, sym, ap, None, List, ℕ}
use Rattle.meson_json.specs.Log.{logged}
use Rattle.meson_json.specs.declared.fault.ScriptFault.{ScriptFault}
use Rattle.meson_json.specs.declared.fault.ScriptFault.TheVariants.{BadLog}
use Rattle.meson_rewrite.proofs.Wants.{script-or-memory}
use Rattle.meson_rewrite.specs.Stops.{WantsMemory}
use Rattle.meson_rewrite.specs.declared.advice.Advice.TheVariants.{Nothing}
use Rattle.meson_rewrite.specs.declared.stop.Stop.{Stop}
use Rattle.meson_rewrite.specs.declared.stop.Stop.TheVariants.{Script}
use Rattle.meson_rewrite.proofs.opening.log_in.Goals as goal

bad : (bytes : List ℕ) (fault : ScriptFault) → WantsMemory (Script fault Nothing) ⊎ ((fault ≡ BadLog) × (logged bytes ≡ None))
    → WantsMemory (Script fault Nothing) ⊎ ((◌≡◌ {A = Stop} (Script fault Nothing) (Script BadLog Nothing)) × (logged bytes ≡ None))
bad bytes fault (inl m) = inl m
bad bytes fault (inr b) = inr (ap (λ f. Script f Nothing) b.0, b.1)

pub returns-in-Err-clause-none : goal.returns-in-Err-clause-none
returns-in-Err-clause-none c =
    let bytes = c.args.text.items in
    bad bytes c.in-Err.fault (script-or-memory (λ f. (f ≡ BadLog) × (logged bytes ≡ None)) c.in-Err.fault (λ n. let r = c.in-Err.ensures.refused n in (r.0, ap logged (sym c.as_slice.ensures.value) ∙ r.1)))
