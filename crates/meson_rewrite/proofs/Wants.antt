-- A fault of a step is want of memory, or what the step says of other faults holds.
use Rattle.std.proofs.Common.{◌⊎◌, inl, inr, refl}
use Rattle.std.specs.Prelude.{◌≢◌}
use Rattle.meson_json.specs.declared.fault.ScriptFault.{ScriptFault}
use Rattle.meson_json.specs.declared.fault.ScriptFault.TheVariants as script
use Rattle.meson_command.specs.declared.fault.UsageFault.{UsageFault}
use Rattle.meson_command.specs.declared.fault.UsageFault.TheVariants as usage
use Rattle.meson_rewrite.specs.Stops.{WantsMemory}
use Rattle.meson_rewrite.specs.declared.advice.Advice.TheVariants.{Nothing}
use Rattle.meson_rewrite.specs.declared.stop.Stop.TheVariants.{Script, Usage}

pub script-or-memory : (P : ScriptFault → Type 0) (fault : ScriptFault) → (fault ≢ script.OutOfMemory → P fault) → WantsMemory (Script fault Nothing) ⊎ P fault
script-or-memory P script.NotJson h = inr (h (λ e. cc))
script-or-memory P script.NotArray h = inr (h (λ e. cc))
script-or-memory P script.TooMany h = inr (h (λ e. cc))
script-or-memory P (script.NotObject i) h = inr (h (λ e. cc))
script-or-memory P (script.UnknownType i) h = inr (h (λ e. cc))
script-or-memory P (script.BadField i name) h = inr (h (λ e. cc))
script-or-memory P (script.UnknownOperation i) h = inr (h (λ e. cc))
script-or-memory P (script.Unsupported i) h = inr (h (λ e. cc))
script-or-memory P (script.UnknownMember i name) h = inr (h (λ e. cc))
script-or-memory P script.BadLog h = inr (h (λ e. cc))
script-or-memory P script.OutOfMemory h = inl (refl, refl)

pub usage-or-memory : (P : UsageFault → Type 0) (fault : UsageFault) → (fault ≢ usage.OutOfMemory → P fault) → WantsMemory (Usage fault Nothing) ⊎ P fault
usage-or-memory P usage.Usage h = inr (h (λ e. cc))
usage-or-memory P usage.OddWords h = inr (h (λ e. cc))
usage-or-memory P usage.RepeatedKey h = inr (h (λ e. cc))
usage-or-memory P usage.Unsupported h = inr (h (λ e. cc))
usage-or-memory P usage.BadTitle h = inr (h (λ e. cc))
usage-or-memory P usage.NotCode h = inr (h (λ e. cc))
usage-or-memory P usage.OutOfMemory h = inl (refl, refl)
