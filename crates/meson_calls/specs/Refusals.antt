-- Refusals that are meant: all but out of memory.
use Rattle.std.specs.Prelude.{◌≡◌, ◌≢◌, Result, Err, IfErr}
use Rattle.meson_calls.specs.declared.refusal.Refusal.{Refusal}
use Rattle.meson_calls.specs.declared.refusal.Refusal.TheVariants.{OutOfMemory}

-- Why something is refused, if not because it is out of memory.
abbrev pub IfRefused : {X : Type 0} → Result X Refusal → (Refusal → Type 0) → Type 0
IfRefused result why = IfErr result (λ e. e ≢ OutOfMemory → why e)

-- If something is refused, and not because it is out of memory, the refusal is the one that is meant.
abbrev pub RefusedAs : {X Y : Type 0} → Result X Refusal → Result Y Refusal → Type 0
RefusedAs result meant = IfRefused result (λ e. meant ≡ Err e)
