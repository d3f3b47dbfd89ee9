use Rattle.std.proofs.Common.{◌≡◌, ◌⊎◌, true, Result, Ok, Err, List, ℕ, inl, inr}
use Rattle.meson_json.specs.Log.{is_text_history, log_of}
use Rattle.meson_json.specs.declared.fault.ScriptFault.{ScriptFault}
use Rattle.meson_splice.specs.declared.history.History.{History}
use Rattle.meson_rewrite.proofs.Wants.{script-or-memory}
use Rattle.meson_rewrite.specs.Stops.{WantsMemory}
use Rattle.meson_rewrite.specs.declared.advice.Advice.TheVariants.{Nothing}
use Rattle.meson_rewrite.specs.declared.stop.Stop.TheVariants.{Script}
use Rattle.meson_rewrite.proofs.steps.new_log.Goals as goal

no-fault : (text : List ℕ) (fault : ScriptFault) → ◌≡◌ {A = Result (List ℕ) ScriptFault} (Ok text) (Err fault) → ⊥
no-fault text fault e = cc

has-log : (h : History) (fault : ScriptFault) → is_text_history h ≡ true → log_of h ≡ Err fault → ⊥
unfolding log_of
has-log h fault text is = no-fault _ fault (rw text at is)

memory-alone : (h : History) (fault : ScriptFault) → is_text_history h ≡ true → WantsMemory (Script fault Nothing) ⊎ (log_of h ≡ Err fault) → WantsMemory (Script fault Nothing)
memory-alone h fault text (inl m) = m
memory-alone h fault text (inr e) = absurd (has-log h fault text e)

pub returns-in-Err-clause-none : goal.returns-in-Err-clause-none
returns-in-Err-clause-none c =
    let h = c.args.session.now.history in
    memory-alone h c.in-Err.fault c.requires (script-or-memory (λ f. log_of h ≡ Err f) c.in-Err.fault c.in-Err.ensures.refused)
