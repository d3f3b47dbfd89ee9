-- What a status says of the ending that was told.
use Rattle.std.proofs.Common.{◌≡◌, ◌⊎◌, ℕ, Bool, true, false, Result, Ok, Err, inl, inr, refl, sym, ◌∙◌, subst, arith}
use Rattle.std.specs.Prelude.{OnOk}
use Rattle.meson_command.specs.declared.asked.Asked.{Asked}
use Rattle.meson_command.specs.declared.fault.UsageFault.{UsageFault}
use Rattle.meson_command.specs.declared.fault.UsageFault.TheVariants.{OutOfMemory}
use Rattle.meson_store.specs.Output.{Heard}
use Rattle.meson_store.specs.Seen.{Seen}
use Rattle.meson_rewrite.proofs.Shown.{status-shown}
use Rattle.meson_rewrite.proofs.TextEnds.{run-status-keeps}
use Rattle.meson_rewrite.proofs.Reading.{IsDone, done-by-status, stop-not-done}
use Rattle.meson_rewrite.specs.Lines.{status}
use Rattle.meson_rewrite.specs.Runs.{KeepsFiles, RunReports, Tells}
use Rattle.meson_rewrite.specs.declared.advice.Advice.TheVariants.{Nothing}
use Rattle.meson_rewrite.specs.declared.said.Said.{Said}
use Rattle.meson_rewrite.specs.declared.stop.Stop.{Stop}
use Rattle.meson_rewrite.specs.declared.stop.Stop.TheVariants.{Usage}

only-wanted : (exit_code : Bool) (end : Result Said Stop) → status exit_code end ≡ 4 → exit_code ≡ true
only-wanted true end is = refl
only-wanted false (Ok said) is = absurd (let no : ⊥ = cc in no)
only-wanted false (Err stop) is = absurd (stop-not-done stop (inr is))

module _ (exit_code json : Bool) (code : ℕ) (out out' err err' : Heard) (end : Result Said Stop) where
  pub told-refusing : Tells exit_code json code out out' err err' end → (code ≡ 1) ⊎ (code ≡ 2) → code ≡ status exit_code end
  told-refusing (inl told) s = told.0
  told-refusing (inr failed) (inl is) = absurd (omega (arith, failed.0, is))
  told-refusing (inr failed) (inr is) = absurd (omega (arith, failed.0, is))

  pub told-done : Tells exit_code json code out out' err err' end → IsDone code → IsDone (status exit_code end)
  told-done (inl told) is = subst IsDone told.0 is
  told-done (inr failed) (inl is) = absurd (omega (arith, failed.0, is))
  told-done (inr failed) (inr is) = absurd (omega (arith, failed.0, is))

  pub told-0 : Tells exit_code json code out out' err err' end → code ≡ 0 → status exit_code end ≡ 0
  told-0 (inl told) is = sym told.0 ∙ is
  told-0 (inr failed) is = absurd (omega (arith, failed.0, is))

  -- 4 is said only where the words want it
  pub told-changed : Tells exit_code json code out out' err err' end → code ≡ 4 → exit_code ≡ true
  told-changed (inl told) is = only-wanted exit_code end (sym told.0 ∙ is)
  told-changed (inr failed) is = absurd (omega (arith, failed.0, is))

  pub told-keeps : (asked : Result Asked UsageFault) (before after : Seen) → RunReports asked before after end → Tells exit_code json code out out' err err' end
      → (code ≡ 1) ⊎ (code ≡ 2) → KeepsFiles asked before after code
  told-keeps asked before after r told s =
      let is : code ≡ status exit_code r.end = told-refusing told s ∙ status-shown exit_code asked r.end end r.reports in
      subst (KeepsFiles asked before after) (sym is)
      (run-status-keeps asked before after r.end exit_code r.ends (subst (λ n. (n ≡ 1) ⊎ (n ≡ 2)) is s))

  pub told-reads : (P : Type 0) → OnOk end P → Tells exit_code json code out out' err err' end → IsDone code → P
  told-reads P read told is = done-by-status P exit_code end read (told-done told is)

-- ---- where memory ran out while the words were read, the same is said, whether they want JSON or not

module _ (exit_code : Bool) (code : ℕ) (out out' err err' : Heard) where
  either-form : (json wanted : Bool) → Tells exit_code json code out out' err err' (Err (Usage OutOfMemory Nothing)) → Tells exit_code wanted code out out' err err' (Err (Usage OutOfMemory Nothing))
  either-form true true t = t
  either-form true false t = t
  either-form false true t = t
  either-form false false t = t

  pub told-wanted : (json wanted : Bool) (end : Result Said Stop) → (json ≡ wanted) ⊎ (end ≡ Err (Usage OutOfMemory Nothing)) → Tells exit_code json code out out' err err' end → Tells exit_code wanted code out out' err err' end
  told-wanted json wanted end (inl same) t = subst (λ j. Tells exit_code j code out out' err err' end) same t
  told-wanted json wanted end (inr is) t =
      subst (Tells exit_code wanted code out out' err err') (sym is) (either-form json wanted (subst (Tells exit_code json code out out' err err') is t))

-- ---- a run that was stopped has its status, with `--exit-code` and without

pub told-by-words : (json by wanted : Bool) (code : ℕ) (out out' err err' : Heard) (end : Result Said Stop) → OnOk end (by ≡ wanted) → Tells by json code out out' err err' end
    → Tells wanted json code out out' err err' end
told-by-words json by wanted code out out' err err' (Ok said) same t = subst (λ e. Tells e json code out out' err err' (Ok said)) same t
told-by-words json by wanted code out out' err err' (Err stop) same t = t
