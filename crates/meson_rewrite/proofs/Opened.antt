-- What is read of a log, and before it.
use Rattle.std.proofs.Common.{◌≡◌, ◌⊎◌, ◌≤◌, ℕ, List, Option, Some, None, inl, inr, refl, sym, subst}
use Rattle.meson_splice.specs.declared.file_set.File.{File}
use Rattle.meson_splice.specs.declared.history.History.{History}
use Rattle.meson_json.specs.Log.{logged}
use Rattle.meson_json.specs.declared.fault.ScriptFault.TheVariants as script
use Rattle.meson_calls.specs.declared.call.Reading.{Reading}
use Rattle.meson_store.specs.Content.{Content}
use Rattle.meson_store.specs.declared.store_fault.StoreFault.{StoreFault}
use Rattle.meson_store.specs.declared.store_fault.StoreFault.TheVariants as store
use Rattle.meson_gathering.specs.Gathered.{IsUnread}
use Rattle.meson_gathering.specs.Gathering.{Finds, Told, held_bytes, whole}
use Rattle.meson_rewrite.proofs.EndedRuns.{no-log-before}
use Rattle.meson_rewrite.specs.Logs.{IsBadLog, IsLog, log_name}
use Rattle.meson_rewrite.specs.Opening.{IsNoLog, OpensNone, bad_log, log_unread, no_log}
use Rattle.meson_rewrite.specs.Stops.{WantsMemory}
use Rattle.meson_rewrite.specs.declared.opening.LogUse.{LogUse}
use Rattle.meson_rewrite.specs.declared.opening.LogUse.TheVariants.{Kept}
use Rattle.meson_rewrite.specs.declared.advice.Advice.TheVariants.{Nothing}
use Rattle.meson_rewrite.specs.declared.stop.Stop.{Stop}
use Rattle.meson_rewrite.specs.declared.stop.Stop.TheVariants.{Script, Store}

pub log-read : (there : Option (List ℕ)) (bytes text : List ℕ) (h : History) → Some bytes ≡ there → text ≡ bytes → logged bytes ≡ Some h → IsLog there text h
log-read there bytes text h e same is = subst (λ x. IsLog x text h) e (same, is)

pub none-read : (there : Option (List ℕ)) (text : List ℕ) (h : History) → None ≡ there → IsLog None text h → IsLog there text h
none-read there text h e is = subst (λ x. IsLog x text h) e is

pub bad-read : (before : Option Content) (dir : Option (List ℕ)) (failed failed' : ℕ) (bytes : List ℕ) (why : Stop) → Told before (λ content. Some bytes ≡ held_bytes content dir log_name)
    → WantsMemory why ⊎ ((why ≡ Script script.BadLog Nothing) × (logged bytes ≡ None)) → WantsMemory why ⊎ IsNoLog Kept before dir failed failed' why
bad-read before dir failed failed' bytes why told (inl m) = inl m
bad-read before dir failed failed' bytes why told (inr b) =
    inr (subst (IsNoLog Kept before dir failed failed') (sym b.0) (bad_log refl (λ content is. subst IsBadLog (told content is) b.1)))

pub unread-log : (before : Option Content) (dir : Option (List ℕ)) (failed failed' : ℕ) (fault : StoreFault) → IsUnread failed failed' log_name fault
    → WantsMemory (Store fault Nothing) ⊎ IsNoLog Kept before dir failed failed' (Store fault Nothing)
unread-log before dir failed failed' (store.ReadFailed n) (e, rose) =
    inr (subst (λ m. IsNoLog Kept before dir failed failed' (Store (store.ReadFailed m) Nothing)) (sym e) (log_unread refl rose))
unread-log before dir failed failed' (store.WriteFailed n still_new) h = absurd h
unread-log before dir failed failed' (store.NoFile n) h = absurd h
unread-log before dir failed failed' store.OutputFailed h = absurd h
unread-log before dir failed failed' store.OutOfMemory h = inl (refl, refl)

-- the files were read before
pub no-log-opens : (how : LogUse) (reading : Reading) (before middle : Option Content) (dir : Option (List ℕ)) (first old new : ℕ) → middle ≡ before → first ≤ old → old ≤ new → (files : List File) → Finds reading before dir (whole files)
    → (why : Stop) → WantsMemory why ⊎ IsNoLog how middle dir old new why → WantsMemory why ⊎ OpensNone how reading before dir first new why
no-log-opens how reading before middle dir first old new e h k files found why (inl m) = inl m
no-log-opens how reading before middle dir first old new e h k files found why (inr lacks) =
    inr (no_log files why found (no-log-before how dir before first old new h k why (subst (λ m. IsNoLog how m dir old new why) e lacks)))
