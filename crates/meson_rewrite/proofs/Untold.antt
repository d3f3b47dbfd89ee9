-- A run that was stopped leaves each file as it was of which it does not tell.
use Rattle.std.proofs.Common.{◌≡◌, ◌⊎◌, Bool, ℕ, List, [], ◌∷◌, Option, Some, None, Result, inl, inr, refl, sym, ap, ◌∙◌, subst}
use Rattle.std.specs.FinMap.{get}
use Rattle.std.specs.List.{Contains}
use Rattle.std.specs.Prelude.{IfErr}
use Rattle.meson_calls.specs.declared.call.Reading.{Reading}
use Rattle.meson_command.specs.declared.asked.Asked.{Asked}
use Rattle.meson_command.specs.declared.asked.Flags.{Flags}
use Rattle.meson_command.specs.declared.fault.UsageFault.{UsageFault}
use Rattle.meson_splice.specs.declared.file_set.File.{File}
use Rattle.meson_store.proofs.Leaving.{some-is, untold-at}
use Rattle.meson_store.proofs.Restoring.{Each, apart-or-not, each-append, each-map, puts-each}
use Rattle.meson_store.specs.Commit.{Put, TakenBack, path_in, put_at, still_new}
use Rattle.meson_store.specs.Content.{Content}
use Rattle.meson_store.specs.Seen.{Seen}
use Rattle.meson_store.specs.declared.store_fault.StoreFault.{StoreFault}
use Rattle.meson_gathering.specs.Gathering.{file_of, held_bytes}
use Rattle.meson_rewrite.proofs.Holding.{IsHeld, held-collected}
use Rattle.meson_rewrite.specs.Logs.{IsLog, empty_log, log_name, log_use, with_log}
use Rattle.meson_rewrite.specs.Runs.{Edits, Ends, IsKept, KeepsUntold, ListingEnds, StepEnds, asks_for_none, dir_of, log_use_of, done, has_none, helped, listed, lists, memory_ran_out, misused, no_memory, not_opened, refused, shown, steps, told, told_version, unwritten, wants_memory, written}
use Rattle.meson_rewrite.specs.declared.opening.LogUse.{LogUse}
use Rattle.meson_rewrite.specs.declared.opening.LogUse.TheVariants.{Kept, Ignored}
use Rattle.meson_rewrite.specs.declared.request.Listing.{Listing}
use Rattle.meson_rewrite.specs.declared.request.Step.{Step}
use Rattle.meson_rewrite.specs.declared.said.Said.{Said}
use Rattle.meson_rewrite.specs.declared.stop.Stop.{Stop}
use Rattle.meson_rewrite.specs.declared.stop.Stop.TheVariants.{Usage}

kept-so : (how : LogUse) (dir : Option (List ℕ)) (old new : Content) (path : List ℕ) → get new path ≡ get old path → IsKept how dir old new path
kept-so Kept dir old new path is = inl is
kept-so Ignored dir old new path is = is

pub same-keeps : (how : LogUse) (dir : Option (List ℕ)) (before after : Option Content) (stop : Stop) → after ≡ before → KeepsUntold how dir before after stop
same-keeps how dir before after stop same old new is now path untold = kept-so how dir old new path (ap (λ c. get c path) (some-is (sym now ∙ same ∙ is)))

-- ---- a file that is written

module _ (dir : Option (List ℕ)) (old : Content) where
  -- the store holds what it held, or it is the log, and there is none; it stands at the path of its name
  record IsOld (p : Put) : Type 0 where
    held_so : (get old p.path ≡ Some p.was) ⊎ ((p.path ≡ path_in dir log_name) × (p.was ≡ empty_log) × (get old (path_in dir log_name) ≡ None))
    named : p.path ≡ path_in dir p.name

  abbrev Old : File → Type 0
  Old f = (bytes : List ℕ) → IsOld (put_at dir f bytes)

  files-old : (how : LogUse) {reading : Reading} {before : Option Content} (step : Step) {json : Bool} (e : Edits how reading before dir step json) → before ≡ Some old → Each Old e.old.project.files
  files-old how {reading = reading} step e is =
      each-map (IsHeld old dir) Old (λ f h bytes. record { held_so = inl h; named = refl }) e.old.project.files (held-collected old dir reading e.old.project.files (e.opens.found old is))

  are-old : {reading : Reading} {before : Option Content} (step : Step) {json : Bool} (e : Edits Kept reading before dir step json) → before ≡ Some old → Each IsOld (written e)
  are-old step e is =
      puts-each IsOld dir (with_log Kept e.old.project.files e.log) (with_log Kept e.new.project.files e.new_log)
      (each-append Old e.old.project.files (file_of log_name e.log ∷ []) (files-old Kept step e is)
      (λ bytes. record { held_so = log (held_bytes old dir log_name) refl (e.opens.is_log old is); named = refl }, tt))
    where
      log : (there : Option (List ℕ)) → held_bytes old dir log_name ≡ there → IsLog there e.log e.old.history →
          (held_bytes old dir log_name ≡ Some e.log) ⊎ ((path_in dir log_name ≡ path_in dir log_name) × (e.log ≡ empty_log) × (held_bytes old dir log_name ≡ None))
      log None is l = inr (refl, l.0, is)
      log (Some text) is l = inl (is ∙ ap Some (sym l.0))

-- ---- files that were not written

module _ (dir : Option (List ℕ)) (step : Step) (before after : Seen) {reading : Reading} {json : Bool} (e : Edits Kept reading before.content dir step json) (fault : StoreFault) (taken : TakenBack (written e) before after fault) (old new : Content)
    (is : before.content ≡ Some old) (now : after.content ≡ Some new) (path : List ℕ) (untold : (name : List ℕ) → Contains (still_new fault) name → path ≡ path_in dir name → ⊥) where
  at : (V : Option (List ℕ)) → ((p : Put) → path ≡ p.path → IsOld dir old p → V ≡ Some p.was) → (get new path ≡ V) ⊎ (get new path ≡ get old path)
  at V f =
      untold-at (written e) before after fault taken old new is now V path
      (each-map (IsOld dir old) (λ p. path ≡ p.path → (Contains (still_new fault) p.name → ⊥) × (V ≡ Some p.was))
      (λ p o same. (λ l. untold p.name l (same ∙ o.named), f p same o)) (written e) (are-old dir old step e is))

  -- the log, where there was none
  absent-log : path ≡ path_in dir log_name → get old path ≡ None → IsKept Kept dir old new path
  absent-log is_log none = elim (at (Some empty_log) (λ p same o. go p same o.held_so)) [
    | inl made ↦ inr (is_log, none, made)
    | inr kept ↦ inl kept
  ]
    where
      go : (p : Put) → path ≡ p.path → (get old p.path ≡ Some p.was) ⊎ ((p.path ≡ path_in dir log_name) × (p.was ≡ empty_log) × (get old (path_in dir log_name) ≡ None))
          → Some empty_log ≡ Some p.was
      go p same (inl there) = absurd (let both : None ≡ Some p.was = sym none ∙ ap (get old) same ∙ there in (let no : ⊥ = cc in no))
      go p same (inr l) = ap Some (sym l.1)

  other : (path ≡ path_in dir log_name → get old path ≡ None → ⊥) → IsKept Kept dir old new path
  other no_log = elim (at (get old path) (λ p same o. go p same o.held_so)) [
    | inl kept ↦ inl kept
    | inr kept ↦ inl kept
  ]
    where
      go : (p : Put) → path ≡ p.path → (get old p.path ≡ Some p.was) ⊎ ((p.path ≡ path_in dir log_name) × (p.was ≡ empty_log) × (get old (path_in dir log_name) ≡ None))
          → get old path ≡ Some p.was
      go p same (inl there) = ap (get old) same ∙ there
      go p same (inr l) = absurd (no_log (same ∙ l.0) (ap (get old) (same ∙ l.0) ∙ l.2))

  log-keeps : IsKept Kept dir old new path
  log-keeps = go (apart-or-not path (path_in dir log_name)) (get old path) refl
    where
      go : (path ≡ path_in dir log_name) ⊎ (path ≡ path_in dir log_name → ⊥) → (there : Option (List ℕ)) → get old path ≡ there → IsKept Kept dir old new path
      go (inl is_log) None none = absent-log is_log none
      go (inl is_log) (Some b) some = other (λ _ none. let both : Some b ≡ None = sym some ∙ none in (let no : ⊥ = cc in no))
      go (inr apart) there found = other (λ is_log _. apart is_log)

-- ---- the same where the log is ignored: each file that is written held what it gets again

module _ (dir : Option (List ℕ)) (step : Step) (before after : Seen) {reading : Reading} {json : Bool} (e : Edits Ignored reading before.content dir step json) (fault : StoreFault) (taken : TakenBack (written e) before after fault) (old new : Content)
    (is : before.content ≡ Some old) (now : after.content ≡ Some new) (path : List ℕ) (untold : (name : List ℕ) → Contains (still_new fault) name → path ≡ path_in dir name → ⊥) where
  abbrev IsHeldAt : Put → Type 0
  IsHeldAt p = (get old p.path ≡ Some p.was) × (p.path ≡ path_in dir p.name)

  are-held : Each IsHeldAt (written e)
  are-held =
      puts-each IsHeldAt dir e.old.project.files e.new.project.files
      (each-map (IsHeld old dir) (λ f. (bytes : List ℕ) → IsHeldAt (put_at dir f bytes)) (λ f h bytes. (h, refl)) e.old.project.files
      (held-collected old dir reading e.old.project.files (e.opens.found old is)))

  no-log-keeps : get new path ≡ get old path
  no-log-keeps = elim (untold-at (written e) before after fault taken old new is now (get old path) path
      (each-map IsHeldAt (λ p. path ≡ p.path → (Contains (still_new fault) p.name → ⊥) × (get old path ≡ Some p.was))
      (λ p held same. (λ l. untold p.name l (same ∙ held.1), ap (get old) same ∙ held.0)) (written e) are-held)) [
        | inl kept ↦ kept
        | inr kept ↦ kept
      ]

unwritten-keeps : (how : LogUse) (dir : Option (List ℕ)) (step : Step) (before after : Seen) {reading : Reading} {json : Bool} (e : Edits how reading before.content dir step json) (fault : StoreFault) → TakenBack (written e) before after fault
    → (old new : Content) → before.content ≡ Some old → after.content ≡ Some new → (path : List ℕ)
    → ((name : List ℕ) → Contains (still_new fault) name → path ≡ path_in dir name → ⊥) → IsKept how dir old new path
unwritten-keeps Kept dir step before after e fault taken old new is now path untold = log-keeps dir step before after e fault taken old new is now path untold
unwritten-keeps Ignored dir step before after e fault taken old new is now path untold = no-log-keeps dir step before after e fault taken old new is now path untold

-- ---- a run

step-untold : (dir : Option (List ℕ)) (step : Step) (flags : Flags) (before after : Seen) (end : Result Said Stop) → StepEnds dir step flags before after end → IfErr end (KeepsUntold (log_use flags.no_log) dir before.content after.content)
step-untold dir step flags before after _ (not_opened stop u opens) = same-keeps (log_use flags.no_log) dir before.content after.content stop u.kept
step-untold dir step flags before after _ (refused old log stop u opens may) = same-keeps (log_use flags.no_log) dir before.content after.content stop u.kept
step-untold dir step flags before after _ (told old new log report said u opens does only says) = tt
step-untold dir step flags before after _ (shown old new log report said u opens does writes dry shows all warns) = tt
step-untold dir step flags before after _ (done e said writes wet are says all warns) = tt
step-untold dir step flags before after _ (unwritten e fault writes wet taken) = λ old new is now path untold. unwritten-keeps (log_use flags.no_log) dir step before after e fault taken old new is now path untold
step-untold dir step flags before after _ (no_memory stop u wants) = same-keeps (log_use flags.no_log) dir before.content after.content stop u.kept

listing-untold : (how : LogUse) (dir folder : Option (List ℕ)) (listing : Listing) (flags : Flags) (before after : Seen) (end : Result Said Stop) → ListingEnds folder listing flags before after end → IfErr end (KeepsUntold how dir before.content after.content)
listing-untold how dir folder listing flags before after _ (has_none stop u opens) = same-keeps how dir before.content after.content stop u.kept
listing-untold how dir folder listing flags before after _ (listed session log u opens) = tt
listing-untold how dir folder listing flags before after _ (wants_memory stop u wants) = same-keeps how dir before.content after.content stop u.kept

pub run-untold : (asked : Result Asked UsageFault) (before after : Seen) (end : Result Said Stop) → Ends asked before after end → IfErr end (KeepsUntold (log_use_of asked) (dir_of asked) before.content after.content)
run-untold asked before after _ (misused fault advice u is) = same-keeps (log_use_of asked) (dir_of asked) before.content after.content (Usage fault advice) u.kept
run-untold asked before after _ (helped a text u is shows) = tt
run-untold asked before after _ (told_version a u is shows) = tt
run-untold asked before after _ (asks_for_none a stop u is none) = same-keeps (log_use_of asked) (dir_of asked) before.content after.content stop u.kept
run-untold asked before after _ (steps a step end is asks ends) =
    subst (λ r. IfErr end (KeepsUntold (log_use_of r) (dir_of r) before.content after.content)) (sym is) (step-untold a.dir step a.flags before after end ends)
run-untold asked before after _ (lists a listing end is asks ends) = listing-untold (log_use_of asked) (dir_of asked) a.dir listing a.flags before after end ends
run-untold asked before after _ (memory_ran_out stop u wants) = same-keeps (log_use_of asked) (dir_of asked) before.content after.content stop u.kept
