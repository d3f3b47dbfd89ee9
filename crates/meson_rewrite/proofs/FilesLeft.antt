-- With `--exit-code` and status 0 each file but the log is as it was.
use Rattle.std.proofs.Common.{◌≡◌, ◌∙◌, ℕ, Bool, true, false, List, [], ◌∷◌, Option, Some, Result, Ok, cond, inl, inr, refl, sym, ap, subst}
use Rattle.std.specs.FinMap.{get}
use Rattle.std.specs.Prelude.{◌≢◌, bytes_eq}
use Rattle.std.proofs.lemmas.Slice.Eq.{bytes_eq-Decides}
use Rattle.meson_command.specs.declared.asked.Asked.{Asked}
use Rattle.meson_command.specs.declared.asked.Flags.{Flags}
use Rattle.meson_command.specs.declared.fault.UsageFault.{UsageFault}
use Rattle.meson_gathering.specs.Gathering.{file_of}
use Rattle.meson_splice.specs.declared.file_set.File.{File}
use Rattle.meson_store.proofs.Leaving.{some-is}
use Rattle.meson_store.proofs.Restoring.{IsNoneOf, elsewhere, put_all-told, writes}
use Rattle.meson_store.specs.Commit.{AreReplaced, path_in, put_all, put_at, puts}
use Rattle.meson_store.specs.Seen.{Seen}
use Rattle.meson_rewrite.specs.declared.advice.Advice.TheVariants.{Nothing}
use Rattle.meson_rewrite.proofs.ChangesTold.{Tells, by-step, says-changed}
use Rattle.meson_rewrite.proofs.EndedRuns.{listing-untouched}
use Rattle.meson_rewrite.proofs.Reading.{stop-not-done}
use Rattle.meson_rewrite.specs.Lines.{status}
use Rattle.meson_rewrite.specs.Logs.{log_name, log_use, with_log}
use Rattle.meson_rewrite.specs.Runs.{Edits, Ends, LeavesFiles, StepEnds, asks_for_none, dir_of, done, helped, lists, memory_ran_out, misused, no_memory, not_opened, refused, shown, steps, told, told_version, unwritten, written}
use Rattle.meson_rewrite.specs.Steps.{SaysStep, only_tells}
use Rattle.meson_rewrite.specs.declared.opening.LogUse.{LogUse}
use Rattle.meson_rewrite.specs.declared.opening.LogUse.TheVariants.{Kept, Ignored}
use Rattle.meson_rewrite.specs.declared.request.Step.{Step}
use Rattle.meson_rewrite.specs.declared.said.Said.{Said}
use Rattle.meson_rewrite.specs.declared.stop.Stop.{Stop}
use Rattle.meson_rewrite.specs.declared.stop.Stop.TheVariants.{Store}

-- ---- of files that stay as they are, at most the log is written

module _ (dir : Option (List ℕ)) (path : List ℕ) (other : path ≢ path_in dir log_name) where
  log-alone : (log new_log : List ℕ) → IsNoneOf (puts dir (file_of log_name log ∷ []) (file_of log_name new_log ∷ [])) path
  log-alone log new_log = go (bytes_eq log new_log)
    where
      go : (same : Bool) → IsNoneOf (cond same [] (put_at dir (file_of log_name log) new_log ∷ [])) path
      go true = tt
      go false = (other, tt)

  none-but-log : (how : LogUse) (files : List File) (log new_log : List ℕ) → IsNoneOf (puts dir (with_log how files log) (with_log how files new_log)) path
  none-but-log Kept [] log new_log = log-alone log new_log
  none-but-log Ignored [] log new_log = tt
  none-but-log Kept (f ∷ files) log new_log = rw ((bytes_eq-Decides f.bytes f.bytes).1 refl) (none-but-log Kept files log new_log)
  none-but-log Ignored (f ∷ files) log new_log = rw ((bytes_eq-Decides f.bytes f.bytes).1 refl) (none-but-log Ignored files log new_log)

-- ---- a step

not-changed : (said : Said) → status true (Ok said) ≡ 0 → said.changed ≡ false
not-changed said is = go said.changed is
  where
    go : (changed : Bool) → ◌≡◌ {A = ℕ} (cond changed 4 0) 0 → changed ≡ false
    go true is = absurd (let no : ⊥ = cc in no)
    go false is = refl

same-files : (old new : List File) (changed : Bool) → changed ≡ false → Tells old new changed → new ≡ old
same-files old new changed is (inl t) = t.0
same-files old new changed is (inr t) = absurd (let both : true ≡ false = sym t.1 ∙ is in (let no : ⊥ = cc in no))

same-leaves : (dir : Option (List ℕ)) (before after : Seen) → after.content ≡ before.content → LeavesFiles dir before after
same-leaves dir before after same old new is now path other = ap (λ c. get c path) (some-is (sym now ∙ same ∙ is))

module _ (dir : Option (List ℕ)) (step : Step) (flags : Flags) (before after : Seen) where
  done-leaves : (e : Edits (log_use flags.no_log) flags.reading before.content dir step flags.json) (said : Said) → only_tells step ≡ false → AreReplaced (written e) before after
      → SaysStep flags.json step e.old.project.files e.new.project.files e.report said → status true (Ok said) ≡ 0 → LeavesFiles dir before after
  done-leaves e said writes_ are says is_0 old new is now path other =
      let changed = sym (says-changed flags.json step e.old e.new e.report said (inl says)) ∙ not-changed said is_0 in
      let same = same-files e.old.project.files e.new.project.files _ changed (by-step flags.json step e.old e.new e.report writes_ e.does) in
      let none : IsNoneOf (written e) path =
      subst (λ files. IsNoneOf (puts dir (with_log (log_use flags.no_log) e.old.project.files e.log) (with_log (log_use flags.no_log) files e.new_log)) path) (sym same)
      (none-but-log dir path other (log_use flags.no_log) e.old.project.files e.log e.new_log) in
      let puts_are : Some new ≡ Some (writes (written e) old) = sym now ∙ are.put ∙ ap (put_all (written e)) is ∙ put_all-told (written e) old in
      ap (λ c. get c path) (some-is puts_are) ∙ elsewhere (written e) old path none

  step-leaves : (end : Result Said Stop) → StepEnds dir step flags before after end → status true end ≡ 0 → LeavesFiles dir before after
  step-leaves _ (not_opened stop u opens) is_0 = same-leaves dir before after u.kept
  step-leaves _ (refused session log stop u opens may) is_0 = same-leaves dir before after u.kept
  step-leaves _ (told session next log report said u opens does only says) is_0 = same-leaves dir before after u.kept
  step-leaves _ (shown session next log report said u opens does writes_ dry shows all warns) is_0 = same-leaves dir before after u.kept
  step-leaves _ (done e said writes_ wet are says all warns) is_0 = done-leaves e said writes_ are says (ap (λ s. status true (Ok s)) (sym warns.is) ∙ is_0)
  step-leaves _ (unwritten e fault writes_ wet taken) is_0 = absurd (stop-not-done (Store fault Nothing) (inl is_0))
  step-leaves _ (no_memory stop u wants) is_0 = same-leaves dir before after u.kept

-- ---- a run

pub run-leaves-files : (asked : Result Asked UsageFault) (before after : Seen) (end : Result Said Stop) → Ends asked before after end → status true end ≡ 0
    → LeavesFiles (dir_of asked) before after
run-leaves-files asked before after _ (misused fault advice u is_asked) is_0 = same-leaves (dir_of asked) before after u.kept
run-leaves-files asked before after _ (helped a text u is_asked shows) is_0 = same-leaves (dir_of asked) before after u.kept
run-leaves-files asked before after _ (told_version a u is_asked shows) is_0 = same-leaves (dir_of asked) before after u.kept
run-leaves-files asked before after _ (asks_for_none a stop u is_asked none) is_0 = same-leaves (dir_of asked) before after u.kept
run-leaves-files asked before after _ (steps a step end is_asked asks ends) is_0 =
    subst (λ r. LeavesFiles (dir_of r) before after) (sym is_asked) (step-leaves a.dir step a.flags before after end ends is_0)
run-leaves-files asked before after _ (lists a listing end is_asked asks ends) is_0 =
    same-leaves (dir_of asked) before after (listing-untouched a.dir listing a.flags before after end ends).kept
run-leaves-files asked before after _ (memory_ran_out stop u wants) is_0 = same-leaves (dir_of asked) before after u.kept
