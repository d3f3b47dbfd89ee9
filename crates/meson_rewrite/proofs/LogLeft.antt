-- A run that ignores the log leaves what the store holds by its name.
use Rattle.std.proofs.Common.{◌≡◌, ◌∙◌, Bool, ℕ, suc, List, [], ◌∷◌, ◌++◌, All, Option, Some, None, Result, codes, inl, inr, sym, ap, subst, arith}
use Rattle.std.proofs.lemmas.List.{append_cancel_left}
use Rattle.std.specs.FinMap.{get}
use Rattle.std.specs.List.{Contains}
use Rattle.meson_calls.specs.declared.call.Reading.{Reading}
use Rattle.meson_calls.specs.Loading.{HasFileName}
use Rattle.meson_command.specs.declared.asked.Asked.{Asked}
use Rattle.meson_command.specs.declared.asked.Flags.{Flags}
use Rattle.meson_command.specs.declared.fault.UsageFault.{UsageFault}
use Rattle.meson_splice.specs.declared.file_set.File.{File}
use Rattle.meson_store.proofs.Leaving.{some-is, untold-at}
use Rattle.meson_store.proofs.Restoring.{Each, IsNoneOf, each-map, elsewhere, put_all-told, puts-each, writes}
use Rattle.meson_store.specs.Commit.{AreReplaced, TakenBack, path_in, put_all, puts, still_new}
use Rattle.meson_store.specs.Content.{Content}
use Rattle.meson_store.specs.Seen.{Seen}
use Rattle.meson_store.specs.declared.store_fault.StoreFault.{StoreFault}
use Rattle.meson_rewrite.proofs.EndedRuns.{listing-untouched}
use Rattle.meson_rewrite.proofs.LogName.{other_name}
use Rattle.meson_rewrite.specs.Logs.{log_name, log_use}
use Rattle.meson_rewrite.specs.Runs.{Edits, Ends, LeavesLog, StepEnds, asks_for_none, dir_of, done, helped, lists, memory_ran_out, misused, no_memory, not_opened, refused, shown, steps, told, told_version, unwritten, written}
use Rattle.meson_rewrite.specs.declared.opening.LogUse.{LogUse}
use Rattle.meson_rewrite.specs.declared.opening.LogUse.TheVariants.{Kept, Ignored}
use Rattle.meson_rewrite.specs.declared.request.Step.{Step}
use Rattle.meson_rewrite.specs.declared.said.Said.{Said}
use Rattle.meson_rewrite.specs.declared.stop.Stop.{Stop}

-- ---- no file of a project stands at the path of the log

path-is : (dir : Option (List ℕ)) (a b : List ℕ) → path_in dir a ≡ path_in dir b → a ≡ b
path-is None a b e = e
path-is (Some folder) a b e = append_cancel_left (folder ++ codes "/") a b e

module _ (dir : Option (List ℕ)) where
  abbrev IsElsewhere : File → Type 0
  IsElsewhere f = (bytes : List ℕ) → path_in dir log_name ≡ path_in dir f.name → ⊥

  each-elsewhere : (files : List File) → All HasFileName files → Each IsElsewhere files
  each-elsewhere [] named = tt
  each-elsewhere (f ∷ files) named = (
    λ bytes same. other_name f.name (named 0 f (omega arith)) (sym (path-is dir log_name f.name same)),
    each-elsewhere files (λ k d h. named (suc k) d (omega (arith, h))),
  )

  none-is-log : (files after : List File) → All HasFileName files → IsNoneOf (puts dir files after) (path_in dir log_name)
  none-is-log files after named = puts-each (λ p. path_in dir log_name ≡ p.path → ⊥) dir files after (each-elsewhere files named)

-- ---- what is written

module _ (dir : Option (List ℕ)) (old new : Content) where
  abbrev Stays : Type 0
  Stays = get new (path_in dir log_name) ≡ get old (path_in dir log_name)

  same-stays : (before after : Option Content) → after ≡ before → before ≡ Some old → after ≡ Some new → Stays
  same-stays before after same is now = ap (λ c. get c (path_in dir log_name)) (some-is (sym now ∙ same ∙ is))

  module _ (step : Step) (before after : Seen) (is : before.content ≡ Some old) (now : after.content ≡ Some new) where
    no-log : {reading : Reading} {json : Bool} (e : Edits Ignored reading before.content dir step json) → IsNoneOf (written e) (path_in dir log_name)
    no-log e = none-is-log dir e.old.project.files e.new.project.files e.opens.is_project.named

    done-leaves : (how : LogUse) → how ≡ Ignored → {reading : Reading} → {json : Bool} → (e : Edits how reading before.content dir step json) → AreReplaced (written e) before after → Stays
    done-leaves Kept ignored e are = absurd (let no : ⊥ = cc in no)
    done-leaves Ignored ignored e are =
        let puts_are : Some new ≡ Some (writes (written e) old) = sym now ∙ are.put ∙ ap (put_all (written e)) is ∙ put_all-told (written e) old in
        ap (λ c. get c (path_in dir log_name)) (some-is puts_are) ∙ elsewhere (written e) old (path_in dir log_name) (no-log e)

    taken-leaves : (how : LogUse) → how ≡ Ignored → {reading : Reading} → {json : Bool} → (e : Edits how reading before.content dir step json) (fault : StoreFault) → TakenBack (written e) before after fault → Stays
    taken-leaves Kept ignored e fault taken = absurd (let no : ⊥ = cc in no)
    taken-leaves Ignored ignored e fault taken =
        let path = path_in dir log_name in
        elim (untold-at (written e) before after fault taken old new is now (get old path) path
        (each-map (λ p. path ≡ p.path → ⊥) (λ p. path ≡ p.path → (Contains (still_new fault) p.name → ⊥) × (get old path ≡ Some p.was))
        (λ p other same. absurd (other same)) (written e) (no-log e))) [
          | inl kept ↦ kept
          | inr kept ↦ kept
        ]

    step-leaves : (flags : Flags) (end : Result Said Stop) → StepEnds dir step flags before after end → log_use flags.no_log ≡ Ignored → Stays
    step-leaves flags _ (not_opened stop u opens) ignored = same-stays before.content after.content u.kept is now
    step-leaves flags _ (refused session log stop u opens may) ignored = same-stays before.content after.content u.kept is now
    step-leaves flags _ (told session next log report said u opens does only says) ignored = same-stays before.content after.content u.kept is now
    step-leaves flags _ (shown session next log report said u opens does writes_ dry shows all warns) ignored = same-stays before.content after.content u.kept is now
    step-leaves flags _ (done e said writes_ wet are says all warns) ignored = done-leaves (log_use flags.no_log) ignored e are
    step-leaves flags _ (unwritten e fault writes_ wet taken) ignored = taken-leaves (log_use flags.no_log) ignored e fault taken
    step-leaves flags _ (no_memory stop u wants) ignored = same-stays before.content after.content u.kept is now

-- ---- a run

pub run-leaves : (asked : Result Asked UsageFault) (before after : Seen) (end : Result Said Stop) → Ends asked before after end → LeavesLog asked before after
run-leaves asked before after _ (misused fault advice u is_asked) ignored old new is now = same-stays (dir_of asked) old new before.content after.content u.kept is now
run-leaves asked before after _ (helped a text u is_asked shows) ignored old new is now = same-stays (dir_of asked) old new before.content after.content u.kept is now
run-leaves asked before after _ (told_version a u is_asked shows) ignored old new is now = same-stays (dir_of asked) old new before.content after.content u.kept is now
run-leaves asked before after _ (asks_for_none a stop u is_asked none) ignored old new is now =
    same-stays (dir_of asked) old new before.content after.content u.kept is now
run-leaves asked before after _ (steps a step end is_asked asks ends) ignored old new is now =
    subst (λ r. LeavesLog r before after) (sym is_asked) (λ left m n was is_new. step-leaves a.dir m n step before after was is_new a.flags end ends left) ignored old new is now
run-leaves asked before after _ (lists a listing end is_asked asks ends) ignored old new is now =
    same-stays (dir_of asked) old new before.content after.content (listing-untouched a.dir listing a.flags before after end ends).kept is now
run-leaves asked before after _ (memory_ran_out stop u wants) ignored old new is now =
    same-stays (dir_of asked) old new before.content after.content u.kept is now
