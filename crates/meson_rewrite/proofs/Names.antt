-- A step keeps the names of a project's files.
use Rattle.std.proofs.Common.{◌≡◌, ℕ, ◌+◌, Bool, zero, suc, List, [], ◌∷◌, ◌++◌, length, Option, None, Result, Ok, Err, ◌⊎◌, inl, inr, refl, sym, ap, subst, ◌∙◌, arith}
use Rattle.std.specs.Prelude.{reverse}
use Rattle.std.proofs.lemmas.List.{length-map, length-reverse, map-append}
use Rattle.meson_splice.specs.declared.change.Change.{Change}
use Rattle.meson_splice.specs.declared.fault.SpliceFault.{SpliceFault}
use Rattle.meson_splice.specs.declared.fault.SpliceFault.TheVariants.{NothingToUndo, NothingToRedo, OutOfMemory}
use Rattle.meson_splice.specs.declared.file_set.File.{File}
use Rattle.meson_splice.specs.declared.history.History.{History}
use Rattle.meson_splice.specs.declared.splice.Splice.{Splice}
use Rattle.meson_splice.specs.Past.{redone, redone_from, undone, undone_from, undone_times}
use Rattle.meson_calls.specs.declared.load_fault.LoadFault.TheVariants as load
use Rattle.meson_calls.specs.Loading.{name_of_file}
use Rattle.meson_script.specs.Undoing.{MayNotStep, StopsBack}
use Rattle.meson_script.specs.declared.fault.UndoFault.{UndoFault}
use Rattle.meson_script.specs.declared.fault.UndoFault.TheVariants as undo
use Rattle.meson_splice.specs.Patch.{inverses_of, patched_all, then_ok}
use Rattle.meson_script.proofs.RunFacts.{change-names, names, runs-of, runs-patch}
use Rattle.meson_script.proofs.Undos.{times-names}
use Rattle.meson_script.specs.declared.session.Report.{Report}
use Rattle.meson_script.specs.declared.session.Session.{Session}
use Rattle.meson_gathering.specs.Gathering.{file_of}
use Rattle.meson_rewrite.specs.declared.advice.Advice.TheVariants.{Nothing}
use Rattle.meson_rewrite.specs.LoggedRuns.{newest_run}
use Rattle.meson_rewrite.specs.Logs.{log_name, with_log}
use Rattle.meson_rewrite.specs.inside.Edited.{IsWithin}
use Rattle.meson_rewrite.specs.Steps.{Does, StopsStep, StopsStepsBack}
use Rattle.meson_rewrite.specs.Stops.{WantsMemory, undo_stop}
use Rattle.meson_rewrite.specs.declared.logged_runs.LoggedRun.{LoggedRun}
use Rattle.meson_rewrite.specs.declared.logged_runs.Side.{Side}
use Rattle.meson_rewrite.specs.declared.logged_runs.Side.TheVariants as side
use Rattle.meson_rewrite.specs.declared.stop.FileText.TheVariants.{After}
use Rattle.meson_rewrite.specs.declared.opening.LogUse.{LogUse}
use Rattle.meson_rewrite.specs.declared.opening.LogUse.TheVariants.{Kept, Ignored}
use Rattle.meson_rewrite.specs.declared.stop.Stop.{Stop}
use Rattle.meson_rewrite.specs.declared.stop.Stop.TheVariants as stop
use Rattle.meson_rewrite.specs.declared.request.Step.{Step}
use Rattle.meson_rewrite.specs.declared.request.Step.TheVariants.{Run, Tell, Undo, UndoTo, UndoChecked, Redo, ForgetOldest, ForgetAll}

abbrev Patched : Type 0
Patched = Result (List File) SpliceFault

abbrev Stepped : Type 0
Stepped = Result (History × List File) SpliceFault

abbrev files-of : Stepped → List File
files-of (Ok p) = p.1
files-of (Err e) = []

abbrev past-of : Stepped → List Change
past-of (Ok p) = p.0.past
past-of (Err e) = []

refused-not : (e : SpliceFault) (p : History × List File) → ◌≡◌ {A = Stepped} (Err e) (Ok p) → ⊥
refused-not e p is = cc

-- a change of the files that gives a history too
moved : (files : List File) (splices : List Splice) (k : List File → History) (h : History) (after : List File) (r : Patched) → patched_all files splices ≡ r
    → then_ok r (λ fs. let s : Stepped = Ok (k fs, fs) in s) ≡ Ok (h, after) → names files ≡ names after
moved files splices k h after (Ok more) so is = change-names files splices more so ∙ ap names (ap files-of is)
moved files splices k h after (Err e) so is = absurd (refused-not e (h, after) is)

pub undone-names : (changes future : List Change) (files : List File) (h : History) (after : List File) → undone_from changes future files ≡ Ok (h, after) → names files ≡ names after
undone-names [] future files h after is = absurd (refused-not NothingToUndo (h, after) is)
undone-names (c ∷ older) future files h after is =
    moved files (inverses_of c.splices) (λ _. record { past = reverse older; future = future ++ c ∷ [] }) h after (patched_all files (inverses_of c.splices)) refl is

pub redone-names : (changes past : List Change) (files : List File) (h : History) (after : List File) → redone_from changes past files ≡ Ok (h, after) → names files ≡ names after
redone-names [] past files h after is = absurd (refused-not NothingToRedo (h, after) is)
redone-names (c ∷ later) past files h after is =
    moved files c.splices (λ _. record { past = past ++ c ∷ []; future = reverse later }) h after (patched_all files c.splices) refl is

pub step-names : (json : Bool) (step : Step) (old new : Session) (report : Report) → Does json step old report new → names old.project.files ≡ names new.project.files
step-names json (Run script title) old new report k =
    change-names old.project.files k.splices new.project.files (runs-patch old.project new.project script.commands k.splices report.relexed (runs-of k.runs).0 (runs-of k.runs).1)
step-names json (Tell script) old new report k =
    change-names old.project.files k.splices new.project.files (runs-patch old.project new.project script.commands k.splices report.relexed (runs-of k.runs).0 (runs-of k.runs).1)
step-names json Undo old new report s = undone-names (reverse old.history.past) old.history.future old.project.files new.history new.project.files s.is_step
step-names json (UndoTo count) old new report s = times-names count old.history new.history old.project.files new.project.files s.are_steps
step-names json (UndoChecked count kept) old new report s = times-names count old.history new.history old.project.files new.project.files s.1.are_steps
step-names json (ForgetOldest count) old new report s = ap (λ p. names p.files) (sym s.1.project)
step-names json ForgetAll old new report s = ap (λ p. names p.files) (sym s.1.project)
step-names json Redo old new report s = redone-names (reverse old.history.future) old.history.past old.project.files new.history new.project.files s.is_step

-- with a log that is kept after them too
pub logged-names : (how : LogUse) (files after : List File) (log new_log : List ℕ) → names files ≡ names after → names (with_log how files log) ≡ names (with_log how after new_log)
logged-names Ignored files after log new_log same = same
logged-names Kept files after log new_log same =
    map-append (λ f. f.name) files (file_of log_name log ∷ []) ∙ ap (λ ns. ns ++ log_name ∷ []) same ∙ sym (map-append (λ f. f.name) after (file_of log_name new_log ∷ []))

pub as-many : (files after : List File) → names files ≡ names after → length after ≡ length files
as-many files after same = sym (length-map after (λ f. f.name)) ∙ ap length (sym same) ∙ length-map files (λ f. f.name)

-- ---- a file that would be none

abbrev KeepsNames : List File → Stepped → Type 0
KeepsNames files step = (h : History) (after : List File) → step ≡ Ok (h, after) → names files ≡ names after

pub place-within : (step : Stepped) (files : List File) → KeepsNames files step → (fault : UndoFault) → MayNotStep step fault → IsWithin fault (length files)
place-within step files same (undo.Splice e) may = tt
place-within step files same (undo.Load load.TooManyFiles) may = tt
place-within step files same (undo.Load (load.BadFileName place)) may = tt
place-within step files same (undo.Load (load.Parse place why)) (h, after, is, unloaded) =
    let within = unloaded.2.below in
    let many = as-many files after (same h after is) in
    omega (arith, within, many)
place-within step files same (undo.Load load.OutOfMemory) may = tt

pub undo-within : (h : History) (files : List File) (fault : UndoFault) → MayNotStep (undone h files) fault → IsWithin fault (length files)
undo-within h files = place-within (undone h files) files (λ k after is. undone-names (reverse h.past) h.future files k after is)

pub redo-within : (h : History) (files : List File) (fault : UndoFault) → MayNotStep (redone h files) fault → IsWithin fault (length files)
redo-within h files = place-within (redone h files) files (λ k after is. redone-names (reverse h.future) h.past files k after is)

-- what stops an undo or a redo, or an allocation that failed
abbrev Stopping : List File → Option LoggedRun → UndoFault → Stop → Type 0
Stopping files run fault why = (why ≡ undo_stop files run fault) ⊎ (why ≡ stop.Splice OutOfMemory None Nothing)

wants : (why : Stop) → why ≡ stop.Splice OutOfMemory None Nothing → WantsMemory why
wants why e = subst WantsMemory (sym e) (refl, refl)

pub stops-step : (old : Session) (which : Side) (runs : List Change) (step : Stepped) (files : List File) → files ≡ old.project.files
    → (run : Option LoggedRun) → run ≡ newest_run which 1 (reverse runs)
    → (fault : UndoFault) (why : Stop) → MayNotStep step fault → Stopping files run fault why → WantsMemory why ⊎ StopsStep old which runs step why
stops-step old which runs step files same run newest fault why may (inl e) = inr (fault, may, e ∙ ap (λ fs. undo_stop fs run fault) same ∙ ap (λ r. undo_stop old.project.files r fault) newest)
stops-step old which runs step files same run newest fault why may (inr e) = inl (wants why e)

-- ---- what is told goes by the names of the files

abbrev nth : ℕ → List (List ℕ) → List ℕ
nth place [] = []
nth zero (n ∷ ns) = n
nth (suc place) (n ∷ ns) = nth place ns

name-nth : (place : ℕ) (files : List File) → name_of_file place files ≡ nth place (names files)
name-nth place [] = refl
name-nth zero (f ∷ files) = refl
name-nth (suc place) (f ∷ files) = name-nth place files

stop-alike : (files after : List File) (run : Option LoggedRun) → names files ≡ names after → (fault : UndoFault) → undo_stop after run fault ≡ undo_stop files run fault
stop-alike files after run same (undo.Splice e) = refl
stop-alike files after run same (undo.Load load.TooManyFiles) = refl
stop-alike files after run same (undo.Load (load.BadFileName place)) = refl
stop-alike files after run same (undo.Load (load.Parse place why)) =
    ap (λ n. stop.Parse n (After run) why Nothing) (name-nth place after ∙ ap (nth place) (sym same) ∙ sym (name-nth place files))
stop-alike files after run same (undo.Load load.OutOfMemory) = refl

-- ---- each undo takes one run from the past

fewer-runs : (changes future : List Change) (files : List File) (h : History) (after : List File) → undone_from changes future files ≡ Ok (h, after)
    → length changes ≡ length h.past + 1
fewer-runs [] future files h after is = absurd (refused-not NothingToUndo (h, after) is)
fewer-runs (c ∷ older) future files h after is = go (patched_all files (inverses_of c.splices)) is
  where
    go : (r : Patched) → then_ok r (λ fs. let s : Stepped = Ok (record { past = reverse older; future = future ++ c ∷ [] }, fs) in s) ≡ Ok (h, after)
        → length (c ∷ older) ≡ length h.past + 1
    go (Ok fs) so =
        let same : reverse older ≡ h.past = ap past-of so in
        omega (arith, length-reverse older, ap length same)
    go (Err e) so = absurd (refused-not e (h, after) so)

-- after as many undos, and one more
one-left : (n : ℕ) (h k : History) (after : List File) (r : Stepped) → ((m : History) (between : List File) → r ≡ Ok (m, between) → length h.past ≡ length m.past + n)
    → then_ok r (λ s. undone s.0 s.1) ≡ Ok (k, after) → length h.past ≡ length k.past + suc n
one-left n h k after (Ok (m, between)) earlier last =
    omega (arith, earlier m between refl, fewer-runs (reverse m.past) m.future between k after last, length-reverse m.past)
one-left n h k after (Err e) earlier last = absurd (refused-not e (k, after) last)

pub runs-left : (n : ℕ) (h k : History) (files after : List File) → undone_times n h files ≡ Ok (k, after) → length h.past ≡ length k.past + n
runs-left zero h k files after is = omega (arith, ap length (ap past-of is))
runs-left (suc n) h k files after is = one-left n h k after (undone_times n h files) (λ m between so. runs-left n h m files between so) is

pub stops-steps : (count : ℕ) (old between : Session) (files : List File) → files ≡ between.project.files → (fault : UndoFault) (stops : StopsBack count old fault between)
    → (run : Option LoggedRun) → run ≡ newest_run side.Undo (stops.done + 1) (reverse between.history.past)
    → (why : Stop) → Stopping files run fault why → WantsMemory why ⊎ StopsStepsBack count old why
stops-steps count old between files same fault stops run newest why (inl e) =
    let names_stay = times-names stops.done old.history between.history old.project.files between.project.files stops.are_done in
    let told = e ∙ ap (λ fs. undo_stop fs run fault) same ∙ stop-alike old.project.files between.project.files run names_stay fault in
    inr (fault, between, stops, told ∙ ap (λ r. undo_stop old.project.files r fault) newest)
stops-steps count old between files same fault stops run newest why (inr e) = inl (wants why e)
