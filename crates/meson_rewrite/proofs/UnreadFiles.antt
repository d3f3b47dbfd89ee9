-- Stops that tell of no file that could not be read.
use Rattle.std.proofs.Common.{◌≡◌, ◌⊎◌, ◌∙◌, ℕ, List, [], ◌∷◌, None, false, Result, Ok, Err, inl, inr, refl, ap}
use Rattle.std.specs.Prelude.{◌+◌, IfErr, Option, reverse}
use Rattle.meson_command.specs.declared.asked.Action.{Action}
use Rattle.meson_command.specs.declared.asked.Action.TheVariants as action
use Rattle.meson_command.specs.declared.asked.Flags.{Flags}
use Rattle.meson_calls.specs.declared.load_fault.LoadFault.TheVariants as load
use Rattle.meson_script.specs.declared.fault.UndoFault.{UndoFault}
use Rattle.meson_script.specs.declared.fault.UndoFault.TheVariants as undo
use Rattle.meson_script.specs.declared.session.Session.{Session}
use Rattle.meson_splice.specs.declared.change.Change.{Change}
use Rattle.meson_splice.specs.declared.fault.SpliceFault.{SpliceFault}
use Rattle.meson_splice.specs.declared.file_set.File.{File}
use Rattle.meson_splice.specs.declared.history.History.{History}
use Rattle.meson_splice.specs.Past.{redone, undone}
use Rattle.meson_json.specs.Log.{logged}
use Rattle.meson_json.specs.declared.fault.ScriptFault.{ScriptFault}
use Rattle.meson_json.specs.declared.fault.ScriptFault.TheVariants as script
use Rattle.meson_steps.specs.declared.command.Command.{Command}
use Rattle.meson_store.specs.Commit.{CommitFails, Put, fault_of}
use Rattle.meson_store.specs.Seen.{Seen}
use Rattle.meson_store.specs.declared.store.StoreError.{StoreError}
use Rattle.meson_store.specs.declared.store.StoreError.TheVariants as error
use Rattle.meson_store.specs.declared.store_fault.StoreFault.{StoreFault}
use Rattle.meson_gathering.specs.ReadCounts.{unread_file, unread_name}
use Rattle.meson_gathering.specs.declared.fault.GatherFault.{GatherFault}
use Rattle.meson_gathering.specs.declared.fault.GatherFault.TheVariants as gather
use Rattle.meson_rewrite.specs.LoggedRuns.{newest_run}
use Rattle.meson_rewrite.specs.declared.logged_runs.LoggedRun.{LoggedRun}
use Rattle.meson_rewrite.specs.declared.logged_runs.Side.{Side}
use Rattle.meson_rewrite.specs.declared.logged_runs.Side.TheVariants as side
use Rattle.meson_rewrite.specs.Requests.{AsksForNone, IsBad}
use Rattle.meson_rewrite.specs.inside.Requests.{names_file}
use Rattle.meson_rewrite.specs.Steps.{MayRefuseStep, StopsRun, StopsStep, StopsStepsBack}
use Rattle.meson_rewrite.specs.StoreReads.{unread_in}
use Rattle.meson_rewrite.specs.Stops.{WantsMemory, gathering_stop, undo_stop, unread_by}
use Rattle.meson_rewrite.specs.declared.request.Step.{Step}
use Rattle.meson_rewrite.specs.declared.request.Step.TheVariants.{Run, Tell, Undo, UndoTo, UndoChecked, Redo, ForgetOldest, ForgetAll}
use Rattle.meson_rewrite.specs.declared.said.Said.{Said}
use Rattle.meson_rewrite.specs.declared.advice.Advice.TheVariants.{Nothing}
use Rattle.meson_rewrite.specs.declared.stop.Stop.{Stop}
use Rattle.meson_rewrite.specs.declared.stop.Stop.TheVariants.{Script, Refused, Store}

pub memory-unread : (why : Stop) → WantsMemory why → unread_by why ≡ None
memory-unread (Store fault advice) (m, none) = ap unread_name m
memory-unread _ m = refl

-- the files of the store
pub gathered-unread : (fault : GatherFault) → unread_by (gathering_stop fault) ≡ unread_file fault
gathered-unread (gather.Parse name bytes fault) = refl
gathered-unread gather.TooManyFiles = refl
gathered-unread (gather.Store fault) = refl

-- the log
pub log-unread : (text : List ℕ) (why : Stop) → WantsMemory why ⊎ ((why ≡ Script script.BadLog Nothing) × (logged text ≡ None)) → unread_by why ≡ None
log-unread text why (inl m) = memory-unread why m
log-unread text why (inr bad) = ap unread_by bad.0

-- ---- what is asked for

pub bad-unread : (flags : Flags) (r : Result (List Command) ScriptFault) (why : Stop) → WantsMemory why ⊎ IsBad flags r why → unread_by why ≡ None
bad-unread flags r why (inl m) = memory-unread why m
bad-unread flags r why (inr bad) = ap unread_by bad.1.1.1.0

pub asked-unread : (flags : Flags) (a : Action) (why : Stop) → names_file a ≡ false → WantsMemory why ⊎ AsksForNone flags a None 0 0 why → unread_by why ≡ None
asked-unread flags a why unnamed (inl m) = memory-unread why m
asked-unread flags (action.ScriptText text unknown) why unnamed (inr bad) = ap unread_by bad.1.1.1.0
asked-unread flags (action.ScriptFile name unknown) why unnamed (inr none) = absurd (let no : ⊥ = cc in no)
asked-unread flags (action.UndoChecked count name) why unnamed (inr none) = absurd (let no : ⊥ = cc in no)
asked-unread flags _ why unnamed (inr none) = absurd none

-- ---- a step that is refused

undo-unread : (files : List File) (run : Option LoggedRun) (fault : UndoFault) → unread_by (undo_stop files run fault) ≡ None
undo-unread files run (undo.Splice fault) = refl
undo-unread files run (undo.Load load.TooManyFiles) = refl
undo-unread files run (undo.Load (load.BadFileName place)) = refl
undo-unread files run (undo.Load (load.Parse place fault)) = refl
undo-unread files run (undo.Load load.OutOfMemory) = refl

run-unread : (flags : Flags) (old : Session) (commands : List Command) (why : Stop) → StopsRun flags old commands why → unread_by why ≡ None
run-unread flags old commands (Refused fault subject advice) h = refl
run-unread flags old commands _ h = absurd h

step-unread : (old : Session) (which : Side) (runs : List Change) (step : Result (History × List File) SpliceFault) (why : Stop)
    → StopsStep old which runs step why → unread_by why ≡ None
step-unread old which runs step why h = ap unread_by h.2 ∙ undo-unread old.project.files (newest_run which 1 (reverse runs)) h.0

back-unread : (count : ℕ) (old : Session) (why : Stop) → StopsStepsBack count old why → unread_by why ≡ None
back-unread count old why h = ap unread_by h.3 ∙ undo-unread old.project.files (newest_run side.Undo (h.2.done + 1) (reverse h.1.history.past)) h.0

refused-unread : (flags : Flags) (step : Step) (old : Session) (why : Stop) → MayRefuseStep flags step old why → unread_by why ≡ None
refused-unread flags (Run script title) old why h = run-unread flags old script.commands why h
refused-unread flags (Tell script) old why h = run-unread flags old script.commands why h
refused-unread flags Undo old why h = step-unread old side.Undo old.history.past (undone old.history old.project.files) why h
refused-unread flags (UndoTo count) old why h = back-unread count old why h
refused-unread flags (UndoChecked count kept) old why (inl other) = ap unread_by other.1
refused-unread flags (UndoChecked count kept) old why (inr (has, back)) = back-unread count old why back
refused-unread flags (ForgetOldest count) old why h = ap unread_by h.1
refused-unread flags ForgetAll old why h = absurd h
refused-unread flags Redo old why h = step-unread old side.Redo old.history.future (redone old.history old.project.files) why h

pub stop-unread : (flags : Flags) (step : Step) (old : Session) (why : Stop) → WantsMemory why ⊎ MayRefuseStep flags step old why → unread_by why ≡ None
stop-unread flags step old why (inl m) = memory-unread why m
stop-unread flags step old why (inr refused) = refused-unread flags step old why refused

-- ---- by the whole ending

pub acting-unread : (flags : Flags) (step : Step) (old : Session) (end : Result Said Stop) → IfErr end (λ why. WantsMemory why ⊎ MayRefuseStep flags step old why) → unread_in end ≡ None
acting-unread flags step old (Ok said) h = refl
acting-unread flags step old (Err why) h = stop-unread flags step old why h

pub listing-unread : (end : Result Said Stop) → IfErr end WantsMemory → unread_in end ≡ None
listing-unread (Ok said) h = refl
listing-unread (Err why) h = memory-unread why h

-- ---- a commit that failed

fault-unread : (name : List ℕ) (why : StoreError) (still : List (List ℕ)) → unread_name (fault_of name why still) ≡ None
fault-unread name error.OutOfMemory [] = refl
fault-unread name error.OutOfMemory (n ∷ still) = refl
fault-unread name error.Device still = refl
fault-unread name error.Unchanged still = refl

pub commit-unread : (files : List Put) (before after : Seen) (fault : StoreFault) → CommitFails files before after fault → unread_name fault ≡ None
commit-unread files before after fault (inl none) = ap unread_name none.0
commit-unread files before after fault (inr taken) = ap unread_name taken.told ∙ fault-unread taken.stops.failed.name taken.why taken.still
