-- What a step does to a session, and what it then says.
use Rattle.std.specs.Prelude.{◌≡◌, ◌≢◌, ◌<◌, ◌+◌, ◌⊎◌, ⊤, Bool, true, false, ℕ, List, [], ◌∷◌, ◌++◌, length, reverse, codes, decimal, None, Result}
use Rattle.meson_calls.specs.declared.refusal.Refusal.TheVariants.{OutOfMemory}
use Rattle.meson_diff.specs.Diff.{IsDiff}
use Rattle.meson_splice.specs.Past.{Forgets, redone, undone}
use Rattle.meson_splice.specs.declared.change.Change.{Change}
use Rattle.meson_splice.specs.declared.fault.SpliceFault.{SpliceFault}
use Rattle.meson_splice.specs.declared.fault.SpliceFault.TheVariants.{NothingToUndo}
use Rattle.meson_splice.specs.declared.file_set.File.{File}
use Rattle.meson_splice.specs.declared.history.History.{History}
use Rattle.meson_json.specs.Titles.{is_title}
use Rattle.meson_steps.specs.declared.command.Command.{Command}
use Rattle.meson_script.specs.declared.fault.UndoFault.{UndoFault}
use Rattle.meson_script.specs.declared.listings.ListingForm.{ListingForm}
use Rattle.meson_script.specs.declared.listings.ListingForm.TheVariants.{Plain, Placed}
use Rattle.meson_script.specs.declared.session.Report.{Report}
use Rattle.meson_script.specs.declared.session.Session.{Session}
use Rattle.meson_script.specs.Running.{KeepsChange, MayStop}
use Rattle.meson_script.specs.Undoing.{MayNotStep, Steps, StepsBack, StopsBack}
use Rattle.meson_sums.specs.Sums.{sums}
use Rattle.meson_command.specs.declared.asked.Flags.{Flags}
use Rattle.meson_rewrite.specs.Advising.{IsTold}
use Rattle.meson_rewrite.specs.Lines.{done_line, forgot_line, line, title_line}
use Rattle.meson_rewrite.specs.LoggedRuns.{newest_run}
use Rattle.meson_rewrite.specs.declared.logged_runs.Side.{Side}
use Rattle.meson_rewrite.specs.declared.logged_runs.Side.TheVariants as side
use Rattle.meson_rewrite.specs.Objects.{SaysObject, changes_files}
use Rattle.meson_rewrite.specs.Stops.{undo_stop}
use Rattle.meson_rewrite.specs.declared.advice.Advice.TheVariants.{Nothing}
use Rattle.meson_rewrite.specs.declared.request.NamedFile.{NamedFile}
use Rattle.meson_rewrite.specs.declared.request.Step.{Step}
use Rattle.meson_rewrite.specs.declared.request.Step.TheVariants.{Run, Tell, Undo, UndoTo, UndoChecked, Redo, ForgetOldest, ForgetAll}
use Rattle.meson_rewrite.specs.declared.said.Said.{Said}
use Rattle.meson_rewrite.specs.declared.stop.Stop.{Stop}
use Rattle.meson_rewrite.specs.declared.stop.Stop.TheVariants.{Refused, Splice, OtherFiles}

-- ---- what is done

-- the log loses changes: no file is changed, and nothing is listed
pub record Stays (old : Session) (report : Report) (new : Session) : Type 0 where
  pub project : new.project ≡ old.project
  pub info : report.info ≡ []

-- the files of the session have the digests that are kept in that file, to the byte
abbrev pub HasSums : Session → NamedFile → Type 0
HasSums session kept = kept.bytes ≡ sums session.project.files

-- where the answer is in JSON, listings have positions
abbrev pub listing_form : Bool → ListingForm
listing_form true = Placed
listing_form false = Plain

abbrev pub Does : Bool → Step → Session → Report → Session → Type 0
Does json (Run script title) old report new = KeepsChange (listing_form json) old script.commands title report new
Does json (Tell script) old report new = KeepsChange (listing_form json) old script.commands [] report new
Does json Undo old report new = Steps old old.history.past (undone old.history old.project.files) report new
Does json (UndoTo count) old report new = StepsBack count old report new
Does json (UndoChecked count kept) old report new = HasSums old kept × StepsBack count old report new
Does json (ForgetOldest count) old report new = Forgets count old.history new.history × Stays old report new
Does json ForgetAll old report new = (new.history ≡ record { past = []; future = [] }) × Stays old report new
Does json Redo old report new = Steps old old.history.future (redone old.history old.project.files) report new

-- a script is refused at a command, of which more is said where the words ask for it
abbrev pub StopsRun : Flags → Session → List Command → Stop → Type 0
StopsRun flags old commands (Refused fault subject advice) =
    (fault.refusal ≢ OutOfMemory → MayStop old.project commands fault.index fault.refusal) × IsTold flags old.project commands fault subject advice
StopsRun flags old commands _ = ⊥

-- the next run of a side is not taken back or done again
abbrev pub StopsStep : Session → Side → List Change → Result (History × List File) SpliceFault → Stop → Type 0
StopsStep old which runs step why =
    (fault : UndoFault) × MayNotStep step fault × (why ≡ undo_stop old.project.files (newest_run which 1 (reverse runs)) fault)

-- one of this number of runs is not taken back: the newest one that is left
abbrev pub StopsStepsBack : ℕ → Session → Stop → Type 0
StopsStepsBack count old why = (fault : UndoFault) × (between : Session) × (stops : StopsBack count old fault between)
    × (why ≡ undo_stop old.project.files (newest_run side.Undo (stops.done + 1) (reverse between.history.past)) fault)

-- the files have other digests; or they have these, and one of this number of changes is not taken back
abbrev pub StopsChecked : ℕ → NamedFile → Session → Stop → Type 0
StopsChecked count kept old why = ((HasSums old kept → ⊥) × (why ≡ OtherFiles kept.name Nothing)) ⊎ (HasSums old kept × StopsStepsBack count old why)

-- fewer changes are there to drop
abbrev pub StopsForgetting : ℕ → Session → Stop → Type 0
StopsForgetting count old why = (length old.history.past < count) × (why ≡ Splice NothingToUndo None Nothing)

abbrev pub MayRefuseStep : Flags → Step → Session → Stop → Type 0
MayRefuseStep flags (Run script title) old why = StopsRun flags old script.commands why
MayRefuseStep flags (Tell script) old why = StopsRun flags old script.commands why
MayRefuseStep flags Undo old why = StopsStep old side.Undo old.history.past (undone old.history old.project.files) why
MayRefuseStep flags (UndoTo count) old why = StopsStepsBack count old why
MayRefuseStep flags (UndoChecked count kept) old why = StopsChecked count kept old why
MayRefuseStep flags (ForgetOldest count) old why = StopsForgetting count old why
MayRefuseStep flags ForgetAll old why = ⊥
MayRefuseStep flags Redo old why = StopsStep old side.Redo old.history.future (redone old.history old.project.files) why

-- what is kept gets a title
abbrev pub IsTitled : Step → Type 0
IsTitled (Run script title) = is_title title ≡ true
IsTitled _ = ⊤

-- it prints what its commands list, and changes nothing
abbrev pub only_tells : Step → Bool
only_tells (Tell script) = true
only_tells _ = false

-- ---- what is said

-- the listings of info commands in a line, if there are any
abbrev pub listing_line : List ℕ → List ℕ
listing_line [] = []
listing_line (byte ∷ text) = line (byte ∷ text)

-- of changes that were taken back or done again: what was done, and the title of the last of them
abbrev pub step_lines : Report → List ℕ
step_lines report = done_line report.files report.splices ++ title_line report.title

-- what the step makes of the files as a unified diff, instead of the number of changes
pub record Shows (step : Step) (old : Session) (report : Report) (new : Session) (said : Said) : Type 0 where
  pub is_diff : IsDiff old.project.files new.project.files said.out
  pub is_listing : said.err ≡ listing_line report.info
  pub is_changed : said.changed ≡ changes_files step report

-- the line or lines for the output
abbrev pub output_of : Step → Report → List ℕ
output_of (Run script title) report = done_line report.files report.splices
output_of (Tell script) report = []
output_of (ForgetOldest count) report = forgot_line (decimal count)
output_of ForgetAll report = forgot_line (codes "all")
output_of _ report = step_lines report

abbrev pub said_of : Step → Report → Said
said_of step report = record { out = output_of step report; err = listing_line report.info; changed = changes_files step report }

-- of a step that made the second files of the first: these texts, or an object of JSON
abbrev pub SaysStep : Bool → Step → List File → List File → Report → Said → Type 0
SaysStep false step old new report said = said ≡ said_of step report
SaysStep true step old new report said = SaysObject step old new report said

-- of a step that is shown, and not done: a diff, or the object of a step that was done
abbrev pub ShowsStep : Bool → Step → Session → Report → Session → Said → Type 0
ShowsStep false step old report new said = Shows step old report new said
ShowsStep true step old report new said = SaysObject step old.project.files new.project.files report said
