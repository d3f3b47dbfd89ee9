-- Why a run is stopped: the fault of the step that stopped it.
use Rattle.std.specs.Prelude.{◌≡◌, ℕ, List, Option, None, Some}
use Rattle.meson_splice.specs.declared.fault.SpliceFault.TheVariants as splice
use Rattle.meson_splice.specs.declared.file_set.File.{File}
use Rattle.meson_calls.specs.declared.load_fault.LoadFault.TheVariants as load
use Rattle.meson_calls.specs.declared.refusal.Refusal.TheVariants as refusal
use Rattle.meson_calls.specs.Loading.{name_of_file}
use Rattle.meson_json.specs.declared.fault.ScriptFault.TheVariants as script
use Rattle.meson_script.specs.declared.fault.UndoFault.{UndoFault}
use Rattle.meson_script.specs.declared.fault.UndoFault.TheVariants as undo
use Rattle.meson_command.specs.declared.fault.UsageFault.TheVariants as usage
use Rattle.meson_store.specs.declared.store_fault.StoreFault.TheVariants as store
use Rattle.meson_gathering.specs.declared.fault.GatherFault.{GatherFault}
use Rattle.meson_gathering.specs.declared.fault.GatherFault.TheVariants as gather
use Rattle.meson_gathering.specs.ReadCounts.{unread_name}
use Rattle.meson_rewrite.specs.declared.advice.Advice.{Advice}
use Rattle.meson_rewrite.specs.declared.advice.Advice.TheVariants.{Nothing}
use Rattle.meson_rewrite.specs.declared.logged_runs.LoggedRun.{LoggedRun}
use Rattle.meson_rewrite.specs.declared.stop.FileText.TheVariants.{After, Read}
use Rattle.meson_rewrite.specs.declared.stop.Stop.{Stop}
use Rattle.meson_rewrite.specs.declared.stop.Stop.TheVariants.{Usage, Script, Parse, TooManyFiles, BadFileName, Refused, Splice, OtherFiles, BadTexts, Store}

-- of the files of a store
abbrev pub gathering_stop : GatherFault → Stop
gathering_stop (gather.Parse name bytes fault) = Parse name (Read bytes) fault Nothing
gathering_stop gather.TooManyFiles = TooManyFiles Nothing
gathering_stop (gather.Store fault) = Store fault Nothing

-- the file that it reports as unreadable, if there is one
abbrev pub unread_by : Stop → Option (List ℕ)
unread_by (Store fault advice) = unread_name fault
unread_by _ = None

-- of an undo or a redo of a run on files with these names
abbrev pub undo_stop : List File → Option LoggedRun → UndoFault → Stop
undo_stop files run (undo.Splice fault) = Splice fault run Nothing
undo_stop files run (undo.Load load.TooManyFiles) = TooManyFiles Nothing
undo_stop files run (undo.Load (load.BadFileName place)) = BadFileName place
undo_stop files run (undo.Load (load.Parse place fault)) = Parse (name_of_file place files) (After run) fault Nothing
undo_stop files run (undo.Load load.OutOfMemory) = Store store.OutOfMemory Nothing

-- an allocation failed, whichever step made it
abbrev pub WantsMemory : Stop → Type 0
WantsMemory (Usage fault advice) = (fault ≡ usage.OutOfMemory) × (advice ≡ Nothing)
WantsMemory (Script fault advice) = (fault ≡ script.OutOfMemory) × (advice ≡ Nothing)
WantsMemory (Refused fault subject advice) = (fault.refusal ≡ refusal.OutOfMemory) × (advice ≡ Nothing)
WantsMemory (Splice fault run advice) = (fault ≡ splice.OutOfMemory) × (advice ≡ Nothing)
WantsMemory (Store fault advice) = (fault ≡ store.OutOfMemory) × (advice ≡ Nothing)
WantsMemory _ = ⊥

-- ---- what explains it

abbrev pub stop_advice : Stop → Option Advice
stop_advice (Usage fault advice) = Some advice
stop_advice (Script fault advice) = Some advice
stop_advice (Parse name text fault advice) = Some advice
stop_advice (TooManyFiles advice) = Some advice
stop_advice (Refused fault subject advice) = Some advice
stop_advice (Splice fault run advice) = Some advice
stop_advice (OtherFiles name advice) = Some advice
stop_advice (BadTexts advice) = Some advice
stop_advice (Store fault advice) = Some advice
stop_advice _ = None

-- a fault of files, of texts, of the log or of the store, explained by this in place of what explained it
abbrev pub advised : Advice → Stop → Stop
advised advice (Parse name text fault old) = Parse name text fault advice
advised advice (TooManyFiles old) = TooManyFiles advice
advised advice (Splice fault run old) = Splice fault run advice
advised advice (OtherFiles name old) = OtherFiles name advice
advised advice (BadTexts old) = BadTexts advice
advised advice (Script script.BadLog old) = Script script.BadLog advice
advised advice (Store fault old) = Store fault advice
advised advice stop = stop
