-- The number of reads of the store by a run: one for the file that the words name, if they name one, one for each queried file of the project, and one for the
-- log, if it is kept. If it reports a file as unreadable, it is the last file that the store was queried for.
use Rattle.std.specs.Prelude.{◌≡◌, ◌≤◌, ◌+◌, ◌⊎◌, ℕ, List, Option, Some, None, Result, Ok, Err}
use Rattle.meson_calls.specs.declared.call.Reading.{Reading}
use Rattle.meson_json.specs.TextsFile.{GivenText, HasTexts}
use Rattle.meson_command.specs.declared.asked.Action.{Action}
use Rattle.meson_command.specs.declared.asked.Action.TheVariants as action
use Rattle.meson_command.specs.declared.asked.Asked.{Asked}
use Rattle.meson_command.specs.declared.fault.UsageFault.{UsageFault}
use Rattle.meson_splice.specs.declared.file_set.File.{File}
use Rattle.meson_store.specs.StoreCalls.{one_more}
use Rattle.meson_store.specs.Content.{Content}
use Rattle.meson_store.specs.Texts.{texts_over}
use Rattle.meson_gathering.specs.Gathering.{Finds, whole}
use Rattle.meson_gathering.specs.ReadCounts.{Asks, AsksNone, MayAsk, ReadsFiles, StopsReading}
use Rattle.meson_rewrite.specs.Logs.{log_name, log_use}
use Rattle.meson_rewrite.specs.declared.opening.LogUse.{LogUse}
use Rattle.meson_rewrite.specs.declared.opening.LogUse.TheVariants.{Kept, Ignored}
use Rattle.meson_rewrite.specs.Requests.{AsksFor, HasBytes}
use Rattle.meson_rewrite.specs.Stops.{unread_by}
use Rattle.meson_rewrite.specs.Texts.{placed, plain}
use Rattle.meson_rewrite.specs.declared.request.Listing.{Listing}
use Rattle.meson_rewrite.specs.declared.request.ProgramRequest.TheVariants as request
use Rattle.meson_rewrite.specs.declared.request.Step.{Step}
use Rattle.meson_rewrite.specs.declared.said.Said.{Said}
use Rattle.meson_rewrite.specs.declared.stop.Stop.{Stop}

-- the file that a run reports as unreadable, if there is one
abbrev pub unread_in : Result Said Stop → Option (List ℕ)
unread_in (Ok said) = None
unread_in (Err stop) = unread_by stop

-- the file that the words name: a script, or digests
abbrev pub file_read : Action → ℕ → ℕ
file_read (action.ScriptFile name unknown) reads = one_more reads
file_read (action.UndoChecked count name) reads = one_more reads
file_read _ reads = reads

-- it alone is queried
abbrev pub AsksNamed : Action → ℕ → ℕ → Option (List ℕ) → Type 0
AsksNamed (action.ScriptFile name unknown) reads reads' unread = Asks name reads reads' unread
AsksNamed (action.UndoChecked count name) reads reads' unread = Asks name reads reads' unread
AsksNamed _ reads reads' unread = ⊥

-- ---- the log: one that is ignored is not queried

abbrev pub log_read : LogUse → ℕ → ℕ
log_read Kept reads = one_more reads
log_read Ignored reads = reads

-- no query, or one for a log that is kept
abbrev pub MayAskLog : LogUse → ℕ → ℕ → Option (List ℕ) → Type 0
MayAskLog Kept reads reads' unread = MayAsk log_name reads reads' unread
MayAskLog Ignored reads reads' unread = AsksNone reads reads' unread

-- ---- the project of a folder, in a store that reported this before

module _ (how : LogUse) (reading : Reading) (before : Option Content) (dir : Option (List ℕ)) where
  -- these files, and then the log if it is kept
  abbrev pub ReadsWithLog : ℕ → List File → ℕ → Type 0
  ReadsWithLog reads files reads' = (n : ℕ) × ReadsFiles reading before dir reads files n × (reads' ≡ log_read how n)

  -- the files of the project, and then the log if it is kept
  abbrev pub ReadsProject : ℕ → ℕ → Type 0
  ReadsProject reads reads' = (files : List File) × Finds reading before dir (whole files) × ReadsWithLog reads files reads'

  -- the same, or no more than a part of them
  abbrev pub ReadsAtMost : ℕ → ℕ → Option (List ℕ) → Type 0
  ReadsAtMost reads reads' unread = StopsReading reading before dir reads reads' unread
      ⊎ ((files : List File) × (n : ℕ) × ReadsFiles reading before dir reads files n × MayAskLog how n reads' unread)

-- ---- a request without texts

-- a step on the project, or a listing of it, and no script that is not valid
abbrev pub AsksForProject : List ℕ → Action → Option Content → Type 0
AsksForProject title a before =
    ((step : Step) × AsksFor title a before (request.Step step)) ⊎ ((listing : Listing) × AsksFor title a before (request.List listing))

-- nothing; the file that the words name; or, if they request something of the project, that file and then its files and the log, or a part of them
abbrev pub MayRead : Result Asked UsageFault → Option Content → ℕ → ℕ → Option (List ℕ) → Type 0
MayRead (Err fault) before reads reads' unread = AsksNone reads reads' unread
MayRead (Ok a) before reads reads' unread = AsksNone reads reads' unread ⊎ AsksNamed a.action reads reads' unread
    ⊎ (AsksForProject a.title a.action before × ReadsAtMost (log_use a.flags.no_log) a.flags.reading before a.dir (file_read a.action reads) reads' unread)

abbrev pub ReadsFor : Action → LogUse → Reading → Option Content → Option (List ℕ) → ℕ → ℕ → Type 0
ReadsFor (action.Help text) how reading before dir reads reads' = reads' ≡ reads
ReadsFor action.Version how reading before dir reads reads' = reads' ≡ reads
ReadsFor a how reading before dir reads reads' = ReadsProject how reading before dir (file_read a reads) reads'

-- all of them, but for help and the version, which read nothing
abbrev pub ReadsAll : Result Asked UsageFault → Option Content → ℕ → ℕ → Type 0
ReadsAll (Err fault) before reads reads' = reads' ≡ reads
ReadsAll (Ok a) before reads reads' = ReadsFor a.action (log_use a.flags.no_log) a.flags.reading before a.dir reads reads'

-- ---- a request with the texts of the file of that name

-- That file is read once. Then there are this number of queries for files of the project, as P has it for a store that holds the texts. Those for a text do
-- not reach the store below.
pub record ReadsOver (a : Asked) (name : List ℕ) (before : Option Content) (reads reads' : ℕ) (P : Option Content → ℕ → ℕ → Type 0) : Type 0 where
  pub bytes : List ℕ
  pub has : HasBytes before name bytes
  pub texts : List GivenText
  pub lists : HasTexts bytes texts
  pub queries : ℕ
  pub at_most : reads' ≤ one_more reads + queries
  pub reads_so : P (texts_over (placed a.dir texts) before) 0 queries

abbrev pub TextsMayRead : Asked → List ℕ → Option Content → ℕ → ℕ → Option (List ℕ) → Type 0
TextsMayRead a name before reads reads' unread =
    MayAsk name reads reads' unread ⊎ ReadsOver a name before reads reads' (λ held n n'. MayRead (Ok a) held n n' unread)

abbrev pub TextsReadAll : Asked → List ℕ → Option Content → ℕ → ℕ → Type 0
TextsReadAll a name before reads reads' = ReadsOver a name before reads reads' (ReadsAll (Ok a))

-- ---- a whole run, by the request of the words

-- by the texts that they name
abbrev pub AskedMayRead : Asked → Option (List ℕ) → Option Content → ℕ → ℕ → Option (List ℕ) → Type 0
AskedMayRead a None before reads reads' unread = MayRead (Ok a) before reads reads' unread
AskedMayRead a (Some name) before reads reads' unread = TextsMayRead (plain a) name before reads reads' unread

abbrev pub RunMayRead : Result Asked UsageFault → Option Content → ℕ → ℕ → Option (List ℕ) → Type 0
RunMayRead (Err fault) before reads reads' unread = MayRead (Err fault) before reads reads' unread
RunMayRead (Ok a) before reads reads' unread = AskedMayRead a a.texts before reads reads' unread

abbrev pub AskedReadsAll : Asked → Option (List ℕ) → Option Content → ℕ → ℕ → Type 0
AskedReadsAll a None before reads reads' = ReadsAll (Ok a) before reads reads'
AskedReadsAll a (Some name) before reads reads' = TextsReadAll (plain a) name before reads reads'

-- all of it, if the run is done
abbrev pub RunReadsAll : Result Asked UsageFault → Option Content → ℕ → ℕ → Type 0
RunReadsAll (Err fault) before reads reads' = ReadsAll (Err fault) before reads reads'
RunReadsAll (Ok a) before reads reads' = AskedReadsAll a a.texts before reads reads'
