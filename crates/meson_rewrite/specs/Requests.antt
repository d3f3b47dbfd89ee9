-- The request of the words, and the file that they name.
use Rattle.std.specs.Prelude.{◌≡◌, ◌⊎◌, ℕ, List, [], ◌∷◌, Option, Some, None, Result, Ok, Err, if◌then◌else◌}
use Rattle.std.specs.FinMap.{get}
use Rattle.std.specs.Str.{is_utf8}
use Rattle.serde_json.specs.Read.{read}
use Rattle.meson_steps.specs.declared.command.Command.{Command}
use Rattle.meson_json.specs.declared.fault.ScriptFault.{ScriptFault}
use Rattle.meson_json.specs.declared.fault.ScriptFault.TheVariants.{NotJson}
use Rattle.meson_json.specs.declared.member_check.UnknownMembers.{UnknownMembers}
use Rattle.meson_json.specs.declared.script.Script.{Script}
use Rattle.meson_json.specs.Scripts.{script_of}
use Rattle.meson_command.specs.declared.asked.Action.{Action}
use Rattle.meson_command.specs.declared.asked.Flags.{Flags}
use Rattle.meson_rewrite.specs.Remarks.{IsScriptAdvice}
use Rattle.meson_rewrite.specs.declared.advice.Advice.{Advice}
use Rattle.meson_rewrite.specs.declared.advice.Advice.TheVariants.{Nothing}
use Rattle.meson_command.specs.declared.asked.Action.TheVariants as action
use Rattle.meson_store.specs.Content.{Content, Rose}
use Rattle.meson_store.specs.declared.store_fault.StoreFault.TheVariants as store
use Rattle.meson_gathering.specs.Gathering.{Told}
use Rattle.meson_rewrite.specs.Lines.{version_line}
use Rattle.meson_rewrite.specs.declared.request.NamedFile.{NamedFile}
use Rattle.meson_rewrite.specs.declared.request.ProgramRequest.{ProgramRequest}
use Rattle.meson_rewrite.specs.declared.request.Listing.TheVariants as listing
use Rattle.meson_rewrite.specs.declared.request.ProgramRequest.TheVariants as request
use Rattle.meson_rewrite.specs.declared.request.Step.TheVariants.{Run, Tell, Undo, UndoTo, UndoChecked, Redo, ForgetOldest, ForgetAll}
use Rattle.meson_rewrite.specs.declared.stop.Stop.{Stop}
use Rattle.meson_rewrite.specs.declared.stop.Stop.TheVariants as stop

-- ---- a file that the words name, in a store that reported this content

abbrev pub HasBytes : Option Content → List ℕ → List ℕ → Type 0
HasBytes held name bytes = Told held (λ content. get content name ≡ Some bytes)

-- it is the one of that name
abbrev pub IsFileOf : Option Content → List ℕ → NamedFile → Type 0
IsFileOf held name file = (file.name ≡ name) × HasBytes held name file.bytes

-- it is not read, or does not exist
pub data IsNoFile (held : Option Content) (failed failed' : ℕ) (name : List ℕ) : Stop → Type 0 where
  unread : Rose failed failed' → IsNoFile held failed failed' name (stop.Store (store.ReadFailed name) Nothing)
  absent : Told held (λ content. get content name ≡ None) → IsNoFile held failed failed' name (stop.Store (store.NoFile name) Nothing)

-- ---- scripts

abbrev pub script : List Command → Script
script commands = record { commands = commands }

-- the commands of a script file; one that is not UTF-8 is not JSON
abbrev pub script_in : UnknownMembers → List ℕ → Result (List Command) ScriptFault
script_in unknown bytes = if is_utf8 bytes then script_of unknown (read bytes) else Err NotJson

-- it is the fault of what is not a valid script, with what explains it
abbrev pub IsBad : Flags → Result (List Command) ScriptFault → Stop → Type 0
IsBad flags script why = (fault : ScriptFault) × ((advice : Advice) × ((script ≡ Err fault) × ((why ≡ stop.Script fault advice) × IsScriptAdvice flags fault advice)))

-- the commands of the file of that name
abbrev pub IsScriptOf : Option Content → List ℕ → UnknownMembers → List Command → Type 0
IsScriptOf held name unknown commands = (bytes : List ℕ) × HasBytes held name bytes × (script_in unknown bytes ≡ Ok commands)

-- the file of that name is not read, is not there, or is not a valid script
abbrev pub IsNoScript : Flags → Option Content → ℕ → ℕ → List ℕ → UnknownMembers → Stop → Type 0
IsNoScript flags held failed failed' name unknown why =
    IsNoFile held failed failed' name why ⊎ ((bytes : List ℕ) × HasBytes held name bytes × IsBad flags (script_in unknown bytes) why)

-- ---- the step that an action requests, a run with this title, and that it is one

abbrev pub AsksFor : List ℕ → Action → Option Content → ProgramRequest → Type 0
AsksFor title (action.Run s) held r = r ≡ request.Step (Run s title)
AsksFor title (action.Info c) held r = r ≡ request.Step (Tell (script (c ∷ [])))
AsksFor title (action.ScriptText text unknown) held r = (commands : List Command) × (script_of unknown (read text) ≡ Ok commands)
    × (r ≡ request.Step (Run (script commands) title))
AsksFor title (action.ScriptFile name unknown) held r = (commands : List Command) × IsScriptOf held name unknown commands
    × (r ≡ request.Step (Run (script commands) title))
AsksFor title action.Undo held r = r ≡ request.Step Undo
AsksFor title (action.UndoTo count) held r = r ≡ request.Step (UndoTo count)
AsksFor title (action.UndoChecked count name) held r = (kept : NamedFile) × IsFileOf held name kept × (r ≡ request.Step (UndoChecked count kept))
AsksFor title (action.ForgetOldest count) held r = r ≡ request.Step (ForgetOldest count)
AsksFor title action.ForgetAll held r = r ≡ request.Step ForgetAll
AsksFor title action.Redo held r = r ≡ request.Step Redo
AsksFor title action.History held r = r ≡ request.List listing.History
AsksFor title (action.List json) held r = r ≡ request.List (listing.Holdings json)
AsksFor title (action.ListCalls function json) held r = r ≡ request.List (listing.Calls function json)
AsksFor title (action.ListAssignments json) held r = r ≡ request.List (listing.Assignments json)
AsksFor title action.Sums held r = r ≡ request.List listing.Sums
AsksFor title (action.Help text) held r = r ≡ request.Show text
AsksFor title action.Version held r = r ≡ request.Show version_line

-- ---- why there is no request, except out of memory

abbrev pub AsksForNone : Flags → Action → Option Content → ℕ → ℕ → Stop → Type 0
AsksForNone flags (action.ScriptText text unknown) held failed failed' why = IsBad flags (script_of unknown (read text)) why
AsksForNone flags (action.ScriptFile name unknown) held failed failed' why = IsNoScript flags held failed failed' name unknown why
AsksForNone flags (action.UndoChecked count name) held failed failed' why = IsNoFile held failed failed' name why
AsksForNone flags _ held failed failed' why = ⊥
