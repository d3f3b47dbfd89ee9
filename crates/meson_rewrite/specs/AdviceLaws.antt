-- What a run that explains has in common with one that does not.
use Rattle.std.specs.Prelude.{◌≡◌, ◌≢◌, ◌⊎◌, ℕ, Bool, false, true, List, ◌++◌, codes, Option, Result, Ok, Err}
use Rattle.serde_json.specs.Data.{Data, Members, member, no_members, object}
use Rattle.serde_json.specs.Find.{get}
use Rattle.serde_json.specs.Written.{compact_text}
use Rattle.meson_command.specs.declared.asked.Asked.{Asked}
use Rattle.meson_command.specs.declared.asked.Flags.{Flags}
use Rattle.meson_command.specs.declared.fault.UsageFault.{UsageFault}
use Rattle.meson_store.specs.Seen.{Seen}
use Rattle.meson_rewrite.specs.Lines.{line, status, stop_lines}
use Rattle.meson_rewrite.specs.Refused.{stop_members}
use Rattle.meson_rewrite.specs.Runs.{Reports, RunEnds, StepEnds}
use Rattle.meson_rewrite.specs.declared.advice.Advice.TheVariants.{Nothing}
use Rattle.meson_rewrite.specs.declared.request.Step.{Step}
use Rattle.meson_rewrite.specs.declared.said.Said.{Said}
use Rattle.meson_rewrite.specs.declared.stop.Stop.{Stop}
use Rattle.meson_rewrite.specs.declared.stop.Stop.TheVariants.{BadTexts, OtherFiles, Parse, Refused, Script, Splice, Store, TooManyFiles, Usage}

-- the stop without what explains it
abbrev pub unexplained : Stop → Stop
unexplained (Usage fault advice) = Usage fault Nothing
unexplained (Script fault advice) = Script fault Nothing
unexplained (Parse name text fault advice) = Parse name text fault Nothing
unexplained (TooManyFiles advice) = TooManyFiles Nothing
unexplained (Refused fault subject advice) = Refused fault subject Nothing
unexplained (Splice fault run advice) = Splice fault run Nothing
unexplained (OtherFiles name advice) = OtherFiles name Nothing
unexplained (BadTexts advice) = BadTexts Nothing
unexplained (Store fault advice) = Store fault Nothing
unexplained stop = stop

-- the members of an object with the warnings after them
abbrev pub and_warnings : Members → Data → Members
and_warnings no_members found = member (codes "warnings") found no_members
and_warnings (member key d more) found = member key d (and_warnings more found)

-- what is said with warnings: more lines for errors; or the same object on the output with one more member
abbrev pub SaysWarnings : Bool → Said → Said → Type 0
SaysWarnings false plain said = (more : List ℕ) × (said ≡ record plain { err = plain.err ++ more })
SaysWarnings true plain said = (members : Members) × (found : Data) × (plain.out ≡ line (compact_text (object members)))
    × (said ≡ record plain { out = line (compact_text (object (and_warnings members found))) })

-- the end without what explains it, and without warnings
abbrev pub IsPlainEnd : Bool → Result Said Stop → Result Said Stop → Type 0
IsPlainEnd json (Ok said) plain = (shown : Said) × (plain ≡ Ok shown) × ((said ≡ shown) ⊎ SaysWarnings json shown said)
IsPlainEnd json (Err stop) plain = plain ≡ Err (unexplained stop)

-- words that ask for no explanation, and for no warnings
abbrev pub plain_flags : Flags → Flags
plain_flags flags = record flags { explain = false }

abbrev pub plain_request : Asked → Asked
plain_request a = record a { flags = plain_flags a.flags }

abbrev pub plain_asked : Result Asked UsageFault → Result Asked UsageFault
plain_asked (Err fault) = Err fault
plain_asked (Ok a) = Ok (plain_request a)

-- whether the words want JSON
abbrev pub json_of : Result Asked UsageFault → Bool
json_of (Err fault) = false
json_of (Ok a) = a.flags.json

-- However a step ends where the words ask for an explanation, it may end so where they do not: the store is then as after that, and what is said is the same
-- but for the warnings. A refusal is the same without what explains it.
abbrev pub ExplainedEndsAsPlain : Type 0
ExplainedEndsAsPlain = (dir : Option (List ℕ)) (step : Step) (flags : Flags) (before after : Seen) (end : Result Said Stop)
    → StepEnds dir step flags before after end
    → (plain : Result Said Stop) × StepEnds dir step (plain_flags flags) before after plain × IsPlainEnd flags.json end plain

-- The same of a whole run as it is reported, also for words that are not a request, for a script that is not valid, and for faults of files, of the log and of the store.
abbrev pub ExplainedRunsAsPlain : Type 0
ExplainedRunsAsPlain = (asked : Result Asked UsageFault) (before after : Seen) (end shown : Result Said Stop)
    → RunEnds asked before after end → Reports asked end shown
    → (plain : Result Said Stop) × RunEnds (plain_asked asked) before after plain × IsPlainEnd (json_of asked) shown plain

-- The status is the same.
abbrev pub StatusIsPlain : Type 0
StatusIsPlain = (exit_code json : Bool) (end plain : Result Said Stop) → IsPlainEnd json end plain → status exit_code end ≡ status exit_code plain

-- The members of an answer with warnings are the same, but for `warnings`.
abbrev pub AnswersArePlain : Type 0
AnswersArePlain = (members : Members) (found : Data) (key : List ℕ) → key ≢ codes "warnings"
    → get key (object (and_warnings members found)) ≡ get key (object members)

-- The lines are the same, with more below them.
abbrev pub LinesArePlain : Type 0
LinesArePlain = (stop : Stop) → (more : List ℕ) × (stop_lines stop ≡ stop_lines (unexplained stop) ++ more)

-- The members of the object are the same, but for `help` and `notes`.
abbrev pub MembersArePlain : Type 0
MembersArePlain = (stop : Stop) (key : List ℕ) → key ≢ codes "help" → key ≢ codes "notes"
    → get key (object (stop_members stop)) ≡ get key (object (stop_members (unexplained stop)))
