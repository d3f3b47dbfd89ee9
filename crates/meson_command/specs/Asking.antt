-- The request of a command line.
use Rattle.std.specs.Prelude.{Bool, false, true, not, ◌||◌, ◌&&◌, bytes_eq, List, [], ◌∷◌, length, ◌==◌, codes, if◌then◌else◌, Option, Some, None, ok_or, Result, Ok, Err}
use Rattle.std.specs.Option.{option_map_or}
use Rattle.clap.specs.Words.{Kinds, Row, Text, fault_of, first_of, matches_of, subcommand_of}
use Rattle.clap.specs.declared.error.kind.ErrorKind.{ErrorKind}
use Rattle.clap.specs.declared.error.kind.ErrorKind.TheVariants.{DisplayHelp, DisplayVersion}
use Rattle.meson_calls.specs.declared.call.Reading.TheVariants.{Written}
use Rattle.meson_splice.specs.Patch.{then_ok}
use Rattle.meson_steps.specs.declared.source_change.SharedLists.{SharedLists}
use Rattle.meson_steps.specs.declared.source_change.SharedLists.TheVariants.{Changed}
use Rattle.meson_json.specs.Targets.{kept_lists, reading_of}
use Rattle.meson_json.specs.Titles.{is_title}
use Rattle.meson_command.specs.Actions.{has_flag, word_at}
use Rattle.meson_command.specs.Arguments.{action_within}
use Rattle.meson_command.specs.Program.{program}
use Rattle.meson_command.specs.Spelling.{clap_words}
use Rattle.meson_command.specs.declared.asked.Action.{Action}
use Rattle.meson_command.specs.declared.asked.Action.TheVariants as action
use Rattle.meson_command.specs.declared.asked.Action.TheVariants.{Help, Version}
use Rattle.meson_command.specs.declared.asked.Asked.{Asked}
use Rattle.meson_command.specs.declared.asked.Flags.{Flags}
use Rattle.meson_command.specs.declared.fault.UsageFault.{UsageFault}
use Rattle.meson_command.specs.declared.fault.UsageFault.TheVariants.{Usage, BadTitle}

-- an empty word names no folder
abbrev pub names_no_folder : Option Text → Bool
names_no_folder dir = option_map_or (λ d. length d == 0) dir false

-- whether variables are followed, and then whether lists that another target gets too are changed
abbrev pub follow_in : List Row → Option SharedLists
follow_in rows = if has_flag (codes "follow-shared") rows then Some Changed else kept_lists (has_flag (codes "follow") rows)

-- the given title, or the empty one
abbrev pub title_in : List Row → Text
title_in rows = word_at (codes "TEXT") rows

-- whether the request is shown, and not done
abbrev pub is_dry : List Row → Bool
is_dry rows = has_flag (codes "dry-run") rows

-- whether it is answered in JSON
abbrev pub is_json_answer : List Row → Bool
is_json_answer rows = has_flag (codes "json") rows

abbrev pub flags_in : List Row → Flags
flags_in rows = record {
  dry_run = is_dry rows;
  json = is_json_answer rows;
  explain = has_flag (codes "explain") rows;
  exit_code = has_flag (codes "exit-code") rows;
  no_log = has_flag (codes "no-log") rows;
  reading = reading_of (follow_in rows);
}

abbrev pub no_flags : Flags
no_flags = record { dry_run = false; json = false; explain = false; exit_code = false; no_log = false; reading = Written }

-- ---- texts of files, for what writes nothing

-- help or the version: the store is not used
abbrev pub only_shows : Action → Bool
only_shows (Help text) = true
only_shows Version = true
only_shows _ = false

-- the request is only help, the version, a listing, or what an info command reports
abbrev pub only_asks : Action → Bool
only_asks (action.Info c) = true
only_asks action.History = true
only_asks (action.List json) = true
only_asks (action.ListCalls function json) = true
only_asks (action.ListAssignments json) = true
only_asks action.Sums = true
only_asks a = only_shows a

-- standard input, which a folder reads by this name
abbrev pub is_input : Text → Bool
is_input word = bytes_eq word (codes "-")

abbrev pub reads_input : Action → Bool
reads_input (action.ScriptFile name unknown) = is_input name
reads_input (action.UndoChecked count sums) = is_input sums
reads_input _ = false

-- nothing is written, and standard input is not to be read twice
abbrev pub takes_texts : Action → Text → Bool → Bool
takes_texts action word dry_run = (dry_run || only_asks action) && not (is_input word && reads_input action)

-- so it is if a file of texts is named
abbrev pub texts_fit : Action → Option Text → Bool → Bool
texts_fit action texts dry_run = option_map_or (λ word. takes_texts action word dry_run) texts true

-- ---- the request

-- this action, in the given folder and with the given title
abbrev pub with_title : List Row → Action → Result Asked UsageFault
with_title rows action =
    if is_title (title_in rows)
    then Ok (record { dir = first_of (codes "DIR") rows; title = title_in rows; flags = flags_in rows; texts = first_of (codes "FILE") rows; action = action })
    else Err BadTitle

-- the same, if the texts that are named fit it
abbrev pub with_texts : List Row → Action → Result Asked UsageFault
with_texts rows action = if texts_fit action (first_of (codes "FILE") rows) (is_dry rows) then with_title rows action else Err Usage

-- the request of the words before the subcommand, and of its name and words
unfoldable pub asked_from : List Row → Option (Text × List Row) → Result Asked UsageFault
asked_from rows subcommand =
    then_ok (ok_or subcommand Usage) (λ s.
    if names_no_folder (first_of (codes "DIR") rows) then Err Usage else
    then_ok (action_within (first_of (codes "FOLDER") rows) (follow_in rows) s.0 s.1) (with_texts rows))

-- if clap takes the words that it gets, of which the first is the program's name
abbrev pub asked_of : List Text → Result Asked UsageFault
asked_of words = asked_from (matches_of program words) (subcommand_of program words)

-- `--help`; nothing is said of its text
abbrev pub help : Asked
help = record { dir = None; title = []; flags = no_flags; texts = None; action = Help [] }

-- `--version`
abbrev pub version : Asked
version = record { dir = None; title = []; flags = no_flags; texts = None; action = Version }

-- by a kind of fault that clap finds: it shows help or the version, or refuses the words
abbrev pub answer_by : ErrorKind → Result Asked UsageFault
answer_by DisplayHelp = Ok help
answer_by DisplayVersion = Ok version
answer_by _ = Err Usage

-- by all faults that it finds, of which the first counts; it takes the words if it finds none
abbrev pub answer : Kinds → Result Asked UsageFault → Result Asked UsageFault
answer [] asked = asked
answer (kind ∷ kinds) asked = answer_by kind

-- for any words that clap gets
abbrev pub asked_as : List Text → Result Asked UsageFault
asked_as words = answer (fault_of program words) (asked_of words)

-- for any words
abbrev pub asked_by : List Text → Result Asked UsageFault
asked_by words = asked_as (clap_words words)

-- the same, with no text of help
abbrev pub without_help_text : Action → Action
without_help_text (Help text) = Help []
without_help_text other = other

abbrev pub without_text : Asked → Asked
without_text a = record a { action = without_help_text a.action }

-- whether words are answered in JSON, by all faults that clap finds and by what the words say: where it finds one, it refuses them, or shows help or the
-- version
abbrev pub json_by : Kinds → Bool → Bool
json_by [] json = json
json_by (kind ∷ kinds) json = false

-- for any words that clap gets: it takes them, and `--json` is before the subcommand
abbrev pub wants_json_as : List Text → Bool
wants_json_as words = json_by (fault_of program words) (is_json_answer (matches_of program words))

-- for any words
abbrev pub wants_json : List Text → Bool
wants_json words = wants_json_as (clap_words words)
