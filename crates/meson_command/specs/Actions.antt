-- The request of the words of a subcommand.
use Rattle.std.specs.Prelude.{ℕ, Bool, false, true, ◌&&◌, ◌||◌, ◌==◌, not, List, [], ◌∷◌, codes, bytes_eq, find, map, if◌then◌else◌, Option, Some, None, ok_or, unwrap_or, Result, Ok, Err, length}
use Rattle.std.specs.Option.{option_map_or}
use Rattle.clap.specs.Words.{Row, Text, all_of, first_of}
use Rattle.meson_calls.specs.declared.call.CallName.{CallName}
use Rattle.meson_calls.specs.declared.call.Role.{Role}
use Rattle.meson_splice.specs.Patch.{then_ok}
use Rattle.meson_steps.specs.declared.command.Command.{Command}
use Rattle.meson_steps.specs.declared.command.Command.TheVariants as command
use Rattle.meson_steps.specs.declared.command.Setting.{Setting}
use Rattle.meson_steps.specs.declared.command.Setting.TheVariants as setting
use Rattle.meson_steps.specs.declared.source_change.SharedLists.{SharedLists}
use Rattle.meson_json.specs.Operations.{kwargs_operation, role_of}
use Rattle.meson_json.specs.Targets.{renaming_of, target_command}
use Rattle.meson_json.specs.Counts.{count_of}
use Rattle.meson_command.specs.Operations.{operation_of_word, options_word}
use Rattle.meson_command.specs.Pairs.{lone_names, pair_names, pairs_of}
use Rattle.meson_command.specs.declared.asked.Action.{Action}
use Rattle.meson_command.specs.declared.asked.Action.TheVariants as action
use Rattle.meson_command.specs.declared.asked.Action.TheVariants.{Run, Info, ScriptText, ScriptFile, Undo, UndoTo, UndoChecked, Redo, History, ForgetOldest, ForgetAll, Sums}
use Rattle.meson_command.specs.declared.fault.UsageFault.{UsageFault}
use Rattle.meson_command.specs.declared.operations.OptionsWord.{OptionsWord}
use Rattle.meson_command.specs.declared.operations.OptionsWord.TheVariants as options
use Rattle.meson_command.specs.declared.fault.UsageFault.TheVariants.{Usage, Unsupported}
use Rattle.meson_json.specs.declared.member_check.UnknownMembers.{UnknownMembers}
use Rattle.meson_json.specs.declared.member_check.UnknownMembers.TheVariants.{Ignored, Refused}
use Rattle.meson_json.specs.declared.names.KwargsOperation.{KwargsOperation}
use Rattle.meson_json.specs.declared.names.KwargsOperation.TheVariants as kwargs
use Rattle.meson_json.specs.declared.target.TargetMembers.{TargetMembers}
use Rattle.meson_json.specs.declared.target.TargetOperation.{TargetOperation}
use Rattle.meson_json.specs.declared.target.TargetOperation.TheVariants as target

-- ---- the words that clap found, by what help calls them

-- the word, or another one if it was left out
abbrev pub word_or : Text → Text → List Row → Text
word_or otherwise name rows = unwrap_or (first_of name rows) otherwise

abbrev pub word_at : Text → List Row → Text
word_at name rows = word_or [] name rows

abbrev pub words_at : Text → List Row → List Text
words_at name rows = unwrap_or (all_of name rows) []

-- whether a flag is there
abbrev pub has_flag : Text → List Row → Bool
has_flag name rows = bytes_eq (word_at name rows) (codes "true")

-- the script of one command
abbrev pub run : Command → Action
run command = Run (record { commands = command ∷ [] })

-- ---- target ID OPERATION [SOURCE]... [--subdir SUBDIR] [--type KIND] [--sorted]

-- in the folder alone if one is named, and with variables followed so
abbrev pub target_words : Option Text → Option SharedLists → List Row → TargetMembers
target_words folder follow rows = record {
  target = word_at (codes "ID") rows;
  folder = folder;
  sources = words_at (codes "SOURCE") rows;
  subdir = word_at (codes "SUBDIR") rows;
  target_kind = word_or (codes "executable") (codes "KIND") rows;
  sorted = has_flag (codes "sorted") rows;
  follow = follow;
}

abbrev pub target_by : TargetOperation → TargetMembers → Action
target_by target.Info members = Info (target_command target.Info members)
target_by operation members = run (target_command operation members)

-- ---- target ID rename OLD NEW

-- the sources are the old name and the new one; variables are followed so
unfoldable pub rename_action : Option Text → Option SharedLists → List Row → Result Action UsageFault
rename_action folder follow rows =
    then_ok (ok_or (renaming_of (record { id = word_at (codes "ID") rows; folder = folder }) (words_at (codes "SOURCE") rows) follow) Usage)
    (λ command. Ok (run command))

-- ---- any words of target

-- `--sorted` is given, and the operation is not the addition of sources, which alone takes it
abbrev pub misplaces_sorted : List Row → Bool
misplaces_sorted rows = has_flag (codes "sorted") rows && not (bytes_eq (word_at (codes "OPERATION") rows) (codes "add"))

unfoldable pub target_action : Option Text → Option SharedLists → List Row → Result Action UsageFault
target_action folder follow rows =
    if misplaces_sorted rows then Err Usage
    else (if bytes_eq (word_at (codes "OPERATION") rows) (codes "rename") then rename_action folder follow rows
    else then_ok (ok_or (operation_of_word (word_at (codes "OPERATION") rows)) Usage) (λ operation.
    Ok (target_by operation (target_words folder follow rows))))

-- ---- kwargs OPERATION FUNCTION ID [KEY VALUE]...

abbrev pub settings : List (Text × Text) → List (Text × Setting)
settings pairs = map (λ p. (p.0, setting.Text p.1)) pairs

-- `info` reads no pairs
unfoldable pub kwargs_by : KwargsOperation → Role → CallName → List Text → Result Action UsageFault
kwargs_by kwargs.Set role name words = then_ok (pairs_of words) (λ pairs. Ok (run (command.KwargsSet role name (settings pairs))))
kwargs_by kwargs.Delete role name words = then_ok (pairs_of words) (λ pairs. Ok (run (command.KwargsDelete role name (pair_names pairs))))
kwargs_by kwargs.Add role name words = then_ok (pairs_of words) (λ pairs. Ok (run (command.KwargsAdd role name (settings pairs))))
kwargs_by kwargs.Remove role name words = then_ok (pairs_of words) (λ pairs. Ok (run (command.KwargsRemove role name (settings pairs))))
kwargs_by kwargs.RemoveRegex role name words = then_ok (pairs_of words) (λ pairs. Err Unsupported)
kwargs_by kwargs.Info role name words = Ok (Info (command.KwargsInfo role name))

-- of the call in the folder alone if one is named
unfoldable pub kwargs_action : Option Text → List Row → Result Action UsageFault
kwargs_action folder rows =
    then_ok (ok_or (kwargs_operation (word_at (codes "OPERATION") rows)) Usage) (λ operation.
    then_ok (ok_or (role_of (word_at (codes "FUNCTION") rows)) Usage) (λ role.
    kwargs_by operation role (record { id = word_at (codes "ID") rows; folder = folder }) (words_at (codes "KEY VALUE") rows)))

-- ---- default-options OPERATION [OPTION VALUE]..., or unset [OPTION]...

unfoldable pub options_by : OptionsWord → List Text → Result Action UsageFault
options_by options.Set words = then_ok (pairs_of words) (λ pairs. Ok (run (command.OptionsSet pairs)))
options_by options.Delete words = then_ok (pairs_of words) (λ pairs. Ok (run (command.OptionsDelete (pair_names pairs))))
options_by options.Unset words = then_ok (lone_names words) (λ names. Ok (run (command.OptionsDelete names)))

unfoldable pub options_action : List Row → Result Action UsageFault
options_action rows =
    then_ok (ok_or (options_word (word_at (codes "OPERATION") rows)) Usage) (λ word. options_by word (words_at (codes "OPTION VALUE") rows))

-- ---- command [--strict] JSON

-- a space (32) or a tab (9)
abbrev pub is_space : ℕ → Bool
is_space b = b == 32 || b == 9

-- the first byte that is not a blank is `[` (91) or `{` (123)
abbrev pub is_json : Text → Bool
is_json word = option_map_or (λ b. b == 91 || b == 123) (find (λ b. not (is_space b)) word) false

-- what is done about members that are not known, by whether the script is read strictly
abbrev pub unknown_members : Bool → UnknownMembers
unknown_members true = Refused
unknown_members false = Ignored

unfoldable pub script_action : List Row → Action
script_action rows =
    let word = word_at (codes "JSON") rows in
    let unknown = unknown_members (has_flag (codes "strict") rows) in
    if is_json word then ScriptText word unknown else ScriptFile word unknown

-- ---- undo [--to N] [--check FILE]

-- the number that is given, if there is one
abbrev pub count_in : Option Text → Result (Option ℕ) UsageFault
count_in None = Ok None
count_in (Some word) = then_ok (ok_or (count_of word) Usage) (λ count. Ok (Some count))

-- of this number of changes, or of the newest; only if the digests are right, if a file of them is named
abbrev pub undo_of : Option ℕ → Option Text → Action
undo_of None None = Undo
undo_of (Some count) None = UndoTo count
undo_of None (Some name) = UndoChecked 1 name
undo_of (Some count) (Some name) = UndoChecked count name

abbrev pub undo_action : List Row → Result Action UsageFault
undo_action rows =
    then_ok (count_in (first_of (codes "N") rows)) (λ count. Ok (undo_of count (first_of (codes "FILE") rows)))

-- ---- history [--forget N]

abbrev pub history_by : Option Text → Result Action UsageFault
history_by None = Ok History
history_by (Some word) =
    if bytes_eq word (codes "all") then Ok ForgetAll
    else then_ok (ok_or (count_of word) Usage) (λ count. Ok (ForgetOldest count))

abbrev pub history_action : List Row → Result Action UsageFault
history_action rows = history_by (first_of (codes "N") rows)

-- ---- list [--of FUNCTION] [--json] [--sums]

-- of the project: as JSON, as digests, or as neither; not as both
abbrev pub list_by : Bool → Bool → Result Action UsageFault
list_by json false = Ok (action.List json)
list_by false true = Ok Sums
list_by true true = Err Usage

-- the calls of a function; `variable` stands for the assignments
abbrev pub listing_of : Text → Bool → Action
listing_of function json = if bytes_eq function (codes "variable") then action.ListAssignments json else action.ListCalls function json

-- of this function, if it has a name; not as digests
abbrev pub list_of : Text → Bool → Bool → Result Action UsageFault
list_of function json sums = if sums || length function == 0 then Err Usage else Ok (listing_of function json)

-- of a function, or else of the project
abbrev pub list_with : Option Text → Bool → Bool → Result Action UsageFault
list_with None json sums = list_by json sums
list_with (Some function) json sums = list_of function json sums

abbrev pub list_action : List Row → Result Action UsageFault
list_action rows = list_with (first_of (codes "FUNCTION") rows) (has_flag (codes "json") rows) (has_flag (codes "sums") rows)

-- ---- any subcommand

-- of those that make no command
unfoldable pub other_action : Text → List Row → Result Action UsageFault
other_action subcommand rows =
    if bytes_eq subcommand (codes "undo") then undo_action rows
    else (if bytes_eq subcommand (codes "redo") then Ok Redo
    else (if bytes_eq subcommand (codes "history") then history_action rows
    else (if bytes_eq subcommand (codes "list") then list_action rows
    else Err Usage)))

-- in the folder that is named before it, and with variables followed so; those that take none are not asked with one
unfoldable pub action_of : Option Text → Option SharedLists → Text → List Row → Result Action UsageFault
action_of folder follow subcommand rows =
    if bytes_eq subcommand (codes "target") then target_action folder follow rows
    else (if bytes_eq subcommand (codes "kwargs") then kwargs_action folder rows
    else (if bytes_eq subcommand (codes "default-options") then options_action rows
    else (if bytes_eq subcommand (codes "command") then Ok (script_action rows)
    else other_action subcommand rows)))
