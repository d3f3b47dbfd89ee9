-- The request of the words of `arg`, and of any subcommand in the folder that is named before it.
use Rattle.std.specs.Prelude.{Bool, true, false, not, ◌&&◌, ◌||◌, List, [], ◌∷◌, bytes_eq, codes, if◌then◌else◌, Option, Some, None, is_some, ok_or, option_and_then, option_map, Result, Ok, Err}
use Rattle.clap.specs.Words.{Row, Text, first_of}
use Rattle.meson_splice.specs.Patch.{then_ok}
use Rattle.meson_steps.specs.GivenWords.{meant_by}
use Rattle.meson_steps.specs.declared.argument.ValueName.{ValueName}
use Rattle.meson_steps.specs.declared.command.Command.{Command}
use Rattle.meson_steps.specs.declared.given.Given.{Given}
use Rattle.meson_steps.specs.declared.source_change.SharedLists.{SharedLists}
use Rattle.meson_steps.specs.declared.source_change.SharedLists.TheVariants.{Kept, Changed}
use Rattle.meson_json.specs.Arguments.{command_to, keys_in, keys_left_out, place_named}
use Rattle.meson_json.specs.Operations.{argument_operation, code_operation}
use Rattle.meson_json.specs.declared.names.ArgumentOperation.{ArgumentOperation}
use Rattle.meson_json.specs.declared.names.ArgumentOperation.TheVariants as operation
use Rattle.meson_json.specs.declared.names.CodeOperation.{CodeOperation}
use Rattle.meson_json.specs.declared.names.CodeOperation.TheVariants as insertion
use Rattle.meson_command.specs.Actions.{action_of, has_flag, run, word_at, words_at}
use Rattle.meson_json.specs.declared.target.TargetOperation.{TargetOperation}
use Rattle.meson_json.specs.declared.target.TargetOperation.TheVariants as target
use Rattle.meson_command.specs.Codes.{code_action}
use Rattle.meson_command.specs.Operations.{operation_of_word}
use Rattle.meson_command.specs.declared.asked.Action.{Action}
use Rattle.meson_command.specs.declared.asked.Action.TheVariants.{Info}
use Rattle.meson_command.specs.declared.fault.UsageFault.{UsageFault}
use Rattle.meson_command.specs.declared.fault.UsageFault.TheVariants.{NotCode, Usage}

-- ---- arg OPERATION [--after ELEMENT] [--sorted] FUNCTION ID [KEY [VALUE]...]

-- the values of words, if each word is one
unfoldable pub values_meant : List Text → Option (List Given)
values_meant [] = Some []
values_meant (word ∷ words) = option_and_then (λ value. option_map (λ values. value ∷ values) (values_meant words)) (meant_by word)

-- the keys of a word, or where there is no word
abbrev pub keys_meant : ArgumentOperation → Option Text → Option (List Text)
keys_meant operation None = keys_left_out operation
keys_meant operation (Some word) = Some (keys_in word)

-- what names the value, in the folder alone if one is named
abbrev pub value_named : Option Text → ArgumentOperation → List Row → Option ValueName
value_named folder operation rows =
    option_and_then (λ keys. option_map (λ name. record { place = record { name = name; folder = folder }; keys = keys })
    (place_named (word_at (codes "FUNCTION") rows) (word_at (codes "ID") rows)))
    (keys_meant operation (first_of (codes "KEY") rows))

-- the value of a word, if there is one and it means a value
abbrev pub after_meant : Option Text → Option (Option Given)
after_meant None = Some None
after_meant (Some word) = option_map Some (meant_by word)

-- the command that the operation, the name of the value, the word of the value after which values are added, whether each goes into its place, and further
-- words mean
abbrev pub command_meant : ArgumentOperation → ValueName → (after : Option Text) → (sorted : Bool) → List Text → Result Command UsageFault
command_meant operation name after sorted words =
    then_ok (ok_or (values_meant words) NotCode) (λ values.
    then_ok (ok_or (after_meant after) NotCode) (λ it. ok_or (command_to operation name it sorted values) Usage))

-- what is reported is no run
abbrev pub requested : ArgumentOperation → Command → Action
requested operation.Info c = Info c
requested o c = run c

unfoldable pub argument_action : Option Text → List Row → Result Action UsageFault
argument_action folder rows =
    then_ok (ok_or (argument_operation (word_at (codes "OPERATION") rows)) Usage) (λ operation.
    then_ok (ok_or (value_named folder operation rows) Usage) (λ name.
    then_ok (command_meant operation name (first_of (codes "ELEMENT") rows) (has_flag (codes "sorted") rows) (words_at (codes "VALUE") rows))
    (λ c. Ok (requested operation c))))

-- ---- any subcommand

abbrev pub is_addition : Option TargetOperation → Bool
is_addition (Some target.TargetAdd) = true
is_addition _ = false

abbrev pub is_append : Option CodeOperation → Bool
is_append (Some insertion.Append) = true
is_append _ = false

-- `kwargs` takes a folder, and so do the operations on a target that is there and the insertions beside a statement
abbrev pub takes_folder : Text → List Row → Bool
takes_folder subcommand rows =
    bytes_eq subcommand (codes "kwargs")
    || ((bytes_eq subcommand (codes "target") && not (is_addition (operation_of_word (word_at (codes "OPERATION") rows))))
    || (bytes_eq subcommand (codes "code") && not (is_append (code_operation (word_at (codes "OPERATION") rows)))))

-- sources of a target are added, removed or renamed, and their order is not looked at
abbrev pub changes_sources : Text → List Row → Bool
changes_sources subcommand rows =
    bytes_eq subcommand (codes "target")
    && ((bytes_eq (word_at (codes "OPERATION") rows) (codes "add") || (bytes_eq (word_at (codes "OPERATION") rows) (codes "rm")
    || bytes_eq (word_at (codes "OPERATION") rows) (codes "rename")))
    && not (has_flag (codes "sorted") rows))

-- `--follow` goes with `target ID add`, `rm` and `rename` without `--sorted`, `target ID info`, `list`, `history`, `undo`, `redo` and `command`
abbrev pub takes_follow : Text → List Row → Bool
takes_follow subcommand rows =
    changes_sources subcommand rows
    || ((bytes_eq subcommand (codes "target") && bytes_eq (word_at (codes "OPERATION") rows) (codes "info"))
    || (bytes_eq subcommand (codes "list") || (bytes_eq subcommand (codes "history") || (bytes_eq subcommand (codes "undo")
    || (bytes_eq subcommand (codes "redo") || bytes_eq subcommand (codes "command"))))))

-- it is given with other words; where shared lists are changed, it goes with the first three alone
abbrev pub misplaces_follow : Option SharedLists → Text → List Row → Bool
misplaces_follow None subcommand rows = false
misplaces_follow (Some Kept) subcommand rows = not (takes_follow subcommand rows)
misplaces_follow (Some Changed) subcommand rows = not (changes_sources subcommand rows)

-- a folder is named only for the words that take one and for `arg`, and `--follow` is given only for those that take it
unfoldable pub action_within : Option Text → Option SharedLists → Text → List Row → Result Action UsageFault
action_within folder follow subcommand rows =
    if misplaces_follow follow subcommand rows then Err Usage
    else (if bytes_eq subcommand (codes "arg") then argument_action folder rows
    else (if is_some folder && not (takes_folder subcommand rows) then Err Usage
    else (if bytes_eq subcommand (codes "code") then code_action folder rows
    else action_of folder follow subcommand rows)))
