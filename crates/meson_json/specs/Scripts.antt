-- The commands of a JSON value, or the first fault.
use Rattle.std.specs.Prelude.{ℕ, ◌+◌, Bool, false, true, ◌&&◌, List, [], ◌∷◌, bytes_eq, codes, is_some, nat_lt, if◌then◌else◌, Option, Some, None, ok_or, option_and_then, option_map, Result, Ok, Err}
use Rattle.serde_json.specs.Data.{Data, array, boolean, string, Items, no_items, item, Members, no_members}
use Rattle.serde_json.specs.Events.{items_len}
use Rattle.serde_json.specs.Find.{get, as_array, as_bool, as_number, as_object, as_str, as_u64}
use Rattle.meson_splice.specs.Patch.{then_ok}
use Rattle.meson_statements.specs.CodeTexts.{statement_code}
use Rattle.meson_json.specs.Arguments.{command_to, keys_in, keys_left_out, place_named}
use Rattle.meson_json.specs.Codes.{blank_within}
use Rattle.meson_json.specs.Each.{each_of, each_member, names_of_members}
use Rattle.meson_json.specs.Known.{unknown_in}
use Rattle.meson_json.specs.Members.{member_text}
use Rattle.meson_json.specs.Operations.{argument_operation, code_operation, entry_type, target_operation, kwargs_operation, options_operation, role_of}
use Rattle.meson_json.specs.Settings.{given_value, setting_of, option_value}
use Rattle.meson_json.specs.Targets.{kept_lists, renaming_of, target_command}
use Rattle.meson_steps.specs.declared.argument.Search.{Search}
use Rattle.meson_steps.specs.declared.argument.ValueName.{ValueName}
use Rattle.meson_steps.specs.declared.command.CodePlace.{CodePlace}
use Rattle.meson_steps.specs.declared.command.CodePlace.TheVariants as place
use Rattle.meson_steps.specs.declared.command.Command.{Command}
use Rattle.meson_steps.specs.declared.command.Command.TheVariants as command
use Rattle.meson_steps.specs.declared.given.Given.{Given}
use Rattle.meson_steps.specs.declared.source_change.SharedLists.{SharedLists}
use Rattle.meson_steps.specs.declared.source_change.SharedLists.TheVariants.{Kept, Changed}
use Rattle.meson_calls.specs.declared.call.CallName.{CallName}
use Rattle.meson_calls.specs.declared.call.Role.{Role}
use Rattle.meson_json.specs.declared.target.TargetMembers.{TargetMembers}
use Rattle.meson_json.specs.declared.target.TargetOperation.{TargetOperation}
use Rattle.meson_json.specs.declared.target.TargetOperation.TheVariants as target
use Rattle.meson_json.specs.declared.fault.ScriptFault.{ScriptFault}
use Rattle.meson_json.specs.declared.fault.ScriptFault.TheVariants.{NotJson, NotArray, TooMany, NotObject, UnknownType, BadField, UnknownOperation, Unsupported, UnknownMember}
use Rattle.meson_json.specs.declared.member_check.UnknownMembers.{UnknownMembers}
use Rattle.meson_json.specs.declared.member_check.UnknownMembers.TheVariants.{Ignored, Refused}
use Rattle.meson_json.specs.declared.names.ArgumentOperation.{ArgumentOperation}
use Rattle.meson_json.specs.declared.names.ArgumentOperation.TheVariants as argument
use Rattle.meson_json.specs.declared.names.CodeOperation.{CodeOperation}
use Rattle.meson_json.specs.declared.names.CodeOperation.TheVariants as code
use Rattle.meson_json.specs.declared.names.EntryType.{EntryType}
use Rattle.meson_json.specs.declared.names.EntryType.TheVariants as entry
use Rattle.meson_json.specs.declared.names.KwargsOperation.{KwargsOperation}
use Rattle.meson_json.specs.declared.names.KwargsOperation.TheVariants as kwargs
use Rattle.meson_json.specs.declared.names.OptionsOperation.{OptionsOperation}
use Rattle.meson_json.specs.declared.names.OptionsOperation.TheVariants as options

-- ---- members

-- a required text
abbrev pub required_text : ℕ → List ℕ → Data → Result (List ℕ) ScriptFault
required_text i name d = ok_or (member_text name d) (BadField i name)

-- what is read of a member, or another value if there is no such member
abbrev pub given : {A : Type 0} → (Data → Option A) → ℕ → List ℕ → A → Option Data → Result A ScriptFault
given read i name otherwise None = Ok otherwise
given read i name otherwise (Some d) = ok_or (read d) (BadField i name)

-- a truth value, or `false` if there is no such member
abbrev pub flag_at : ℕ → List ℕ → Data → Result Bool ScriptFault
flag_at i name d = given as_bool i name false (get name d)

-- whether `sorted` is `true`, which it may not be where something else says where values go
abbrev pub sorted_unless : ℕ → (placed : Bool) → Data → Result Bool ScriptFault
sorted_unless i placed d = then_ok (flag_at i (codes "sorted") d) (λ sorted. if sorted && placed then Err (BadField i (codes "sorted")) else Ok sorted)

-- ---- entries of type `target`

-- the folder of an entry, if it names one
abbrev pub folder_at : ℕ → Data → Result (Option (List ℕ)) ScriptFault
folder_at i d = given (λ v. option_map Some (as_str v)) i (codes "in") None (get (codes "in") d)

-- that of an entry of type `target`; a new target is not searched for
abbrev pub target_folder : ℕ → TargetOperation → Data → Result (Option (List ℕ)) ScriptFault
target_folder i target.TargetAdd d = Ok None
target_folder i target.SourcesAdd d = folder_at i d
target_folder i target.SourcesRemove d = folder_at i d
target_folder i target.TargetRemove d = folder_at i d
target_folder i target.ExtraAdd d = folder_at i d
target_folder i target.ExtraRemove d = folder_at i d
target_folder i target.Info d = folder_at i d

-- whether variables are followed where sources are changed: `true` keeps the lists that another target gets too, and `"shared"` changes them
abbrev pub lists_of : Data → Option (Option SharedLists)
lists_of (boolean true) = Some (Some Kept)
lists_of (boolean false) = Some None
lists_of (string word) = if bytes_eq word (codes "shared") then Some (Some Changed) else None
lists_of _ = None

abbrev pub lists_at : ℕ → Data → Result (Option SharedLists) ScriptFault
lists_at i d = given lists_of i (codes "follow") None (get (codes "follow") d)

-- whether variables are followed; only the changes of sources read it, and the report of them, which takes truth values alone
abbrev pub target_follow : ℕ → TargetOperation → Data → Result (Option SharedLists) ScriptFault
target_follow i target.SourcesAdd d = lists_at i d
target_follow i target.SourcesRemove d = lists_at i d
target_follow i target.Info d = then_ok (flag_at i (codes "follow") d) (λ follow. Ok (kept_lists follow))
target_follow i operation d = Ok None

-- whether sources go each into its place; only their addition reads it, where variables are not followed
abbrev pub target_sorted : ℕ → TargetOperation → (follows : Bool) → Data → Result Bool ScriptFault
target_sorted i target.SourcesAdd follows d = sorted_unless i follows d
target_sorted i operation follows d = Ok false

unfoldable pub target_members : ℕ → TargetOperation → Data → Result TargetMembers ScriptFault
target_members i operation d =
    then_ok (required_text i (codes "target") d) (λ target.
    then_ok (given (λ d. option_and_then (each_of as_str) (as_array d)) i (codes "sources") [] (get (codes "sources") d)) (λ sources.
    then_ok (given as_str i (codes "subdir") [] (get (codes "subdir") d)) (λ subdir.
    then_ok (given as_str i (codes "target_type") (codes "executable") (get (codes "target_type") d)) (λ kind.
    then_ok (target_folder i operation d) (λ folder.
    then_ok (target_follow i operation d) (λ follow.
    then_ok (target_sorted i operation (is_some follow) d) (λ sorted.
    Ok (record { target = target; folder = folder; sources = sources; subdir = subdir; target_kind = kind; sorted = sorted; follow = follow }))))))))

-- `rename`: the sources are the old name and the new one; it reads `follow` as the other changes of sources do
unfoldable pub rename_entry : ℕ → Data → Result Command ScriptFault
rename_entry i d =
    then_ok (required_text i (codes "target") d) (λ target.
    then_ok (given (λ d. option_and_then (each_of as_str) (as_array d)) i (codes "sources") [] (get (codes "sources") d)) (λ sources.
    then_ok (folder_at i d) (λ folder.
    then_ok (lists_at i d) (λ follow.
    ok_or (renaming_of (record { id = target; folder = folder }) sources follow) (BadField i (codes "sources"))))))

unfoldable pub target_entry : ℕ → Data → Result Command ScriptFault
target_entry i d =
    then_ok (required_text i (codes "operation") d) (λ word.
    if bytes_eq word (codes "rename") then rename_entry i d
    else then_ok (ok_or (target_operation word) (UnknownOperation i)) (λ operation.
    then_ok (target_members i operation d) (λ m. Ok (target_command operation m))))

-- ---- entries of type `kwargs`

abbrev pub role_at : ℕ → Data → Result Role ScriptFault
role_at i d = ok_or (option_and_then role_of (member_text (codes "function") d)) (BadField i (codes "function"))

-- an operation that is supported here
abbrev pub kwargs_asked : ℕ → Option KwargsOperation → Result KwargsOperation ScriptFault
kwargs_asked i None = Err (UnknownOperation i)
kwargs_asked i (Some kwargs.RemoveRegex) = Err (Unsupported i)
kwargs_asked i (Some operation) = Ok operation

-- `delete` and `info` take any values
unfoldable pub kwargs_command : ℕ → KwargsOperation → Role → CallName → Members → Result Command ScriptFault
kwargs_command i kwargs.Set role name ms = then_ok (ok_or (each_member setting_of ms) (BadField i (codes "kwargs")))
    (λ pairs. Ok (command.KwargsSet role name pairs))
kwargs_command i kwargs.Add role name ms = then_ok (ok_or (each_member setting_of ms) (BadField i (codes "kwargs")))
    (λ pairs. Ok (command.KwargsAdd role name pairs))
kwargs_command i kwargs.Remove role name ms = then_ok (ok_or (each_member setting_of ms) (BadField i (codes "kwargs")))
    (λ pairs. Ok (command.KwargsRemove role name pairs))
kwargs_command i kwargs.RemoveRegex role name ms = Err (Unsupported i)
kwargs_command i kwargs.Delete role name ms = Ok (command.KwargsDelete role name (names_of_members ms))
kwargs_command i kwargs.Info role name ms = Ok (command.KwargsInfo role name)

unfoldable pub kwargs_entry : ℕ → Data → Result Command ScriptFault
kwargs_entry i d =
    then_ok (required_text i (codes "operation") d) (λ word.
    then_ok (kwargs_asked i (kwargs_operation word)) (λ operation.
    then_ok (role_at i d) (λ role.
    then_ok (required_text i (codes "id") d) (λ id.
    then_ok (folder_at i d) (λ folder.
    then_ok (given as_object i (codes "kwargs") no_members (get (codes "kwargs") d)) (λ ms.
    kwargs_command i operation role (record { id = id; folder = folder }) ms))))))

-- ---- entries of type `default_options`

unfoldable pub options_command : ℕ → OptionsOperation → Members → Result Command ScriptFault
options_command i options.Set ms = then_ok (ok_or (each_member option_value ms) (BadField i (codes "options"))) (λ pairs. Ok (command.OptionsSet pairs))
options_command i options.Delete ms = Ok (command.OptionsDelete (names_of_members ms))

unfoldable pub options_entry : ℕ → Data → Result Command ScriptFault
options_entry i d =
    then_ok (required_text i (codes "operation") d) (λ word.
    then_ok (ok_or (options_operation word) (UnknownOperation i)) (λ operation.
    then_ok (given as_object i (codes "options") no_members (get (codes "options") d)) (λ ms. options_command i operation ms)))

-- ---- entries of type `arg`

-- texts joined by dots, or an array of texts
abbrev pub keys_of : Data → Option (List (List ℕ))
keys_of (string word) = Some (keys_in word)
keys_of (array ds) = each_of as_str ds
keys_of _ = None

-- the keys of a member, or where there is no such member
abbrev pub keys_or : Option (List (List ℕ)) → Option Data → Option (List (List ℕ))
keys_or otherwise None = otherwise
keys_or otherwise (Some d) = keys_of d

abbrev pub keys_at : ℕ → ArgumentOperation → Data → Result (List (List ℕ)) ScriptFault
keys_at i operation d = ok_or (keys_or (keys_left_out operation) (get (codes "key") d)) (BadField i (codes "key"))

-- `delete` and `info` read no values
abbrev pub values_at : ℕ → ArgumentOperation → Data → Result (List Given) ScriptFault
values_at i argument.Set d = given (λ v. option_and_then (each_of given_value) (as_array v)) i (codes "values") [] (get (codes "values") d)
values_at i argument.Add d = given (λ v. option_and_then (each_of given_value) (as_array v)) i (codes "values") [] (get (codes "values") d)
values_at i argument.Remove d = given (λ v. option_and_then (each_of given_value) (as_array v)) i (codes "values") [] (get (codes "values") d)
values_at i argument.Replace d = given (λ v. option_and_then (each_of given_value) (as_array v)) i (codes "values") [] (get (codes "values") d)
values_at i argument.Delete d = Ok []
values_at i argument.Info d = Ok []

-- the value after which values are added, if one is given; only `add` reads it
abbrev pub after_at : ℕ → ArgumentOperation → Data → Result (Option Given) ScriptFault
after_at i argument.Add d = given (λ v. option_map Some (given_value v)) i (codes "after") None (get (codes "after") d)
after_at i operation d = Ok None

-- whether each of the values goes into its place; only `add` reads it, which puts them after another one or into their places
abbrev pub sorted_at : ℕ → ArgumentOperation → (has_after : Bool) → Data → Result Bool ScriptFault
sorted_at i argument.Add has_after d = sorted_unless i has_after d
sorted_at i operation has_after d = Ok false

abbrev pub value_command : ℕ → ArgumentOperation → ValueName → Data → Result Command ScriptFault
value_command i operation name d =
    then_ok (values_at i operation d) (λ gs.
    then_ok (after_at i operation d) (λ after.
    then_ok (sorted_at i operation (is_some after) d) (λ sorted.
    ok_or (command_to operation name after sorted gs) (BadField i (codes "values")))))

unfoldable pub value_name : ℕ → ArgumentOperation → Data → Result ValueName ScriptFault
value_name i operation d =
    then_ok (required_text i (codes "function") d) (λ function.
    then_ok (required_text i (codes "id") d) (λ id.
    then_ok (ok_or (place_named function id) (BadField i (codes "id"))) (λ place.
    then_ok (keys_at i operation d) (λ keys.
    then_ok (folder_at i d) (λ folder.
    Ok (record { place = record { name = place; folder = folder }; keys = keys }))))))

unfoldable pub argument_entry : ℕ → Data → Result Command ScriptFault
argument_entry i d =
    then_ok (required_text i (codes "operation") d) (λ word.
    then_ok (ok_or (argument_operation word) (UnknownOperation i)) (λ operation.
    then_ok (value_name i operation d) (λ name. value_command i operation name d)))

-- ---- entries of type `code`

-- the statement that is searched for
unfoldable pub search_at : ℕ → Data → Result Search ScriptFault
search_at i d =
    then_ok (required_text i (codes "function") d) (λ function.
    then_ok (required_text i (codes "id") d) (λ id.
    then_ok (ok_or (place_named function id) (BadField i (codes "id"))) (λ name.
    then_ok (folder_at i d) (λ folder. Ok (record { name = name; folder = folder })))))

-- beside that statement, or at the end of a file
abbrev pub code_place : ℕ → CodeOperation → Data → Result CodePlace ScriptFault
code_place i code.After d = then_ok (search_at i d) (λ search. Ok (place.Below search))
code_place i code.Before d = then_ok (search_at i d) (λ search. Ok (place.Above search))
code_place i code.Append d = then_ok (required_text i (codes "file") d) (λ file. Ok (place.End file))

-- one statement of the grammar or more
abbrev pub code_at : ℕ → Data → Result (List ℕ) ScriptFault
code_at i d = then_ok (required_text i (codes "code") d) (λ text. ok_or (statement_code text) (BadField i (codes "code")))

-- the number of blank lines, if one is given
abbrev pub blank_lines : Data → Option ℕ
blank_lines d = option_and_then blank_within (option_and_then as_u64 (as_number d))

abbrev pub blank_at : ℕ → Data → Result (Option ℕ) ScriptFault
blank_at i d = given (λ v. option_map Some (blank_lines v)) i (codes "blank") None (get (codes "blank") d)

-- beside that statement, or at the end of a file
unfoldable pub insertion_entry : ℕ → CodeOperation → Data → Result Command ScriptFault
insertion_entry i operation d =
    then_ok (code_place i operation d) (λ place.
    then_ok (code_at i d) (λ text.
    then_ok (blank_at i d) (λ blank.
    Ok (command.CodeInsert place text blank))))

-- of that statement, and with `unused` of the assignments that nothing reads after that
unfoldable pub removal_entry : ℕ → Data → Result Command ScriptFault
removal_entry i d =
    then_ok (search_at i d) (λ statement.
    then_ok (flag_at i (codes "unused") d) (λ unused.
    Ok (command.CodeRemove statement unused)))

unfoldable pub code_entry : ℕ → Data → Result Command ScriptFault
code_entry i d =
    then_ok (required_text i (codes "operation") d) (λ word.
    if bytes_eq word (codes "remove") then removal_entry i d
    else then_ok (ok_or (code_operation word) (UnknownOperation i)) (λ operation. insertion_entry i operation d))

-- ---- entries and scripts

abbrev pub entry_command : ℕ → Data → EntryType → Result Command ScriptFault
entry_command i d entry.Target = target_entry i d
entry_command i d entry.Kwargs = kwargs_entry i d
entry_command i d entry.DefaultOptions = options_entry i d
entry_command i d entry.Argument = argument_entry i d
entry_command i d entry.Code = code_entry i d

-- the command of entry i
unfoldable pub entry_of : ℕ → Data → Result Command ScriptFault
entry_of i d =
    if is_some (as_object d)
    then then_ok (ok_or (option_and_then entry_type (member_text (codes "type") d)) (UnknownType i)) (entry_command i d)
    else Err (NotObject i)

-- a command that was read, if its entry has no member that is not known
abbrev pub without_unknown : ℕ → Command → Option (List ℕ) → Result Command ScriptFault
without_unknown i command None = Ok command
without_unknown i command (Some name) = Err (UnknownMember i name)

-- the same, where members that are not known are ignored or refused; they are refused last
unfoldable pub entry_by : UnknownMembers → ℕ → Data → Result Command ScriptFault
entry_by Ignored i d = entry_of i d
entry_by Refused i d = then_ok (entry_of i d) (λ c. without_unknown i c (option_and_then (unknown_in c) (as_object d)))

-- the commands of the entries from number i on
unfoldable pub entries_of : UnknownMembers → ℕ → Items → Result (List Command) ScriptFault
entries_of unknown i no_items = Ok []
entries_of unknown i (item d ds) = then_ok (entry_by unknown i d) (λ c. then_ok (entries_of unknown (i + 1) ds) (λ cs. Ok (c ∷ cs)))

abbrev pub max_commands : ℕ
max_commands = 4096

-- the commands of what was read, if a JSON value was
unfoldable pub script_of : UnknownMembers → Option Data → Result (List Command) ScriptFault
script_of unknown value =
    then_ok (ok_or value NotJson) (λ d.
    then_ok (ok_or (as_array d) NotArray) (λ ds.
    if nat_lt max_commands (items_len ds) then Err TooMany else entries_of unknown 0 ds))
