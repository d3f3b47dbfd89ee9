-- Commands that do what the operations of `kwargs` are refused for.
use Rattle.std.specs.Prelude.{ℕ, ◌==◌, Bool, ◌||◌, List, [], ◌∷◌, ◌++◌, if◌then◌else◌, bytes_eq, codes, Option, Some, None}
use Rattle.std.specs.Char.{is_ascii_alphanumeric}
use Rattle.std.specs.List.{list_all}
use Rattle.meson_calls.specs.declared.call.CallName.{CallName}
use Rattle.meson_calls.specs.declared.call.Role.{Role}
use Rattle.meson_calls.specs.declared.call.Role.TheVariants as role
use Rattle.meson_steps.specs.declared.command.Command.{Command}
use Rattle.meson_steps.specs.declared.command.Command.TheVariants as command
use Rattle.meson_explaining.specs.Names.{is_bad_variable}

-- the function of `arg` for the calls of a role
abbrev pub function_word : Role → List ℕ
function_word role.Project = codes "project"
function_word role.Dependency = codes "dependency"
function_word role.Target = codes "target"

-- ---- ids

-- what a shell takes as it is: a letter, a digit, or one of - (45), . (46), / (47) and _ (95)
abbrev pub is_plain : ℕ → Bool
is_plain b = is_ascii_alphanumeric b || (b == 45 || (b == 46 || (b == 47 || b == 95)))

-- an id as a word of a command, or `ID` where a shell does not take it as it is
abbrev pub id_word : List ℕ → List ℕ
id_word id = if list_all is_plain id then id else codes "ID"

-- ---- the folder whose build file alone is searched, which a command searches too that does the same

abbrev pub folder_word : List ℕ → List ℕ
folder_word folder = if list_all is_plain folder then folder else codes "FOLDER"

abbrev pub program_words : Option (List ℕ) → List ℕ
program_words None = codes "meson_rewrite"
program_words (Some folder) = codes "meson_rewrite --in " ++ folder_word folder

-- ---- `arg`, which changes any key

-- what does the same as an operation of `kwargs`: what it does, the operation of `arg`, and the words after the key
abbrev pub any_key_words : Command → Option (List ℕ × List ℕ × List ℕ)
any_key_words (command.KwargsSet r id pairs) = Some (codes "arg sets any key", codes "set", codes " VALUE")
any_key_words (command.KwargsAdd r id pairs) = Some (codes "arg adds to any list", codes "add", codes " VALUE")
any_key_words (command.KwargsRemove r id pairs) = Some (codes "arg deletes an element of any list, counted from 0", codes "delete", codes ".0")
any_key_words (command.KwargsDelete r id keys) = Some (codes "arg deletes any key", codes "delete", [])
any_key_words _ = None

-- the call by its function and its id, and the key
abbrev pub key_words : Role → (id key : List ℕ) → List ℕ
key_words r id key = function_word r ++ (codes " " ++ (id_word id ++ (codes " " ++ key)))

abbrev pub any_key_line : Role → CallName → (key : List ℕ) → List ℕ × List ℕ × List ℕ → List ℕ
any_key_line r name key words =
    words.0 ++ (codes ": " ++ (program_words name.folder ++ (codes " arg " ++ (words.1 ++ (codes " " ++ (key_words r name.id key ++ words.2))))))

abbrev pub lines_for : Role → CallName → (key : List ℕ) → Option (List ℕ × List ℕ × List ℕ) → List (List ℕ)
lines_for r name key None = []
lines_for r name key (Some words) = any_key_line r name key words ∷ []

-- nothing where the key is not the name of a keyword argument
abbrev pub any_key_help : Command → Role → CallName → (key : List ℕ) → List (List ℕ)
any_key_help c r name key = if is_bad_variable key then [] else lines_for r name key (any_key_words c)

-- ---- `target`, which changes sources and extra files

abbrev pub target_words : Role → List ℕ → Option (List ℕ)
target_words role.Target key =
    if bytes_eq key (codes "sources") then Some (codes " add FILE, or rm FILE")
    else (if bytes_eq key (codes "extra_files") then Some (codes " add_extra_files FILE, or rm_extra_files FILE") else None)
target_words _ key = None

abbrev pub target_line : CallName → Option (List ℕ) → List (List ℕ)
target_line name None = []
target_line name (Some words) =
    (codes "target changes its files: " ++ (program_words name.folder ++ (codes " target " ++ (id_word name.id ++ words)))) ∷ []

-- what changes a key that the operation of `kwargs` does not change
abbrev pub ways : Command → Role → CallName → (key : List ℕ) → List (List ℕ)
ways c r name key = target_line name (target_words r key) ++ any_key_help c r name key
