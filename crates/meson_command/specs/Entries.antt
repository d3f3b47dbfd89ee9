-- Words of `arg` as an entry of a script.
use Rattle.std.specs.Prelude.{◌≡◌, ℕ, Bool, false, true, List, [], ◌∷◌, codes, Option, Some, None, Ok}
use Rattle.clap.specs.Words.{Row, Text, first_of}
use Rattle.serde_json.specs.Data.{Data, array, boolean, string, object, Items, no_items, item, Members, no_members, member}
use Rattle.meson_steps.specs.declared.command.Command.{Command}
use Rattle.meson_steps.specs.declared.given.Given.{Given}
use Rattle.meson_steps.specs.declared.given.Given.TheVariants as given
use Rattle.meson_json.specs.Scripts.{entry_of}
use Rattle.meson_command.specs.Actions.{has_flag, run, word_at, words_at}
use Rattle.meson_command.specs.Arguments.{after_meant, argument_action, values_meant}

-- a value as a script gives it
abbrev pub data_of : Given → Data
data_of (given.Text text) = string text
data_of (given.Switch b) = boolean b
data_of (given.Code code) = object (member (codes "code") (string code) no_members)

abbrev pub items_of : List Given → Items
items_of [] = no_items
items_of (g ∷ gs) = item (data_of g) (items_of gs)

-- the members after the id; `in` is among them where a folder is named
abbrev pub with_folder : Option Text → Members → Members
with_folder None members = members
with_folder (Some folder) members = member (codes "in") (string folder) members

-- `after` is the first member where `--after` is given
abbrev pub with_after : Option Given → Members → Members
with_after None members = members
with_after (Some g) members = member (codes "after") (data_of g) members

-- `sorted` is there where `--sorted` is given
abbrev pub with_sorted : (sorted : Bool) → Members → Members
with_sorted false members = members
with_sorted true members = member (codes "sorted") (boolean true) members

-- the entry with the words, with the values that they mean, and with the folder
abbrev pub entry_of_words : Option Text → List Row → (after : Option Given) → (sorted : Bool) → List Given → Data
entry_of_words folder rows after sorted values =
    object (with_after after (member (codes "function") (string (word_at (codes "FUNCTION") rows)) (member (codes "id") (string (word_at (codes "ID") rows))
    (with_folder folder (member (codes "key") (string (word_at (codes "KEY") rows))
    (member (codes "operation") (string (word_at (codes "OPERATION") rows)) (with_sorted sorted
    (member (codes "type") (string (codes "arg")) (member (codes "values") (array (items_of values)) no_members)))))))))

-- Words of `arg` mean the command of the entry with the same function, id, key, values, value of `--after`, `sorted` where `--sorted` is given, and folder.
abbrev pub WordsMeanTheEntry : Type 0
WordsMeanTheEntry = (i : ℕ) (folder : Option Text) (rows : List Row) (after : Option Given) (values : List Given) (made : Command)
    → after_meant (first_of (codes "ELEMENT") rows) ≡ Some after → values_meant (words_at (codes "VALUE") rows) ≡ Some values
    → argument_action folder rows ≡ Ok (run made) → entry_of i (entry_of_words folder rows after (has_flag (codes "sorted") rows) values) ≡ Ok made
