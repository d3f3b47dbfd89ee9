-- Notes of names that are not valid.
use Rattle.std.specs.Prelude.{ℕ, List, [], ◌∷◌, ◌++◌, codes, find, Option, Some, None}
use Rattle.meson_explaining.specs.Names.{bad_name, bad_value, find_key, is_bad_option, is_bad_pair}
use Rattle.meson_explaining.specs.Notes.{plain_note}
use Rattle.meson_explaining.specs.declared.explanation.Note.{Note}
use Rattle.meson_steps.specs.declared.command.Command.{Command}
use Rattle.meson_steps.specs.declared.command.Command.TheVariants as command
use Rattle.meson_steps.specs.declared.command.Setting.{Setting}

-- a value of the key that is not the name of a variable
abbrev pub variable_notes : List ℕ → Option (List ℕ) → List Note
variable_notes key None = []
variable_notes key (Some text) = plain_note (key ++ (codes " takes names of variables, and this is not one: " ++ text)) ∷ []

abbrev pub pair_notes : Option (List ℕ × Setting) → List Note
pair_notes None = []
pair_notes (Some pair) = variable_notes pair.0 (bad_value pair.1)

abbrev pub option_notes : Option (List ℕ) → List Note
option_notes None = []
option_notes (Some name) = plain_note (codes "this is not the name of an option: " ++ name) ∷ []

abbrev pub empty_notes : Option (List ℕ) → List Note
empty_notes None = []
empty_notes (Some name) = plain_note (codes "a name is empty") ∷ []

abbrev pub bad_notes : Command → List Note
bad_notes (command.KwargsSet r id pairs) = pair_notes (find (is_bad_pair r) pairs)
bad_notes (command.KwargsAdd r id pairs) = pair_notes (find (is_bad_pair r) pairs)
bad_notes (command.KwargsRemove r id pairs) = pair_notes (find (is_bad_pair r) pairs)
bad_notes (command.OptionsSet pairs) = option_notes (find_key (λ p. is_bad_option p.0) pairs)
bad_notes (command.OptionsDelete names) = option_notes (find is_bad_option names)
bad_notes c = empty_notes (bad_name c)

-- ---- help

abbrev pub variable_help : List ℕ
variable_help = codes "the name of a variable has letters, digits and _, does not begin with a digit and is not a reserved word"

abbrev pub option_help : List ℕ
option_help = codes "the name of an option is not empty and has no =; its value is a word of its own"

-- nothing of names that are empty
abbrev pub bad_help : Command → List (List ℕ)
bad_help (command.KwargsSet r id pairs) = variable_help ∷ []
bad_help (command.KwargsAdd r id pairs) = variable_help ∷ []
bad_help (command.KwargsRemove r id pairs) = variable_help ∷ []
bad_help (command.OptionsSet pairs) = option_help ∷ []
bad_help (command.OptionsDelete names) = option_help ∷ []
bad_help _ = []
