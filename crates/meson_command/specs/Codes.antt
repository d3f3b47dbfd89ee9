-- The request of the words of `code`.
use Rattle.std.specs.Prelude.{ℕ, Bool, ◌||◌, List, bytes_eq, codes, if◌then◌else◌, is_some, Option, Some, None, ok_or, option_map, Result, Ok, Err}
use Rattle.clap.specs.Words.{Row, Text, first_of}
use Rattle.meson_splice.specs.Patch.{then_ok}
use Rattle.meson_statements.specs.CodeTexts.{statement_code}
use Rattle.meson_steps.specs.declared.argument.Search.{Search}
use Rattle.meson_steps.specs.declared.command.CodePlace.{CodePlace}
use Rattle.meson_steps.specs.declared.command.CodePlace.TheVariants as place
use Rattle.meson_steps.specs.declared.command.Command.TheVariants as command
use Rattle.meson_json.specs.Arguments.{place_named}
use Rattle.meson_json.specs.Codes.{blank_of}
use Rattle.meson_json.specs.Operations.{code_operation}
use Rattle.meson_json.specs.declared.names.CodeOperation.{CodeOperation}
use Rattle.meson_json.specs.declared.names.CodeOperation.TheVariants as operation
use Rattle.meson_command.specs.Actions.{has_flag, run, word_at}
use Rattle.meson_command.specs.declared.asked.Action.{Action}
use Rattle.meson_command.specs.declared.fault.UsageFault.{UsageFault}
use Rattle.meson_command.specs.declared.fault.UsageFault.TheVariants.{NotCode, Usage}

-- ---- code after|before [--blank N] FUNCTION ID CODE, and code append [--blank N] FILE CODE

-- the last word, if there is no word after it
abbrev pub last_word : (word next : Option Text) → Option Text
last_word word None = word
last_word word (Some next) = None

-- the word of the code: the second after the operation with `append`, which takes no third, and else the third
abbrev pub code_word : CodeOperation → List Row → Option Text
code_word operation.After rows = first_of (codes "CODE") rows
code_word operation.Before rows = first_of (codes "CODE") rows
code_word operation.Append rows = last_word (first_of (codes "ID|CODE") rows) (first_of (codes "CODE") rows)

-- what the function and the id name, in the folder alone if one is named
abbrev pub search_meant : Option Text → List Row → Option Search
search_meant folder rows =
    option_map (λ name. record { name = name; folder = folder }) (place_named (word_at (codes "FUNCTION|FILE") rows) (word_at (codes "ID|CODE") rows))

-- below it, above it, or at the end of a file
abbrev pub place_meant : Option Text → CodeOperation → List Row → Option CodePlace
place_meant folder operation.After rows = option_map place.Below (search_meant folder rows)
place_meant folder operation.Before rows = option_map place.Above (search_meant folder rows)
place_meant folder operation.Append rows = Some (place.End (word_at (codes "FUNCTION|FILE") rows))

-- the number of blank lines that is given, if there is one
abbrev pub blank_in : Option Text → Result (Option ℕ) UsageFault
blank_in None = Ok None
blank_in (Some word) = then_ok (ok_or (blank_of word) Usage) (λ blank. Ok (Some blank))

unfoldable pub insertion_action : Option Text → List Row → Result Action UsageFault
insertion_action folder rows =
    then_ok (ok_or (code_operation (word_at (codes "OPERATION") rows)) Usage) (λ operation.
    then_ok (ok_or (code_word operation rows) Usage) (λ word.
    then_ok (ok_or (place_meant folder operation rows) Usage) (λ place.
    then_ok (blank_in (first_of (codes "N") rows)) (λ blank.
    then_ok (ok_or (statement_code word) NotCode) (λ code. Ok (run (command.CodeInsert place code blank)))))))

-- ---- code remove [--unused] FUNCTION ID

-- a word of this name is there
abbrev pub is_given : Text → List Row → Bool
is_given name rows = is_some (first_of name rows)

-- there is code, or a number of blank lines, which no removal takes
abbrev pub has_more : List Row → Bool
has_more rows = is_given (codes "CODE") rows || is_given (codes "N") rows

unfoldable pub removal_action : Option Text → List Row → Result Action UsageFault
removal_action folder rows =
    if has_more rows then Err Usage
    else then_ok (ok_or (search_meant folder rows) Usage) (λ statement. Ok (run (command.CodeRemove statement (has_flag (codes "unused") rows))))

-- ---- any words of code

-- an insertion does not take `--unused`
unfoldable pub code_action : Option Text → List Row → Result Action UsageFault
code_action folder rows =
    if bytes_eq (word_at (codes "OPERATION") rows) (codes "remove") then removal_action folder rows
    else (if has_flag (codes "unused") rows then Err Usage
    else insertion_action folder rows)
