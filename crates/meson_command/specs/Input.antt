-- Words of `code` whose code is on standard input.
use Rattle.std.specs.Prelude.{◌≡◌, ℕ, Bool, if◌then◌else◌, false, true, ◌&&◌, ◌-◌, ◌++◌, not, List, [], ◌∷◌, length, take, codes, bytes_eq, Option, Some, None, Result, Err}
use Rattle.std.specs.Option.{option_map_or}
use Rattle.std.specs.Str.{is_utf8}
use Rattle.clap.specs.Words.{Kinds, Row, Text, fault_of, matches_of, subcommand_of}
use Rattle.meson_json.specs.Operations.{code_operation}
use Rattle.meson_command.specs.Actions.{word_at}
use Rattle.meson_command.specs.Asking.{asked_by, asked_from, is_input}
use Rattle.meson_command.specs.Codes.{code_word}
use Rattle.meson_command.specs.Program.{program}
use Rattle.meson_command.specs.Spelling.{clap_words}
use Rattle.meson_command.specs.declared.asked.Asked.{Asked}
use Rattle.meson_command.specs.declared.fault.UsageFault.{UsageFault}
use Rattle.meson_command.specs.declared.fault.UsageFault.TheVariants.{NotCode}

-- a word that stands for standard input
abbrev pub is_input_word : Option Text → Bool
is_input_word word = option_map_or is_input word false

-- words of `code` insert the code of standard input
abbrev pub names_input : List Row → Bool
names_input rows = option_map_or (λ operation. is_input_word (code_word operation rows)) (code_operation (word_at (codes "OPERATION") rows)) false

-- so do the words after the program's own, and those do not name standard input for texts
abbrev pub waits_for_code : List Row → Option (Text × List Row) → Bool
waits_for_code own None = false
waits_for_code own (Some s) = bytes_eq s.0 (codes "code") && (names_input s.1 && not (is_input (word_at (codes "FILE") own)))

-- the fault is that a word is not code
abbrev pub is_not_code : Result Asked UsageFault → Bool
is_not_code (Err NotCode) = true
is_not_code _ = false

abbrev pub lacks_code : List Row → Option (Text × List Row) → Bool
lacks_code own subcommand = waits_for_code own subcommand && is_not_code (asked_from own subcommand)

-- where clap finds a fault, no code is read
abbrev pub code_by : Kinds → Bool → Bool
code_by [] lacks = lacks
code_by (kind ∷ kinds) lacks = false

-- for any words that clap gets: it takes them, and they insert the code `-`, which is their first fault
abbrev pub reads_code_as : List Text → Bool
reads_code_as words = code_by (fault_of program words) (lacks_code (matches_of program words) (subcommand_of program words))

-- for any words
abbrev pub reads_code : List Text → Bool
reads_code words = reads_code_as (clap_words words)

-- no other words than those that are refused since `-` is not code
abbrev pub ReadsCodeOfRefusedWords : Type 0
ReadsCodeOfRefusedWords = (words : List Text) → reads_code words ≡ true → asked_by words ≡ Err NotCode

-- bytes as text, if they are UTF-8
abbrev pub as_text : List ℕ → Option (List ℕ)
as_text bytes = if is_utf8 bytes then Some bytes else None

-- the words with this one in place of the last
abbrev pub with_last : {A : Type 0} → List A → A → List A
with_last words last = take (length words - 1) words ++ last ∷ []
