-- What holds of any command line.
use Rattle.std.specs.Prelude.{◌≡◌, ◌≢◌, ◌↔◌, ◌⊎◌, ◌||◌, ◌%◌, List, [], ◌∷◌, length, codes, is_some, false, true, IfSome, IsTrue, Option, Some, None, Ok, Err}
use Rattle.std.specs.List.{AllPairs}
use Rattle.clap.specs.Words.{Row, Text, fault_of, first_of, matches_of, subcommand_of}
use Rattle.clap.specs.declared.error.kind.ErrorKind.TheVariants.{DisplayHelp, DisplayVersion}
use Rattle.meson_command.specs.Actions.{has_flag, options_by, word_at, words_at}
use Rattle.meson_command.specs.Arguments.{action_within, after_meant, takes_folder, values_meant}
use Rattle.meson_command.specs.Codes.{code_word}
use Rattle.meson_command.specs.Asking.{asked_by, help, is_dry, names_no_folder, only_asks, only_shows, follow_in, texts_fit, version, wants_json}
use Rattle.meson_json.specs.Arguments.{change_to, keys_left_out, place_named}
use Rattle.meson_json.specs.Codes.{blank_of}
use Rattle.meson_json.specs.Operations.{argument_operation, code_operation, kwargs_operation, role_of}
use Rattle.meson_json.specs.declared.names.ArgumentOperation.{ArgumentOperation}
use Rattle.meson_json.specs.declared.names.CodeOperation.{CodeOperation}
use Rattle.meson_json.specs.declared.names.CodeOperation.TheVariants as insertion
use Rattle.meson_steps.specs.declared.given.Given.{Given}
use Rattle.meson_json.specs.Counts.{count_of}
use Rattle.meson_command.specs.Operations.{operation_of_word, options_word}
use Rattle.meson_command.specs.Pairs.{pair_names, pairs_of}
use Rattle.meson_command.specs.Program.{program}
use Rattle.meson_command.specs.Spelling.{clap_words}
use Rattle.meson_command.specs.declared.operations.OptionsWord.TheVariants as options
use Rattle.meson_command.specs.declared.asked.Action.{Action}
use Rattle.meson_command.specs.declared.asked.Asked.{Asked}
use Rattle.meson_command.specs.declared.fault.UsageFault.TheVariants.{Usage, OddWords}

-- ---- words in pairs

abbrev pub words_of : List (Text × Text) → List Text
words_of [] = []
words_of (p ∷ pairs) = p.0 ∷ p.1 ∷ words_of pairs

-- the pairs are the words two by two, and no name is there twice
abbrev pub PairsAreTheWords : Type 0
PairsAreTheWords = (words : List Text) (pairs : List (Text × Text))
    → (pairs_of words ≡ Ok pairs) ↔ ((words_of pairs ≡ words) × AllPairs (λ x y. x ≢ y) (pair_names pairs))

abbrev pub OddWordsAreOdd : Type 0
OddWordsAreOdd = (words : List Text) → (pairs_of words ≡ Err OddWords) ↔ (length words % 2 ≡ 1)

-- `unset` of some options is `delete` of them with any values
abbrev pub UnsetIsDelete : Type 0
UnsetIsDelete = (pairs : List (Text × Text)) → options_by options.Unset (pair_names pairs) ≡ options_by options.Delete (words_of pairs)

-- ---- help, the version and wrong usage

-- help is the answer exactly where it is the first fault that clap finds, so never where clap takes the words
abbrev pub HelpWhereAsked : Type 0
HelpWhereAsked = (words : List Text) → (asked_by words ≡ Ok help) ↔ (fault_of program (clap_words words) ≡ DisplayHelp ∷ [])

-- and so is the version
abbrev pub VersionWhereAsked : Type 0
VersionWhereAsked = (words : List Text) → (asked_by words ≡ Ok version) ↔ (fault_of program (clap_words words) ≡ DisplayVersion ∷ [])

-- a request is answered in JSON exactly where the words want it
abbrev pub JsonWhereWanted : Type 0
JsonWhereWanted = (words : List Text) (asked : Asked) → asked_by words ≡ Ok asked → asked.flags.json ≡ wants_json words

-- Texts are named only where nothing is written, and not for help or the version.
abbrev pub TextsWriteNothing : Type 0
TextsWriteNothing = (words : List Text) (asked : Asked) → asked_by words ≡ Ok asked
    → IfSome asked.texts (λ _. IsTrue (only_asks asked.action || asked.flags.dry_run)) × (IsTrue (only_shows asked.action) → asked.texts ≡ None)

-- the given word is not a number
abbrev pub IsNoCount : Option Text → Text → Type 0
IsNoCount given word = (given ≡ Some word) × (count_of word ≡ None)

-- a listing of digests is requested, and one as JSON or of a function, which are two
abbrev pub AsksForTwo : List Row → Type 0
AsksForTwo rows = (has_flag (codes "sums") rows ≡ true) × ((has_flag (codes "json") rows ≡ true) ⊎ (is_some (first_of (codes "FUNCTION") rows) ≡ true))

-- a listing of a function without a name is requested
abbrev pub NamesNoFunction : List Row → Type 0
NamesNoFunction rows = first_of (codes "FUNCTION") rows ≡ Some []

-- the key of `arg` is missing, and its operation needs one
abbrev pub HasNoKey : List Row → Type 0
HasNoKey rows =
    (operation : ArgumentOperation) × (argument_operation (word_at (codes "OPERATION") rows) ≡ Some operation)
    × (first_of (codes "KEY") rows ≡ None) × (keys_left_out operation ≡ None)

-- the values of `arg` are not as many as its operation takes, it does not take `--after` or `--sorted`, or both are given
abbrev pub HasOtherValues : List Row → Type 0
HasOtherValues rows =
    (operation : ArgumentOperation) × (values : List Given) × (after : Option Given) × (argument_operation (word_at (codes "OPERATION") rows) ≡ Some operation)
    × (values_meant (words_at (codes "VALUE") rows) ≡ Some values) × (after_meant (first_of (codes "ELEMENT") rows) ≡ Some after)
    × (change_to operation after (has_flag (codes "sorted") rows) values ≡ None)

-- the operation of `arg` is unknown, its function and id name no place, its key is missing, its values are not as many as it takes, or it does not take
-- `--after` or `--sorted`
abbrev pub IsNoArgument : List Row → Type 0
IsNoArgument rows =
    (argument_operation (word_at (codes "OPERATION") rows) ≡ None)
    ⊎ ((place_named (word_at (codes "FUNCTION") rows) (word_at (codes "ID") rows) ≡ None) ⊎ (HasNoKey rows ⊎ HasOtherValues rows))

-- `--sorted` is given with another operation of `target` than the addition of sources
abbrev pub MisplacesSorted : List Row → Type 0
MisplacesSorted rows = (has_flag (codes "sorted") rows ≡ true) × (word_at (codes "OPERATION") rows ≢ codes "add")

-- the operation of `target` is unknown, `rename` has not two names, or `--sorted` is given with another one than `add`
abbrev pub IsNoTarget : List Row → Type 0
IsNoTarget rows =
    ((word_at (codes "OPERATION") rows ≢ codes "rename") × (operation_of_word (word_at (codes "OPERATION") rows) ≡ None))
    ⊎ (((word_at (codes "OPERATION") rows ≡ codes "rename") × (length (words_at (codes "SOURCE") rows) ≢ 2)) ⊎ MisplacesSorted rows)

-- the operation of `code` that inserts is unknown, its words are too few or too many, its function and id name no place, or the word of `--blank` is not a
-- number that it takes
abbrev pub IsNoInsertion : List Row → Type 0
IsNoInsertion rows =
    (code_operation (word_at (codes "OPERATION") rows) ≡ None)
    ⊎ (((operation : CodeOperation) × (code_operation (word_at (codes "OPERATION") rows) ≡ Some operation) × (code_word operation rows ≡ None))
    ⊎ (((code_operation (word_at (codes "OPERATION") rows) ≢ Some insertion.Append)
    × (place_named (word_at (codes "FUNCTION|FILE") rows) (word_at (codes "ID|CODE") rows) ≡ None))
    ⊎ ((word : Text) × (first_of (codes "N") rows ≡ Some word) × (blank_of word ≡ None))))

-- the words of `code remove` are too many, `--blank` is given, or its function and id name no place
abbrev pub IsNoRemoval : List Row → Type 0
IsNoRemoval rows =
    (is_some (first_of (codes "CODE") rows) ≡ true) ⊎ ((is_some (first_of (codes "N") rows) ≡ true)
    ⊎ (place_named (word_at (codes "FUNCTION|FILE") rows) (word_at (codes "ID|CODE") rows) ≡ None))

-- the words of `code` are no removal or no insertion, or `--unused` is given with another operation than `remove`
abbrev pub IsNoCode : List Row → Type 0
IsNoCode rows =
    ((word_at (codes "OPERATION") rows ≡ codes "remove") × IsNoRemoval rows)
    ⊎ ((word_at (codes "OPERATION") rows ≢ codes "remove") × ((has_flag (codes "unused") rows ≡ true) ⊎ IsNoInsertion rows))

-- the subcommand's operation, function, id or number is not valid, `rename` has not two names, `--sorted` is given with another one than `add`, the key of
-- `arg` is missing, its values or the words of `code` are not as many as it takes or its options are others than it takes, or two listings are requested or
-- one of a function without a name
abbrev pub IsUnknown : Text → List Row → Type 0
IsUnknown subcommand rows =
    ((subcommand ≡ codes "target") × IsNoTarget rows)
    ⊎ (((subcommand ≡ codes "kwargs") × ((kwargs_operation (word_at (codes "OPERATION") rows) ≡ None) ⊎ (role_of (word_at (codes "FUNCTION") rows) ≡ None)))
    ⊎ (((subcommand ≡ codes "default-options") × (options_word (word_at (codes "OPERATION") rows) ≡ None))
    ⊎ (((subcommand ≡ codes "undo") × ((word : Text) × IsNoCount (first_of (codes "N") rows) word))
    ⊎ (((subcommand ≡ codes "history") × ((word : Text) × (word ≢ codes "all") × IsNoCount (first_of (codes "N") rows) word))
    ⊎ (((subcommand ≡ codes "list") × (AsksForTwo rows ⊎ NamesNoFunction rows))
    ⊎ (((subcommand ≡ codes "arg") × IsNoArgument rows)
    ⊎ ((subcommand ≡ codes "code") × IsNoCode rows)))))))

-- a folder is named for words that take none
abbrev pub FolderIsMisused : List Row → Text → List Row → Type 0
FolderIsMisused own subcommand rows = (is_some (first_of (codes "FOLDER") own) ≡ true) × (takes_folder subcommand rows ≡ false) × (subcommand ≢ codes "arg")

-- the words are not `target ID add`, `rm` or `rename`, or `--sorted` is among them
abbrev pub ChangesNoSources : Text → List Row → Type 0
ChangesNoSources subcommand rows =
    (subcommand ≢ codes "target")
    ⊎ (((word_at (codes "OPERATION") rows ≢ codes "add") × (word_at (codes "OPERATION") rows ≢ codes "rm")
    × (word_at (codes "OPERATION") rows ≢ codes "rename")) ⊎ (has_flag (codes "sorted") rows ≡ true))

-- nor are they `target ID info`, or those of `list`, `history`, `undo`, `redo` or `command`
abbrev pub TakesNoFollow : Text → List Row → Type 0
TakesNoFollow subcommand rows =
    ChangesNoSources subcommand rows × ((subcommand ≢ codes "target") ⊎ (word_at (codes "OPERATION") rows ≢ codes "info"))
    × (subcommand ≢ codes "list") × (subcommand ≢ codes "history") × (subcommand ≢ codes "undo") × (subcommand ≢ codes "redo")
    × (subcommand ≢ codes "command")

-- `--follow` is given with words that do not take it, or the form of it that changes shared lists with words that change no sources
abbrev pub FollowIsMisused : List Row → Text → List Row → Type 0
FollowIsMisused own subcommand rows =
    ((has_flag (codes "follow-shared") own ≡ true) × ChangesNoSources subcommand rows)
    ⊎ ((has_flag (codes "follow") own ≡ true) × TakesNoFollow subcommand rows)

-- a file of texts is named for an action that writes, or standard input would be read twice
abbrev pub TextsAreMisused : List Row → Text → List Row → Type 0
TextsAreMisused own subcommand rows =
    (asked : Action) × (action_within (first_of (codes "FOLDER") own) (follow_in own) subcommand rows ≡ Ok asked) × (texts_fit asked (first_of (codes "FILE") own) (is_dry own) ≡ false)

-- if clap takes the words and the usage is wrong: the folder is empty, a word is unknown or not a number, `rename` has not two names, `arg` has no place or
-- other values, `--sorted` or `--after` is given with other operations, two listings are requested or one of a function without a name, or a folder,
-- `--follow` or texts do not fit
abbrev pub MeansUnknown : List Text → Type 0
MeansUnknown words = (names_no_folder (first_of (codes "DIR") (matches_of program words)) ≡ true)
    ⊎ ((name : Text) × (rows : List Row) × (subcommand_of program words ≡ Some (name, rows))
    × (IsUnknown name rows ⊎ (FolderIsMisused (matches_of program words) name rows
    ⊎ (FollowIsMisused (matches_of program words) name rows ⊎ TextsAreMisused (matches_of program words) name rows))))

abbrev pub UsageMeansUnknown : Type 0
UsageMeansUnknown = (words : List Text) → fault_of program (clap_words words) ≡ [] → asked_by words ≡ Err Usage → MeansUnknown (clap_words words)
