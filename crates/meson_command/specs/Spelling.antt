-- The words of a command line as clap gets them: `--follow=own` and `--follow=shared` before the subcommand are two flags, since the clauses of clap say
-- nothing of an option whose value may be left out.
use Rattle.std.specs.Prelude.{◌==◌, Bool, false, true, List, [], ◌∷◌, bytes_eq, codes, if◌then◌else◌}
use Rattle.std.specs.List.{list_any}
use Rattle.clap.specs.Words.{Text}
use Rattle.meson_command.specs.declared.spelling.WordKind.{WordKind}
use Rattle.meson_command.specs.declared.spelling.WordKind.TheVariants.{Value, Own, Inner}

-- the flag that stands for a form of `--follow` with a value
abbrev pub as_flag : Text → Text
as_flag word =
    if bytes_eq word (codes "--follow=own") then codes "--follow"
    else (if bytes_eq word (codes "--follow=shared") then codes "--follow-shared" else word)

-- what clap gets of a word: only options of the program are spelled otherwise
abbrev pub passed : WordKind → Text → Text
passed Value word = word
passed Own word = as_flag word
passed Inner word = word

-- the word begins with a hyphen (45)
abbrev pub is_option : Text → Bool
is_option [] = false
is_option (b ∷ bytes) = b == 45

-- the next word is the value of an option of the program
abbrev pub takes_next : Text → Bool
takes_next word = list_any (bytes_eq word) (codes "--sourcedir" ∷ codes "-s" ∷ codes "--in" ∷ codes "--title" ∷ codes "--texts" ∷ [])

-- what the word after an option or a subcommand is
abbrev pub kind_after_own : (option next : Bool) → WordKind
kind_after_own false next = Inner
kind_after_own true true = Value
kind_after_own true false = Own

abbrev pub kind_after : WordKind → Text → WordKind
kind_after Value word = Own
kind_after Own word = kind_after_own (is_option word) (takes_next word)
kind_after Inner word = Inner

-- what it gets of words, of which the first is of this kind
unfoldable pub passed_from : WordKind → List Text → List Text
passed_from kind [] = []
passed_from kind (word ∷ words) = passed kind word ∷ passed_from (kind_after kind word) words

-- what it gets of all words, of which the first is the program's name
abbrev pub clap_words : List Text → List Text
clap_words words = passed_from Value words
