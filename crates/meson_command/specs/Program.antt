-- The words that the program takes, as they are declared to clap.
use Rattle.std.specs.Prelude.{◌≡◌, ℕ, ◌∷◌, ◌++◌, [], List, true, false, Some, codes, fold}
use Rattle.clap.specs.Simple.{on_top}
use Rattle.clap.specs.Words.{App, Rule, Text, app_of, new_app, new_rule, with_rule, with_subcommand}
use Rattle.clap.specs.declared.builder.ArgAction.TheVariants as action
use Rattle.clap.specs.declared.builder.command.Command.{Command}
use Rattle.clap.specs.declared.builder.command.Command.TheViews.{out-Command}

-- a required word
abbrev pub required_word : Text → Rule
required_word id = record (new_rule id) { required = true; action = Some action.Set }

-- a required word after which no word is an option
abbrev pub ending_word : Text → Rule
ending_word id = record (required_word id) { trailing_var_arg = true }

-- a word that may be left out
abbrev pub word : Text → Rule
word id = record (new_rule id) { action = Some action.Set }

-- any number of words
abbrev pub many : Text → Rule
many id = record (new_rule id) { action = Some action.Append }

-- an option with one value
abbrev pub option : Text → Text → Rule
option id long = record (new_rule id) { long = Some long; action = Some action.Set }

-- the same with a short name
abbrev pub short_option : Text → Text → ℕ → Rule
short_option id long short = record (option id long) { short = Some short }

-- an option without a value
abbrev pub flag : Text → Text → Rule
flag id long = record (new_rule id) { long = Some long; action = Some action.SetTrue }

-- the same with a short name
abbrev pub short_flag : Text → Text → ℕ → Rule
short_flag id long short = record (flag id long) { short = Some short }

-- `--help`, and no short form of it
abbrev pub help : Rule
help = record (new_rule (codes "help")) { long = Some (codes "help"); action = Some action.Help }

-- `--version`, which the program has and no subcommand
abbrev pub version : Rule
version = record (new_rule (codes "version")) { long = Some (codes "version"); action = Some action.Version }

-- the command has another name, too
abbrev pub with_alias : Text → App → App
with_alias alias a = on_top (λ s. record s { aliases = s.aliases ++ alias ∷ [] }) a

abbrev pub of_words : App → List Rule → App
of_words named rules = fold with_rule named rules

-- target ID OPERATION [SOURCE]... [-s|--subdir SUBDIR] [--type KIND] [--sorted]; `s` is 115
unfoldable pub target : App
target = of_words (with_alias (codes "tgt") (new_app (codes "target"))) (required_word (codes "ID") ∷ required_word (codes "OPERATION") ∷ many (codes "SOURCE")
    ∷ short_option (codes "SUBDIR") (codes "subdir") 115 ∷ option (codes "KIND") (codes "type") ∷ flag (codes "sorted") (codes "sorted") ∷ help ∷ [])

-- kwargs OPERATION FUNCTION ID [KEY VALUE]...
unfoldable pub kwargs : App
kwargs = of_words (new_app (codes "kwargs")) (required_word (codes "OPERATION") ∷ required_word (codes "FUNCTION") ∷ required_word (codes "ID")
    ∷ many (codes "KEY VALUE") ∷ help ∷ [])

-- arg OPERATION [--after ELEMENT] [--sorted] FUNCTION ID [KEY [VALUE]...]
unfoldable pub argument : App
argument = of_words (new_app (codes "arg")) (required_word (codes "OPERATION") ∷ ending_word (codes "FUNCTION") ∷ required_word (codes "ID")
    ∷ word (codes "KEY") ∷ many (codes "VALUE") ∷ option (codes "ELEMENT") (codes "after") ∷ flag (codes "sorted") (codes "sorted") ∷ help ∷ [])

-- code OPERATION [--blank N] [--unused] FUNCTION|FILE ID|CODE [CODE]
unfoldable pub code : App
code = of_words (new_app (codes "code")) (required_word (codes "OPERATION") ∷ ending_word (codes "FUNCTION|FILE") ∷ required_word (codes "ID|CODE")
    ∷ word (codes "CODE") ∷ option (codes "N") (codes "blank") ∷ flag (codes "unused") (codes "unused") ∷ help ∷ [])

-- default-options OPERATION [OPTION VALUE]...
unfoldable pub default_options : App
default_options =
    of_words (with_alias (codes "def") (new_app (codes "default-options"))) (required_word (codes "OPERATION") ∷ many (codes "OPTION VALUE") ∷ help ∷ [])

-- command [--strict] JSON
unfoldable pub command : App
command = of_words (with_alias (codes "cmd") (new_app (codes "command"))) (required_word (codes "JSON") ∷ flag (codes "strict") (codes "strict") ∷ help ∷ [])

-- undo [--to N] [--check FILE]
unfoldable pub undo : App
undo = of_words (new_app (codes "undo")) (option (codes "N") (codes "to") ∷ option (codes "FILE") (codes "check") ∷ help ∷ [])

unfoldable pub redo : App
redo = of_words (new_app (codes "redo")) (help ∷ [])

-- history [--forget N]
unfoldable pub history : App
history = of_words (new_app (codes "history")) (option (codes "N") (codes "forget") ∷ help ∷ [])

-- list [--of FUNCTION] [--json] [--sums]
unfoldable pub list : App
list = of_words (new_app (codes "list")) (option (codes "FUNCTION") (codes "of") ∷ flag (codes "json") (codes "json") ∷ flag (codes "sums") (codes "sums")
    ∷ help ∷ [])

-- a subcommand is required; clap adds no `help` subcommand and no help flag of its own
abbrev pub bare_command : Text → App
bare_command name = record (new_app name) {
  top = record (new_app name).top { subcommand_required = true; disable_help_flag = true; disable_help_subcommand = true };
}

-- meson_rewrite [-s|--sourcedir DIR] [--in FOLDER] [--follow] [--follow-shared] [--title TEXT] [--dry-run] [--json] [--explain] [--exit-code] [--no-log]
-- [--texts FILE] [-V|--verbose]; `--follow=shared` is `--follow-shared` here; `V` is 86, and nothing reads whether it is there
abbrev pub own_words : App
own_words =
    fold with_rule (bare_command (codes "meson_rewrite")) (short_option (codes "DIR") (codes "sourcedir") 115 ∷ option (codes "FOLDER") (codes "in")
    ∷ flag (codes "follow") (codes "follow") ∷ flag (codes "follow-shared") (codes "follow-shared") ∷ option (codes "TEXT") (codes "title")
    ∷ flag (codes "dry-run") (codes "dry-run") ∷ flag (codes "json") (codes "json") ∷ flag (codes "explain") (codes "explain")
    ∷ flag (codes "exit-code") (codes "exit-code") ∷ flag (codes "no-log") (codes "no-log")
    ∷ option (codes "FILE") (codes "texts") ∷ short_flag (codes "verbose") (codes "verbose") 86 ∷ help ∷ version ∷ [])

-- meson_rewrite [OPTION]... SUBCOMMAND
unfoldable pub program : App
program = fold (λ a s. with_subcommand a s.top) own_words (target ∷ kwargs ∷ argument ∷ code ∷ default_options ∷ command ∷ undo ∷ redo ∷ history ∷ list ∷ [])

-- this is declared to clap, and no word counts for all subcommands at once
abbrev pub IsToldToClap : App → Command → Type 0
IsToldToClap a c = (app_of c ≡ a) × ((out-Command c).has_globals ≡ false)
