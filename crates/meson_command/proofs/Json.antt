-- Where a request is answered in JSON.
use Rattle.std.proofs.Common.{◌≡◌, ◌≢◌, ◌∙◌, ◌∷◌, ◌⊎◌, inl, inr, Bool, List, [], Option, false, codes, refl, sym, ap₂, subst}
use Rattle.std.specs.Prelude.{IfOk, ok_or}
use Rattle.clap.specs.Kinds.{IsAmong, Kinds}
use Rattle.clap.specs.Words.{App, HasMatchesOf, Row, Text, fault_of, first_of, found_of, matches_of, rows_of}
use Rattle.clap.specs.declared.parser.matches.ArgMatches.{ArgMatches}
use Rattle.clap.specs.declared.error.kind.ErrorKind.{ErrorKind}
use Rattle.clap.specs.declared.error.kind.ErrorKind.TheVariants as kind
use Rattle.clap.specs.declared.error.kind.ErrorKind.TheVariants.{DisplayHelp, DisplayVersion, OutOfMemory}
use Rattle.meson_json.specs.Titles.{is_title}
use Rattle.meson_command.specs.Arguments.{action_within}
use Rattle.meson_command.specs.Asking.{answer, answer_by, asked_from, asked_of, is_dry, is_json_answer, json_by, names_no_folder, follow_in, texts_fit, title_in}
use Rattle.meson_command.specs.Laws.{JsonWhereWanted}
use Rattle.meson_command.specs.Program.{program}
use Rattle.meson_command.specs.Spelling.{clap_words}
use Rattle.meson_command.specs.declared.asked.Asked.{Asked}
use Rattle.meson_command.specs.declared.fault.UsageFault.TheVariants.{Usage, BadTitle}
use Rattle.meson_command.proofs.NoHelp.{Answers, after, either, err, ok}
use Rattle.meson_command.proofs.Taken.{rows-of}

-- ---- the request of words that clap takes

from_words : (rows : List Row) (subcommand : Option (Text × List Row)) → Answers (λ a. a.flags.json ≡ is_json_answer rows) (asked_from rows subcommand)
unfolding asked_from
from_words rows subcommand =
    after (ok_or subcommand Usage) _ (λ s. either (names_no_folder (first_of (codes "DIR") rows)) _ _ (err _)
    (after (action_within (first_of (codes "FOLDER") rows) (follow_in rows) s.0 s.1) _ (λ action. either (texts_fit action (first_of (codes "FILE") rows) (is_dry rows)) _ _
    (either (is_title (title_in rows)) _ _ (ok _ refl) (err BadTitle)) (err Usage))))

-- help and the version are not answered in JSON
by_kind : (k : ErrorKind) → Answers (λ a. a.flags.json ≡ false) (answer_by k)
by_kind DisplayHelp = ok _ refl
by_kind DisplayVersion = ok _ refl
by_kind kind.InvalidValue = err _
by_kind kind.UnknownArgument = err _
by_kind kind.InvalidSubcommand = err _
by_kind kind.NoEquals = err _
by_kind kind.ValueValidation = err _
by_kind kind.TooManyValues = err _
by_kind kind.TooFewValues = err _
by_kind kind.WrongNumberOfValues = err _
by_kind kind.ArgumentConflict = err _
by_kind kind.MissingRequiredArgument = err _
by_kind kind.MissingSubcommand = err _
by_kind kind.DisplayHelpOnMissingArgumentOrSubcommand = err _
by_kind kind.Io = err _
by_kind kind.Format = err _
by_kind kind.OutOfMemory = err _

by_kinds : (ks : Kinds) (words : List Text) → Answers (λ a. a.flags.json ≡ json_by ks (is_json_answer (matches_of program words))) (answer ks (asked_of words))
by_kinds [] words = from_words _ _
by_kinds (k ∷ ks) words = by_kind k

pub json-law : JsonWhereWanted
json-law words asked is =
    let given = clap_words words in
    let wanted : Asked → Type 0 = λ a. a.flags.json ≡ json_by (fault_of program given) (is_json_answer (matches_of program given)) in
    subst (λ r. IfOk r wanted) is (by_kinds (fault_of program given) given).so

-- ---- what is read of the words

pub wanted : (a : App) (words : List Text) (m : ArgMatches) (json : Bool) → a ≡ program → HasMatchesOf a words m → fault_of program words ≡ [] → json ≡ is_json_answer (rows_of (found_of m))
    → json ≡ json_by (fault_of program words) (is_json_answer (matches_of program words))
wanted a words m json is h none given = given ∙ ap₂ (λ (ks : Kinds) rows. json_by ks (is_json_answer rows)) (sym none) (rows-of a words m is h)

pub unwanted : (ks : Kinds) (k : ErrorKind) (json : Bool) → k ≢ OutOfMemory → (k ≡ OutOfMemory) ⊎ IsAmong k ks → false ≡ json_by ks json
unwanted [] k json n (inl e) = absurd (n e)
unwanted [] k json n (inr h) = absurd h
unwanted (x ∷ ks) k json n h = refl
