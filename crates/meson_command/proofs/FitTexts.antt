-- Where texts are named.
use Rattle.std.proofs.Common.{◌≡◌, ◌∷◌, Bool, true, false, List, [], Option, Some, None, Ok, Err, codes, refl, subst}
use Rattle.std.specs.Prelude.{◌||◌, ◌&&◌, not, if◌then◌else◌, IfOk, IfSome, IsTrue, ok_or}
use Rattle.std.proofs.lemmas.Bool.{false≢true}
use Rattle.clap.specs.Kinds.{Kinds}
use Rattle.clap.specs.Words.{Row, Text, fault_of, first_of, matches_of, subcommand_of}
use Rattle.clap.specs.declared.error.kind.ErrorKind.{ErrorKind}
use Rattle.clap.specs.declared.error.kind.ErrorKind.TheVariants as kind
use Rattle.clap.specs.declared.error.kind.ErrorKind.TheVariants.{DisplayHelp, DisplayVersion}
use Rattle.meson_json.specs.Titles.{is_title}
use Rattle.meson_command.specs.Arguments.{action_within}
use Rattle.meson_command.specs.Asking.{answer, answer_by, asked_from, asked_of, is_dry, is_input, names_no_folder, only_asks, only_shows, follow_in, reads_input, texts_fit, title_in, with_title}
use Rattle.meson_command.specs.Laws.{TextsWriteNothing}
use Rattle.meson_command.specs.Program.{program}
use Rattle.meson_command.specs.Spelling.{clap_words}
use Rattle.meson_command.specs.declared.asked.Action.{Action}
use Rattle.meson_command.specs.declared.asked.Action.TheVariants as action
use Rattle.meson_command.specs.declared.asked.Asked.{Asked}
use Rattle.meson_command.specs.declared.fault.UsageFault.TheVariants.{Usage, BadTitle}
use Rattle.meson_command.proofs.NoHelp.{Answers, IsPlain, after, either, err, not_help, ok}

-- the texts fit the request, and help and the version have none
abbrev HasFitTexts : Asked → Type 0
HasFitTexts a = (texts_fit a.action a.texts a.flags.dry_run ≡ true) × (IsTrue (only_shows a.action) → a.texts ≡ None)

shows-nothing : (x : Action) (P : Type 0) → IsPlain x → IsTrue (only_shows x) → P
shows-nothing (action.Help text) P plain shows = absurd plain
shows-nothing action.Version P plain shows = absurd plain
shows-nothing _ P plain shows = absurd (false≢true shows)

fits : (rows : List Row) (x : Action) (b : Bool) → texts_fit x (first_of (codes "FILE") rows) (is_dry rows) ≡ b
    → Answers (λ a. texts_fit a.action a.texts a.flags.dry_run ≡ true) (if b then with_title rows x else Err Usage)
fits rows x true is = either (is_title (title_in rows)) _ _ (ok _ is) (err BadTitle)
fits rows x false is = err Usage

from_words : (rows : List Row) (subcommand : Option (Text × List Row)) → Answers (λ a. texts_fit a.action a.texts a.flags.dry_run ≡ true) (asked_from rows subcommand)
unfolding asked_from
from_words rows subcommand =
    after (ok_or subcommand Usage) _ (λ s. either (names_no_folder (first_of (codes "DIR") rows)) _ _ (err _)
    (after (action_within (first_of (codes "FOLDER") rows) (follow_in rows) s.0 s.1) _ (λ x. fits rows x (texts_fit x (first_of (codes "FILE") rows) (is_dry rows)) refl)))

by_kind : (k : ErrorKind) → Answers HasFitTexts (answer_by k)
by_kind DisplayHelp = ok _ (refl, λ shows. refl)
by_kind DisplayVersion = ok _ (refl, λ shows. refl)
by_kind kind.InvalidValue = err _
by_kind kind.UnknownArgument = err _
by_kind kind.InvalidSubcommand = err _
by_kind kind.NoEquals = err _
by_kind kind.ValueValidation = err _
by_kind kind.TooManyValues = err _
by_kind kind.TooFewValues = err _
by_kind kind.WrongNumberOfValues = err _
by_kind kind.ArgumentConflict = err _
by_kind kind.MissingRequiredArgument = err _
by_kind kind.MissingSubcommand = err _
by_kind kind.DisplayHelpOnMissingArgumentOrSubcommand = err _
by_kind kind.Io = err _
by_kind kind.Format = err _
by_kind kind.OutOfMemory = err _

fit-texts : (words : List Text) (a : Asked) (ks : Kinds) → answer ks (asked_of words) ≡ Ok a → HasFitTexts a
fit-texts words a [] given = (
  subst (λ r. IfOk r (λ x. texts_fit x.action x.texts x.flags.dry_run ≡ true)) given (from_words (matches_of program words) (subcommand_of program words)).so,
  shows-nothing a.action _ (not_help (matches_of program words) (subcommand_of program words) a given),
)
fit-texts words a (k ∷ ks) given = subst (λ r. IfOk r HasFitTexts) given (by_kind k).so

allowed : (dry asks input : Bool) → ((dry || asks) && input) ≡ true → IsTrue (asks || dry)
allowed true true input e = refl
allowed true false input e = refl
allowed false true input e = refl
allowed false false input e = e

named-for : (x : Action) (texts : Option Text) (dry : Bool) → texts_fit x texts dry ≡ true → IfSome texts (λ _. IsTrue (only_asks x || dry))
named-for x None dry fit = tt
named-for x (Some name) dry fit = allowed dry (only_asks x) (not (is_input name && reads_input x)) fit

pub texts-law : TextsWriteNothing
texts-law words a is =
    let fit = fit-texts (clap_words words) a (fault_of program (clap_words words)) is in
    (named-for a.action a.texts a.flags.dry_run fit.0, fit.1)
