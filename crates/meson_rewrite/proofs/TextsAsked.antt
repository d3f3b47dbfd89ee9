-- Texts are named only for what writes nothing, and not for help or the version, whatever the text of help is.
use Rattle.std.proofs.Common.{◌≡◌, List, ℕ, None, Ok, refl, sym, subst}
use Rattle.std.specs.Prelude.{◌||◌, IfSome, IsTrue}
use Rattle.meson_command.proofs.FitTexts.{texts-law}
use Rattle.meson_command.specs.Asking.{asked_by, only_asks, only_shows, without_help_text, without_text}
use Rattle.meson_command.specs.declared.asked.Action.{Action}
use Rattle.meson_command.specs.declared.asked.Action.TheVariants as action
use Rattle.meson_command.specs.declared.asked.Asked.{Asked}

same-asks : (x : Action) → only_asks (without_help_text x) ≡ only_asks x
same-asks (action.Help text) = refl
same-asks _ = refl

same-shows : (x : Action) → only_shows (without_help_text x) ≡ only_shows x
same-shows (action.Help text) = refl
same-shows _ = refl

pub asks-without-text : (a : Asked) → IsTrue (only_asks a.action || a.flags.dry_run) → IsTrue (only_asks (without_text a).action || (without_text a).flags.dry_run)
asks-without-text a = subst (λ b. IsTrue (b || a.flags.dry_run)) (sym (same-asks a.action))

module _ (words : List (List ℕ)) (a : Asked) (is : asked_by words ≡ Ok (without_text a)) where
  pub texts-only-ask : IfSome a.texts (λ _. IsTrue (only_asks a.action || a.flags.dry_run))
  texts-only-ask = subst (λ b. IfSome a.texts (λ _. IsTrue (b || a.flags.dry_run))) (same-asks a.action) (texts-law words (without_text a) is).0

  pub no-texts-shown : IsTrue (only_shows a.action) → a.texts ≡ None
  no-texts-shown shows = (texts-law words (without_text a) is).1 (subst IsTrue (sym (same-shows a.action)) shows)
