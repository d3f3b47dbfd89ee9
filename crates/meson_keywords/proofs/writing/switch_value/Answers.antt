use Rattle.meson_keywords.proofs.Words.{subst, ok_or, option_map, WrongKind, IsSet, written_switch}
use Rattle.meson_keywords.proofs.WrittenElements.{switch_is}
use Rattle.meson_keywords.proofs.writing.switch_value.Goals as goal

pub returns-in_ok-written-in-Some-clause-done : goal.returns-in_ok-written-in-Some-clause-done
returns-in_ok-written-in-Some-clause-done c =
    let bytes = c.in_ok-written-in-Some.written in
    subst (λ o. IsSet (ok_or (option_map written_switch o) (WrongKind c.args.key.now)) bytes) c.in-Some.ensures (switch_is c.in-Some.truth bytes c.in_ok-written-in-Some.ensures)
