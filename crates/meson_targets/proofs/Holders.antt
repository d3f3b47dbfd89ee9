-- The statement that holds the call at a place.
use Rattle.meson_targets.proofs.Words.{◌≡◌, Option, Some, None, ap, ◌∙◌, option_map, option_and_then, Span, Project, CallRef, StatementPlace, Held, Holder}
use Rattle.meson_targets.proofs.Words.{held_by, holder, statement_of, statement_there}

module _ (p : Project Span) (call : CallRef) where
  abbrev on_held : StatementPlace → Option Held → Option Holder
  on_held line o = option_map (λ held. record { statement = line; held = held }) o

  abbrev of_line : Option StatementPlace → Option Holder
  of_line o = option_and_then (λ line. on_held line (option_and_then held_by (statement_there p line))) o

  pub no_line : None ≡ statement_of call → None ≡ holder p call
  no_line none = ap of_line none

  pub on_line : (line : StatementPlace) (o : Option Held) → Some line ≡ statement_of call → o ≡ option_and_then held_by (statement_there p line)
      → option_map (λ held. record { statement = line; held = held }) o ≡ holder p call
  on_line line o is_line is_held = ap (on_held line) is_held ∙ ap of_line is_line
