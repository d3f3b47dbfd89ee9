-- The places of a target and of its statement as the code has them.
use Rattle.meson_lex.specs.Kinds.{IsIdentifier}
use Rattle.meson_targets.specs.declared.uses.StatementPlace as code
use Rattle.meson_targets.specs.declared.holder.Held as code_held
use Rattle.meson_targets.specs.declared.holder.Held.TheVariants as held
use Rattle.meson_targets.specs.declared.holder.Holder as code_holder
use Rattle.meson_targets.specs.TargetEdits.{StatementPlace, Held, alone, set_to, Holder}

abbrev pub place_view : code.StatementPlace → StatementPlace
place_view place = record { block = place.block; number = place.number }

abbrev pub held_view : code_held.Held → Held
held_view held.Alone = alone
held_view (held.SetTo name) = set_to name.now

abbrev pub holder_view : code_holder.Holder → Holder
holder_view h = record { statement = place_view h.statement; held = held_view h.held }

-- the variable that is set is an identifier
abbrev pub IsNamed : code_held.Held → Type 0
IsNamed held.Alone = Unit {0}
IsNamed (held.SetTo name) = IsIdentifier name.now
