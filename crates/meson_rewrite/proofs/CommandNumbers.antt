-- The command of a number, among those of a script.
use Rattle.std.proofs.Common.{◌≡◌, ℕ, zero, suc, ◌<◌, ◌≤◌, List, [], ◌∷◌, length, get_or, None, Some, refl, arith}
use Rattle.meson_steps.specs.declared.command.Command.{Command}
use Rattle.meson_rewrite.specs.Advising.{command_at}

pub no_command_at : (cs : List Command) (i : ℕ) → length cs ≤ i → command_at cs i ≡ None
no_command_at [] i past = refl
no_command_at (c ∷ cs) zero past = absurd (omega (arith, past))
no_command_at (c ∷ cs) (suc i) past = let below : length cs ≤ i = omega (arith, past) in no_command_at cs i below

pub command_is_at : (cs : List Command) (i : ℕ) (d : Command) → i < length cs → command_at cs i ≡ Some (get_or cs i d)
command_is_at [] i d within = absurd (omega (arith, within))
command_is_at (c ∷ cs) zero d within = refl
command_is_at (c ∷ cs) (suc i) d within = let below : i < length cs = omega (arith, within) in command_is_at cs i d below
