-- Arguments that a test keeps, expanded one after another.
use Rattle.meson_variables.proofs.Words.{◌≡◌, ℕ, ◌+◌, ◌<◌, List, length, drop, get_or, refl, sym, ap, ◌∙◌, Option, Some, None, cons_option, Span, Expression}
use Rattle.meson_variables.proofs.Words.{Argument, Arg, Numbered, kept_args, kept_arg, Project, CallRef, one_by, expansion_step, arguments_by, Slot, Gathered}
use Rattle.meson_variables.proofs.Words.{expanded}
use Rattle.meson_variables.proofs.Gathers.{expanded_twice}
use Rattle.meson_calls.proofs.KeptArguments.{kept_here}

-- ---- what they hold

module _ (p : Project Span) (left : ℕ) (c : CallRef) (slot : ℕ → Slot) where
  pub one_step : (g : Gathered) (o : Option (Numbered (Expression Span))) (more : List (Numbered (Expression Span))) →
      expanded g (arguments_by p left c slot (cons_option o more)) ≡ expanded (expanded g (expansion_step p left c slot o)) (arguments_by p left c slot more)
  one_step g None more = refl
  one_step g (Some a) more = expanded_twice g (one_by p left c slot a) (arguments_by p left c slot more)

  pub kept_turn : (source : List ℕ) (choose : Argument Span → Option (Expression Span)) (args : List Arg) (i : ℕ) (d : Arg) (before after whole : Gathered) → i < length args →
      after ≡ expanded before (expansion_step p left c slot (kept_arg source choose i (get_or args i d))) →
      expanded before (arguments_by p left c slot (kept_args source choose i (drop i args))) ≡ whole →
      expanded after (arguments_by p left c slot (kept_args source choose (i + 1) (drop (i + 1) args))) ≡ whole
  kept_turn source choose args i d before after whole within step so_far =
      ap (λ g. expanded g (arguments_by p left c slot (kept_args source choose (i + 1) (drop (i + 1) args)))) step
      ∙ sym (one_step before (kept_arg source choose i (get_or args i d)) (kept_args source choose (i + 1) (drop (i + 1) args)))
      ∙ sym (ap (λ xs. expanded before (arguments_by p left c slot xs)) (kept_here source choose args i d within))
      ∙ so_far
