-- One key after another: where each leads.
use Rattle.std.proofs.Common.{◌≡◌, ℕ, List, ◌∷◌, Some, None, Result, ap, ◌∙◌}
use Rattle.std.specs.Prelude.{Ok, Err}
use Rattle.meson_lex.specs.declared.kinds.Span.{Span}
use Rattle.meson_syntax.specs.Tree.{Expression}
use Rattle.meson_calls.specs.declared.call.CallRef.{CallRef}
use Rattle.meson_calls.specs.Project.{child}
use Rattle.meson_calls.specs.declared.refusal.Refusal.{Refusal}
use Rattle.meson_calls.specs.declared.refusal.Refusal.TheVariants.{NoSuchValue}
use Rattle.meson_places.specs.declared.slots.Slot.{Slot}
use Rattle.meson_places.specs.declared.slots.Slot.TheVariants as slot
use Rattle.meson_places.specs.Slots.{Child, absent_slot, at_number, elements_in, in_child, nth_child, number_in, slot_in}

module _ (p : CallRef) (e : Expression Span) (here : Slot) (key : List ℕ) (keys : List (List ℕ)) where
  pub further : ℕ → Child Span → Result Slot Refusal
  further n c = slot_in (child p c.number) c.value (slot.Element p n) keys

  pub step_to : (n : ℕ) → number_in key e ≡ Ok (Some n) → slot_in p e here (key ∷ keys) ≡ in_child key (further n) (nth_child 0 (elements_in e) n)
  unfolding further
  step_to n is = ap (at_number (absent_slot p key keys) (λ n. in_child key (further n) (nth_child 0 (elements_in e) n))) is

  pub step_gone : (n : ℕ) → number_in key e ≡ Ok (Some n) → nth_child 0 (elements_in e) n ≡ None → slot_in p e here (key ∷ keys) ≡ Err (NoSuchValue key)
  step_gone n is none = step_to n is ∙ ap (in_child key (further n)) none

  pub step_in : (n : ℕ) (c : Child Span) → number_in key e ≡ Ok (Some n) → nth_child 0 (elements_in e) n ≡ Some c →
      slot_in p e here (key ∷ keys) ≡ slot_in (child p c.number) c.value (slot.Element p n) keys
  unfolding further
  step_in n c is some = step_to n is ∙ ap (in_child key (further n)) some
