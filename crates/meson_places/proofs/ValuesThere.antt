-- An expression is where the value is that a name names.
use Rattle.std.proofs.Common.{◌≡◌, ℕ, Some, None, Option, Ok, refl, subst}
use Rattle.std.specs.Prelude.{ok_or, option_and_then, option_map}
use Rattle.meson_lex.specs.declared.kinds.Span.{Span}
use Rattle.meson_syntax.specs.Tree.{Expression}
use Rattle.meson_splice.specs.Patch.{then_ok}
use Rattle.meson_calls.specs.declared.call.CallRef.{CallRef}
use Rattle.meson_calls.specs.declared.refusal.Refusal.{Refusal}
use Rattle.meson_calls.specs.declared.refusal.Refusal.TheVariants.{NoSuchValue}
use Rattle.meson_calls.specs.Loading.{project}
use Rattle.meson_calls.specs.Project.{Project, child, expression_at}
use Rattle.meson_calls.proofs.ExpressionsAt.{child_stands}
use Rattle.meson_steps.proofs.WentWell.{then_was}
use Rattle.meson_places.specs.declared.slots.Slot.{Slot}
use Rattle.meson_places.specs.declared.slots.Slot.TheVariants as slot
use Rattle.meson_places.specs.Arguments.{last_key}
use Rattle.meson_places.specs.Changes.{slot_place}
use Rattle.meson_places.specs.Laws.{IsExpressionAt, SlotIsThere, ValuesAreThere}
use Rattle.meson_places.specs.Names.{the_place}
use Rattle.meson_places.specs.Slots.{Child, elements_in, nth_child, the_slot}
use Rattle.meson_places.proofs.SlotsThere.{slots_are_there, value_is_part}

module _ (p : Project Span) (why : Refusal) (c : CallRef) where
  in_list : (list : CallRef) (e : Expression Span) → expression_at p list ≡ Some e → (n : ℕ) (o : Option (Child Span)) → nth_child 0 (elements_in e) n ≡ o
      → ok_or (option_map (λ (x : Child Span). child list x.number) o) why ≡ Ok c → IsExpressionAt p c
  in_list list e is n None found h = absurd (let none : ⊥ = cc in none)
  in_list list e is n (Some x) found h =
      let same : child list x.number ≡ c = cc in
      (x.value, subst (λ q. expression_at p q ≡ Some x.value) same (child_stands p list e is x.number x.value (value_is_part e n x found)))

  at_list : (list : CallRef) (n : ℕ) (o : Option (Expression Span)) → expression_at p list ≡ o
      → ok_or (option_map (λ (x : Child Span). child list x.number) (option_and_then (λ e. nth_child 0 (elements_in e) n) o)) why ≡ Ok c → IsExpressionAt p c
  at_list list n None is h = absurd (let none : ⊥ = cc in none)
  at_list list n (Some e) is h = in_list list e is n (nth_child 0 (elements_in e) n) refl h

  value_there : (s : Slot) → SlotIsThere p s → ok_or (slot_place p s) why ≡ Ok c → IsExpressionAt p c
  value_there (slot.Element list n) there h = at_list list n (expression_at p list) refl h
  value_there (slot.Absent list key) there h = absurd (let none : ⊥ = cc in none)
  value_there (slot.Whole q) there h = let same : q ≡ c = cc in subst (IsExpressionAt p) same there

pub values_are_there : ValuesAreThere
values_are_there l n c is =
    let why = NoSuchValue (last_key n.keys) in
    let p = project l in
    let k = then_was (the_place l n.place) (λ q. then_ok (the_slot p q n.keys) (λ s. ok_or (slot_place p s) why)) c is in
    let t = then_was (the_slot p k.0 n.keys) (λ s. ok_or (slot_place p s) why) c k.2 in
    value_there p why c t.0 (slots_are_there p k.0 n.keys t.0 t.1) t.2
