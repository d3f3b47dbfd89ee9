-- What is meant for each change, in terms of the steps that it has.
use Rattle.std.proofs.Common.{◌≡◌, ℕ, List, [], ◌∷◌, length, Ok, refl, sym, ap, ◌∙◌, subst, arith}
use Rattle.meson_splice.specs.Patch.{then_ok}
use Rattle.meson_calls.specs.declared.call.CallRef.{CallRef}
use Rattle.meson_calls.specs.Loading.{Loaded, project}
use Rattle.meson_steps.specs.GivenWords.{MayBeGiven}
use Rattle.meson_steps.specs.declared.argument.ValueChange.{ValueChange}
use Rattle.meson_steps.specs.declared.argument.ValueChange.TheVariants as change
use Rattle.meson_steps.specs.declared.argument.ValueName.{ValueName}
use Rattle.meson_steps.specs.declared.given.Given.{Given}
use Rattle.meson_places.specs.declared.slots.Slot.{Slot}
use Rattle.meson_places.specs.AllAssigned.{remove_each, replace_each}
use Rattle.meson_places.specs.Arguments.{MayBeMade, changed_steps, slot_steps}
use Rattle.meson_places.specs.AssignedArrays.{added_steps}
use Rattle.meson_places.specs.Insertions.{insert_steps}
use Rattle.meson_places.specs.Removals.{remove_steps}
use Rattle.meson_places.specs.Replacements.{exchange, exchange_steps}
use Rattle.meson_places.specs.Several.{AllMayBeGiven}
use Rattle.meson_places.specs.SortedAdditions.{sorted_steps}
use Rattle.meson_followed_values.specs.Followed.{gaining, inserted_for, losing, removed_for, removed_in, replaced_for, replaced_in, slot_at, slot_first, steps_in}

-- one that is made without following
abbrev pub IsPlain : ValueChange → Type 0
IsPlain (change.Set g) = Unit {0}
IsPlain (change.SetAll gs) = Unit {0}
IsPlain change.Delete = Unit {0}
IsPlain _ = ⊥

module _ (l : Loaded) (key : List ℕ) (s : Slot) where
  -- ---- where values are known that lose elements

  pub inserted_is : (g : Given) (gs : List Given) (may : AllMayBeGiven gs) (cs : List CallRef) → losing l.files (project l) (g ∷ []) s ≡ Ok cs
      → inserted_for l key g gs may s ≡ insert_steps l g gs may key (slot_first s cs)
  inserted_is g gs may cs found = ap (λ r. then_ok r (λ ds. slot_steps l key (change.AddAfter g gs) may (slot_first s ds))) found

  pub removed_alone : (gs : List Given) (cs : List CallRef) → losing l.files (project l) gs s ≡ Ok cs → length cs ≡ 0 → removed_for l key gs s ≡ remove_steps l gs key s
  removed_alone gs [] found none = ap (λ r. then_ok r (removed_in l key gs s)) found
  removed_alone gs (c ∷ cs) found none = absurd (omega (arith, none))

  pub removed_each : (gs : List Given) (cs : List CallRef) → losing l.files (project l) gs s ≡ Ok cs → (length cs ≡ 0 → ⊥) → removed_for l key gs s ≡ remove_each l key gs cs
  removed_each gs [] found some = absurd (some refl)
  removed_each gs (c ∷ cs) found some = ap (λ r. then_ok r (removed_in l key gs s)) found

  pub replaced_alone : (old new : Given) (may : MayBeGiven new) (cs : List CallRef) → losing l.files (project l) (old ∷ []) s ≡ Ok cs → length cs ≡ 0
      → replaced_for l key old new may s ≡ exchange_steps l (exchange old new may) key s
  replaced_alone old new may [] found none = ap (λ r. then_ok r (replaced_in l key old new may s)) found
  replaced_alone old new may (c ∷ cs) found none = absurd (omega (arith, none))

  pub replaced_each : (old new : Given) (may : MayBeGiven new) (cs : List CallRef) → losing l.files (project l) (old ∷ []) s ≡ Ok cs → (length cs ≡ 0 → ⊥)
      → replaced_for l key old new may s ≡ replace_each l key (exchange old new may) cs
  replaced_each old new may [] found some = absurd (some refl)
  replaced_each old new may (c ∷ cs) found some = ap (λ r. then_ok r (replaced_in l key old new may s)) found

  -- ---- of a change

  pub plain_is : (n : ValueName) (ch : ValueChange) (may : MayBeMade ch) → IsPlain ch → steps_in l key n ch may s ≡ changed_steps l n key ch may s
  plain_is n (change.Set g) may is = refl
  plain_is n (change.SetAll gs) may is = refl
  plain_is n change.Delete may is = refl
  plain_is n (change.Add gs) may is = absurd is
  plain_is n (change.AddSorted gs) may is = absurd is
  plain_is n (change.AddAfter g gs) may is = absurd is
  plain_is n (change.Remove gs) may is = absurd is
  plain_is n (change.Replace old new) may is = absurd is

  module _ (n : ValueName) (ch : ValueChange) (may : MayBeMade ch) where
    abbrev Is : (d : ValueChange) → Type 0
    Is d = (mays : MayBeMade d) × (steps_in l key n ch may s ≡ steps_in l key n d mays s)

    same_change : (d : ValueChange) → ch ≡ d → Is d
    same_change d is = subst Is is (may, refl)

    pub add_is : (gs hs : List Given) → ch ≡ change.Add gs → hs ≡ gs → (mays : AllMayBeGiven hs) × (steps_in l key n ch may s ≡ added_steps l hs mays key (slot_at s (gaining l.files (project l) hs s)))
    add_is gs hs is same = same_change (change.Add hs) (is ∙ ap change.Add (sym same))

    pub sort_is : (gs hs : List Given) → ch ≡ change.AddSorted gs → hs ≡ gs → (mays : AllMayBeGiven hs) × (steps_in l key n ch may s ≡ sorted_steps l hs mays key (slot_at s (gaining l.files (project l) hs s)))
    sort_is gs hs is same = same_change (change.AddSorted hs) (is ∙ ap change.AddSorted (sym same))

    pub insert_is : (g : Given) (gs hs : List Given) → ch ≡ change.AddAfter g gs → hs ≡ gs → (mays : AllMayBeGiven hs) × (steps_in l key n ch may s ≡ inserted_for l key g hs mays s)
    insert_is g gs hs is same = same_change (change.AddAfter g hs) (is ∙ ap (change.AddAfter g) (sym same))

    pub remove_is : (gs hs : List Given) → ch ≡ change.Remove gs → hs ≡ gs → steps_in l key n ch may s ≡ removed_for l key hs s
    remove_is gs hs is same = (same_change (change.Remove hs) (is ∙ ap change.Remove (sym same))).1

    pub replace_is : (old new : Given) → ch ≡ change.Replace old new → (mays : MayBeGiven new) × (steps_in l key n ch may s ≡ replaced_for l key old new mays s)
    replace_is old new is = same_change (change.Replace old new) is
