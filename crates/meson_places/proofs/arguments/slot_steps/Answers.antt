use Rattle.std.proofs.Common.{◌≡◌, ℕ, List, refl, sym, ap, ◌∙◌, subst}
use Rattle.std.proofs.lemmas.Result.{IfOk-weaker}
use Rattle.meson_calls.specs.Loading.{Loaded}
use Rattle.meson_steps.specs.Meanings.{AreMeant}
use Rattle.meson_steps.specs.declared.argument.ValueChange.{ValueChange}
use Rattle.meson_steps.specs.declared.argument.ValueChange.TheVariants as change
use Rattle.meson_places.specs.declared.slots.Slot.{Slot}
use Rattle.meson_steps.specs.declared.given.Given.{Given}
use Rattle.meson_steps.specs.GivenWords.{MayBeGiven}
use Rattle.meson_places.specs.Arguments.{MayBeMade, slot_steps}
use Rattle.meson_places.specs.AssignedArrays.{added_steps, set_all_steps}
use Rattle.meson_places.specs.Names.{loaded_in}
use Rattle.meson_places.specs.Insertions.{insert_steps}
use Rattle.meson_places.specs.Removals.{remove_steps}
use Rattle.meson_places.specs.Replacements.{exchange, exchange_steps}
use Rattle.meson_places.specs.Several.{AllMayBeGiven}
use Rattle.meson_places.specs.SortedAdditions.{sorted_steps}
use Rattle.meson_places.proofs.Meant.{made_fine, made_refused}
use Rattle.meson_places.proofs.Refused.{refused_as}
use Rattle.meson_places.proofs.arguments.slot_steps.Goals as goal

set_all_is : (l : Loaded) (key : List ℕ) (ch : ValueChange) (gs hs : List Given) → ch ≡ change.SetAll gs → hs ≡ gs → (may : MayBeMade ch) (s : Slot) → (mays : AllMayBeGiven hs) × (slot_steps l key ch may s ≡ set_all_steps l hs mays key s)
set_all_is l key (change.Set g) gs hs is same may s = absurd (let no : ⊥ = cc in no)
set_all_is l key (change.Add ks) gs hs is same may s = absurd (let no : ⊥ = cc in no)
set_all_is l key (change.Remove ks) gs hs is same may s = absurd (let no : ⊥ = cc in no)
set_all_is l key (change.Replace old new) gs hs is same may s = absurd (let no : ⊥ = cc in no)
set_all_is l key (change.AddAfter it ks) gs hs is same may s = absurd (let no : ⊥ = cc in no)
set_all_is l key (change.AddSorted ks) gs hs is same may s = absurd (let no : ⊥ = cc in no)
set_all_is l key change.Delete gs hs is same may s = absurd (let no : ⊥ = cc in no)
set_all_is l key (change.SetAll ks) gs hs is same may s =
    let alike : ks ≡ hs = let e : ks ≡ gs = cc in e ∙ sym same in
    subst (λ t. (mays : AllMayBeGiven t) × (set_all_steps l ks may key s ≡ set_all_steps l t mays key s)) alike (may, refl)

pub returns-in-SetAll-clause-meant : goal.returns-in-SetAll-clause-meant
returns-in-SetAll-clause-meant c = λ may.
    let x = set_all_is (loaded_in c.args.sources) c.args.key.now c.args.change.now c.in-SetAll.values c.get.result.now c.in-SetAll.is c.get.ensures may c.args.slot.now in
    IfOk-weaker c.set_all_steps.result _ _ (λ steps m. subst (λ r. AreMeant r steps.items) (sym x.1) m) (made_fine _ _ c.set_all_steps.result (c.set_all_steps.ensures.made x.0))

pub returns-in-SetAll-clause-refused : goal.returns-in-SetAll-clause-refused
returns-in-SetAll-clause-refused c = λ may.
    let l = loaded_in c.args.sources in
    let x = set_all_is l c.args.key.now c.args.change.now c.in-SetAll.values c.get.result.now c.in-SetAll.is c.get.ensures may c.args.slot.now in
    refused_as c.set_all_steps.result (slot_steps l c.args.key.now c.args.change.now may c.args.slot.now) (set_all_steps l c.get.result.now x.0 c.args.key.now c.args.slot.now) x.1
    (made_refused _ _ c.set_all_steps.result (c.set_all_steps.ensures.made x.0))

add_is : (l : Loaded) (key : List ℕ) (ch : ValueChange) (gs hs : List Given) → ch ≡ change.Add gs → hs ≡ gs → (may : MayBeMade ch) (s : Slot) → (mays : AllMayBeGiven hs) × (slot_steps l key ch may s ≡ added_steps l hs mays key s)
add_is l key (change.Set g) gs hs is same may s = absurd (let no : ⊥ = cc in no)
add_is l key (change.SetAll ks) gs hs is same may s = absurd (let no : ⊥ = cc in no)
add_is l key (change.Remove ks) gs hs is same may s = absurd (let no : ⊥ = cc in no)
add_is l key (change.Replace old new) gs hs is same may s = absurd (let no : ⊥ = cc in no)
add_is l key (change.AddAfter it ks) gs hs is same may s = absurd (let no : ⊥ = cc in no)
add_is l key (change.AddSorted ks) gs hs is same may s = absurd (let no : ⊥ = cc in no)
add_is l key change.Delete gs hs is same may s = absurd (let no : ⊥ = cc in no)
add_is l key (change.Add ks) gs hs is same may s =
    let alike : ks ≡ hs = let e : ks ≡ gs = cc in e ∙ sym same in
    subst (λ t. (mays : AllMayBeGiven t) × (added_steps l ks may key s ≡ added_steps l t mays key s)) alike (may, refl)

pub returns-in-Add-clause-meant : goal.returns-in-Add-clause-meant
returns-in-Add-clause-meant c = λ may.
    let x = add_is (loaded_in c.args.sources) c.args.key.now c.args.change.now c.in-Add.values c.get-in-Add.result.now c.in-Add.is c.get-in-Add.ensures may c.args.slot.now in
    IfOk-weaker c.added_steps.result _ _ (λ steps m. subst (λ r. AreMeant r steps.items) (sym x.1) m) (made_fine _ _ c.added_steps.result (c.added_steps.ensures.made x.0))

pub returns-in-Add-clause-refused : goal.returns-in-Add-clause-refused
returns-in-Add-clause-refused c = λ may.
    let l = loaded_in c.args.sources in
    let x = add_is l c.args.key.now c.args.change.now c.in-Add.values c.get-in-Add.result.now c.in-Add.is c.get-in-Add.ensures may c.args.slot.now in
    refused_as c.added_steps.result (slot_steps l c.args.key.now c.args.change.now may c.args.slot.now) (added_steps l c.get-in-Add.result.now x.0 c.args.key.now c.args.slot.now) x.1
    (made_refused _ _ c.added_steps.result (c.added_steps.ensures.made x.0))

after_is : (l : Loaded) (key : List ℕ) (ch : ValueChange) (it : Given) (gs hs : List Given) → ch ≡ change.AddAfter it gs → hs ≡ gs → (may : MayBeMade ch) (s : Slot)
    → (mays : AllMayBeGiven hs) × (slot_steps l key ch may s ≡ insert_steps l it hs mays key s)
after_is l key (change.Set g) it gs hs is same may s = absurd (let no : ⊥ = cc in no)
after_is l key (change.SetAll ks) it gs hs is same may s = absurd (let no : ⊥ = cc in no)
after_is l key (change.Add ks) it gs hs is same may s = absurd (let no : ⊥ = cc in no)
after_is l key (change.AddSorted ks) it gs hs is same may s = absurd (let no : ⊥ = cc in no)
after_is l key (change.Remove ks) it gs hs is same may s = absurd (let no : ⊥ = cc in no)
after_is l key (change.Replace old new) it gs hs is same may s = absurd (let no : ⊥ = cc in no)
after_is l key change.Delete it gs hs is same may s = absurd (let no : ⊥ = cc in no)
after_is l key (change.AddAfter one ks) it gs hs is same may s =
    let alike : ks ≡ hs = let e : ks ≡ gs = cc in e ∙ sym same in
    let marked : one ≡ it = cc in
    subst (λ t. (mays : AllMayBeGiven t) × (insert_steps l one ks may key s ≡ insert_steps l it t mays key s)) alike (may, ap (λ x. insert_steps l x ks may key s) marked)

pub returns-in-AddAfter-clause-meant : goal.returns-in-AddAfter-clause-meant
returns-in-AddAfter-clause-meant c = λ may.
    let x = after_is (loaded_in c.args.sources) c.args.key.now c.args.change.now c.in-AddAfter.after c.in-AddAfter.values c.get-values.result.now c.in-AddAfter.is c.get-values.ensures may c.args.slot.now in
    IfOk-weaker c.insert_steps.result _ _ (λ steps m. subst (λ r. AreMeant r steps.items) (sym x.1) m) (made_fine _ _ c.insert_steps.result (c.insert_steps.ensures.made x.0))

pub returns-in-AddAfter-clause-refused : goal.returns-in-AddAfter-clause-refused
returns-in-AddAfter-clause-refused c = λ may.
    let l = loaded_in c.args.sources in
    let x = after_is l c.args.key.now c.args.change.now c.in-AddAfter.after c.in-AddAfter.values c.get-values.result.now c.in-AddAfter.is c.get-values.ensures may c.args.slot.now in
    refused_as c.insert_steps.result (slot_steps l c.args.key.now c.args.change.now may c.args.slot.now) (insert_steps l c.in-AddAfter.after c.get-values.result.now x.0 c.args.key.now c.args.slot.now) x.1
    (made_refused _ _ c.insert_steps.result (c.insert_steps.ensures.made x.0))

sorted_is : (l : Loaded) (key : List ℕ) (ch : ValueChange) (gs hs : List Given) → ch ≡ change.AddSorted gs → hs ≡ gs → (may : MayBeMade ch) (s : Slot) → (mays : AllMayBeGiven hs) × (slot_steps l key ch may s ≡ sorted_steps l hs mays key s)
sorted_is l key (change.Set g) gs hs is same may s = absurd (let no : ⊥ = cc in no)
sorted_is l key (change.SetAll ks) gs hs is same may s = absurd (let no : ⊥ = cc in no)
sorted_is l key (change.Add ks) gs hs is same may s = absurd (let no : ⊥ = cc in no)
sorted_is l key (change.AddAfter it ks) gs hs is same may s = absurd (let no : ⊥ = cc in no)
sorted_is l key (change.Remove ks) gs hs is same may s = absurd (let no : ⊥ = cc in no)
sorted_is l key (change.Replace old new) gs hs is same may s = absurd (let no : ⊥ = cc in no)
sorted_is l key change.Delete gs hs is same may s = absurd (let no : ⊥ = cc in no)
sorted_is l key (change.AddSorted ks) gs hs is same may s =
    let alike : ks ≡ hs = let e : ks ≡ gs = cc in e ∙ sym same in
    subst (λ t. (mays : AllMayBeGiven t) × (sorted_steps l ks may key s ≡ sorted_steps l t mays key s)) alike (may, refl)

pub returns-in-AddSorted-clause-meant : goal.returns-in-AddSorted-clause-meant
returns-in-AddSorted-clause-meant c = λ may.
    let x = sorted_is (loaded_in c.args.sources) c.args.key.now c.args.change.now c.in-AddSorted.values c.get-in-AddSorted.result.now c.in-AddSorted.is c.get-in-AddSorted.ensures may c.args.slot.now in
    IfOk-weaker c.sorted_steps.result _ _ (λ steps m. subst (λ r. AreMeant r steps.items) (sym x.1) m) (made_fine _ _ c.sorted_steps.result (c.sorted_steps.ensures.made x.0))

pub returns-in-AddSorted-clause-refused : goal.returns-in-AddSorted-clause-refused
returns-in-AddSorted-clause-refused c = λ may.
    let l = loaded_in c.args.sources in
    let x = sorted_is l c.args.key.now c.args.change.now c.in-AddSorted.values c.get-in-AddSorted.result.now c.in-AddSorted.is c.get-in-AddSorted.ensures may c.args.slot.now in
    refused_as c.sorted_steps.result (slot_steps l c.args.key.now c.args.change.now may c.args.slot.now) (sorted_steps l c.get-in-AddSorted.result.now x.0 c.args.key.now c.args.slot.now) x.1
    (made_refused _ _ c.sorted_steps.result (c.sorted_steps.ensures.made x.0))

remove_is : (l : Loaded) (key : List ℕ) (ch : ValueChange) (gs hs : List Given) → ch ≡ change.Remove gs → hs ≡ gs → (may : MayBeMade ch) (s : Slot) → slot_steps l key ch may s ≡ remove_steps l hs key s
remove_is l key (change.Set g) gs hs is same may s = absurd (let no : ⊥ = cc in no)
remove_is l key (change.SetAll ks) gs hs is same may s = absurd (let no : ⊥ = cc in no)
remove_is l key (change.Add ks) gs hs is same may s = absurd (let no : ⊥ = cc in no)
remove_is l key (change.Replace old new) gs hs is same may s = absurd (let no : ⊥ = cc in no)
remove_is l key (change.AddAfter it ks) gs hs is same may s = absurd (let no : ⊥ = cc in no)
remove_is l key (change.AddSorted ks) gs hs is same may s = absurd (let no : ⊥ = cc in no)
remove_is l key change.Delete gs hs is same may s = absurd (let no : ⊥ = cc in no)
remove_is l key (change.Remove ks) gs hs is same may s =
    let alike : ks ≡ hs = let e : ks ≡ gs = cc in e ∙ sym same in
    ap (λ t. remove_steps l t key s) alike

pub returns-in-Remove-clause-meant : goal.returns-in-Remove-clause-meant
returns-in-Remove-clause-meant c = λ may.
    let x = remove_is (loaded_in c.args.sources) c.args.key.now c.args.change.now c.in-Remove.values c.get-in-Remove.result.now c.in-Remove.is c.get-in-Remove.ensures may c.args.slot.now in
    IfOk-weaker c.remove_steps.result _ _ (λ steps m. subst (λ r. AreMeant r steps.items) (sym x) m) (made_fine _ _ c.remove_steps.result c.remove_steps.ensures.made)

pub returns-in-Remove-clause-refused : goal.returns-in-Remove-clause-refused
returns-in-Remove-clause-refused c = λ may.
    let l = loaded_in c.args.sources in
    let x = remove_is l c.args.key.now c.args.change.now c.in-Remove.values c.get-in-Remove.result.now c.in-Remove.is c.get-in-Remove.ensures may c.args.slot.now in
    refused_as c.remove_steps.result (slot_steps l c.args.key.now c.args.change.now may c.args.slot.now) (remove_steps l c.get-in-Remove.result.now c.args.key.now c.args.slot.now) x
    (made_refused _ _ c.remove_steps.result c.remove_steps.ensures.made)

replace_is : (l : Loaded) (key : List ℕ) (ch : ValueChange) (old new : Given) → ch ≡ change.Replace old new → (may : MayBeMade ch) (s : Slot) → (mays : MayBeGiven new) × (slot_steps l key ch may s ≡ exchange_steps l (exchange old new mays) key s)
replace_is l key (change.Set g) old new is may s = absurd (let no : ⊥ = cc in no)
replace_is l key (change.SetAll ks) old new is may s = absurd (let no : ⊥ = cc in no)
replace_is l key (change.Add ks) old new is may s = absurd (let no : ⊥ = cc in no)
replace_is l key (change.Remove ks) old new is may s = absurd (let no : ⊥ = cc in no)
replace_is l key (change.AddAfter it ks) old new is may s = absurd (let no : ⊥ = cc in no)
replace_is l key (change.AddSorted ks) old new is may s = absurd (let no : ⊥ = cc in no)
replace_is l key change.Delete old new is may s = absurd (let no : ⊥ = cc in no)
replace_is l key (change.Replace was now) old new is may s =
    let same_old : was ≡ old = cc in
    let same_new : now ≡ new = cc in
    subst (λ o. (mays : MayBeGiven new) × (exchange_steps l (exchange was now may) key s ≡ exchange_steps l (exchange o new mays) key s)) same_old
    (subst (λ n. (mays : MayBeGiven n) × (exchange_steps l (exchange was now may) key s ≡ exchange_steps l (exchange was n mays) key s)) same_new (may, refl))

pub returns-in-Replace-clause-meant : goal.returns-in-Replace-clause-meant
returns-in-Replace-clause-meant c = λ may.
    let x = replace_is (loaded_in c.args.sources) c.args.key.now c.args.change.now c.in-Replace.old c.in-Replace.new c.in-Replace.is may c.args.slot.now in
    IfOk-weaker c.replace_steps.result _ _ (λ steps m. subst (λ r. AreMeant r steps.items) (sym x.1) m) (made_fine _ _ c.replace_steps.result (c.replace_steps.ensures.made x.0))

pub returns-in-Replace-clause-refused : goal.returns-in-Replace-clause-refused
returns-in-Replace-clause-refused c = λ may.
    let l = loaded_in c.args.sources in
    let x = replace_is l c.args.key.now c.args.change.now c.in-Replace.old c.in-Replace.new c.in-Replace.is may c.args.slot.now in
    refused_as c.replace_steps.result (slot_steps l c.args.key.now c.args.change.now may c.args.slot.now) (exchange_steps l (exchange c.in-Replace.old c.in-Replace.new x.0) c.args.key.now c.args.slot.now) x.1
    (made_refused _ _ c.replace_steps.result (c.replace_steps.ensures.made x.0))
