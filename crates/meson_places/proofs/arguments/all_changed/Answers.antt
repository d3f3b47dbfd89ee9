use Rattle.std.proofs.Common.{◌≡◌, ℕ, List, Result, Err, refl, sym, ap, ◌∙◌, subst}
use Rattle.std.specs.Prelude.{◌≢◌, MatchOption, MatchResult}
use Rattle.meson_calls.specs.declared.refusal.Refusal.{Refusal}
use Rattle.meson_calls.specs.declared.refusal.Refusal.TheVariants.{OutOfMemory}
use Rattle.meson_calls.specs.Loading.{Loaded}
use Rattle.meson_steps.specs.GivenWords.{MayBeGiven}
use Rattle.meson_steps.specs.Meanings.{AreMeant}
use Rattle.meson_steps.specs.Steps.{Step}
use Rattle.meson_steps.specs.declared.argument.ValueChange.{ValueChange}
use Rattle.meson_steps.specs.declared.argument.ValueChange.TheVariants as change
use Rattle.meson_steps.specs.declared.argument.ValueName.{ValueName}
use Rattle.meson_steps.specs.declared.given.Given.{Given}
use Rattle.meson_places.specs.declared.slots.Slot.{Slot}
use Rattle.meson_places.specs.AllAssigned.{remove_from_all, replace_in_all}
use Rattle.meson_places.specs.Arguments.{MayBeMade, changed_by}
use Rattle.meson_places.specs.Names.{loaded_in}
use Rattle.meson_places.specs.Replacements.{exchange}
use Rattle.meson_places.proofs.arguments.all_changed.Goals as goal

module _ (l : Loaded) (n : ValueName) (key : List ℕ) (s : Slot) (one : Result (List Step) Refusal) where
  remove_is : (ch : ValueChange) (gs hs : List Given) → ch ≡ change.Remove gs → hs ≡ gs → (may : MayBeMade ch) → changed_by l n key ch may s one ≡ remove_from_all l n key hs s one
  remove_is (change.Set g) gs hs is same may = absurd (let no : ⊥ = cc in no)
  remove_is (change.SetAll ks) gs hs is same may = absurd (let no : ⊥ = cc in no)
  remove_is (change.Add ks) gs hs is same may = absurd (let no : ⊥ = cc in no)
  remove_is (change.AddAfter it ks) gs hs is same may = absurd (let no : ⊥ = cc in no)
  remove_is (change.AddSorted ks) gs hs is same may = absurd (let no : ⊥ = cc in no)
  remove_is (change.Replace old new) gs hs is same may = absurd (let no : ⊥ = cc in no)
  remove_is change.Delete gs hs is same may = absurd (let no : ⊥ = cc in no)
  remove_is (change.Remove ks) gs hs is same may =
      let alike : ks ≡ hs = let e : ks ≡ gs = cc in e ∙ sym same in
      ap (λ t. remove_from_all l n key t s one) alike

  replace_is : (ch : ValueChange) (old new : Given) → ch ≡ change.Replace old new → (may : MayBeMade ch) → (mays : MayBeGiven new) × (changed_by l n key ch may s one ≡ replace_in_all l n key (exchange old new mays) s one)
  replace_is (change.Set g) old new is may = absurd (let no : ⊥ = cc in no)
  replace_is (change.SetAll ks) old new is may = absurd (let no : ⊥ = cc in no)
  replace_is (change.Add ks) old new is may = absurd (let no : ⊥ = cc in no)
  replace_is (change.AddAfter it ks) old new is may = absurd (let no : ⊥ = cc in no)
  replace_is (change.AddSorted ks) old new is may = absurd (let no : ⊥ = cc in no)
  replace_is (change.Remove ks) old new is may = absurd (let no : ⊥ = cc in no)
  replace_is change.Delete old new is may = absurd (let no : ⊥ = cc in no)
  replace_is (change.Replace was now) old new is may =
      let same_old : was ≡ old = cc in
      let same_new : now ≡ new = cc in
      subst (λ o. (mays : MayBeGiven new) × (replace_in_all l n key (exchange was now may) s one ≡ replace_in_all l n key (exchange o new mays) s one)) same_old
      (subst (λ k. (mays : MayBeGiven k) × (replace_in_all l n key (exchange was now may) s one ≡ replace_in_all l n key (exchange was k mays) s one)) same_new (may, refl))

pub returns-in-Remove : goal.returns-in-Remove
returns-in-Remove c = record {
  made = λ may one.
      let x = remove_is (loaded_in c.args.sources) c.args.name.now c.args.key.now c.args.slot.now one c.args.change.now c.in-Remove.values c.get.result.now c.in-Remove.is c.get.ensures may in
      subst (λ m. MatchResult c.remove_from_all.result (λ o. MatchOption o (m ≡ one) (λ steps. AreMeant m steps.items)) (λ e. e ≢ OutOfMemory → m ≡ Err e)) (sym x) (c.remove_from_all.ensures.made one);
}

pub returns-in-Replace : goal.returns-in-Replace
returns-in-Replace c = record {
  made = λ may one.
      let x = replace_is (loaded_in c.args.sources) c.args.name.now c.args.key.now c.args.slot.now one c.args.change.now c.in-Replace.old c.in-Replace.new c.in-Replace.is may in
      subst (λ m. MatchResult c.replace_in_all.result (λ o. MatchOption o (m ≡ one) (λ steps. AreMeant m steps.items)) (λ e. e ≢ OutOfMemory → m ≡ Err e)) (sym x.1) (c.replace_in_all.ensures.made x.0 one);
}
