-- Values that are put in their places one after another: the steps that the code makes, and what is written.
use Rattle.std.proofs.Common.{◌≡◌, ℕ, zero, suc, ◌+◌, ◌≤◌, ◌<◌, true, false, List, [], ◌∷◌, ◌++◌, append-nil, append_assoc, drop, get_or, length, map, Some, refl, sym, ap, ◌∙◌, subst, arith, add-one}
use Rattle.std.specs.Prelude.{Bool, if◌then◌else◌}
use Rattle.std.proofs.lemmas.List.{length-map, map-append}
use Rattle.std.proofs.Math.ListN.{drop_of_length-le}
use Rattle.meson_syntax.specs.Tree.{Expression, Nowhere}
use Rattle.meson_edit.specs.Edits.{Written}
use Rattle.meson_calls.specs.declared.call.CallRef.{CallRef}
use Rattle.meson_steps.specs.declared.given.Given.{Given}
use Rattle.meson_steps.specs.declared.order.SortKey.{SortKey}
use Rattle.meson_steps.specs.declared.ordered_list.OrderedList.{OrderedList}
use Rattle.meson_steps.specs.declared.step.ListStep.{ListStep}
use Rattle.meson_steps.specs.ListSteps.{bare}
use Rattle.meson_steps.specs.OrderedLists.{Added, IsOrderedList, Ordered, all_put, point_in, put_one, put_steps}
use Rattle.meson_places.specs.Equality.{fresh, is_old}
use Rattle.meson_places.specs.Several.{AllMayBeGiven}
use Rattle.meson_places.specs.SortedAdditions.{fresh_added, given_key}
use Rattle.meson_places.specs.Values.{given_bytes, written_given}

-- the value of this number, with its key and its bytes
pub record AddedAt (new : List Added) (i : ℕ) (k : SortKey) (text : List ℕ) : Type 0 where
  pub it : Added
  pub key : it.key ≡ k
  pub bytes : it.written.bytes ≡ text
  pub rest : drop i new ≡ it ∷ drop (suc i) new

pub added_at : (new : List Added) (gs : List Given) → map (λ a. a.key) new ≡ map given_key gs → map (λ a. a.written.bytes) new ≡ map given_bytes gs
    → (i : ℕ) (d : Given) → i < length gs → AddedAt new i (given_key (get_or gs i d)) (given_bytes (get_or gs i d))
added_at new [] keys bytes i d within = absurd (omega (arith, within))
added_at [] (g ∷ gs) keys bytes i d within = absurd (let no : ⊥ = cc in no)
added_at (a ∷ new) (g ∷ gs) keys bytes zero d within = record { it = a; key = cc; bytes = cc; rest = refl }
added_at (a ∷ new) (g ∷ gs) keys bytes (suc i) d within =
    let later_keys : map (λ b. b.key) new ≡ map given_key gs = cc in
    let later_bytes : map (λ b. b.written.bytes) new ≡ map given_bytes gs = cc in
    let x = added_at new gs later_keys later_bytes i d (omega (arith, within)) in
    record { it = x.it; key = x.key; bytes = x.bytes; rest = x.rest }

pub added_as : (new : List Added) (i : ℕ) (k j : SortKey) (bytes text : List ℕ) → k ≡ j → bytes ≡ text → AddedAt new i k bytes → AddedAt new i j text
added_as new i k j bytes text same_key same_bytes a = record { it = a.it; key = a.key ∙ same_key; bytes = a.bytes ∙ same_bytes; rest = a.rest }

-- the steps so far, and the list as they leave it
pub record Reached (list : CallRef) (o : Ordered) (new : List Added) (i : ℕ) (code : OrderedList) (steps : List ListStep) : Type 0 where
  pub now : Ordered
  pub is : IsOrderedList code now
  pub left : map Some steps ++ map bare (all_put list now (drop i new)) ≡ map bare (all_put list o new)

pub one_put : (list : CallRef) (o : Ordered) (new : List Added) (i : ℕ) (code after : OrderedList) (steps more : List ListStep) (k : SortKey) (bytes : List ℕ)
    → AddedAt new i k bytes → Reached list o new i code steps
    → ((n : Ordered) → IsOrderedList code n → (w : Written (Expression Nowhere)) → w.bytes ≡ bytes → IsOrderedList after (put_one n (point_in n k) k w))
    → ((n : Ordered) → IsOrderedList code n → (w : Written (Expression Nowhere)) → w.bytes ≡ bytes → map Some more ≡ map Some steps ++ map bare (put_steps list n (point_in n k) w))
    → Reached list o new (i + 1) after more
one_put list o new i code after steps more k bytes a r lists makes =
    let it = a.it in
    let n = r.now in
    let next = put_one n (point_in n it.key) it.key it.written in
    let here = put_steps list n (point_in n it.key) it.written in
    let rest = all_put list next (drop (suc i) new) in
    let made = subst (λ j. map Some more ≡ map Some steps ++ map bare (put_steps list n (point_in n j) it.written)) (sym a.key) (makes n r.is it.written a.bytes) in
    record {
      now = next;
      is = subst (λ j. IsOrderedList after (put_one n (point_in n j) j it.written)) (sym a.key) (lists n r.is it.written a.bytes);
      left = ap (λ m. map Some more ++ map bare (all_put list next (drop m new))) (add-one i)
          ∙ ap (λ l. l ++ map bare rest) made
          ∙ append_assoc (map Some steps) (map bare here) (map bare rest)
          ∙ ap (λ l. map Some steps ++ l) (sym (map-append bare here rest))
          ∙ ap (λ xs. map Some steps ++ map bare (all_put list n xs)) (sym a.rest)
          ∙ r.left;
    }

-- all are put
pub all_reached : (list : CallRef) (o : Ordered) (new : List Added) (i : ℕ) (code : OrderedList) (steps : List ListStep) → length new ≤ i → Reached list o new i code steps → map bare (all_put list o new) ≡ map Some steps
all_reached list o new i code steps past r =
    sym r.left ∙ ap (λ l. map Some steps ++ map bare (all_put list r.now l)) (drop_of_length-le new past) ∙ append-nil (map Some steps)

pub as_many : (new : List Added) (gs : List Given) → map (λ a. a.key) new ≡ map given_key gs → length new ≡ length gs
as_many new gs keys = sym (length-map new (λ a. a.key)) ∙ ap length keys ∙ length-map gs given_key

-- ---- those that are not known

module _ (known : Given → Bool) where
  pub fresh_keys : (before gs : List Given) (mays : AllMayBeGiven gs) → map (λ a. a.key) (fresh_added known before gs mays) ≡ map given_key (fresh known before gs)
  fresh_keys before [] mays = refl
  fresh_keys before (g ∷ gs) mays = go (is_old known before g) (fresh_keys (before ++ g ∷ []) gs mays.1)
    where
      new : List Added
      new = fresh_added known (before ++ g ∷ []) gs mays.1

      vs : List Given
      vs = fresh known (before ++ g ∷ []) gs

      go : (b : Bool) → map (λ a. a.key) new ≡ map given_key vs
          → map (λ a. a.key) (if b then new else record { key = given_key g; written = written_given g mays.0 } ∷ new) ≡ map given_key (if b then vs else g ∷ vs)
      go true same = same
      go false same = ap (λ ks. given_key g ∷ ks) same

  pub fresh_added_bytes : (before gs : List Given) (mays : AllMayBeGiven gs) → map (λ a. a.written.bytes) (fresh_added known before gs mays) ≡ map given_bytes (fresh known before gs)
  fresh_added_bytes before [] mays = refl
  fresh_added_bytes before (g ∷ gs) mays = go (is_old known before g) (fresh_added_bytes (before ++ g ∷ []) gs mays.1)
    where
      new : List Added
      new = fresh_added known (before ++ g ∷ []) gs mays.1

      vs : List Given
      vs = fresh known (before ++ g ∷ []) gs

      go : (b : Bool) → map (λ a. a.written.bytes) new ≡ map given_bytes vs
          → map (λ a. a.written.bytes) (if b then new else record { key = given_key g; written = written_given g mays.0 } ∷ new) ≡ map given_bytes (if b then vs else g ∷ vs)
      go true same = same
      go false same = ap (λ bs. given_bytes g ∷ bs) same
