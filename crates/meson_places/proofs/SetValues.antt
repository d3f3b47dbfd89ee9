-- What setting and deleting leave: one value is another one, or one element is gone, and all else stays.
use Rattle.std.proofs.Common.{◌≡◌, ℕ, zero, suc, List, [], ◌∷◌, ◌++◌, take, drop, Some, None, Option, Ok, refl, sym, ap, ◌∙◌, inl, inr}
use Rattle.std.specs.Prelude.{Bool, true, false, option_map}
use Rattle.meson_lex.specs.declared.kinds.Span.{Span}
use Rattle.meson_syntax.specs.Paths.{ListAt, list_at, nth, value_of}
use Rattle.meson_syntax.specs.Tree.{Argument, Expression, Nowhere, Plain}
use Rattle.meson_syntax.proofs.paths.Reaching.{and-then-some, map-some}
use Rattle.meson_edit.specs.Edits.{Replace, Remove, Written, edited, edited_elements, element_removed, elements, exchanged, with_elements, with_value}
use Rattle.meson_calls.specs.declared.call.CallRef.{CallRef}
use Rattle.meson_calls.specs.Loading.{project}
use Rattle.meson_steps.specs.Steps.{Step, all_stepped, changed_at, step_in, stepped}
use Rattle.meson_places.specs.declared.slots.Slot.TheVariants as slot
use Rattle.meson_steps.specs.declared.given.Given.{Given}
use Rattle.meson_places.specs.Changes.{element_child, replaces_texts, set_steps, set_there}
use Rattle.meson_places.specs.Laws.{KeepsKind, MaySet, SetsOneValue, DeletesOneElement, SlotIs}
use Rattle.meson_places.specs.Slots.{Child}
use Rattle.meson_places.specs.Values.{keeps_kind}

-- ---- one of some trees is changed

pub record Changed {X : Type 0} (i : ℕ) (change : X → Option X) (before after : List X) : Type 0 where
  pub was : X
  pub now : X
  pub is_was : nth before i ≡ Some was
  pub is_now : change was ≡ Some now
  pub is_after : changed_at i (λ x. Some now) before ≡ Some after

pub changed : {X : Type 0} (i : ℕ) (change : X → Option X) (before after : List X) → changed_at i change before ≡ Some after → Changed i change before after
changed i change [] after is = absurd (let no : ⊥ = cc in no)
changed {X} zero change (x ∷ xs) after is = go (change x) refl is
  where
    go : (o : Option X) → change x ≡ o → option_map (λ y. y ∷ xs) o ≡ Some after → Changed zero change (x ∷ xs) after
    go None gives h = absurd (let no : ⊥ = cc in no)
    go (Some y) gives h = record { was = x; now = y; is_was = refl; is_now = gives; is_after = h }
changed {X} (suc i) change (x ∷ xs) after is = go (changed_at i change xs) refl is (λ ys h. changed i change xs ys h)
  where
    go : (o : Option (List X)) → changed_at i change xs ≡ o → option_map (λ ys. x ∷ ys) o ≡ Some after → ((ys : List X) → changed_at i change xs ≡ Some ys → Changed i change xs ys)
        → Changed (suc i) change (x ∷ xs) after
    go None gives h rest = absurd (let no : ⊥ = cc in no)
    go (Some ys) gives h rest =
        let c = rest ys gives in
        record { was = c.was; now = c.now; is_was = c.is_was; is_now = c.is_now; is_after = ap (option_map (λ zs. x ∷ zs)) c.is_after ∙ h }

-- one step and no other
pub one_step : (s : Step) (before after : List Plain) → all_stepped (s ∷ []) before ≡ Some after → stepped s before ≡ Some after
one_step s before after is = let o = and-then-some (all_stepped []) (stepped s before) after is in o.1 ∙ o.2

-- ---- the edits

record Replaced (path : List ℕ) (n : ℕ) (now : Expression Nowhere) (was is : Plain) : Type 0 where
  place : ListAt Nowhere
  is_place : list_at was path ≡ Some place
  element : Argument Nowhere
  is_element : nth (elements place.list) n ≡ Some element
  is_now : is ≡ place.back (with_elements place.list (take n (elements place.list) ++ with_value now element ∷ drop (suc n) (elements place.list)))

replaced : (path : List ℕ) (n : ℕ) (w : Written (Expression Nowhere)) (was is : Plain) → edited (Replace path n w) was ≡ Some is → Replaced path n w.node was is
replaced path n w was is h =
    let e = Replace path n w in
    let o = and-then-some (λ (p : ListAt Nowhere). option_map (λ list. p.back (with_elements p.list list)) (edited_elements e (elements p.list))) (list_at was path) is h in
    let place = o.0 in
    let xs = elements place.list in
    let m = map-some (λ list. place.back (with_elements place.list list)) (edited_elements e xs) is o.2 in
    let i = and-then-some (exchanged n (λ v. w.node) xs) (nth xs n) m.0 m.1 in
    let v = map-some (λ (old : Expression Nowhere). take n xs ++ with_value w.node i.0 ∷ drop (suc n) xs) (value_of i.0) m.0 i.2 in
    record { place = place; is_place = o.1; element = i.0; is_element = i.1; is_now = sym (ap (λ list. place.back (with_elements place.list list)) v.2 ∙ m.2) }

record Gone (path : List ℕ) (n : ℕ) (was is : Plain) : Type 0 where
  place : ListAt Nowhere
  is_place : list_at was path ≡ Some place
  element : Argument Nowhere
  is_element : nth (elements place.list) n ≡ Some element
  is_now : is ≡ place.back (with_elements place.list (take n (elements place.list) ++ drop (suc n) (elements place.list)))

gone : (path : List ℕ) (n : ℕ) (was is : Plain) → edited (Remove path n) was ≡ Some is → Gone path n was is
gone path n was is h =
    let e = Remove path n in
    let o = and-then-some (λ (p : ListAt Nowhere). option_map (λ list. p.back (with_elements p.list list)) (edited_elements e (elements p.list))) (list_at was path) is h in
    let place = o.0 in
    let xs = elements place.list in
    let m = map-some (λ list. place.back (with_elements place.list list)) (edited_elements e xs) is o.2 in
    let i = map-some (element_removed n xs) (nth xs n) m.0 m.1 in
    record { place = place; is_place = o.1; element = i.0; is_element = i.1; is_now = sym (ap (λ list. place.back (with_elements place.list list)) i.2 ∙ m.2) }

-- ---- the laws

pub set_one : (list : CallRef) (n : ℕ) (w : Written (Expression Nowhere)) (before after : List Plain) → all_stepped (step_in list (Replace list.path.steps n w) ∷ []) before ≡ Some after
    → SlotIs list n w.node before after
set_one list n w before after is =
    let c = changed list.file (edited (Replace list.path.steps n w)) before after (one_step (step_in list (Replace list.path.steps n w)) before after is) in
    let r = replaced list.path.steps n w c.was c.now c.is_now in
    record {
      tree = c.was;
      is_tree = c.is_was;
      place = r.place;
      is_place = r.is_place;
      element = r.element;
      is_element = r.is_element;
      is_after = ap (λ (y : Plain). changed_at list.file (λ (t : Plain). Some y) before) (sym r.is_now) ∙ c.is_after;
    }

pub sets_one_value : SetsOneValue
sets_one_value l g w key list n value is kept steps gives before after done =
    let c = map-some (λ (x : Child Span). x.value) (element_child (project l) list n) value is in
    let keeps : keeps_kind g c.0.value ≡ true = ap (keeps_kind g) c.2 ∙ kept in
    let all = step_in list (Replace list.path.steps n w) ∷ [] in
    let meant : set_steps l g w key (slot.Element list n) ≡ Ok all = ap (set_there g w key list n) c.1 ∙ by_kind g w key list n c.0 keeps in
    let same : steps ≡ all = let e = sym gives ∙ meant in cc in
    set_one list n w before after (ap (λ ss. all_stepped ss before) (sym same) ∙ done)
  where
    by_kind : (h : Given) (v : Written (Expression Nowhere)) (k : List ℕ) (c : CallRef) (m : ℕ) (x : Child Span) → keeps_kind h x.value ≡ true
        → set_there h v k c m (Some x) ≡ Ok (step_in c (Replace c.path.steps m v) ∷ [])
    by_kind h v k c m x holds = rw holds refl

pub keeps_kinds : KeepsKind
keeps_kinds l g w key list n steps gives = go (element_child (project l) list n) refl gives
  where
    chosen : (x : Child Span) → element_child (project l) list n ≡ Some x → (a b : Bool) → keeps_kind g x.value ≡ a → replaces_texts g x.value ≡ b
        → set_there g w key list n (Some x) ≡ Ok steps → MaySet l g list n
    chosen x is true b one two h = record { value = x.value; is_value = ap (option_map (λ (y : Child Span). y.value)) is; kept = inl one }
    chosen x is false true one two h = record { value = x.value; is_value = ap (option_map (λ (y : Child Span). y.value)) is; kept = inr two }
    chosen x is false false one two h = absurd (let no : ⊥ = let e = rw (one, two) at h in cc in no)

    go : (o : Option (Child Span)) → element_child (project l) list n ≡ o → set_there g w key list n o ≡ Ok steps → MaySet l g list n
    go None is h = absurd (let no : ⊥ = cc in no)
    go (Some x) is h = chosen x is (keeps_kind g x.value) (replaces_texts g x.value) refl refl h

pub deletes_one_element : DeletesOneElement
deletes_one_element list n steps gives before after done =
    let all = step_in list (Remove list.path.steps n) ∷ [] in
    let same : steps ≡ all = cc in
    let once = ap (λ ss. all_stepped ss before) (sym same) ∙ done in
    let c = changed list.file (edited (Remove list.path.steps n)) before after (one_step (step_in list (Remove list.path.steps n)) before after once) in
    let r = gone list.path.steps n c.was c.now c.is_now in
    record {
      tree = c.was;
      is_tree = c.is_was;
      place = r.place;
      is_place = r.is_place;
      element = r.element;
      is_element = r.is_element;
      is_after = ap (λ (y : Plain). changed_at list.file (λ (t : Plain). Some y) before) (sym r.is_now) ∙ c.is_after;
    }
