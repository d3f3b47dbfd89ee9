-- What is changed for a name is the value that is named, that of a variable that nobody else reads, or what is added to the variable that is named.
use Rattle.std.proofs.Common.{◌≡◌, ℕ, true, false, List, [], ◌∷◌, Option, Some, None, Result, Ok, Err, refl, sym, ap, ◌∙◌, subst, inl, inr}
use Rattle.std.specs.Prelude.{Bool, ◌⊎◌, not, if◌then◌else◌}
use Rattle.std.specs.List.{list_all}
use Rattle.std.proofs.lemmas.Bool.{and_parts, eqb-true}
use Rattle.meson_lex.specs.declared.kinds.Span.{Span}
use Rattle.meson_splice.specs.declared.file_set.File.{File}
use Rattle.meson_splice.specs.Files.{bytes_at}
use Rattle.meson_splice.specs.Patch.{then_ok}
use Rattle.meson_syntax.specs.Tree.{Expression}
use Rattle.meson_edit.specs.Edits.{is_empty}
use Rattle.meson_calls.specs.declared.call.CallRef.{CallRef}
use Rattle.meson_calls.specs.declared.refusal.Refusal.{Refusal}
use Rattle.meson_calls.specs.declared.refusal.Refusal.TheVariants.{Ambiguous}
use Rattle.meson_calls.specs.Loading.{Loaded, project}
use Rattle.meson_calls.specs.Notes.{notes}
use Rattle.meson_calls.specs.Project.{Project, expression_at}
use Rattle.meson_steps.specs.declared.argument.PlaceName.{PlaceName}
use Rattle.meson_steps.specs.declared.argument.PlaceName.TheVariants as name
use Rattle.meson_steps.specs.declared.argument.ValueChange.{ValueChange}
use Rattle.meson_steps.specs.declared.argument.ValueChange.TheVariants as change
use Rattle.meson_steps.specs.declared.argument.ValueName.{ValueName}
use Rattle.meson_steps.specs.declared.given.Given.{Given}
use Rattle.meson_places.specs.declared.slots.Slot.{Slot}
use Rattle.meson_places.specs.declared.slots.Slot.TheVariants as slot
use Rattle.meson_places.specs.Assignments.{added_beside, added_values, assigned_value, changed_slot, changed_value, whole_variable}
use Rattle.meson_places.specs.Behind.{first_that, has_lists, lists_in, or_first, says_all_at, says_all_in, says_one_at, says_one_in, slot_at_value}
use Rattle.meson_places.specs.Operands.{followed_slot}
use Rattle.meson_places.specs.BehindLaws.{ChangesOneValue, IsBehind, IsChanged}
use Rattle.meson_places.specs.Laws.{SlotIsThere}
use Rattle.meson_places.specs.Names.{is_searched, searched}
use Rattle.meson_places.proofs.Found.{Among, contained, kept_by}
use Rattle.meson_places.proofs.OwnOperands.{first_among, follows_own_value}
use Rattle.meson_places.proofs.OwnValues.{single_there}
use Rattle.meson_places.proofs.SlotsDoable.{KeyIsText}

-- ---- a value that has lists is there

module _ (files : List File) (p : Project Span) where
  abbrev IsThere : CallRef → Type 0
  IsThere c = (e : Expression Span) × (expression_at p c ≡ Some e)

  with_lists : (c : CallRef) → has_lists p c ≡ true → IsThere c
  with_lists c has = go (expression_at p c) refl has
    where
      go : (o : Option (Expression Span)) → expression_at p c ≡ o → not (is_empty (lists_in c o)) ≡ true → IsThere c
      go None is h = absurd (let no : ⊥ = cc in no)
      go (Some e) is h = (e, is)

  with_one : (gs : List Given) (c : CallRef) → says_one_at files p gs c ≡ true → IsThere c
  with_one gs c says = go (expression_at p c) refl says
    where
      go : (o : Option (Expression Span)) → expression_at p c ≡ o → says_one_in (bytes_at c.file files) gs c o ≡ true → IsThere c
      go None is h = absurd (let no : ⊥ = cc in no)
      go (Some e) is h = (e, is)

  with_all : (gs : List Given) (c : CallRef) → says_all_at files p gs c ≡ true → IsThere c
  with_all gs c says = go (expression_at p c) refl says
    where
      go : (o : Option (Expression Span)) → expression_at p c ≡ o → says_all_in (bytes_at c.file files) gs c o ≡ true → IsThere c
      go None is h = absurd (let no : ⊥ = cc in no)
      go (Some e) is h = (e, is)

  one_found : (gs : List Given) (cs : List CallRef) (d : CallRef) → first_that (says_one_at files p gs) cs ≡ Some d → IsThere d × Among cs d
  one_found gs cs d is = let f = first_among (says_one_at files p gs) cs d is in (with_one gs d f.0, f.1)

  list_found : (cs : List CallRef) (d : CallRef) → first_that (has_lists p) cs ≡ Some d → IsThere d × Among cs d
  list_found cs d is = let f = first_among (has_lists p) cs d is in (with_lists d f.0, f.1)

  gaining_found : (gs : List Given) (cs : List CallRef) (d : CallRef) → or_first (first_that (says_all_at files p gs) cs) (first_that (has_lists p) cs) ≡ Some d → IsThere d × Among cs d
  gaining_found gs cs d is = go (first_that (says_all_at files p gs) cs) refl is
    where
      go : (o : Option CallRef) → first_that (says_all_at files p gs) cs ≡ o → or_first o (first_that (has_lists p) cs) ≡ Some d → IsThere d × Among cs d
      go None all h = list_found cs d h
      go (Some c) all h =
          let same : c ≡ d = cc in
          let f = first_among (says_all_at files p gs) cs d (all ∙ ap Some same) in
          (with_all gs d f.0, f.1)

  changed_found : (c : ValueChange) (cs : List CallRef) (d : CallRef) → changed_value files p c cs ≡ Some d → IsThere d × Among cs d
  changed_found (change.Set g) cs d is = absurd (let no : ⊥ = cc in no)
  changed_found (change.SetAll gs) cs d is = absurd (let no : ⊥ = cc in no)
  changed_found (change.Add gs) cs d is = gaining_found gs cs d is
  changed_found (change.AddSorted gs) cs d is = gaining_found gs cs d is
  changed_found (change.AddAfter g gs) cs d is = one_found (g ∷ []) cs d is
  changed_found (change.Remove gs) cs d is = absurd (let no : ⊥ = cc in no)
  changed_found (change.Replace old new) cs d is = absurd (let no : ⊥ = cc in no)
  changed_found change.Delete cs d is = absurd (let no : ⊥ = cc in no)

-- ---- those beside an assignment

same_file : (c d : CallRef) → is_searched (Some c.file) d ≡ true → d.file ≡ c.file
same_file c d is = eqb-true d.file c.file is

all_pass : {X : Type 0} (test : X → Bool) (xs : List X) (x : X) → list_all test xs ≡ true → Among xs x → test x ≡ true
all_pass test [] x all m = absurd m
all_pass test (y ∷ ys) x all (inl same) = ap test (sym same) ∙ (and_parts (test y) (list_all test ys) all).0
all_pass test (y ∷ ys) x all (inr m) = all_pass test ys x (and_parts (test y) (list_all test ys) all).1 m

pub beside : (folder : Option (List ℕ)) (c : CallRef) (all ds : List CallRef) (d : CallRef) → added_beside folder c all ≡ Ok ds → Among ds d → (d.file ≡ c.file) × Among all d
beside None c all ds d is m = go (list_all (is_searched (Some c.file)) all) refl is
  where
    refused : Result (List CallRef) Refusal
    refused = Err Ambiguous

    go : (b : Bool) → list_all (is_searched (Some c.file)) all ≡ b → (if b then Ok all else refused) ≡ Ok ds → (d.file ≡ c.file) × Among all d
    go true pass h =
        let same : all ≡ ds = cc in
        let there = subst (λ xs. Among xs d) (sym same) m in
        (same_file c d (all_pass (is_searched (Some c.file)) all d pass there), there)
    go false pass h = absurd (let no : ⊥ = cc in no)
beside (Some folder) c all ds d is m =
    let same : searched (Some c.file) all ≡ ds = cc in
    let k = kept_by (is_searched (Some c.file)) all d (subst (λ xs. Among xs d) (sym same) m) in
    (same_file c d k.0, k.1)

-- ---- the slot that is changed

pub whole_is : (n : PlaceName) (keys : List (List ℕ)) (s : Slot) (v : List ℕ × CallRef) → whole_variable n keys s ≡ Some v → (n ≡ name.Variable v.0) × (s ≡ slot.Whole v.1)
whole_is (name.Variable x) [] (slot.Whole c) v is = let same : (x, c) ≡ v = cc in (ap (λ (w : List ℕ × CallRef). name.Variable w.0) same, ap (λ (w : List ℕ × CallRef). slot.Whole w.1) same)
whole_is (name.Variable x) [] (slot.Element list n) v is = absurd (let no : ⊥ = cc in no)
whole_is (name.Variable x) [] (slot.Absent list key) v is = absurd (let no : ⊥ = cc in no)
whole_is (name.Variable x) (k ∷ keys) s v is = absurd (let no : ⊥ = cc in no)
whole_is (name.Project id) keys s v is = absurd (let no : ⊥ = cc in no)
whole_is (name.Call f id) keys s v is = absurd (let no : ⊥ = cc in no)
whole_is (name.Line file line) keys s v is = absurd (let no : ⊥ = cc in no)

module _ (l : Loaded) (n : ValueName) (c : ValueChange) (s t : Slot) where
  abbrev p : Project Span
  p = project l

  own : followed_slot l.files p c s ≡ Ok t → IsChanged l n s t
  own is = go (follows_own_value l c s t is)
    where
      go : (t ≡ s) ⊎ IsBehind l s t → IsChanged l n s t
      go (inl same) = inl same
      go (inr b) = inr (inl b)

  module _ (v : List ℕ × CallRef) (whole : whole_variable n.place.name n.keys s ≡ Some v) where
    at_value : (ds : List CallRef) → added_beside n.place.folder v.1 (added_values v.0 (notes p)) ≡ Ok ds → (o : Option CallRef) → changed_value l.files p c (v.1 ∷ ds) ≡ o → slot_at_value (followed_slot l.files p c s) o ≡ Ok t
        → IsChanged l n s t
    at_value ds beside_is None found h = own h
    at_value ds beside_is (Some d) found h = go (changed_found l.files p c (v.1 ∷ ds) d found)
      where
        now : slot.Whole d ≡ t
        now = cc

        w : (n.place.name ≡ name.Variable v.0) × (s ≡ slot.Whole v.1)
        w = whole_is n.place.name n.keys s v whole

        go : IsThere l.files p d × Among (v.1 ∷ ds) d → IsChanged l n s t
        go (there, inl same) = inl (sym now ∙ ap slot.Whole (sym same) ∙ sym w.1)
        go (there, inr m) =
            let b = beside n.place.folder v.1 (added_values v.0 (notes p)) ds d beside_is m in
            inr (inr (record {
              variable = v.0;
              is_variable = w.0;
              set_at = v.1;
              is_set = w.1;
              value_at = d;
              is_added = contained (added_values v.0 (notes p)) d b.1;
              same_file = b.0;
              value = there.0;
              is_value = there.1;
              is_slot = sym now;
            }))

    at_beside : (r : Result (List CallRef) Refusal) → added_beside n.place.folder v.1 (added_values v.0 (notes p)) ≡ r
        → then_ok (then_ok r (λ ds. Ok (changed_value l.files p c (v.1 ∷ ds)))) (slot_at_value (followed_slot l.files p c s)) ≡ Ok t → IsChanged l n s t
    at_beside (Err e) is h = absurd (let no : ⊥ = cc in no)
    at_beside (Ok ds) is h = at_value ds is (changed_value l.files p c (v.1 ∷ ds)) refl h

  pub changes_one : changed_slot l.files p n c s ≡ Ok t → IsChanged l n s t
  changes_one is = go (whole_variable n.place.name n.keys s) refl is
    where
      go : (o : Option (List ℕ × CallRef)) → whole_variable n.place.name n.keys s ≡ o → then_ok (assigned_value l.files p n.place.folder c o) (slot_at_value (followed_slot l.files p c s)) ≡ Ok t → IsChanged l n s t
      go None whole h = own h
      go (Some v) whole h = at_beside v whole (added_beside n.place.folder v.1 (added_values v.0 (notes p))) refl h

pub changes_one_value : ChangesOneValue
changes_one_value l n c s t is = changes_one l n c s t is

-- what is changed is there
pub changed_there : (l : Loaded) (n : ValueName) (s t : Slot) → SlotIsThere (project l) s → IsChanged l n s t → SlotIsThere (project l) t
changed_there l n s t there (inl same) = subst (SlotIsThere (project l)) (sym same) there
changed_there l n s t there (inr (inl b)) = subst (SlotIsThere (project l)) (sym b.is_slot) (b.set_to.it, single_there (project l) b.variable b.set_to b.is_set)
changed_there l n s t there (inr (inr a)) = subst (SlotIsThere (project l)) (sym a.is_slot) (a.value, a.is_value)

pub changed_text : (l : Loaded) (n : ValueName) (s t : Slot) → KeyIsText s → IsChanged l n s t → KeyIsText t
changed_text l n s t text (inl same) = subst KeyIsText (sym same) text
changed_text l n s t text (inr (inl b)) = subst KeyIsText (sym b.is_slot) tt
changed_text l n s t text (inr (inr a)) = subst KeyIsText (sym a.is_slot) tt
