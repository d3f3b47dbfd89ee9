-- What a key leaves that was absent, and several values in the place of one.
use Rattle.std.proofs.Common.{◌≡◌, ℕ, true, false, List, [], ◌∷◌, ◌++◌, length, Option, Some, None, Ok, Err, refl, sym, ap, ◌∙◌}
use Rattle.std.specs.Prelude.{Bool, slice_set, if◌then◌else◌}
use Rattle.std.proofs.lemmas.List.{length-map}
use Rattle.meson_lex.specs.declared.kinds.Span.{Span}
use Rattle.meson_splice.specs.Files.{bytes_at}
use Rattle.meson_syntax.specs.Paths.{ListIn, list_in}
use Rattle.meson_syntax.specs.Tree.{Argument, Expression, array, call, dictionary, Nowhere, Plain, erase, erase_argument, erase_listing}
use Rattle.meson_syntax.proofs.parsing.Steps.{some-injective}
use Rattle.meson_edit.specs.Edits.{Replace, Written, elements, with_elements}
use Rattle.meson_calls.specs.declared.call.CallRef.{CallRef}
use Rattle.meson_calls.specs.declared.refusal.Refusal.TheVariants.{BadName, OtherKind}
use Rattle.meson_calls.specs.Loading.{Loaded, project}
use Rattle.meson_calls.specs.Project.{child, expression_at}
use Rattle.meson_calls.proofs.ExpressionsAt.{list_here}
use Rattle.meson_steps.specs.ResultLimits.{plain_trees}
use Rattle.meson_steps.specs.Steps.{Step, all_stepped, step_in}
use Rattle.meson_steps.specs.declared.given.Given.{Given}
use Rattle.meson_steps.specs.GivenWords.{MayBeGiven}
use Rattle.meson_steps.proofs.PlainTrees.{erased_elements, plain_place, tree_is}
use Rattle.meson_steps.proofs.WithOne.{change_there}
use Rattle.meson_places.specs.declared.slots.Slot.TheVariants as slot
use Rattle.meson_places.specs.Arguments.{set_within}
use Rattle.meson_places.specs.Changes.{added_to, behind_all, element_child, keyword_behind, set_steps, written_entry, written_keyword}
use Rattle.meson_places.specs.Colons.{colon_text, ends_in_file, is_spaced_in}
use Rattle.meson_places.specs.KeyEffects.{ArrayAdded, ArraySet, HasOneMore, KeyAdded}
use Rattle.meson_places.specs.Laws.{SlotIs}
use Rattle.meson_places.specs.Room.{if_room}
use Rattle.meson_places.specs.Several.{AllMayBeGiven, add_array, becomes_array, set_all, set_all_there, set_array, set_elements, written_array}
use Rattle.meson_places.specs.Slots.{Child}
use Rattle.meson_places.specs.Values.{given_node, is_identifier, written_given}
use Rattle.meson_places.proofs.AddedValues.{edit_behind}
use Rattle.meson_places.proofs.Refused.{ok_then}
use Rattle.meson_places.proofs.ElementsLeft.{elements_set}
use Rattle.meson_places.proofs.ListsThere.{element_there}
use Rattle.meson_places.proofs.SetValues.{one_step, set_one}
use Rattle.meson_places.proofs.WithRoom.{with_room}

module _ (l : Loaded) (list : CallRef) (steps : List Step) (after : List Plain) (done : all_stepped steps (plain_trees l) ≡ Some after) where
  one_more : (x : Expression Span) (p : ListIn Span) → expression_at (project l) list ≡ Some x → list_in x ≡ Some p → (new : Written (Argument Nowhere)) → behind_all list (length (elements p.list)) new ∷ [] ≡ steps
      → HasOneMore list new.node (plain_trees l) after
  one_more x p at_ is_list new same =
      let trees = plain_trees l in
      let h = list_here (project l) list x p at_ is_list in
      let t = h.there in
      let q = plain_place t.file.tree list.path.steps t.list t.is_list in
      let are = ap elements (q.list ∙ ap erase_listing h.same_list) ∙ erased_elements p.list in
      let count : length (elements q.place.list) ≡ length (elements p.list) = ap length are ∙ length-map (elements p.list) erase_argument in
      let s = behind_all list (length (elements p.list)) new in
      let now = q.place.back (with_elements q.place.list (elements q.place.list ++ new.node ∷ [])) in
      let made = edit_behind list 0 (erase t.file.tree) q.place q.is_place new (length (elements p.list)) count trees (tree_is l list t) in
      let is : slice_set trees list.file now ≡ after = some-injective _ _ (sym made ∙ one_step s trees after (ap (λ ss. all_stepped ss trees) same ∙ done)) in
      record {
        tree = erase t.file.tree;
        is_tree = tree_is l list t;
        place = q.place;
        is_place = q.is_place;
        is_after = change_there (λ u. Some now) trees list.file (erase t.file.tree) now (tree_is l list t) refl ∙ ap Some is;
      }

  module _ (source ends : List ℕ) (w : Written (Expression Nowhere)) (key : List ℕ) where
    pub key_added : (o : Option (Expression Span)) → expression_at (project l) list ≡ o → added_to source ends w key list o ≡ Ok steps → KeyAdded l list key w.node (plain_trees l) after
    key_added None at_ made = absurd (let no : ⊥ = cc in no)
    key_added (Some (call s f x)) at_ made = go (is_identifier key) made
      where
        spaced : Bool
        spaced = is_spaced_in source ends (call s f x)

        go : (b : Bool) → (if b then keyword_behind spaced w key list (length (elements x)) else Err BadName) ≡ Ok steps → KeyAdded l list key w.node (plain_trees l) after
        go true m =
            let same : behind_all list (length (elements x)) (written_keyword key (colon_text spaced) w) ∷ [] ≡ steps = cc in
            record { value = call s f x; is_value = at_; list_is = _; is_kind = refl; now = one_more (call s f x) _ at_ refl (written_keyword key (colon_text spaced) w) same }
        go false m = absurd (let no : ⊥ = cc in no)
    key_added (Some (dictionary x)) at_ made =
        let spaced = is_spaced_in source ends (dictionary x) in
        let same : behind_all list (length (elements x)) (written_entry key (colon_text spaced) w) ∷ [] ≡ steps = cc in
        record { value = dictionary x; is_value = at_; list_is = _; is_kind = refl; now = one_more (dictionary x) _ at_ refl (written_entry key (colon_text spaced) w) same }
    key_added (Some (array x)) at_ made = absurd (let no : ⊥ = cc in no)
    key_added (Some _) at_ made = absurd (let no : ⊥ = cc in no)

-- one value
pub key_set : (l : Loaded) (g : Given) (may : MayBeGiven g) (key : List ℕ) (list : CallRef) (k : List ℕ) (steps : List Step) (after : List Plain)
    → set_within l g (written_given g may) key (slot.Absent list k) ≡ Ok steps → all_stepped steps (plain_trees l) ≡ Some after
    → KeyAdded l list k (given_node g may) (plain_trees l) after
key_set l g may key list k steps after made done =
    let w = written_given g may in
    let s = ok_then (set_steps l g w key (slot.Absent list k)) (if_room l list w.node) steps made in
    let is : set_steps l g w key (slot.Absent list k) ≡ Ok steps = s.1 ∙ ap Ok (with_room l list w.node s.0 steps s.2) in
    key_added l list steps after done (bytes_at list.file l.files) (ends_in_file l list.file) w k (expression_at (project l) list) refl is

-- the array of several ones
module _ (l : Loaded) (gs : List Given) (may : AllMayBeGiven gs) (steps : List Step) (after : List Plain) (done : all_stepped steps (plain_trees l) ≡ Some after) where
  pub array_added : (list : CallRef) (k : List ℕ) → add_array l gs may k list ≡ Ok steps → ArrayAdded l gs list k (plain_trees l) after
  array_added list k made =
      let new = written_array gs may in
      let source = bytes_at list.file l.files in
      let all = added_to source (ends_in_file l list.file) new k list (expression_at (project l) list) in
      let s = ok_then all (if_room l list new.node) steps made in
      let is : all ≡ Ok steps = s.1 ∙ ap Ok (with_room l list new.node s.0 steps s.2) in
      record { may = may; added = key_added l list steps after done source (ends_in_file l list.file) new k (expression_at (project l) list) refl is }

  pub array_set : (key : List ℕ) (list : CallRef) (n : ℕ) → set_all l gs may key (slot.Element list n) ≡ Ok steps → ArraySet l gs list n (plain_trees l) after
  array_set key list n made = go (element_child (project l) list n) refl made
    where
      new : Written (Expression Nowhere)
      new = written_array gs may

      one : List Step
      one = step_in list (Replace list.path.steps n new) ∷ []

      became : (e : Expression Span) (b : Bool) → (if b then if_room l list new.node one else Err (OtherKind key)) ≡ Ok steps → SlotIs list n new.node (plain_trees l) after
      became e true m = set_one list n new (plain_trees l) after (ap (λ ss. all_stepped ss (plain_trees l)) (with_room l list new.node one steps m) ∙ done)
      became e false m = absurd (let no : ⊥ = cc in no)

      go : (o : Option (Child Span)) → element_child (project l) list n ≡ o → set_all_there l gs may key list n o ≡ Ok steps → ArraySet l gs list n (plain_trees l) after
      go None is m = absurd (let no : ⊥ = cc in no)
      go (Some v) is m = record {
        may = may;
        value = v;
        is_value = is;
        elements = λ some array_there. elements_set l (child list v.number) v.value (element_there (project l) list n v is).at_child array_there after gs may key steps
            (sym (ap (λ b. if b then set_elements l gs may key (child list v.number) v.value else set_array l gs may key list n v.value) array_there) ∙ m) done some;
        now = λ other. became v.value (becomes_array gs v.value)
            (sym (ap (λ b. if b then set_elements l gs may key (child list v.number) v.value else set_array l gs may key list n v.value) other) ∙ m);
      }
