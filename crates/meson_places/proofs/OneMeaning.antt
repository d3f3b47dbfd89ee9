-- A change of a value means one thing: the tree of code is that of its text, and what is read of a project are its files and trees.
use Rattle.std.proofs.Common.{◌≡◌, ℕ, suc, List, [], ◌∷◌, ◌++◌, map, Option, Some, None, Result, Ok, Err, refl, sym, ap, ap₂, ◌∙◌}
use Rattle.std.specs.Prelude.{Bool, length, not, ok_or, ◌&&◌, if◌then◌else◌}
use Rattle.std.specs.List.{list_all, list_any}
use Rattle.meson_lex.specs.declared.kinds.Span.{Span}
use Rattle.meson_splice.specs.declared.file_set.File as files
use Rattle.meson_splice.specs.Files.{bytes_at}
use Rattle.meson_splice.specs.Patch.{then_ok}
use Rattle.meson_syntax.specs.declared.operator.Bracket.TheVariants as bracket
use Rattle.meson_syntax.specs.ReadsList.{ReadsListWithin, list_items}
use Rattle.meson_syntax.specs.Tree.{plain, argument, Expression, File, Listing, listing, Nowhere, erase, erase_expression, erase_listing}
use Rattle.meson_syntax.proofs.lists.Complete.{whole_list-complete}
use Rattle.meson_syntax.proofs.parsing.Steps.{some-injective}
use Rattle.meson_edit.specs.Edits.{Remove, Replace, Written}
use Rattle.meson_calls.specs.declared.call.CallRef.{CallRef}
use Rattle.meson_calls.specs.declared.refusal.Refusal.{Refusal}
use Rattle.meson_calls.specs.declared.refusal.Refusal.TheVariants.{NoSuchValue, NotLiteral, NotRemovable, OtherKind, ThereAlready, TooDeep}
use Rattle.meson_calls.specs.Finding.{only_one}
use Rattle.meson_calls.specs.Loading.{Loaded, named_trees, project, trees}
use Rattle.meson_calls.specs.Notes.{notes}
use Rattle.meson_calls.specs.Project.{Placed, child, expression_at, nth_file}
use Rattle.meson_steps.specs.declared.argument.PlaceName.{PlaceName}
use Rattle.meson_steps.specs.declared.argument.PlaceName.TheVariants as name
use Rattle.meson_steps.specs.declared.argument.ValueChange.{ValueChange}
use Rattle.meson_steps.specs.declared.argument.ValueChange.TheVariants as change
use Rattle.meson_steps.specs.declared.argument.ValueName.{ValueName}
use Rattle.meson_steps.specs.declared.given.Given.{Given}
use Rattle.meson_steps.specs.declared.given.Given.TheVariants as given
use Rattle.meson_steps.specs.Code.{IsExpression}
use Rattle.meson_steps.specs.GivenWords.{MayBeGiven}
use Rattle.meson_steps.specs.OrderedLists.{Added, all_put}
use Rattle.meson_steps.specs.ResultLimits.{plain_trees}
use Rattle.meson_steps.specs.Steps.{Step, step_in}
use Rattle.meson_steps.specs.WrittenTexts.{array_of_values}
use Rattle.meson_steps.proofs.Bracketed.{complete}
use Rattle.meson_places.specs.declared.slots.Slot.{Slot}
use Rattle.meson_places.specs.declared.slots.Slot.TheVariants as slot
use Rattle.meson_places.specs.AllAssigned.{all_assigned, alone_at, each_edited, remove_each, remove_from_all, removed_or, replace_among, replace_in_all, replaced_or, said_among, said_at, then_more}
use Rattle.meson_places.specs.Arguments.{MayBeMade, argument_steps, changed_steps, last_key, named_steps, one_changed, set_within, slot_steps}
use Rattle.meson_places.specs.AssignedArrays.{LoneValue, added_by, added_steps, array_assigned, array_beside, assigned_lone, assigned_text, lone_written, set_all_by, set_all_steps}
use Rattle.meson_places.specs.Assignments.{changed_slot}
use Rattle.meson_places.specs.TargetNames.{checked_name}
use Rattle.meson_places.specs.Colons.{ends_among, ends_in_file}
use Rattle.meson_places.specs.AssignedValues.{assigned_room, is_assigned}
use Rattle.meson_places.specs.Changes.{added_to, element_child, set_assigned, set_there, set_whole, slot_place}
use Rattle.meson_places.specs.NamedValues.{value_place}
use Rattle.meson_places.specs.Names.{found_by_id, found_within, numbered_file, places_by_id, places_on, beginning_among, lists_among, project_there, searched, searched_file, the_place}
use Rattle.meson_places.specs.Equality.{is_old, lists_say, says}
use Rattle.meson_places.specs.declared.insertions.Mark.{Mark}
use Rattle.meson_places.specs.Behind.{lists_at, placed_value}
use Rattle.meson_places.specs.Insertions.{find_mark, insert_at, insert_by, insert_into, insert_steps}
use Rattle.meson_places.specs.NewElements.{add_steps, add_there, add_to_last, add_to_lone, add_to_value, add_to_whole, array_with, beside, fresh_written, lone_token}
use Rattle.meson_places.specs.Removals.{remove_by, remove_from, remove_steps, remove_there, remove_whole, says_other}
use Rattle.meson_places.specs.Replacements.{Exchange, exchange, exchange_steps, replace_by, replace_in, replace_there, replace_whole, if_assigned, replace_assigned}
use Rattle.meson_places.specs.SaidElements.{lists_edited, says_one}
use Rattle.meson_places.specs.ValueLists.{ValueList, last_of, lists_of}
use Rattle.meson_places.specs.Room.{has_room, list_in_trees}
use Rattle.meson_places.specs.Several.{AllMayBeGiven, add_array, all_written, array_bytes, becomes_array, if_room_for, is_text_given, put_all, put_each, set_all, set_all_there}
use Rattle.meson_places.specs.Slots.{Child, elements_in, the_slot}
use Rattle.meson_places.specs.SortedAdditions.{fresh_added, given_key, order_of, sort_into_last, sort_into_value, sorted_steps}
use Rattle.meson_places.specs.Values.{are_texts, is_array, written_given}

-- ---- the tree of code

-- a text is one list
one_listing : (source : List ℕ) (l m : Listing Nowhere) → ReadsListWithin 65 bracket.Square source l → ReadsListWithin 65 bracket.Square source m → l ≡ m
one_listing source l m p q =
    let items = list_items p.text in
    let f = whole_list-complete source items p.text.are_items 65 bracket.Square l p in
    let g = whole_list-complete source items p.text.are_items 65 bracket.Square m q in
    sym f.1 ∙ ap erase_listing (some-injective _ _ (sym f.2 ∙ g.2)) ∙ g.1

abbrev inside : Listing Nowhere → Option (Expression Nowhere)
inside (listing s b (argument (plain e) more)) = Some e
inside _ = None

pub one_node : (text : List ℕ) (x y : IsExpression text) → x.node ≡ y.node
one_node text x y = some-injective _ _ (ap inside (one_listing (91 ∷ (text ++ 93 ∷ [])) _ _ (complete text x) (complete text y)))

one_written : (g : Given) (m k : MayBeGiven g) → written_given g m ≡ written_given g k
one_written (given.Text text) m k = refl
one_written (given.Switch b) m k = refl
one_written (given.Code code) m k = ap (λ e. record { bytes = code; node = e }) (one_node code m k)

all_one : (gs : List Given) (m k : AllMayBeGiven gs) → all_written gs m ≡ all_written gs k
all_one [] m k = refl
all_one (g ∷ gs) m k = ap₂ (λ w ws. w ∷ ws) (one_written g m.0 k.0) (all_one gs m.1 k.1)

-- ---- the steps, by the tree of the code

then_alike : {X Y : Type 0} (r : Result X Refusal) (f g : X → Result Y Refusal) → ((x : X) → f x ≡ g x) → then_ok r f ≡ then_ok r g
then_alike (Ok x) f g same = same x
then_alike (Err e) f g same = refl

abbrev Values : Type 0
Values = List (Written (Expression Nowhere))

abbrev array_node : Values → Expression Nowhere
array_node ws = array_of_values (map (λ w. w.node) ws)

module _ (l : Loaded) (gs : List Given) (m k : AllMayBeGiven gs) (key : List ℕ) (list : CallRef) where
  there_one : (n : ℕ) (o : Option (Child Span)) → set_all_there l gs m key list n o ≡ set_all_there l gs k key list n o
  there_one n None = refl
  there_one n (Some c) =
      ap (λ (ws : Values).
      if is_array c.value then (if list_all is_text_given gs && not (are_texts c.value) then Err (OtherKind key)
      else if_room_for l (child list c.number) ws (put_all (child list c.number) (length (elements_in c.value)) ws))
      else (if becomes_array gs c.value then (if has_room (array_node ws) (list_in_trees (plain_trees l) list)
      then Ok (step_in list (Replace list.path.steps n (record { bytes = array_bytes gs; node = array_node ws })) ∷ []) else Err TooDeep)
      else Err (OtherKind key)))
      (all_one gs m k)

  added_one : add_array l gs m key list ≡ add_array l gs k key list
  added_one =
      ap (λ (ws : Values). then_ok (added_to (bytes_at list.file l.files) (ends_in_file l list.file) (record { bytes = array_bytes gs; node = array_node ws }) key list (expression_at (project l) list))
      (λ steps. if has_room (array_node ws) (list_in_trees (plain_trees l) list) then Ok steps else Err TooDeep))
      (all_one gs m k)

set_all_one : (l : Loaded) (gs : List Given) (m k : AllMayBeGiven gs) (key : List ℕ) (s : Slot) → set_all l gs m key s ≡ set_all l gs k key s
set_all_one l gs m k key (slot.Element list n) = there_one l gs m k key list n (element_child (project l) list n)
set_all_one l gs m k key (slot.Absent list absent) = added_one l gs m k absent list
set_all_one l gs m k key (slot.Whole c) = refl

fresh_one : (known : Given → Bool) (before gs : List Given) (m k : AllMayBeGiven gs) → fresh_written known before gs m ≡ fresh_written known before gs k
fresh_one known before [] m k = refl
fresh_one known before (g ∷ gs) m k =
    ap₂ (λ (w : Written (Expression Nowhere)) (ws : Values). if is_old known before g then ws else w ∷ ws) (one_written g m.0 k.0) (fresh_one known (before ++ g ∷ []) gs m.1 k.1)

module _ (l : Loaded) (gs : List Given) (m k : AllMayBeGiven gs) (key : List ℕ) where
  last_one : (known : Given → Bool) (a b : Result (List Step) Refusal) → a ≡ b → (o : Option (ValueList Span)) → add_to_last l known gs m a o ≡ add_to_last l known gs k b o
  last_one known a b same None = same
  last_one known a b same (Some list) =
      ap₂ (λ (ws fs : Values). if list_all (λ w. has_room w.node (list_in_trees (plain_trees l) list.place)) ws then Ok (put_each list.place (length list.elements) (length list.elements) fs) else Err TooDeep)
      (all_one gs m k) (fresh_one known [] gs m k)

  lone_one : (list : CallRef) (n : ℕ) (e : Expression Span) (o : Option (List ℕ)) → add_to_lone l gs m key list n e o ≡ add_to_lone l gs k key list n e o
  lone_one list n e None = refl
  lone_one list n e (Some x) = ap (beside l list n (record { bytes = x; node = erase_expression e })) (fresh_one (λ g. says (bytes_at list.file l.files) g e) [] gs m k)

  add_there_one : (list : CallRef) (n : ℕ) (o : Option (Child Span)) → add_there l gs m key list n o ≡ add_there l gs k key list n o
  add_there_one list n None = refl
  add_there_one list n (Some c) =
      let at_ = child list c.number in
      last_one (lists_say (bytes_at list.file l.files) (lists_of at_ c.value)) _ _ (lone_one list n c.value (lone_token c.value)) (last_of (lists_of at_ c.value))

  add_whole_one : (c : CallRef) (o : Option (Expression Span)) → add_to_whole l gs m key c o ≡ add_to_whole l gs k key c o
  add_whole_one c None = refl
  add_whole_one c (Some e) = last_one (lists_say (bytes_at c.file l.files) (lists_of c e)) _ _ refl (last_of (lists_of c e))

  add_one : (s : Slot) → add_steps l gs m key s ≡ add_steps l gs k key s
  add_one (slot.Element list n) = add_there_one list n (element_child (project l) list n)
  add_one (slot.Absent list absent) = added_one l gs m k absent list
  add_one (slot.Whole c) = add_whole_one c (expression_at (project l) c)

insert_at_one : (l : Loaded) (key : List ℕ) (known : Given → Bool) (gs : List Given) (m k : AllMayBeGiven gs) (o : Option Mark) → insert_at l key known gs m o ≡ insert_at l key known gs k o
insert_at_one l key known gs m k None = refl
insert_at_one l key known gs m k (Some x) =
    ap₂ (λ (ws fs : Values). if list_all (λ w. has_room w.node (list_in_trees (plain_trees l) x.list)) ws then Ok (put_each x.list (suc x.number) (suc x.number) fs) else Err TooDeep)
    (all_one gs m k) (fresh_one known [] gs m k)

insert_one : (l : Loaded) (key : List ℕ) (g : Given) (gs : List Given) (m k : AllMayBeGiven gs) (o : Option (Placed (Expression Span))) → insert_into l key g gs m o ≡ insert_into l key g gs k o
insert_one l key g gs m k None = refl
insert_one l key g gs m k (Some v) = go (lists_of v.place v.it)
  where
    go : (ls : List (ValueList Span)) → insert_by l key (bytes_at v.place.file l.files) g gs m v.it ls ≡ insert_by l key (bytes_at v.place.file l.files) g gs k v.it ls
    go [] = refl
    go (one ∷ more) = insert_at_one l key (lists_say (bytes_at v.place.file l.files) (one ∷ more)) gs m k (find_mark (bytes_at v.place.file l.files) g (one ∷ more))

set_all_steps_one : (l : Loaded) (gs : List Given) (m k : AllMayBeGiven gs) (key : List ℕ) (s : Slot) → set_all_steps l gs m key s ≡ set_all_steps l gs k key s
set_all_steps_one l gs m k key s = go (assigned_text (project l) s)
  where
    go : (o : Option CallRef) → set_all_by l gs m key s o ≡ set_all_by l gs k key s o
    go None = set_all_one l gs m k key s
    go (Some c) = ap (λ (ws : Values). array_assigned key c (record { bytes = array_bytes gs; node = array_node ws })) (all_one gs m k)

added_steps_one : (l : Loaded) (gs : List Given) (m k : AllMayBeGiven gs) (key : List ℕ) (s : Slot) → added_steps l gs m key s ≡ added_steps l gs k key s
added_steps_one l gs m k key s = go (assigned_lone (project l) s)
  where
    go : (o : Option LoneValue) → added_by l gs m key s o ≡ added_by l gs k key s o
    go None = add_one l gs m k key s
    go (Some v) = ap (array_beside key v.place (lone_written v)) (fresh_one (λ g. says (bytes_at v.place.file l.files) g v.value) [] gs m k)

fresh_added_one : (known : Given → Bool) (before gs : List Given) (m k : AllMayBeGiven gs) → fresh_added known before gs m ≡ fresh_added known before gs k
fresh_added_one known before [] m k = refl
fresh_added_one known before (g ∷ gs) m k =
    ap₂ (λ (w : Written (Expression Nowhere)) (new : List Added). if is_old known before g then new else record { key = given_key g; written = w } ∷ new)
    (one_written g m.0 k.0) (fresh_added_one known (before ++ g ∷ []) gs m.1 k.1)

sorted_one : (l : Loaded) (gs : List Given) (m k : AllMayBeGiven gs) (key : List ℕ) (s : Slot) → sorted_steps l gs m key s ≡ sorted_steps l gs k key s
sorted_one l gs m k key s = go (placed_value (project l) s)
  where
    into : (source : List ℕ) (known : Given → Bool) (o : Option (ValueList Span)) → sort_into_last l source known gs m (added_steps l gs m key s) o ≡ sort_into_last l source known gs k (added_steps l gs k key s) o
    into source known None = added_steps_one l gs m k key s
    into source known (Some list) =
        ap₂ (λ (ws : Values) (new : List Added). if list_all (λ w. has_room w.node (list_in_trees (plain_trees l) list.place)) ws then Ok (all_put list.place (order_of source list) new) else Err TooDeep)
        (all_one gs m k) (fresh_added_one known [] gs m k)

    go : (o : Option (Placed (Expression Span))) → sort_into_value l gs m (added_steps l gs m key s) o ≡ sort_into_value l gs k (added_steps l gs k key s) o
    go None = added_steps_one l gs m k key s
    go (Some v) =
        let source = bytes_at v.place.file l.files in
        let ls = lists_of v.place v.it in
        into source (lists_say source ls) (last_of ls)

steps_one : (l : Loaded) (key : List ℕ) (c : ValueChange) (m k : MayBeMade c) (s : Slot) → slot_steps l key c m s ≡ slot_steps l key c k s
steps_one l key (change.Set g) m k s = ap (λ w. set_within l g w key s) (one_written g m k)
steps_one l key (change.SetAll gs) m k s = set_all_steps_one l gs m k key s
steps_one l key (change.Add gs) m k s = added_steps_one l gs m k key s
steps_one l key (change.AddAfter g gs) m k s = insert_one l key g gs m k (placed_value (project l) s)
steps_one l key (change.AddSorted gs) m k s = sorted_one l gs m k key s
steps_one l key (change.Remove gs) m k s = refl
steps_one l key (change.Replace old new) m k s = ap (λ w. exchange_steps l (record { old = old; new = new; written = w }) key s) (one_written new m k)
steps_one l key change.Delete m k s = refl

changed_one : (l : Loaded) (n : ValueName) (key : List ℕ) (c : ValueChange) (m k : MayBeMade c) (s : Slot) → changed_steps l n key c m s ≡ changed_steps l n key c k s
changed_one l n key c m k s = by_one c m k (one c m k)
  where
    one : (d : ValueChange) (a b : MayBeMade d) → one_changed l n key d a s ≡ one_changed l n key d b s
    one d a b = then_alike (changed_slot l.files (project l) n d s) _ _ (λ t. steps_one l key d a b t)

    by_one : (d : ValueChange) (a b : MayBeMade d) → one_changed l n key d a s ≡ one_changed l n key d b s → changed_steps l n key d a s ≡ changed_steps l n key d b s
    by_one (change.Remove gs) a b same = ap (remove_from_all l n key gs s) same
    by_one (change.Replace old new) a b same = ap₂ (λ w r. replace_in_all l n key (record { old = old; new = new; written = w }) s r) (one_written new a b) same
    by_one (change.Set g) a b same = same
    by_one (change.SetAll gs) a b same = same
    by_one (change.Add gs) a b same = same
    by_one (change.AddAfter g gs) a b same = same
    by_one (change.AddSorted gs) a b same = same
    by_one change.Delete a b same = same

pub arguments_one : (l : Loaded) (n : ValueName) (c : ValueChange) (m k : MayBeMade c) → argument_steps l n c m ≡ argument_steps l n c k
arguments_one l n c m k =
    then_alike (the_place l n.place) _ _ (λ p. then_alike (the_slot (project l) p n.keys) _ _ (λ s.
    then_alike (checked_name (project l) (last_key n.keys) c s) _ _ (λ _. changed_one l n (last_key n.keys) c m k s)))

-- ---- the steps, by the files and trees of a project

abbrev Tree : Type 0
Tree = File Span

module _ (p q : Loaded) (same_files : p.files ≡ q.files) (same_trees : trees p ≡ trees q) where
  alike : {X : Type 0} (f : List files.File → List Tree → X) → f p.files (trees p) ≡ f q.files (trees q)
  alike f = ap₂ f same_files same_trees

  by_id : (n : PlaceName) (folder : Option (List ℕ)) → then_ok (searched_file p.files folder) (λ within. found_by_id p within n) ≡ then_ok (searched_file q.files folder) (λ within. found_by_id q within n)
  by_id n folder =
      alike (λ fs ts. then_ok (searched_file fs folder) (λ within. then_ok (project_there n (notes (named_trees fs ts))) (λ _. only_one (searched within (places_by_id n (notes (named_trees fs ts)))))))

  found_same : (n : PlaceName) (folder : Option (List ℕ)) → then_ok (searched_file p.files folder) (λ within. found_within p within n) ≡ then_ok (searched_file q.files folder) (λ within. found_within q within n)
  found_same (name.Line file line) folder =
      alike (λ fs ts. then_ok (searched_file fs folder) (λ within. then_ok (numbered_file fs file) (λ m.
      beginning_among (searched within (places_on fs m line (notes (named_trees fs ts)))) (searched within (lists_among (bytes_at m fs) m line (nth_file (named_trees fs ts) m))))))
  found_same (name.Project id) folder = by_id (name.Project id) folder
  found_same (name.Call f id) folder = by_id (name.Call f id) folder
  found_same (name.Variable id) folder = by_id (name.Variable id) folder

  pub value_places_same : (n : ValueName) → value_place p n ≡ value_place q n
  value_places_same n =
      ap (λ r. then_ok r (λ x. then_ok (the_slot (project p) x n.keys) (λ s. ok_or (slot_place (project p) s) (NoSuchValue (last_key n.keys))))) (found_same n.place.name n.place.folder)
      ∙ then_alike (the_place q n.place) _ _ (λ x. alike (λ fs ts. then_ok (the_slot (named_trees fs ts) x n.keys) (λ s. ok_or (slot_place (named_trees fs ts) s) (NoSuchValue (last_key n.keys)))))

  set_same : (g : Given) (w : Written (Expression Nowhere)) (key : List ℕ) (s : Slot) → set_within p g w key s ≡ set_within q g w key s
  set_same g w key (slot.Element list n) =
      alike (λ fs ts. then_ok (set_there g w key list n (element_child (named_trees fs ts) list n)) (λ steps. if has_room w.node (list_in_trees (map erase ts) list) then Ok steps else Err TooDeep))
  set_same g w key (slot.Absent list k) =
      alike (λ fs ts. then_ok (added_to (bytes_at list.file fs) (ends_among list.file (nth_file (named_trees fs ts) list.file)) w k list (expression_at (named_trees fs ts) list)) (λ steps. if has_room w.node (list_in_trees (map erase ts) list) then Ok steps else Err TooDeep))
  set_same g w key (slot.Whole c) =
      ap (λ o. then_ok (set_whole p g w key c o) (λ steps. if assigned_room c w.node then Ok steps else Err TooDeep)) (alike (λ fs ts. expression_at (named_trees fs ts) c)) ∙ go (expression_at (project q) c)
    where
      go : (o : Option (Expression Span)) → then_ok (set_whole p g w key c o) (λ steps. if assigned_room c w.node then Ok steps else Err TooDeep)
          ≡ then_ok (set_whole q g w key c o) (λ steps. if assigned_room c w.node then Ok steps else Err TooDeep)
      go None = refl
      go (Some e) =
          ap (λ b. then_ok (if b then set_assigned g w key c e else Err (NotLiteral key)) (λ steps. if assigned_room c w.node then Ok steps else Err TooDeep))
          (alike (λ fs ts. is_assigned (named_trees fs ts) c))

  all_there_same : (gs : List Given) (may : AllMayBeGiven gs) (key : List ℕ) (list : CallRef) (n : ℕ) (o : Option (Child Span)) → set_all_there p gs may key list n o ≡ set_all_there q gs may key list n o
  all_there_same gs may key list n None = refl
  all_there_same gs may key list n (Some c) =
      let ws = all_written gs may in
      let inner = child list c.number in
      let node = array_node ws in
      alike (λ fs ts.
      if is_array c.value then (if list_all is_text_given gs && not (are_texts c.value) then Err (OtherKind key)
      else (if list_all (λ w. has_room w.node (list_in_trees (map erase ts) inner)) ws then Ok (put_all inner (length (elements_in c.value)) ws) else Err TooDeep))
      else (if becomes_array gs c.value then (if has_room node (list_in_trees (map erase ts) list)
      then Ok (step_in list (Replace list.path.steps n (record { bytes = array_bytes gs; node = node })) ∷ []) else Err TooDeep)
      else Err (OtherKind key)))

  all_same : (gs : List Given) (may : AllMayBeGiven gs) (key : List ℕ) (s : Slot) → set_all p gs may key s ≡ set_all q gs may key s
  all_same gs may key (slot.Element list n) =
      ap (set_all_there p gs may key list n) (alike (λ fs ts. element_child (named_trees fs ts) list n)) ∙ all_there_same gs may key list n (element_child (project q) list n)
  all_same gs may key (slot.Absent list k) =
      let node = array_node (all_written gs may) in
      alike (λ fs ts. then_ok (added_to (bytes_at list.file fs) (ends_among list.file (nth_file (named_trees fs ts) list.file)) (record { bytes = array_bytes gs; node = node }) k list (expression_at (named_trees fs ts) list))
      (λ steps. if has_room node (list_in_trees (map erase ts) list) then Ok steps else Err TooDeep))
  all_same gs may key (slot.Whole c) = refl

  value_same : (gs : List Given) (may : AllMayBeGiven gs) (a b : Result (List Step) Refusal) → a ≡ b → (c : CallRef) (e : Expression Span) → add_to_value p gs may a c e ≡ add_to_value q gs may b c e
  value_same gs may a b same c e = go (last_of (lists_of c e))
    where
      go : (o : Option (ValueList Span)) → add_to_last p (lists_say (bytes_at c.file p.files) (lists_of c e)) gs may a o ≡ add_to_last q (lists_say (bytes_at c.file q.files) (lists_of c e)) gs may b o
      go None = same
      go (Some list) =
          alike (λ fs ts. if list_all (λ w. has_room w.node (list_in_trees (map erase ts) list.place)) (all_written gs may)
          then Ok (put_each list.place (length list.elements) (length list.elements) (fresh_written (lists_say (bytes_at c.file fs) (lists_of c e)) [] gs may)) else Err TooDeep)

  beside_same : (list : CallRef) (n : ℕ) (old : Written (Expression Nowhere)) (ws : Values) → beside p list n old ws ≡ beside q list n old ws
  beside_same list n old [] = refl
  beside_same list n old (w ∷ ws) =
      let new = array_with old (w ∷ ws) in
      alike (λ fs ts. if has_room new.node (list_in_trees (map erase ts) list) then Ok (step_in list (Replace list.path.steps n new) ∷ []) else Err TooDeep)

  lone_same : (gs : List Given) (may : AllMayBeGiven gs) (key : List ℕ) (list : CallRef) (n : ℕ) (e : Expression Span) (o : Option (List ℕ)) → add_to_lone p gs may key list n e o ≡ add_to_lone q gs may key list n e o
  lone_same gs may key list n e None = refl
  lone_same gs may key list n e (Some x) =
      let old : Written (Expression Nowhere) = record { bytes = x; node = erase_expression e } in
      ap (λ fs. beside p list n old (fresh_written (λ g. says (bytes_at list.file fs) g e) [] gs may)) same_files
      ∙ beside_same list n old (fresh_written (λ g. says (bytes_at list.file q.files) g e) [] gs may)

  add_there_same : (gs : List Given) (may : AllMayBeGiven gs) (key : List ℕ) (list : CallRef) (n : ℕ) (o : Option (Child Span)) → add_there p gs may key list n o ≡ add_there q gs may key list n o
  add_there_same gs may key list n None = refl
  add_there_same gs may key list n (Some c) = value_same gs may _ _ (lone_same gs may key list n c.value (lone_token c.value)) (child list c.number) c.value

  add_whole_same : (gs : List Given) (may : AllMayBeGiven gs) (key : List ℕ) (c : CallRef) (o : Option (Expression Span)) → add_to_whole p gs may key c o ≡ add_to_whole q gs may key c o
  add_whole_same gs may key c None = refl
  add_whole_same gs may key c (Some e) = value_same gs may _ _ refl c e

  add_same : (gs : List Given) (may : AllMayBeGiven gs) (key : List ℕ) (s : Slot) → add_steps p gs may key s ≡ add_steps q gs may key s
  add_same gs may key (slot.Element list n) =
      ap (add_there p gs may key list n) (alike (λ fs ts. element_child (named_trees fs ts) list n)) ∙ add_there_same gs may key list n (element_child (project q) list n)
  add_same gs may key (slot.Absent list k) = all_same gs may key (slot.Absent list k)
  add_same gs may key (slot.Whole c) =
      ap (add_to_whole p gs may key c) (alike (λ fs ts. expression_at (named_trees fs ts) c)) ∙ add_whole_same gs may key c (expression_at (project q) c)

  insert_at_same : (key : List ℕ) (known : Given → Bool) (gs : List Given) (may : AllMayBeGiven gs) (o : Option Mark) → insert_at p key known gs may o ≡ insert_at q key known gs may o
  insert_at_same key known gs may None = refl
  insert_at_same key known gs may (Some x) =
      alike (λ fs ts. if list_all (λ w. has_room w.node (list_in_trees (map erase ts) x.list)) (all_written gs may)
      then Ok (put_each x.list (suc x.number) (suc x.number) (fresh_written known [] gs may)) else Err TooDeep)

  insert_by_same : (key : List ℕ) (g : Given) (gs : List Given) (may : AllMayBeGiven gs) (c : CallRef) (e : Expression Span) (ls : List (ValueList Span))
      → insert_by p key (bytes_at c.file p.files) g gs may e ls ≡ insert_by q key (bytes_at c.file q.files) g gs may e ls
  insert_by_same key g gs may c e [] = refl
  insert_by_same key g gs may c e (one ∷ more) =
      let ls = one ∷ more in
      ap (λ fs. insert_at p key (lists_say (bytes_at c.file fs) ls) gs may (find_mark (bytes_at c.file fs) g ls)) same_files
      ∙ insert_at_same key (lists_say (bytes_at c.file q.files) ls) gs may (find_mark (bytes_at c.file q.files) g ls)

  insert_same : (key : List ℕ) (g : Given) (gs : List Given) (may : AllMayBeGiven gs) (s : Slot) → insert_steps p g gs may key s ≡ insert_steps q g gs may key s
  insert_same key g gs may s = ap (insert_into p key g gs may) (alike (λ fs ts. placed_value (named_trees fs ts) s)) ∙ go (placed_value (project q) s)
    where
      go : (o : Option (Placed (Expression Span))) → insert_into p key g gs may o ≡ insert_into q key g gs may o
      go None = refl
      go (Some v) = insert_by_same key g gs may v.place v.it (lists_of v.place v.it)

  set_all_steps_same : (gs : List Given) (may : AllMayBeGiven gs) (key : List ℕ) (s : Slot) → set_all_steps p gs may key s ≡ set_all_steps q gs may key s
  set_all_steps_same gs may key s = ap (set_all_by p gs may key s) (alike (λ fs ts. assigned_text (named_trees fs ts) s)) ∙ go (assigned_text (project q) s)
    where
      go : (o : Option CallRef) → set_all_by p gs may key s o ≡ set_all_by q gs may key s o
      go None = all_same gs may key s
      go (Some c) = refl

  added_steps_same : (gs : List Given) (may : AllMayBeGiven gs) (key : List ℕ) (s : Slot) → added_steps p gs may key s ≡ added_steps q gs may key s
  added_steps_same gs may key s = ap (added_by p gs may key s) (alike (λ fs ts. assigned_lone (named_trees fs ts) s)) ∙ go (assigned_lone (project q) s)
    where
      go : (o : Option LoneValue) → added_by p gs may key s o ≡ added_by q gs may key s o
      go None = add_same gs may key s
      go (Some v) = ap (λ fs. array_beside key v.place (lone_written v) (fresh_written (λ g. says (bytes_at v.place.file fs) g v.value) [] gs may)) same_files

  sorted_same : (gs : List Given) (may : AllMayBeGiven gs) (key : List ℕ) (s : Slot) → sorted_steps p gs may key s ≡ sorted_steps q gs may key s
  sorted_same gs may key s =
      ap (λ r. sort_into_value p gs may r (placed_value (project p) s)) (added_steps_same gs may key s)
      ∙ ap (sort_into_value p gs may (added_steps q gs may key s)) (alike (λ fs ts. placed_value (named_trees fs ts) s)) ∙ go (placed_value (project q) s)
    where
      into : (other : Result (List Step) Refusal) (c : CallRef) (ls : List (ValueList Span)) (o : Option (ValueList Span))
          → sort_into_last p (bytes_at c.file p.files) (lists_say (bytes_at c.file p.files) ls) gs may other o ≡ sort_into_last q (bytes_at c.file q.files) (lists_say (bytes_at c.file q.files) ls) gs may other o
      into other c ls None = refl
      into other c ls (Some list) =
          alike (λ fs ts. if list_all (λ w. has_room w.node (list_in_trees (map erase ts) list.place)) (all_written gs may)
          then Ok (all_put list.place (order_of (bytes_at c.file fs) list) (fresh_added (lists_say (bytes_at c.file fs) ls) [] gs may)) else Err TooDeep)

      go : (o : Option (Placed (Expression Span))) → sort_into_value p gs may (added_steps q gs may key s) o ≡ sort_into_value q gs may (added_steps q gs may key s) o
      go None = refl
      go (Some v) = into (added_steps q gs may key s) v.place (lists_of v.place v.it) (last_of (lists_of v.place v.it))

  from_same : (gs : List Given) (key : List ℕ) (gone : Result (List Step) Refusal) (c : CallRef) (e : Expression Span) → remove_from p key gs gone c e ≡ remove_from q key gs gone c e
  from_same gs key gone c e = ap (λ fs. remove_by key (bytes_at c.file fs) gs gone e (lists_of c e)) same_files

  remove_same : (gs : List Given) (key : List ℕ) (s : Slot) → remove_steps p gs key s ≡ remove_steps q gs key s
  remove_same gs key (slot.Element list n) = ap (remove_there p gs key list n) (alike (λ fs ts. element_child (named_trees fs ts) list n)) ∙ go (element_child (project q) list n)
    where
      go : (o : Option (Child Span)) → remove_there p gs key list n o ≡ remove_there q gs key list n o
      go None = refl
      go (Some v) = from_same gs key (Ok (step_in list (Remove list.path.steps n) ∷ [])) (child list v.number) v.value
  remove_same gs key (slot.Absent list k) = refl
  remove_same gs key (slot.Whole c) = ap (remove_whole p gs key c) (alike (λ fs ts. expression_at (named_trees fs ts) c)) ∙ go (expression_at (project q) c)
    where
      go : (o : Option (Expression Span)) → remove_whole p gs key c o ≡ remove_whole q gs key c o
      go None = refl
      go (Some e) = from_same gs key (Err NotRemovable) c e

  in_same : (x : Exchange) (key : List ℕ) (a b : Result (List Step) Refusal) → a ≡ b → (c : CallRef) (e : Expression Span) → replace_in p key x a c e ≡ replace_in q key x b c e
  in_same x key a b same c e = go (lists_of c e)
    where
      go : (ls : List (ValueList Span)) → replace_by p key (bytes_at c.file p.files) x a ls ≡ replace_by q key (bytes_at c.file q.files) x b ls
      go [] = same
      go (one ∷ more) =
          let ls = one ∷ more in
          alike (λ fs ts. if lists_say (bytes_at c.file fs) ls x.new then Err ThereAlready
          else (if lists_say (bytes_at c.file fs) ls x.old then (if list_all (λ y. has_room x.written.node (list_in_trees (map erase ts) y.place)) ls
          then Ok (lists_edited (Some x.written) (says_one (bytes_at c.file fs) (x.old ∷ [])) ls) else Err TooDeep) else Err (NoSuchValue key)))

  exchange_same : (x : Exchange) (key : List ℕ) (s : Slot) → exchange_steps p x key s ≡ exchange_steps q x key s
  exchange_same x key (slot.Element list n) = ap (replace_there p x key list n) (alike (λ fs ts. element_child (named_trees fs ts) list n)) ∙ go (element_child (project q) list n)
    where
      go : (o : Option (Child Span)) → replace_there p x key list n o ≡ replace_there q x key list n o
      go None = refl
      go (Some v) =
          in_same x key _ _
          (alike (λ fs ts. if says (bytes_at list.file fs) x.new v.value then Err ThereAlready
          else (if says (bytes_at list.file fs) x.old v.value then (if has_room x.written.node (list_in_trees (map erase ts) list)
          then Ok (step_in list (Replace list.path.steps n x.written) ∷ []) else Err TooDeep) else Err (says_other key v.value)))) (child list v.number) v.value
  exchange_same x key (slot.Absent list k) = refl
  exchange_same x key (slot.Whole c) = ap (replace_whole p x key c) (alike (λ fs ts. expression_at (named_trees fs ts) c)) ∙ go (expression_at (project q) c)
    where
      go : (o : Option (Expression Span)) → replace_whole p x key c o ≡ replace_whole q x key c o
      go None = refl
      go (Some e) =
          in_same x key (if_assigned p key x c e) (if_assigned q key x c e)
          (alike (λ fs ts. if is_assigned (named_trees fs ts) c then replace_assigned key (bytes_at c.file fs) x c e else Err (NotLiteral key))) c e

  slot_same : (key : List ℕ) (c : ValueChange) (may : MayBeMade c) (s : Slot) → slot_steps p key c may s ≡ slot_steps q key c may s
  slot_same key (change.Set g) may s = set_same g (written_given g may) key s
  slot_same key (change.SetAll gs) may s = set_all_steps_same gs may key s
  slot_same key (change.Add gs) may s = added_steps_same gs may key s
  slot_same key (change.AddAfter g gs) may s = insert_same key g gs may s
  slot_same key (change.AddSorted gs) may s = sorted_same gs may key s
  slot_same key (change.Remove gs) may s = remove_same gs key s
  slot_same key (change.Replace old new) may s = exchange_same (exchange old new may) key s
  slot_same key change.Delete may s = refl

  one_same : (n : ValueName) (key : List ℕ) (c : ValueChange) (may : MayBeMade c) (s : Slot) → one_changed p n key c may s ≡ one_changed q n key c may s
  one_same n key c may s =
      ap (λ r. then_ok r (slot_steps p key c may)) (alike (λ fs ts. changed_slot fs (named_trees fs ts) n c s)) ∙ then_alike (changed_slot q.files (project q) n c s) _ _ (slot_same key c may)

  edited_same : (gs : List Given) (cs : List CallRef) → each_edited p gs cs ≡ each_edited q gs cs
  edited_same gs [] = refl
  edited_same gs (c ∷ cs) = ap₂ (λ a b. a ++ b) (alike (λ fs ts. lists_edited None (says_one (bytes_at c.file fs) gs) (lists_at (named_trees fs ts) c))) (edited_same gs cs)

  remove_each_same : (key : List ℕ) (gs : List Given) (cs : List CallRef) → remove_each p key gs cs ≡ remove_each q key gs cs
  remove_each_same key gs cs =
      ap (λ steps. if list_all (said_among p.files (project p) cs) gs then (if list_any (alone_at p.files (project p) gs) cs then Err NotRemovable else Ok steps) else Err (NoSuchValue key)) (edited_same gs cs)
      ∙ alike (λ fs ts. if list_all (said_among fs (named_trees fs ts) cs) gs then (if list_any (alone_at fs (named_trees fs ts) gs) cs then Err NotRemovable else Ok (each_edited q gs cs)) else Err (NoSuchValue key))

  removed_same : (n : ValueName) (key : List ℕ) (gs : List Given) (s : Slot) (a b : Result (List Step) Refusal) → a ≡ b → remove_from_all p n key gs s a ≡ remove_from_all q n key gs s b
  removed_same n key gs s a b same =
      ap (λ r. then_ok r (removed_or p key gs a)) (alike (λ fs ts. all_assigned fs (named_trees fs ts) n gs s)) ∙ then_alike (all_assigned q.files (project q) n gs s) _ _ go
    where
      go : (o : Option (List CallRef)) → removed_or p key gs a o ≡ removed_or q key gs b o
      go None = same
      go (Some cs) = remove_each_same key gs cs

  among_same : (x : Exchange) (key : List ℕ) (cs : List CallRef) → replace_among p key x cs ≡ replace_among q key x cs
  among_same x key [] = refl
  among_same x key (c ∷ cs) =
      ap₂ (λ r more. if said_at p.files (project p) x.old c then then_ok r (λ ss. then_more ss more) else more) (exchange_same x key (slot.Whole c)) (among_same x key cs)
      ∙ ap (λ b. if b then then_ok (replace_whole q x key c (expression_at (project q) c)) (λ ss. then_more ss (replace_among q key x cs)) else replace_among q key x cs) (alike (λ fs ts. said_at fs (named_trees fs ts) x.old c))

  replaced_same : (n : ValueName) (key : List ℕ) (x : Exchange) (s : Slot) (a b : Result (List Step) Refusal) → a ≡ b → replace_in_all p n key x s a ≡ replace_in_all q n key x s b
  replaced_same n key x s a b same =
      ap (λ r. then_ok r (replaced_or p key x a)) (alike (λ fs ts. all_assigned fs (named_trees fs ts) n (x.old ∷ []) s)) ∙ then_alike (all_assigned q.files (project q) n (x.old ∷ []) s) _ _ go
    where
      go : (o : Option (List CallRef)) → replaced_or p key x a o ≡ replaced_or q key x b o
      go None = same
      go (Some cs) =
          ap (λ r. if said_among p.files (project p) cs x.new then Err ThereAlready else r) (among_same x key cs)
          ∙ alike (λ fs ts. if said_among fs (named_trees fs ts) cs x.new then Err ThereAlready else replace_among q key x cs)

  changed_same : (n : ValueName) (key : List ℕ) (c : ValueChange) (may : MayBeMade c) (s : Slot) → changed_steps p n key c may s ≡ changed_steps q n key c may s
  changed_same n key (change.Remove gs) may s = removed_same n key gs s _ _ (one_same n key (change.Remove gs) may s)
  changed_same n key (change.Replace old new) may s = replaced_same n key (exchange old new may) s _ _ (one_same n key (change.Replace old new) may s)
  changed_same n key (change.Set g) may s = one_same n key (change.Set g) may s
  changed_same n key (change.SetAll gs) may s = one_same n key (change.SetAll gs) may s
  changed_same n key (change.Add gs) may s = one_same n key (change.Add gs) may s
  changed_same n key (change.AddAfter g gs) may s = one_same n key (change.AddAfter g gs) may s
  changed_same n key (change.AddSorted gs) may s = one_same n key (change.AddSorted gs) may s
  changed_same n key change.Delete may s = one_same n key change.Delete may s

  named_same : (n : ValueName) (key : List ℕ) (c : ValueChange) (may : MayBeMade c) (s : Slot) → named_steps p n key c may s ≡ named_steps q n key c may s
  named_same n key c may s =
      ap (λ r. then_ok r (λ _. changed_steps p n key c may s)) (alike (λ fs ts. checked_name (named_trees fs ts) key c s))
      ∙ then_alike (checked_name (project q) key c s) _ _ (λ _. changed_same n key c may s)

  pub arguments_same : (n : ValueName) (c : ValueChange) (may : MayBeMade c) → argument_steps p n c may ≡ argument_steps q n c may
  arguments_same n c may =
      ap (λ r. then_ok r (λ x. then_ok (the_slot (project p) x n.keys) (λ s. named_steps p n (last_key n.keys) c may s))) (found_same n.place.name n.place.folder)
      ∙ then_alike (the_place q n.place) _ _ (λ x.
      ap (λ r. then_ok r (λ s. named_steps p n (last_key n.keys) c may s)) (alike (λ fs ts. the_slot (named_trees fs ts) x n.keys))
      ∙ then_alike (the_slot (project q) x n.keys) _ _ (λ s. named_same n (last_key n.keys) c may s))
