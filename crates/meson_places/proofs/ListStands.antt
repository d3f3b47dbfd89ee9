-- A list that stands in its file between two steps, and one edit of it: it may be done, and the list stands.
use Rattle.std.proofs.Common.{◌≡◌, ℕ, zero, suc, ◌≤◌, false, List, [], ◌∷◌, ◌++◌, length, take, drop, Some, refl, sym, ap, ap₂, ◌∙◌, subst, arith}
use Rattle.std.specs.Prelude.{All, max, option_and_then, option_map, slice_set}
use Rattle.std.proofs.lemmas.List.Elements.{All-set}
use Rattle.std.proofs.lemmas.List.{take_all}
use Rattle.meson_syntax.specs.declared.operator.Bracket.{Bracket}
use Rattle.meson_syntax.specs.Tree.{Nowhere, Plain, Expression, Listing, listing, Argument, plain, named, pair, arguments_of}
use Rattle.meson_syntax.specs.Grammar.{LevelArgument, LevelExpression, LevelFile, argument_words, argument_depth, arguments_depth, expression_depth, file_depth, listing_depth}
use Rattle.meson_syntax.specs.Paths.{ListAt, list_at, nth, value_of}
use Rattle.meson_syntax.proofs.parsing.Complete.{list-of-arguments}
use Rattle.meson_syntax.proofs.parsing.Steps.{some-injective}
use Rattle.meson_edit.specs.Edits.{Written, Edit, First, After, Remove, Replace, elements, with_elements, with_value, element_added, element_removed, exchanged, edited}
use Rattle.meson_edit.specs.Places.{IsWritten, Writes}
use Rattle.meson_edit.specs.Sequences.{MayFollow}
use Rattle.meson_edit.proofs.sequences.Levelled.{firsts-keep-levels, insertions-keep-levels, removals-keep-levels, replacements-keep-levels}
use Rattle.meson_calls.specs.declared.call.CallRef.{CallRef}
use Rattle.meson_steps.specs.ListSteps.{AreDoable, MayStandBetween, wide_depth}
use Rattle.meson_steps.specs.Steps.{step_in, Step, stepped}
use Rattle.meson_steps.proofs.Insertable.{edited_there, elements_with, first_there, there_again}
use Rattle.meson_steps.proofs.StepsDoable.{step_doable}
use Rattle.meson_steps.proofs.WithOne.{all_nth, change_there, changed_there}
use Rattle.meson_places.specs.Changes.{behind_all}

-- The list is there, in these brackets. Whatever is in its place, as long as it nests no deeper than the limit, leaves the file within the limit between two
-- steps.
pub record ListStands (c : CallRef) (b : Bracket) (limit : ℕ) (trees : List Plain) : Type 0 where
  pub tree : Plain
  pub is_tree : nth trees c.file ≡ Some tree
  pub place : ListAt Nowhere
  pub is_place : list_at tree c.path.steps ≡ Some place
  pub is_bracket : place.bracket ≡ b
  pub fits : listing_depth place.list ≤ limit
  pub file_fits : (l : Listing Nowhere) → listing_depth l ≤ limit → file_depth (place.back l) ≤ wide_depth

-- ---- depth

abbrev pub depth_of : List (Argument Nowhere) → ℕ
depth_of xs = arguments_depth (arguments_of xs)

pub depth_append : (xs ys : List (Argument Nowhere)) → depth_of (xs ++ ys) ≡ max (depth_of xs) (depth_of ys)
depth_append [] ys = omega arith
depth_append (x ∷ xs) ys = omega (arith, depth_append xs ys)

depth_take : (n : ℕ) (xs : List (Argument Nowhere)) → depth_of (take n xs) ≤ depth_of xs
depth_take zero xs = omega arith
depth_take (suc n) [] = omega arith
depth_take (suc n) (x ∷ xs) = omega (arith, depth_take n xs)

depth_drop : (n : ℕ) (xs : List (Argument Nowhere)) → depth_of (drop n xs) ≤ depth_of xs
depth_drop zero xs = omega arith
depth_drop (suc n) [] = omega arith
depth_drop (suc n) (x ∷ xs) = omega (arith, depth_drop n xs)

depth_nth : (xs : List (Argument Nowhere)) (n : ℕ) (x : Argument Nowhere) → nth xs n ≡ Some x → argument_depth x ≤ depth_of xs
depth_nth [] n x is = absurd cc
depth_nth (y ∷ ys) zero x is = subst (λ z. argument_depth z ≤ depth_of (y ∷ ys)) (some-injective y x is) (omega arith)
depth_nth (y ∷ ys) (suc n) x is = omega (arith, depth_nth ys n x is)

pub value_depth : (a : Argument Nowhere) (v : Expression Nowhere) → argument_depth (with_value v a) ≤ max (argument_depth a) (expression_depth v)
value_depth (plain e) v = omega arith
value_depth (named s x e) v = omega arith
value_depth (pair s e f) v = omega arith

pub with_depth : (l : Listing Nowhere) (ys : List (Argument Nowhere)) → listing_depth (with_elements l ys) ≡ suc (depth_of ys)
with_depth (listing s trailing list) ys = omega arith

elements_depth : (l : Listing Nowhere) → listing_depth l ≡ suc (depth_of (elements l))
elements_depth (listing s trailing list) = omega (arith, ap arguments_depth (list-of-arguments list))

-- ---- elements

pub last_there : (ys : List (Argument Nowhere)) (m : ℕ) → length ys ≡ suc m → (x : Argument Nowhere) × (nth ys m ≡ Some x) × (drop (suc m) ys ≡ [])
last_there [] m many = absurd (omega (arith, many))
last_there (x ∷ []) zero many = (x, refl, refl)
last_there (x ∷ y ∷ ys) zero many = absurd (omega (arith, many))
last_there (x ∷ ys) (suc m) many = let fewer : length ys ≡ suc m = omega (arith, many) in last_there ys m fewer

pub no_elements : (ys : List (Argument Nowhere)) → length ys ≡ 0 → ys ≡ []
no_elements [] empty = refl
no_elements (y ∷ ys) empty = absurd (omega (arith, empty))

-- ---- one edit

module _ (c : CallRef) (b : Bracket) (limit : ℕ) (trees : List Plain) (all : All MayStandBetween trees) (s : ListStands c b limit trees) where
  pub record ListStep (e : Edit) (ys : List (Argument Nowhere)) : Type 0 where
    pub now : Plain
    pub is_stepped : stepped (step_in c e) trees ≡ Some (slice_set trees c.file now)
    pub doable : (steps : List Step) → AreDoable steps (slice_set trees c.file now) → AreDoable (step_in c e ∷ steps) trees
    pub stands : ListStands c b limit (slice_set trees c.file now)
    pub all_stand : All MayStandBetween (slice_set trees c.file now)
    pub are : elements stands.place.list ≡ ys
    pub is_now : now ≡ s.place.back (with_elements s.place.list ys)
    pub same_list : stands.place.list ≡ with_elements s.place.list ys
    pub same_back : (l : Listing Nowhere) → stands.place.back l ≡ s.place.back l

  abbrev pub xs : List (Argument Nowhere)
  xs = elements s.place.list

  abbrev path : List ℕ
  path = c.path.steps

  tree_level : LevelFile s.tree
  tree_level = (all_nth MayStandBetween trees c.file s.tree all s.is_tree).0

  old_depth : suc (depth_of xs) ≤ limit
  old_depth = omega (arith, s.fits, elements_depth s.place.list)

  list_step : (e : Edit) (ys : List (Argument Nowhere)) → Writes e → edited e s.tree ≡ Some (s.place.back (with_elements s.place.list ys)) → LevelFile (s.place.back (with_elements s.place.list ys))
      → suc (depth_of ys) ≤ limit → ListStep e ys
  list_step e ys writes is level small =
      let l = with_elements s.place.list ys in
      let fits : listing_depth l ≤ limit = omega (arith, with_depth s.place.list ys, small) in
      let now = s.place.back l in
      let now_stands : MayStandBetween now = (level, s.file_fits l fits) in
      let again = there_again s.tree path s.place s.is_place ys in
      record {
        now = now;
        is_stepped = change_there (edited e) trees c.file s.tree now s.is_tree is;
        doable = λ steps rest. step_doable (step_in c e) steps trees s.tree now s.is_tree is writes all now_stands rest;
        stands = record {
          tree = now;
          is_tree = changed_there trees c.file s.tree now s.is_tree;
          place = again.there;
          is_place = again.is_there;
          is_bracket = again.bracket ∙ s.is_bracket;
          fits = subst (λ m. listing_depth m ≤ limit) (sym again.list) fits;
          file_fits = λ m within. subst (λ t. file_depth t ≤ wide_depth) (sym (again.back m)) (s.file_fits m within);
        };
        all_stand = All-set MayStandBetween trees c.file now now_stands all;
        are = ap elements again.list ∙ elements_with s.place.list ys;
        is_now = refl;
        same_list = again.list;
        same_back = again.back;
      }

  -- an element goes
  pub remove_step : (n : ℕ) (it : Argument Nowhere) → nth xs n ≡ Some it → ListStep (Remove path n) (element_removed n xs it)
  remove_step n it is =
      let ys = element_removed n xs it in
      let made = edited_there s.tree path s.place s.is_place (Remove path n) ys (ap (option_map (element_removed n xs)) is) in
      list_step (Remove path n) ys tt made (removals-keep-levels path n s.tree (s.place.back (with_elements s.place.list ys)) tree_level made)
      (omega (arith, depth_append (take n xs) (drop (suc n) xs), depth_take n xs, depth_drop (suc n) xs, old_depth))

  -- the value of an element becomes another one
  pub replace_step : (n : ℕ) (it : Argument Nowhere) (v : Expression Nowhere) (new : Written (Expression Nowhere)) → nth xs n ≡ Some it → value_of it ≡ Some v → Writes (Replace path n new) → LevelExpression new.node
      → suc (expression_depth new.node) ≤ limit → ListStep (Replace path n new) (take n xs ++ with_value new.node it ∷ drop (suc n) xs)
  replace_step n it v new is is_value writes level small =
      let ys = take n xs ++ with_value new.node it ∷ drop (suc n) xs in
      let made = edited_there s.tree path s.place s.is_place (Replace path n new) ys
      (ap (option_and_then (exchanged n (λ w. new.node) xs)) is ∙ ap (option_map (λ w. take n xs ++ with_value new.node it ∷ drop (suc n) xs)) is_value) in
      list_step (Replace path n new) ys writes made (replacements-keep-levels path n new level s.tree (s.place.back (with_elements s.place.list ys)) tree_level made)
      (omega (arith, depth_append (take n xs) (with_value new.node it ∷ drop (suc n) xs), depth_take n xs, depth_drop (suc n) xs, value_depth it new.node, depth_nth xs n it is, old_depth, small))

  -- an element comes after another one
  pub insert_step : (m : ℕ) (it : Argument Nowhere) (new : Written (Argument Nowhere)) → nth xs m ≡ Some it → IsWritten new.bytes (argument_words new.node) → MayFollow b it (drop (suc m) xs) new.node
      → suc (argument_depth new.node) ≤ limit → ListStep (After path m new) (take (suc m) xs ++ new.node ∷ drop (suc m) xs)
  insert_step m it new is writes may small =
      let ys = take (suc m) xs ++ new.node ∷ drop (suc m) xs in
      let made = edited_there s.tree path s.place s.is_place (After path m new) ys (ap (option_map (element_added m new.node xs)) is) in
      let low = subst (λ k. MayFollow k it (drop (suc m) xs) new.node) (sym s.is_bracket) may in
      list_step (After path m new) ys writes made (insertions-keep-levels path m new s.tree (s.place.back (with_elements s.place.list ys)) s.place s.is_place it is low tree_level made)
      (omega (arith, depth_append (take (suc m) xs) (new.node ∷ drop (suc m) xs), depth_take (suc m) xs, depth_drop (suc m) xs, old_depth, small))

  -- an element comes behind all others
  module _ (new : Written (Argument Nowhere)) (writes : IsWritten new.bytes (argument_words new.node)) (first : LevelArgument new.node b false) (follows : (m : ℕ) (it : Argument Nowhere) → length xs ≡ suc m → nth xs m ≡ Some it → MayFollow b it [] new.node)
      (small : suc (argument_depth new.node) ≤ limit) where
    abbrev more : List (Argument Nowhere)
    more = xs ++ new.node ∷ []

    pub record BehindStep (st : Step) : Type 0 where
      pub edit : Edit
      pub is : st ≡ step_in c edit
      pub step : ListStep edit more

    more_depth : suc (depth_of more) ≤ limit
    more_depth = omega (arith, depth_append xs (new.node ∷ []), old_depth, small)

    first_step : length xs ≡ 0 → ListStep (First path new) more
    first_step empty =
        let nothing = no_elements xs empty in
        let made = edited_there s.tree path s.place s.is_place (First path new) more (first_there new.node xs nothing ∙ ap (λ ys. Some (ys ++ new.node ∷ [])) (sym nothing)) in
        let low = subst (λ k. LevelArgument new.node k false) (sym s.is_bracket) first in
        list_step (First path new) more writes made (firsts-keep-levels path new s.tree (s.place.back (with_elements s.place.list more)) s.place s.is_place low tree_level made) more_depth

    after_step : (m : ℕ) → length xs ≡ suc m → ListStep (After path m new) more
    after_step m many =
        let last = last_there xs m many in
        let whole = ap₂ (λ front back. front ++ new.node ∷ back) (take_all (suc m) xs (omega (arith, many))) last.2 in
        let made = edited_there s.tree path s.place s.is_place (After path m new) more (ap (option_map (element_added m new.node xs)) last.1 ∙ ap Some whole) in
        let may = subst (λ k. MayFollow k last.0 (drop (suc m) xs) new.node) (sym s.is_bracket) (subst (λ ys. MayFollow b last.0 ys new.node) (sym last.2) (follows m last.0 many last.1)) in
        list_step (After path m new) more writes made (insertions-keep-levels path m new s.tree (s.place.back (with_elements s.place.list more)) s.place s.is_place last.0 last.1 may tree_level made) more_depth

    pub behind_step : BehindStep (behind_all c (length xs) new)
    behind_step = go (length xs) refl
      where
        go : (m : ℕ) → length xs ≡ m → BehindStep (behind_all c m new)
        go zero many = record { edit = First path new; is = refl; step = first_step many }
        go (suc m) many = record { edit = After path m new; is = refl; step = after_step m many }
