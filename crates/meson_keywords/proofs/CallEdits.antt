-- One edit of the list of a call that stands: it may be done, and the call stands.
use Rattle.meson_keywords.proofs.Words.{◌≡◌, ℕ, zero, suc, ◌≤◌, List, [], ◌∷◌, ◌++◌, length, take, drop, Some, refl, sym, ap, ap₂, ◌∙◌, subst, arith, false}
use Rattle.meson_keywords.proofs.Words.{All, Option, max, option_and_then, option_map, slice_set, unwrap_or, take_all, All-set, LevelArgument, LevelExpression}
use Rattle.meson_keywords.proofs.Words.{LevelFile, argument_words, argument_depth, arguments_depth, expression_depth, file_depth, listing_depth, ListAt}
use Rattle.meson_keywords.proofs.Words.{list_at, nth, value_of, Nowhere, Plain, Expression, Listing, listing, Argument, plain, named, pair, arguments_of}
use Rattle.meson_keywords.proofs.Words.{list-of-arguments, some-injective, Written, Edit, First, After, Remove, Replace, Wrap, elements, with_elements}
use Rattle.meson_keywords.proofs.Words.{with_value, array_of, element_added, element_removed, exchanged, edited, IsWritten, Writes, MayFollow}
use Rattle.meson_keywords.proofs.Words.{firsts-keep-levels, insertions-keep-levels, removals-keep-levels, replacements-keep-levels, wraps-keep-levels, CallRef}
use Rattle.meson_keywords.proofs.Words.{AreDoable, MayStandBetween, none, one, wide_depth, step_in, Step, all_stepped, stepped, edited_there, elements_with}
use Rattle.meson_keywords.proofs.Words.{first_there, there_again, step_doable, all_nth, change_there, changed_there, CallStands, behind_all, elements_in}
use Rattle.meson_keywords.proofs.Words.{trees_after, written_named, LeavesCall}
use Rattle.std.specs.Option.{option_map_or}
use Rattle.meson_syntax.specs.declared.operator.Bracket.TheVariants as bracket

-- ---- depth

abbrev pub depth_of : List (Argument Nowhere) → ℕ
depth_of xs = arguments_depth (arguments_of xs)

pub depth_append : (xs ys : List (Argument Nowhere)) → depth_of (xs ++ ys) ≡ max (depth_of xs) (depth_of ys)
depth_append [] ys = omega arith
depth_append (x ∷ xs) ys = omega (arith, depth_append xs ys)

pub depth_take : (n : ℕ) (xs : List (Argument Nowhere)) → depth_of (take n xs) ≤ depth_of xs
depth_take zero xs = omega arith
depth_take (suc n) [] = omega arith
depth_take (suc n) (x ∷ xs) = omega (arith, depth_take n xs)

pub depth_drop : (n : ℕ) (xs : List (Argument Nowhere)) → depth_of (drop n xs) ≤ depth_of xs
depth_drop zero xs = omega arith
depth_drop (suc n) [] = omega arith
depth_drop (suc n) (x ∷ xs) = omega (arith, depth_drop n xs)

pub depth_nth : (xs : List (Argument Nowhere)) (n : ℕ) (x : Argument Nowhere) → nth xs n ≡ Some x → argument_depth x ≤ depth_of xs
depth_nth [] n x is = absurd cc
depth_nth (y ∷ ys) zero x is = subst (λ z. argument_depth z ≤ depth_of (y ∷ ys)) (some-injective y x is) (omega arith)
depth_nth (y ∷ ys) (suc n) x is = omega (arith, depth_nth ys n x is)

depth_put : (n m : ℕ) (xs : List (Argument Nowhere)) (a : Argument Nowhere) → argument_depth a ≤ max (depth_of xs) 1 → depth_of (take n xs ++ a ∷ drop m xs) ≤ max (depth_of xs) 1
depth_put n m xs a small = omega (arith, depth_append (take n xs) (a ∷ drop m xs), depth_take n xs, depth_drop m xs, small)

depth_gone : (n m : ℕ) (xs : List (Argument Nowhere)) → depth_of (take n xs ++ drop m xs) ≤ max (depth_of xs) 1
depth_gone n m xs = omega (arith, depth_append (take n xs) (drop m xs), depth_take n xs, depth_drop m xs)

pub value_depth : (a : Argument Nowhere) (v : Expression Nowhere) → argument_depth (with_value v a) ≤ max (argument_depth a) (expression_depth v)
value_depth (plain e) v = omega arith
value_depth (named s x e) v = omega arith
value_depth (pair s e f) v = omega arith

list_fits : (l : Listing Nowhere) (xs : List (Argument Nowhere)) (limit : ℕ) → 2 ≤ limit → listing_depth l ≤ limit → depth_of xs ≤ max (depth_of (elements l)) 1 → listing_depth (with_elements l xs) ≤ limit
list_fits (listing s trailing list) xs limit array_fits fits small = omega (arith, ap arguments_depth (list-of-arguments list), array_fits, fits, small)

-- ---- one edit

module _ (c : CallRef) (trees : List Plain) (all : All MayStandBetween trees) (s : CallStands c trees) where
  pub record CallStep (e : Edit) (ys : List (Argument Nowhere)) : Type 0 where
    pub now : Plain
    pub is_stepped : stepped (step_in c e) trees ≡ Some (slice_set trees c.file now)
    pub doable : (steps : List Step) → AreDoable steps (slice_set trees c.file now) → AreDoable (step_in c e ∷ steps) trees
    pub stands : CallStands c (slice_set trees c.file now)
    pub all_stand : All MayStandBetween (slice_set trees c.file now)
    pub are : elements stands.place.list ≡ ys

  abbrev pub xs : List (Argument Nowhere)
  xs = elements s.place.list

  abbrev path : List ℕ
  path = c.path.steps

  pub tree_level : LevelFile s.tree
  tree_level = (all_nth MayStandBetween trees c.file s.tree all s.is_tree).0

  pub call_step : (e : Edit) (ys : List (Argument Nowhere)) → Writes e → edited e s.tree ≡ Some (s.place.back (with_elements s.place.list ys)) → LevelFile (s.place.back (with_elements s.place.list ys))
      → depth_of ys ≤ max (depth_of xs) 1 → CallStep e ys
  call_step e ys writes is level small =
      let l = with_elements s.place.list ys in
      let now = s.place.back l in
      let fits = list_fits s.place.list ys s.limit s.array_fits s.call_fits small in
      let now_stands : MayStandBetween now = (level, s.file_fits l fits) in
      let again = there_again s.tree path s.place s.is_place ys in
      record {
        now = now;
        is_stepped = change_there (edited e) trees c.file s.tree now s.is_tree is;
        doable = λ steps rest. step_doable (step_in c e) steps trees s.tree now s.is_tree is writes all now_stands rest;
        stands = record {
          tree = now;
          is_tree = changed_there trees c.file s.tree now s.is_tree;
          place = again.there;
          is_place = again.is_there;
          is_round = again.bracket ∙ s.is_round;
          limit = s.limit;
          array_fits = s.array_fits;
          call_fits = subst (λ m. listing_depth m ≤ s.limit) (sym again.list) fits;
          file_fits = λ m within. subst (λ t. file_depth t ≤ wide_depth) (sym (again.back m)) (s.file_fits m within);
        };
        all_stand = All-set MayStandBetween trees c.file now now_stands all;
        are = ap elements again.list ∙ elements_with s.place.list ys;
      }

  -- an element goes
  pub remove_step : (n : ℕ) (it : Argument Nowhere) → nth xs n ≡ Some it → CallStep (Remove path n) (element_removed n xs it)
  remove_step n it is =
      let ys = element_removed n xs it in
      let made = edited_there s.tree path s.place s.is_place (Remove path n) ys (ap (option_map (element_removed n xs)) is) in
      call_step (Remove path n) ys tt made (removals-keep-levels path n s.tree (s.place.back (with_elements s.place.list ys)) tree_level made) (depth_gone n (suc n) xs)

  -- the value of an element becomes another one
  pub replace_step : (n : ℕ) (it : Argument Nowhere) (v : Expression Nowhere) (new : Written (Expression Nowhere)) → nth xs n ≡ Some it → value_of it ≡ Some v → Writes (Replace path n new) → LevelExpression new.node
      → expression_depth new.node ≤ 1 → CallStep (Replace path n new) (take n xs ++ with_value new.node it ∷ drop (suc n) xs)
  replace_step n it v new is is_value writes level small =
      let ys = take n xs ++ with_value new.node it ∷ drop (suc n) xs in
      let made = edited_there s.tree path s.place s.is_place (Replace path n new) ys
      (ap (option_and_then (exchanged n (λ w. new.node) xs)) is ∙ ap (option_map (λ w. take n xs ++ with_value new.node it ∷ drop (suc n) xs)) is_value) in
      call_step (Replace path n new) ys writes made (replacements-keep-levels path n new level s.tree (s.place.back (with_elements s.place.list ys)) tree_level made)
      (depth_put n (suc n) xs (with_value new.node it) (omega (arith, value_depth it new.node, depth_nth xs n it is, small)))

  -- or the array of it, where nothing nests in it
  pub wrap_step : (n : ℕ) (it : Argument Nowhere) (v : Expression Nowhere) → nth xs n ≡ Some it → value_of it ≡ Some v → expression_depth v ≡ 0 → CallStep (Wrap path n) (take n xs ++ with_value (array_of v) it ∷ drop (suc n) xs)
  wrap_step n it v is is_value flat =
      let ys = take n xs ++ with_value (array_of v) it ∷ drop (suc n) xs in
      let made = edited_there s.tree path s.place s.is_place (Wrap path n) ys
      (ap (option_and_then (exchanged n array_of xs)) is ∙ ap (option_map (λ w. take n xs ++ with_value (array_of w) it ∷ drop (suc n) xs)) is_value) in
      call_step (Wrap path n) ys tt made (wraps-keep-levels path n s.tree (s.place.back (with_elements s.place.list ys)) tree_level made)
      (depth_put n (suc n) xs (with_value (array_of v) it) (omega (arith, value_depth it (array_of v), depth_nth xs n it is, flat)))

  -- ---- a keyword argument behind all others

  pub last_there : (ys : List (Argument Nowhere)) (m : ℕ) → length ys ≡ suc m → (x : Argument Nowhere) × (nth ys m ≡ Some x) × (drop (suc m) ys ≡ [])
  last_there [] m many = absurd (omega (arith, many))
  last_there (x ∷ []) zero many = (x, refl, refl)
  last_there (x ∷ y ∷ ys) zero many = absurd (omega (arith, many))
  last_there (x ∷ ys) (suc m) many = let fewer : length ys ≡ suc m = omega (arith, many) in last_there ys m fewer

  pub no_elements : (ys : List (Argument Nowhere)) → length ys ≡ 0 → ys ≡ []
  no_elements [] empty = refl
  no_elements (y ∷ ys) empty = absurd (omega (arith, empty))

  pub record InsertStep (st : Step) (ys : List (Argument Nowhere)) : Type 0 where
    pub edit : Edit
    pub is : st ≡ step_in c edit
    pub step : CallStep edit ys

  module _ (key : List ℕ) (new : Written (Expression Nowhere)) (writes : IsWritten (written_named key new).bytes (argument_words (written_named key new).node)) (level : LevelExpression new.node) (small : expression_depth new.node ≤ 1) where
    abbrev it : Written (Argument Nowhere)
    it = written_named key new

    abbrev more : List (Argument Nowhere)
    more = xs ++ it.node ∷ []

    first_step : length xs ≡ 0 → CallStep (First path it) more
    first_step empty =
        let ys : List (Argument Nowhere) = it.node ∷ [] in
        let made = edited_there s.tree path s.place s.is_place (First path it) ys (first_there it.node xs (no_elements xs empty)) in
        let low : LevelArgument it.node s.place.bracket false = subst (λ b. LevelArgument it.node b false) (sym s.is_round) (refl, level) in
        let step = call_step (First path it) ys writes made (firsts-keep-levels path it s.tree (s.place.back (with_elements s.place.list ys)) s.place s.is_place low tree_level made) (omega (arith, small)) in
        subst (λ l. CallStep (First path it) (l ++ it.node ∷ [])) (sym (no_elements xs empty)) step

    after_step : (m : ℕ) (many : length xs ≡ suc m) → CallStep (After path m it) more
    after_step m many =
        let last = last_there xs m many in
        let ys = element_added m it.node xs last.0 in
        let made = edited_there s.tree path s.place s.is_place (After path m it) ys (ap (option_map (element_added m it.node xs)) last.1) in
        let follows : MayFollow bracket.Round last.0 (drop (suc m) xs) it.node = (last.2, level) in
        let step = call_step (After path m it) ys writes made
        (insertions-keep-levels path m it s.tree (s.place.back (with_elements s.place.list ys)) s.place s.is_place last.0 last.1 (subst (λ b. MayFollow b last.0 (drop (suc m) xs) it.node) (sym s.is_round) follows) tree_level made)
        (depth_put (suc m) (suc m) xs it.node (omega (arith, small))) in
        subst (CallStep (After path m it)) (ap₂ (λ front back. front ++ it.node ∷ back) (take_all (suc m) xs (omega (arith, many))) last.2) step

    pub insert_step : InsertStep (behind_all c (length xs) it) more
    insert_step = go (length xs) refl
      where
        go : (n : ℕ) → length xs ≡ n → InsertStep (behind_all c n it) more
        go zero many = record { edit = First path it; is = refl; step = first_step many }
        go (suc m) many = record { edit = After path m it; is = refl; step = after_step m many }

  abbrev elements_of : Option (ListAt Nowhere) → List (Argument Nowhere)
  elements_of o = option_map_or (λ (p : ListAt Nowhere). elements p.list) o []

  pub elements_are : elements_in c trees ≡ xs
  elements_are = ap (λ o. elements_of (option_and_then (λ t. list_at t path) o)) s.is_tree ∙ ap elements_of s.is_place

-- ---- steps that leave the call, with these elements

pub record LeavesAs (c : CallRef) (steps : List Step) (trees : List Plain) (ys : List (Argument Nowhere)) : Type 0 where
  pub call : LeavesCall c steps trees
  pub are : elements_in c (trees_after steps trees) ≡ ys

stepped_on : (steps : List Step) (ts : List Plain) → AreDoable steps ts → (after : List Plain) × (all_stepped steps ts ≡ Some after)
stepped_on steps ts (none now) = (now, refl)
stepped_on steps ts (one st more now between writes is stand rest) =
    let r = stepped_on more between rest in
    (r.0, ap (option_and_then (all_stepped more)) is ∙ r.1)

-- the trees after a step and further ones that may be done
pub after_one : (st : Step) (steps : List Step) (ts between : List Plain) → stepped st ts ≡ Some between → AreDoable steps between → trees_after (st ∷ steps) ts ≡ trees_after steps between
after_one st steps ts between is rest =
    let there = stepped_on steps between rest in
    ap (λ o. unwrap_or (option_and_then (all_stepped steps) o) ts) is ∙ ap (λ o. unwrap_or o ts) there.1 ∙ sym (ap (λ o. unwrap_or o between) there.1)

module _ (c : CallRef) (trees : List Plain) (all : All MayStandBetween trees) (s : CallStands c trees) where
  pub none_leaves : LeavesAs c [] trees (xs c trees all s)
  none_leaves = record { call = record { doable = none trees; stands = s }; are = elements_are c trees all s }

  module _ (e : Edit) (ys : List (Argument Nowhere)) (k : CallStep c trees all s e ys) where
    abbrev now : List Plain
    now = slice_set trees c.file k.now

    pub more_leaves : (steps : List Step) (zs : List (Argument Nowhere)) → LeavesAs c steps now zs → LeavesAs c (step_in c e ∷ steps) trees zs
    more_leaves steps zs r =
        let after = after_one (step_in c e) steps trees now k.is_stepped r.call.doable in
        record {
          call = record { doable = k.doable steps r.call.doable; stands = subst (CallStands c) (sym after) r.call.stands };
          are = ap (elements_in c) after ∙ r.are;
        }

    pub one_leaves : LeavesAs c (step_in c e ∷ []) trees ys
    one_leaves =
        let last : LeavesAs c [] now ys = record { call = record { doable = none now; stands = k.stands }; are = elements_are c now k.all_stand k.stands ∙ k.are } in
        more_leaves [] ys last

  pub inserted_leaves : (st : Step) (ys : List (Argument Nowhere)) → InsertStep c trees all s st ys → LeavesAs c (st ∷ []) trees ys
  inserted_leaves st ys i = subst (λ x. LeavesAs c (x ∷ []) trees ys) (sym i.is) (one_leaves i.edit ys i.step)
