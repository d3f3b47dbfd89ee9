-- How the list that gets strings is come to, and what variables stand for before and after.
use Rattle.meson_syntax.specs.declared.operator.Bracket.TheVariants as bracket
use Rattle.meson_syntax.specs.Tree as tree
use Rattle.meson_syntax.proofs.paths.Fits.{LevelNode}
use Rattle.meson_sources.proofs.Words.{All, bytes_eq, if◌then◌else◌, option_map, ◌||◌, ◌⊎◌, [], ap, ap₂, Bool, false, inl, inr, List, None, Option, refl, Some}
use Rattle.meson_sources.proofs.Words.{subst, suc, sym, true, zero, ℕ, ◌++◌, ◌∙◌, ◌∷◌, ◌≡◌, bytes_eq-Decides, Span, a_block, an_expression, Any}
use Rattle.meson_sources.proofs.Words.{arguments_parts, LevelArguments, LevelExpression, LevelFile, block_of, expression_of, expression_on_path, Node, nth}
use Rattle.meson_sources.proofs.Words.{of_block, of_expression, of_statement, reach, Sort, Arguments, call, erase_expression, Expression, file, Listing, Name}
use Rattle.meson_sources.proofs.Words.{Nowhere, Plain, child_nodes, expression_any, node_at, expression-reached, some-injective, and-then-some, reach-fits}
use Rattle.meson_sources.proofs.Words.{Loaded, project, child, expression_at, place, Placed, one_of, CallRef, expand_by, expand_listing, Expansion}
use Rattle.meson_sources.proofs.Words.{follow_single, is_files, is_operand_by, is_value_by, max_followed, met, opaque, Stand, within, list_of_slot, single}
use Rattle.meson_sources.proofs.Words.{MayStandBetween, plain_trees, Differ, here, there, all_nth}
use Rattle.meson_sources.proofs.met.Arguments.{whole, whole_same, whole_along}
use Rattle.meson_sources.proofs.met.Expressions.{along}
use Rattle.meson_sources.proofs.met.Marks.{Values, expand_with, list_by, lists_by, bare_value, values_of}
use Rattle.meson_sources.proofs.met.Outcomes.{Outcome, Along, along_same, opaque_both}
use Rattle.meson_sources.proofs.met.Variables.{Kin, Level, followed, levels, same_holds, Equal, OnTheWay, neither, equal, on_the_way}
use Rattle.meson_sources.proofs.trees.Places.{below, below_itself, Far, IsIt, far_deeper, far_apart, aside_far, above_it, node_between, single_stands, under}
use Rattle.meson_sources.proofs.trees.Places.{below_below, one_goes_on}
use Rattle.meson_sources.proofs.trees.Scenes.{NodeIn, bare_in, names_of, node_above, next_in, node_away, same_in, value_apart}
use Rattle.meson_sources.proofs.trees.Shapes.{Becomes, on_path}
use Rattle.meson_sources.proofs.trees.Skeletons.{blanks}

-- ==== The three ways on which a list that gets strings is come to: by a variable, by an argument of the call, or it is the call's own.

abbrev pub always : List (List ℕ) → Bool
always f = true

-- a call that is no call of `files` is met as one whose sources are not known
pub opaque_call : (lists : Expression Nowhere → Bool) (follow : List ℕ → List (List ℕ) → Expansion Nowhere) (r : Nowhere) (x : Name Nowhere) (l : Listing Nowhere) → is_files x.text l ≡ false → (s : Stand) (f : List (List ℕ))
    → expand_by lists follow (call r x l) s f ≡ met opaque f
opaque_call lists follow r x l is s f = ap (λ b. if b then within s.place (expand_listing lists follow l s f) else met opaque f) is

opaque_calls : (new : List (List ℕ)) (bad : CallRef → Type 0) (seen : List (List ℕ) → Bool) (b : Bool) (lists lists2 : Expression Nowhere → Bool) (follow follow2 : List ℕ → List (List ℕ) → Expansion Nowhere)
    (r r2 : Nowhere) (x x2 : Name Nowhere) (l l2 : Listing Nowhere) → is_files x.text l ≡ false → is_files x2.text l2 ≡ false → (s u : Stand) (f g : List (List ℕ)) → g ≡ f → seen f ≡ true
    → Along new bad seen b (expand_by lists follow (call r x l) s f) (expand_by lists2 follow2 (call r2 x2 l2) u g)
opaque_calls new bad seen b lists lists2 follow follow2 r r2 x x2 l l2 is is2 s u f g are_equal behind =
    subst (λ z. Along new bad seen b z (expand_by lists2 follow2 (call r2 x2 l2) u g)) (sym (opaque_call lists follow r x l is s f))
    (subst (λ z. Along new bad seen b (met opaque f) z) (sym (opaque_call lists2 follow2 r2 x2 l2 is2 u g)) (along_same new bad seen b f _ _ behind (opaque_both new bad seen f g are_equal)))

-- ---- by a variable

module _ (new : List (List ℕ)) (h : CallRef) (older newer : Expression Nowhere) (kind : (holds holds2 : List ℕ → Bool) → is_operand_by holds2 newer ≡ is_operand_by holds older) (value_kind : (m m2 : Expression Nowhere → Bool) → is_value_by m2 newer ≡ is_value_by m older)
    (b : Bool) (base : (bad : CallRef → Type 0) (seen : List (List ℕ) → Bool) (holds holds2 : List ℕ → Bool) (alike : (x : List ℕ) → holds2 x ≡ holds x) (follow follow2 : List ℕ → List (List ℕ) → Expansion Nowhere)
    → ((x : List ℕ) (f : List (List ℕ)) → one_of f x ≡ false → Outcome new bad seen f (follow x f) (follow2 x f)) → (s u : Stand) (f g : List (List ℕ)) → g ≡ f → seen f ≡ true
    → Along new bad seen b (expand_by (is_operand_by holds) follow older s f) (expand_by (is_operand_by holds2) follow2 newer u g)) where
  module _ (seen : List (List ℕ) → Bool) (values values2 : Values) where
    abbrev pub KinV : List ℕ → Type 0
    KinV x = Kin new (IsIt h) seen (Far h) (far_deeper h) (far_apart h) older newer kind value_kind h b (aside_far h h [] (sym (below_itself h))) (above_it h h [] (sym (below_itself h))) values values2 x

    pub level_v : (kin : (x : List ℕ) → KinV x) → Level new (IsIt h) seen (Far h) (far_deeper h) (far_apart h) older newer kind value_kind h b (aside_far h h [] (sym (below_itself h))) (above_it h h [] (sym (below_itself h))) values values2 kin
        (λ follow follow2 follows s u f g leads are_equal behind. base (IsIt h) seen _ _ (same_holds new (IsIt h) seen (Far h) (far_deeper h) (far_apart h) older newer kind value_kind h b (aside_far h h [] (sym (below_itself h))) (above_it h h [] (sym (below_itself h))) values values2 kin) follow follow2 follows s u f g are_equal behind)
        max_followed
    level_v kin = levels new (IsIt h) seen (Far h) (far_deeper h) (far_apart h) older newer kind value_kind h b (aside_far h h [] (sym (below_itself h))) (above_it h h [] (sym (below_itself h))) values values2 kin
        (λ follow follow2 follows s u f g leads are_equal behind. base (IsIt h) seen _ _ (same_holds new (IsIt h) seen (Far h) (far_deeper h) (far_apart h) older newer kind value_kind h b (aside_far h h [] (sym (below_itself h))) (above_it h h [] (sym (below_itself h))) values values2 kin) follow follow2 follows s u f g are_equal behind)
        max_followed

    -- a call that is not above the list
    pub far_call : (kin : (x : List ℕ) → KinV x) (c : CallRef) → Far h c → (xs : Arguments Nowhere) → Outcome new (IsIt h) seen [] (whole (expand_with values max_followed) c xs []) (whole (expand_with values2 max_followed) c xs [])
    far_call kin c far xs =
        let l = level_v kin in
        whole_same new (IsIt h) seen (Far h) (an_expression older) (an_expression newer) h b (expand_with values max_followed) (expand_with values2 max_followed) l.same c xs (far_apart h c far) (λ k le. far_deeper h c k far) [] [] refl

    -- a call with the list in one of its arguments
    pub call_above : (kin : (x : List ℕ) → KinV x) → seen [] ≡ true → (c : CallRef) (m : ℕ) (path : List ℕ) → h ≡ below c (m ∷ path) → (y next : Any Nowhere) → Becomes (an_expression older) (an_expression newer) path y next → (xs ys : Arguments Nowhere)
        → blanks ys ≡ blanks xs → Differ y next m (arguments_parts xs) (arguments_parts ys) → LevelArguments xs bracket.Round false → Along new (IsIt h) seen b (whole (expand_with values max_followed) c xs []) (whole (expand_with values2 max_followed) c ys [])
    call_above kin behind c m path leads y next way xs ys bs d level =
        let l = level_v kin in
        whole_along new (IsIt h) seen (Far h) (an_expression older) (an_expression newer) h b (expand_with values max_followed) (expand_with values2 max_followed) l.same c l.way m path leads
        (λ j other. aside_far h h [] (sym (below_itself h)) c m j path leads other) (above_it h h [] (sym (below_itself h)) c m path leads) y next way xs ys bs d bracket.Round false refl level [] [] refl behind

-- ---- by an argument of the call

module _ (new : List (List ℕ)) (bad : CallRef → Type 0) (away : CallRef → Type 0) (deeper : (p : CallRef) (n : ℕ) → away p → away (child p n)) (apart : (p : CallRef) → away p → bad p → ⊥)
    (r r2 : Nowhere) (x x2 : Name Nowhere) (l l2 : Listing Nowhere) (is : is_files x.text l ≡ false) (is2 : is_files x2.text l2 ≡ false) (c : CallRef)
    (aside : (p : CallRef) (n m : ℕ) (path : List ℕ) → c ≡ below p (n ∷ path) → (n ≡ m → ⊥) → away (child p m)) (above : (p : CallRef) (n : ℕ) (path : List ℕ) → c ≡ below p (n ∷ path) → bad p → ⊥) (values values2 : Values) where
  pub kind_c : (holds holds2 : List ℕ → Bool) → is_operand_by holds2 (call r2 x2 l2) ≡ is_operand_by holds (call r x l)
  kind_c holds holds2 = is2 ∙ sym is

  pub value_c : (m m2 : Expression Nowhere → Bool) → is_value_by m2 (call r2 x2 l2) ≡ is_value_by m (call r x l)
  value_c m m2 = is2 ∙ sym is

  abbrev pub KinC : List ℕ → Type 0
  KinC y = Kin new bad always away deeper apart (call r x l) (call r2 x2 l2) kind_c value_c c false aside above values values2 y

  module _ (kin : (y : List ℕ) → KinC y) where
    abbrev holds : List ℕ → Bool
    holds = list_by values max_followed

    abbrev holds2 : List ℕ → Bool
    holds2 = list_by values2 max_followed

    base_c : (follow follow2 : List ℕ → List (List ℕ) → Expansion Nowhere) → ((y : List ℕ) (f : List (List ℕ)) → one_of f y ≡ false → Outcome new bad always f (follow y f) (follow2 y f)) → (s u : Stand) (f g : List (List ℕ))
        → c ≡ below s.place [] → g ≡ f → always f ≡ true → Along new bad always false (expand_by (is_operand_by holds) follow (call r x l) s f) (expand_by (is_operand_by holds2) follow2 (call r2 x2 l2) u g)
    base_c follow follow2 follows s u f g leads are_equal behind = opaque_calls new bad always false (is_operand_by holds) (is_operand_by holds2) follow follow2 r r2 x x2 l l2 is is2 s u f g are_equal behind

    level_c : (left : ℕ) → Level new bad always away deeper apart (call r x l) (call r2 x2 l2) kind_c value_c c false aside above values values2 kin base_c left
    level_c left = levels new bad always away deeper apart (call r x l) (call r2 x2 l2) kind_c value_c c false aside above values values2 kin base_c left

    pub same_c : (e : Expression Nowhere) (s u : Stand) (f g : List (List ℕ)) → g ≡ f → away s.place → ((q : CallRef) → list_of_slot s.slot ≡ Some q → bad q → ⊥)
        → Outcome new bad always f (expand_with values max_followed e s f) (expand_with values2 max_followed e u g)
    same_c = (level_c max_followed).same

    module _ (h : CallRef) (older newer : Expression Nowhere) (kind : (m m2 : List ℕ → Bool) → is_operand_by m2 newer ≡ is_operand_by m older)
        (base : (seen : List (List ℕ) → Bool) (m m2 : List ℕ → Bool) (alike : (y : List ℕ) → m2 y ≡ m y) (follow follow2 : List ℕ → List (List ℕ) → Expansion Nowhere)
        → ((y : List ℕ) (f : List (List ℕ)) → one_of f y ≡ false → Outcome new bad seen f (follow y f) (follow2 y f)) → (s u : Stand) (f g : List (List ℕ)) → g ≡ f → seen f ≡ true
        → Along new bad seen true (expand_by (is_operand_by m) follow older s f) (expand_by (is_operand_by m2) follow2 newer u g))
        (aside_h : (p : CallRef) (n m : ℕ) (path : List ℕ) → h ≡ below p (n ∷ path) → (n ≡ m → ⊥) → away (child p m)) (above_h : (p : CallRef) (n : ℕ) (path : List ℕ) → h ≡ below p (n ∷ path) → bad p → ⊥) where
      way_c : (left : ℕ) (path : List ℕ) (e e2 : Expression Nowhere) (s u : Stand) (f g : List (List ℕ)) → Becomes (an_expression older) (an_expression newer) path (an_expression e) (an_expression e2) → LevelExpression e → h ≡ below s.place path → g ≡ f
          → always f ≡ true → Along new bad always true (expand_with values (suc left) e s f) (expand_with values2 (suc left) e2 u g)
      unfolding lists_by
      way_c left =
          let alike = same_holds new bad always away deeper apart (call r x l) (call r2 x2 l2) kind_c value_c c false aside above values values2 kin in
          let follows = followed new bad always away deeper apart (call r x l) (call r2 x2 l2) kind_c value_c c false aside above values values2 kin base_c left (level_c left) in
          along new bad always away deeper apart holds holds2 alike older newer (kind holds holds2) (λ y f. follow_single (expand_with values left) y f (values y)) (λ y f. follow_single (expand_with values2 left) y f (values2 y)) follows h true aside_h above_h
          (λ s u f g leads are_equal behind. base always holds holds2 alike (λ y f. follow_single (expand_with values left) y f (values y)) (λ y f. follow_single (expand_with values2 left) y f (values2 y)) follows s u f g are_equal behind)

      pub arguments_above : (m : ℕ) (path : List ℕ) → h ≡ below c (m ∷ path) → (y next : Any Nowhere) → Becomes (an_expression older) (an_expression newer) path y next → (xs ys : Arguments Nowhere)
          → blanks ys ≡ blanks xs → Differ y next m (arguments_parts xs) (arguments_parts ys) → LevelArguments xs bracket.Round false → Along new bad always true (whole (expand_with values max_followed) c xs []) (whole (expand_with values2 max_followed) c ys [])
      arguments_above m path leads y next way xs ys bs d level =
          whole_along new bad always away (an_expression older) (an_expression newer) h true (expand_with values max_followed) (expand_with values2 max_followed) same_c c (way_c 63) m path leads
          (λ j other. aside_h c m j path leads other) (above_h c m path leads) y next way xs ys bs d bracket.Round false refl level [] [] refl refl

-- ==== What variables stand for before and after one list has got strings: the same, or an expression with this list in it.

-- ---- levels of nodes

level_of : (S : Type 0) (sort : Sort) (x : Node sort S) (e : Expression S) → expression_of S sort x ≡ Some e → LevelNode S sort x → LevelExpression e
level_of S of_expression x e is level = subst LevelExpression (some-injective x e is) level
level_of S of_statement x e is level = absurd cc
level_of S of_block x e is level = absurd cc

level_there : (S : Type 0) (f : tree.File S) (path : List ℕ) (e : Expression S) → LevelFile f → expression_on_path f path ≡ Some e → LevelExpression e
level_there S (file s b) path e level is =
    let o = and-then-some (λ h. expression_of S h.sort h.inside) (reach S of_block b path) e is in
    level_of S o.0.sort o.0.inside e o.2 ((reach-fits S of_block b path o.0 o.1).inside level)

pub node_level : (ts : List Plain) → All MayStandBetween ts → (p : CallRef) (e : Expression Nowhere) → NodeIn ts p (an_expression e) → LevelExpression e
node_level ts stand p e n =
    level_there Nowhere n.tree p.path.steps e (all_nth MayStandBetween ts p.file n.tree stand n.is_tree).0
    (expression-reached Nowhere n.tree p.path.steps ∙ ap (λ o. elim o [ None ↦ None | Some y ↦ expression_any y ]) n.is_node)

-- ---- a node that stays

differ_same : {A : Type 0} (xs : List A) (n : ℕ) (x : A) → nth xs n ≡ Some x → Differ x x n xs xs
differ_same [] n x is = absurd cc
differ_same (y ∷ xs) zero x is = let same : y ≡ x = cc in rw same here
differ_same (y ∷ xs) (suc n) x is = there (differ_same xs n x is)

pub becomes_same : (path : List ℕ) (x y : Any Nowhere) → node_at x path ≡ Some y → Becomes y y path x x
becomes_same [] x y is = let same = some-injective x y is in (same, same)
becomes_same (n ∷ path) x y is =
    let o = and-then-some (λ z. node_at z path) (nth (child_nodes x) n) y is in
    (o.0, o.0, record { parts = differ_same (child_nodes x) n o.0 o.1; skeletons = refl; shapes = refl }, becomes_same path o.0 y o.2)

pub node_below : (ts : List Plain) (p : CallRef) (rest : List ℕ) (x y : Any Nowhere) → NodeIn ts p x → NodeIn ts (below p rest) y → node_at x rest ≡ Some y
node_below ts p rest x y m n =
    let same_tree : n.tree ≡ m.tree = some-injective _ _ (sym n.is_tree ∙ m.is_tree) in
    sym (node_between p.path.steps rest (a_block (block_of m.tree)) x m.is_node) ∙ ap (λ t. node_at (a_block (block_of t)) (p.path.steps ++ rest)) (sym same_tree) ∙ n.is_node

-- ---- what variables stand for

abbrev pub placed_of : Option (Placed (Expression Span)) → Option CallRef
placed_of o = option_map (λ (v : Placed (Expression Span)). v.place) o

module _ (new_texts : List (List ℕ)) (bad : CallRef → Type 0) (seen : List (List ℕ) → Bool) (away : CallRef → Type 0) (deeper : (p : CallRef) (n : ℕ) → away p → away (child p n)) (apart : (p : CallRef) → away p → bad p → ⊥)
    (older newer : Expression Nowhere) (kind : (holds holds2 : List ℕ → Bool) → is_operand_by holds2 newer ≡ is_operand_by holds older) (value_kind : (m m2 : Expression Nowhere → Bool) → is_value_by m2 newer ≡ is_value_by m older)
    (t : CallRef) (b : Bool) (aside : (p : CallRef) (n m : ℕ) (path : List ℕ) → t ≡ below p (n ∷ path) → (n ≡ m → ⊥) → away (child p m)) (above : (p : CallRef) (n : ℕ) (path : List ℕ) → t ≡ below p (n ∷ path) → bad p → ⊥)
    (old new : Loaded) (places : (x : List ℕ) → placed_of (single (project new) x) ≡ placed_of (single (project old) x)) where
  abbrev KinOf : List ℕ → Type 0
  KinOf x = Kin new_texts bad seen away deeper apart older newer kind value_kind t b aside above (values_of (project old)) (values_of (project new)) x

  abbrev EqualOf : List ℕ → Placed (Expression Nowhere) → Placed (Expression Nowhere) → Type 0
  EqualOf = Equal new_texts bad seen away deeper apart older newer kind value_kind t b aside above (values_of (project old)) (values_of (project new))

  abbrev WayOf : List ℕ → Placed (Expression Nowhere) → Placed (Expression Nowhere) → Type 0
  WayOf = OnTheWay new_texts bad seen away deeper apart older newer kind value_kind t b aside above (values_of (project old)) (values_of (project new))

  -- by what it is where it is one expression in both
  pub kin_by : ((x : List ℕ) (v v2 : Placed (Expression Span)) → single (project old) x ≡ Some v → single (project new) x ≡ Some v2 → v2.place ≡ v.place → EqualOf x (bare_value v) (bare_value v2) ⊎ WayOf x (bare_value v) (bare_value v2))
      → (x : List ℕ) → KinOf x
  kin_by both x = go (single (project old) x) refl (single (project new) x) refl (places x)
    where
      go : (o : Option (Placed (Expression Span))) → single (project old) x ≡ o → (o2 : Option (Placed (Expression Span))) → single (project new) x ≡ o2 → placed_of (single (project new) x) ≡ placed_of (single (project old) x) → KinOf x
      go None is None is2 same = neither (ap (option_map bare_value) is) (ap (option_map bare_value) is2)
      go None is (Some v2) is2 same = let none : Some v2.place ≡ None = sym (ap placed_of is2) ∙ same ∙ ap placed_of is in absurd cc
      go (Some v) is None is2 same = let none : None ≡ Some v.place = sym (ap placed_of is2) ∙ same ∙ ap placed_of is in absurd cc
      go (Some v) is (Some v2) is2 same =
          let place_same : v2.place ≡ v.place = some-injective _ _ (sym (ap placed_of is2) ∙ same ∙ ap placed_of is) in
          found (both x v v2 is is2 place_same)
        where
          found : EqualOf x (bare_value v) (bare_value v2) ⊎ WayOf x (bare_value v) (bare_value v2) → KinOf x
          found (inl e) = equal (bare_value v) (bare_value v2) (ap (option_map bare_value) is) (ap (option_map bare_value) is2) e
          found (inr w) = on_the_way (bare_value v) (bare_value v2) (ap (option_map bare_value) is) (ap (option_map bare_value) is2) w

-- the value stands where it did
pub value_in : (l : Loaded) (x : List ℕ) (v : Placed (Expression Span)) (p : CallRef) → single (project l) x ≡ Some v → v.place ≡ p → NodeIn (plain_trees l) p (an_expression (erase_expression v.it))
value_in l x v p is same = bare_in l p v.it (subst (λ c. expression_at (project l) c ≡ Some v.it) same (single_stands (project l) x v is))

-- ==== What variables stand for before and after an addition, by where the list is that gets strings.

same_expression : (e d : Expression Nowhere) → an_expression e ≡ an_expression d → e ≡ d
same_expression e d is = cc

-- a variable that has been followed
seen_first : (x x0 : List ℕ) (f : List (List ℕ)) → one_of f x ≡ false → x ≡ x0 → (one_of (x ∷ f) x0 ≡ true) × (one_of f x0 ≡ false)
seen_first x x0 f not_yet same =
    (ap (λ b. b || one_of f x0) ((bytes_eq-Decides x x0).1 same), subst (λ y. one_of f y ≡ false) same not_yet)

settled_by : (x x0 : List ℕ) (f : List (List ℕ)) → one_of f x ≡ false → (one_of (x ∷ f) x0 ≡ one_of f x0) ⊎ ((one_of f x0 ≡ false) × (one_of (x ∷ f) x0 ≡ true))
settled_by x x0 f not_yet = go (bytes_eq x x0) refl
  where
    go : (b : Bool) → bytes_eq x x0 ≡ b → (one_of (x ∷ f) x0 ≡ one_of f x0) ⊎ ((one_of f x0 ≡ false) × (one_of (x ∷ f) x0 ≡ true))
    go true is = let s = seen_first x x0 f not_yet ((bytes_eq-Decides x x0).0 is) in inr (s.1, s.0)
    go false is = inl (ap (λ b. b || one_of f x0) is)

module _ (new_texts : List (List ℕ)) (old new : Loaded) (names : names_of new.files ≡ names_of old.files) (h : CallRef) (tree now : Plain) (was : nth (plain_trees old) h.file ≡ Some tree) (is_now : nth (plain_trees new) h.file ≡ Some now)
    (others : (i : ℕ) → (h.file ≡ i → ⊥) → nth (plain_trees new) i ≡ nth (plain_trees old) i) (older newer : Expression Nowhere)
    (becomes : Becomes (an_expression older) (an_expression newer) h.path.steps (a_block (block_of tree)) (a_block (block_of now))) (stand : All MayStandBetween (plain_trees old))
    (places : (x : List ℕ) → placed_of (single (project new) x) ≡ placed_of (single (project old) x)) where
  abbrev ts : List Plain
  ts = plain_trees old

  abbrev us : List Plain
  us = plain_trees new

  equal_value : (x : List ℕ) (v v2 : Placed (Expression Span)) → single (project old) x ≡ Some v → single (project new) x ≡ Some v2 → v2.place ≡ v.place → Far h v.place → erase_expression v2.it ≡ erase_expression v.it
  equal_value x v v2 is is2 same far =
      let below_it = node_away old new names h tree now was is_now others older newer becomes v.place far (value_apart old new names h tree now was is_now others older newer becomes x v is) _ (value_in old x v v.place is refl) in
      same_expression _ _ (same_in old new names h tree now was is_now others older newer becomes us v.place _ _ below_it (value_in new x v2 v.place is2 same))

  way_value : (x : List ℕ) (v v2 : Placed (Expression Span)) → single (project old) x ≡ Some v → single (project new) x ≡ Some v2 → v2.place ≡ v.place → (rest : List ℕ) → h ≡ below v.place rest
      → Becomes (an_expression older) (an_expression newer) rest (an_expression (erase_expression v.it)) (an_expression (erase_expression v2.it))
  way_value x v v2 is is2 same rest leads =
      let n = value_in old x v v.place is refl in
      let r = node_above old new names h tree now was is_now others older newer becomes v.place rest leads _ n in
      let it = same_in old new names h tree now was is_now others older newer becomes us v.place _ _ (next_in old new names h tree now was is_now others older newer becomes v.place rest leads _ n) (value_in new x v2 v.place is2 same) in
      subst (Becomes (an_expression older) (an_expression newer) rest (an_expression (erase_expression v.it))) (sym it) r.further

  -- ---- by a variable

  module _ (kind : (holds holds2 : List ℕ → Bool) → is_operand_by holds2 newer ≡ is_operand_by holds older) (value_kind : (m m2 : Expression Nowhere → Bool) → is_value_by m2 newer ≡ is_value_by m older) (x0 : List ℕ)
      (owned : (x : List ℕ) (v : Placed (Expression Span)) → single (project old) x ≡ Some v → (rest : List ℕ) → h ≡ below v.place rest → x ≡ x0) where
    abbrev VEqual : List ℕ → Placed (Expression Nowhere) → Placed (Expression Nowhere) → Type 0
    VEqual = Equal new_texts (IsIt h) (λ f. one_of f x0) (Far h) (far_deeper h) (far_apart h) older newer kind value_kind h true (aside_far h h [] (sym (below_itself h))) (above_it h h [] (sym (below_itself h))) (values_of (project old)) (values_of (project new))

    abbrev VWay : List ℕ → Placed (Expression Nowhere) → Placed (Expression Nowhere) → Type 0
    VWay = OnTheWay new_texts (IsIt h) (λ f. one_of f x0) (Far h) (far_deeper h) (far_apart h) older newer kind value_kind h true (aside_far h h [] (sym (below_itself h))) (above_it h h [] (sym (below_itself h))) (values_of (project old)) (values_of (project new))

    v_by : (x : List ℕ) (v v2 : Placed (Expression Span)) → single (project old) x ≡ Some v → single (project new) x ≡ Some v2 → v2.place ≡ v.place
        → ((rest : List ℕ) × (h ≡ below v.place rest)) ⊎ ((rest : List ℕ) → h ≡ below v.place rest → ⊥) → VEqual x (bare_value v) (bare_value v2) ⊎ VWay x (bare_value v) (bare_value v2)
    v_by x v v2 is is2 same (inl w) = inr (record {
      path = w.0;
      leads = w.1;
      way = way_value x v v2 is is2 same w.0 w.1;
      level = node_level ts stand v.place _ (value_in old x v v.place is refl);
      settled = λ f not_yet. let s = seen_first x x0 f not_yet (owned x v is w.0 w.1) in (s.0, inl s.1);
    })
    v_by x v v2 is is2 same (inr far) = inl (record { same = equal_value x v v2 is is2 same far; far = far; settled = λ f not_yet. settled_by x x0 f not_yet })

    pub kin_v : (x : List ℕ) → Kin new_texts (IsIt h) (λ f. one_of f x0) (Far h) (far_deeper h) (far_apart h) older newer kind value_kind h true (aside_far h h [] (sym (below_itself h))) (above_it h h [] (sym (below_itself h)))
        (values_of (project old)) (values_of (project new)) x
    kin_v =
        kin_by new_texts (IsIt h) (λ f. one_of f x0) (Far h) (far_deeper h) (far_apart h) older newer kind value_kind h true (aside_far h h [] (sym (below_itself h))) (above_it h h [] (sym (below_itself h))) old new places
        (λ x v v2 is is2 same. v_by x v v2 is is2 same (under v.place h))

  -- ---- with the list in the call

  module _ (bad : CallRef → Type 0) (away : CallRef → Type 0) (deeper : (p : CallRef) (n : ℕ) → away p → away (child p n)) (apart : (p : CallRef) → away p → bad p → ⊥) (from_far : (p : CallRef) → Far h p → away p)
      (r r2 : Nowhere) (f f2 : Name Nowhere) (l l2 : Listing Nowhere) (is_call : is_files f.text l ≡ false) (is_call2 : is_files f2.text l2 ≡ false) (c : CallRef)
      (aside : (p : CallRef) (n m : ℕ) (path : List ℕ) → c ≡ below p (n ∷ path) → (n ≡ m → ⊥) → away (child p m)) (above : (p : CallRef) (n : ℕ) (path : List ℕ) → c ≡ below p (n ∷ path) → bad p → ⊥)
      (at_c : NodeIn ts c (an_expression (call r f l))) (at_c2 : NodeIn us c (an_expression (call r2 f2 l2))) (extra : List ℕ) (leads : h ≡ below c extra)
      (outside : (x : List ℕ) (v : Placed (Expression Span)) → single (project old) x ≡ Some v → (m : ℕ) (rest : List ℕ) → v.place ≡ below c (m ∷ rest) → ⊥) where
    abbrev CEqual : List ℕ → Placed (Expression Nowhere) → Placed (Expression Nowhere) → Type 0
    CEqual = Equal new_texts bad always away deeper apart (call r f l) (call r2 f2 l2) (kind_c new_texts bad away deeper apart r r2 f f2 l l2 is_call is_call2 c aside above (values_of (project old)) (values_of (project new)))
        (value_c new_texts bad away deeper apart r r2 f f2 l l2 is_call is_call2 c aside above (values_of (project old)) (values_of (project new))) c false aside above (values_of (project old)) (values_of (project new))

    abbrev CWay : List ℕ → Placed (Expression Nowhere) → Placed (Expression Nowhere) → Type 0
    CWay = OnTheWay new_texts bad always away deeper apart (call r f l) (call r2 f2 l2) (kind_c new_texts bad away deeper apart r r2 f f2 l l2 is_call is_call2 c aside above (values_of (project old)) (values_of (project new)))
        (value_c new_texts bad away deeper apart r r2 f f2 l l2 is_call is_call2 c aside above (values_of (project old)) (values_of (project new))) c false aside above (values_of (project old)) (values_of (project new))

    far_from_call : (x : List ℕ) (v : Placed (Expression Span)) → single (project old) x ≡ Some v → ((rest : List ℕ) → c ≡ below v.place rest → ⊥) → Far h v.place
    far_from_call x v is not rest are_equal = go (one_goes_on v.place.path.steps rest c.path.steps extra (ap (λ (q : CallRef). q.path.steps) (sym are_equal ∙ leads)))
      where
        files : v.place.file ≡ c.file
        files = ap (λ (q : CallRef). q.file) (sym are_equal ∙ leads)

        go : ((more : List ℕ) × (c.path.steps ≡ v.place.path.steps ++ more)) ⊎ ((n : ℕ) × (more : List ℕ) × (v.place.path.steps ≡ c.path.steps ++ n ∷ more)) → ⊥
        go (inl w) = not w.0 (ap₂ place (ap (λ (q : CallRef). q.file) (sym leads ∙ are_equal)) w.1)
        go (inr w) = outside x v is w.0 w.1 (ap₂ place (ap (λ (q : CallRef). q.file) (sym are_equal ∙ leads)) w.2)

    way_call : (x : List ℕ) (v v2 : Placed (Expression Span)) → single (project old) x ≡ Some v → single (project new) x ≡ Some v2 → v2.place ≡ v.place → (rest : List ℕ) → c ≡ below v.place rest
        → Becomes (an_expression (call r f l)) (an_expression (call r2 f2 l2)) rest (an_expression (erase_expression v.it)) (an_expression (erase_expression v2.it))
    way_call x v v2 is is2 same rest to_c =
        let n = value_in old x v v.place is refl in
        let n2 = value_in new x v2 v.place is2 same in
        let on = way_value x v v2 is is2 same (rest ++ extra) (leads ∙ ap (λ q. below q extra) to_c ∙ below_below v.place rest extra) in
        let o = on_path (an_expression older) (an_expression newer) rest extra _ _ (an_expression (call r f l)) on (node_below ts v.place rest _ _ n (subst (λ q. NodeIn ts q (an_expression (call r f l))) to_c at_c)) in
        let below_it = node_below us v.place rest _ _ n2 (subst (λ q. NodeIn us q (an_expression (call r2 f2 l2))) to_c at_c2) in
        let it : o.next ≡ an_expression (call r2 f2 l2) = some-injective _ _ (sym o.is_next ∙ below_it) in
        subst (λ z. Becomes (an_expression (call r f l)) z rest (an_expression (erase_expression v.it)) (an_expression (erase_expression v2.it))) it o.front

    c_by : (x : List ℕ) (v v2 : Placed (Expression Span)) → single (project old) x ≡ Some v → single (project new) x ≡ Some v2 → v2.place ≡ v.place
        → ((rest : List ℕ) × (c ≡ below v.place rest)) ⊎ ((rest : List ℕ) → c ≡ below v.place rest → ⊥) → CEqual x (bare_value v) (bare_value v2) ⊎ CWay x (bare_value v) (bare_value v2)
    c_by x v v2 is is2 same (inl w) = inr (record {
      path = w.0;
      leads = w.1;
      way = way_call x v v2 is is2 same w.0 w.1;
      level = node_level ts stand v.place _ (value_in old x v v.place is refl);
      settled = λ g not_yet. (refl, inr (refl, refl));
    })
    c_by x v v2 is is2 same (inr not) =
        let far = far_from_call x v is not in
        inl (record { same = equal_value x v v2 is is2 same far; far = from_far v.place far; settled = λ g not_yet. inl refl })

    pub kin_c : (x : List ℕ) → KinC new_texts bad away deeper apart r r2 f f2 l l2 is_call is_call2 c aside above (values_of (project old)) (values_of (project new)) x
    kin_c =
        kin_by new_texts bad always away deeper apart (call r f l) (call r2 f2 l2) (kind_c new_texts bad away deeper apart r r2 f f2 l l2 is_call is_call2 c aside above (values_of (project old)) (values_of (project new)))
        (value_c new_texts bad away deeper apart r r2 f f2 l l2 is_call is_call2 c aside above (values_of (project old)) (values_of (project new))) c false aside above old new places
        (λ x v v2 is is2 same. c_by x v v2 is is2 same (under v.place c))

-- ---- where nothing changes

module _ (new_texts : List (List ℕ)) (old : Loaded) (stand : All MayStandBetween (plain_trees old)) (h : CallRef) (older : Expression Nowhere) (at_h : NodeIn (plain_trees old) h (an_expression older))
    (kind : (holds holds2 : List ℕ → Bool) → is_operand_by holds2 older ≡ is_operand_by holds older) (value_kind : (m m2 : Expression Nowhere → Bool) → is_value_by m2 older ≡ is_value_by m older) where
  abbrev XEqual : List ℕ → Placed (Expression Nowhere) → Placed (Expression Nowhere) → Type 0
  XEqual = Equal new_texts (IsIt h) always (Far h) (far_deeper h) (far_apart h) older older kind value_kind h false (aside_far h h [] (sym (below_itself h))) (above_it h h [] (sym (below_itself h))) (values_of (project old)) (values_of (project old))

  abbrev XWay : List ℕ → Placed (Expression Nowhere) → Placed (Expression Nowhere) → Type 0
  XWay = OnTheWay new_texts (IsIt h) always (Far h) (far_deeper h) (far_apart h) older older kind value_kind h false (aside_far h h [] (sym (below_itself h))) (above_it h h [] (sym (below_itself h))) (values_of (project old)) (values_of (project old))

  x_by : (x : List ℕ) (v v2 : Placed (Expression Span)) → single (project old) x ≡ Some v → single (project old) x ≡ Some v2
      → ((rest : List ℕ) × (h ≡ below v.place rest)) ⊎ ((rest : List ℕ) → h ≡ below v.place rest → ⊥) → XEqual x (bare_value v) (bare_value v2) ⊎ XWay x (bare_value v) (bare_value v2)
  x_by x v v2 is is2 (inl w) =
      let n = value_in old x v v.place is refl in
      let same : v2 ≡ v = some-injective _ _ (sym is2 ∙ is) in
      let below_it = node_below (plain_trees old) v.place w.0 _ _ n (subst (λ q. NodeIn (plain_trees old) q (an_expression older)) w.1 at_h) in
      inr (record {
        path = w.0;
        leads = w.1;
        way = subst (λ (z : Placed (Expression Span)). Becomes (an_expression older) (an_expression older) w.0 (an_expression (erase_expression v.it)) (an_expression (erase_expression z.it))) (sym same) (becomes_same w.0 _ (an_expression older) below_it);
        level = node_level (plain_trees old) stand v.place _ n;
        settled = λ f not_yet. (refl, inr (refl, refl));
      })
  x_by x v v2 is is2 (inr far) =
      let same : v2 ≡ v = some-injective _ _ (sym is2 ∙ is) in
      inl (record { same = ap (λ (z : Placed (Expression Span)). erase_expression z.it) same; far = far; settled = λ f not_yet. inl refl })

  pub kin_x : (x : List ℕ) → Kin new_texts (IsIt h) always (Far h) (far_deeper h) (far_apart h) older older kind value_kind h false (aside_far h h [] (sym (below_itself h))) (above_it h h [] (sym (below_itself h)))
      (values_of (project old)) (values_of (project old)) x
  kin_x =
      kin_by new_texts (IsIt h) always (Far h) (far_deeper h) (far_apart h) older older kind value_kind h false (aside_far h h [] (sym (below_itself h))) (above_it h h [] (sym (below_itself h))) old old (λ x. refl)
      (λ x v v2 is is2 same. x_by x v v2 is is2 (under v.place h))
