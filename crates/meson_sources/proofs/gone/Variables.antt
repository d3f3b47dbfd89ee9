-- Variables stand for what is left of their values after strings have gone from lists of sources.
use Rattle.meson_sources.proofs.Words.{All, if◌then◌else◌, not, option_and_then, option_map, ◌&&◌, [], ap, ap₂, Bool, false, inl, inr, List, None, Option, refl}
use Rattle.meson_sources.proofs.Words.{Some, subst, suc, sym, true, zero, ℕ, ◌++◌, ◌+◌, ◌∙◌, ◌∷◌, ◌≡◌, Span, a_block, a_statement, an_expression}
use Rattle.meson_sources.proofs.Words.{LevelExpression, block_of, nth, Block, block, erase_expression, Expression, no_statements, Nowhere, Plain, Statement}
use Rattle.meson_sources.proofs.Words.{statement, Statements, child_nodes, node_at, statements_parts, some-injective, and-then-some, Loaded, project, trees}
use Rattle.meson_sources.proofs.Words.{child, place, Placed, placed, Project, CallRef, all_known, Assigned, assignments, is_outermost, is_set_otherwise}
use Rattle.meson_sources.proofs.Words.{only_value, single, MayStandBetween, plain_trees, each_without, expression_without, from_child, Gone}
use Rattle.meson_sources.proofs.gone.Held.{same_there}
use Rattle.meson_sources.proofs.gone.Losses.{child_place, fits_none, node_moved, place_left, Lost, at_child, gone_at, loses, strings_lost, Loses}
use Rattle.meson_sources.proofs.gone.Marks.{BothStand, ValueLoses}
use Rattle.meson_sources.proofs.gone.Places.{any_without, before_all, nth_left, path_left}
use Rattle.meson_sources.proofs.met.Marks.{bare_value, values_of}
use Rattle.meson_sources.proofs.met.Ways.{node_level, placed_of, value_in}
use Rattle.meson_sources.proofs.told.Variables.{file_names_erased, told_erased, value_place, value_place_is}
use Rattle.meson_sources.proofs.trees.Elements.{string_child, root, Node, list_any}
use Rattle.meson_sources.proofs.trees.Scenes.{NodeIn, SameTells, names_of, projects_tell}

-- ---- a variable's value stands in a statement of a file

pub record Outermost (c : CallRef) : Type 0 where
  pub at : CallRef
  pub number : ℕ
  pub is_at : at.path.steps ≡ number ∷ []
  pub is_place : c ≡ child at 0

outer_path : (path : List ℕ) → is_outermost path ≡ true → (n : ℕ) × (path ≡ n ∷ [])
outer_path [] is = absurd cc
outer_path (n ∷ []) is = (n, refl)
outer_path (n ∷ m ∷ more) is = absurd cc

only_outermost : (values : List (Placed (Assigned Span))) (v : Placed (Expression Span)) → only_value values ≡ Some v → Outermost v.place
only_outermost [] v is = absurd cc
only_outermost (a ∷ []) v is = go a.it.sets (is_outermost a.place.path.steps) refl is
  where
    go : (b z : Bool) → is_outermost a.place.path.steps ≡ z → (if b && z then Some (placed (child a.place 0) a.it.value) else None) ≡ Some v → Outermost v.place
    go true true outer k =
        let o = outer_path a.place.path.steps outer in
        record { at = a.place; number = o.0; is_at = o.1; is_place = sym (ap (λ (w : Placed (Expression Span)). w.place) (some-injective _ v k)) }
    go true false outer k = absurd cc
    go false z outer k = absurd cc
only_outermost (a ∷ b ∷ more) v is = absurd cc

pub value_outermost : (p : Project Span) (x : List ℕ) (v : Placed (Expression Span)) → single p x ≡ Some v → Outermost v.place
value_outermost p x v is = go (all_known p && not (is_set_otherwise p x)) is
  where
    go : (b : Bool) → (if b then only_value (assignments p x) else None) ≡ Some v → Outermost v.place
    go true k = only_outermost (assignments p x) v k
    go false k = absurd cc

nth_statement : (list : Statements Nowhere) (m : ℕ) (y : Node) → nth (statements_parts list) m ≡ Some y → (s : Statement Nowhere) × (y ≡ a_statement s)
nth_statement no_statements m y is = absurd cc
nth_statement (statement s more) zero y is = (s, sym (some-injective _ _ is))
nth_statement (statement s more) (suc m) y is = nth_statement more m y is

in_block : (b : Block Nowhere) (m : ℕ) (y : Node) → node_at (a_block b) (m ∷ []) ≡ Some y → (s : Statement Nowhere) × (y ≡ a_statement s)
in_block (block t list) m y is =
    let o = and-then-some (λ z. node_at z []) (nth (statements_parts list) m) y is in
    let n = nth_statement list m o.0 o.1 in
    (n.0, sym (some-injective _ _ o.2) ∙ n.1)

same_expression : (e d : Expression Nowhere) → an_expression d ≡ an_expression e → d ≡ e
same_expression e d is = cc

-- ---- a value in two trees

module _ (before : List Plain) (stand : All MayStandBetween before) (gone : CallRef → ℕ → Bool) (lost : (c : CallRef) (n : ℕ) → gone c n ≡ true → (y : Node) → NodeIn before c y → Lost y n) where
  abbrev after : List Plain
  after = each_without (λ i path k. gone (place i path) k) before

  -- what stands around a child
  parent : (ts : List Plain) (at : CallRef) (x : Node) → NodeIn ts (child at 0) x → (y : Node) × NodeIn ts at y × (nth (child_nodes y) 0 ≡ Some x)
  parent ts at x n =
      let o = above at.path.steps (root n.tree) n.is_node in
      (o.0, record { tree = n.tree; is_tree = n.is_tree; is_node = o.1 }, o.2)
    where
      above : (path : List ℕ) (z : Node) → node_at z (path ++ 0 ∷ []) ≡ Some x → (y : Node) × (node_at z path ≡ Some y) × (nth (child_nodes y) 0 ≡ Some x)
      above [] z is = let o = and-then-some (λ w. node_at w []) (nth (child_nodes z) 0) x is in (z, refl, o.1 ∙ o.2)
      above (m ∷ path) z is =
          let o = and-then-some (λ w. node_at w (path ++ 0 ∷ [])) (nth (child_nodes z) m) x is in
          let r = above path o.0 o.2 in
          (r.0, ap (option_and_then (λ w. node_at w path)) o.1 ∙ r.1, r.2)

  -- a statement of a file stays where it is
  stays : (at : CallRef) (m : ℕ) → at.path.steps ≡ m ∷ [] → (y : Node) → NodeIn before at y → place_left gone at ≡ at
  stays at m path y h =
      let g : Gone = λ path k. gone (place at.file path) k in
      let whole : NodeIn before (place at.file []) (root h.tree) = record { tree = h.tree; is_tree = h.is_tree; is_node = refl } in
      ap (λ p. place at.file (path_left g p)) path ∙ ap (λ n. place at.file (n ∷ [])) (before_all (g []) (fits_none before stand gone (strings_lost before gone lost) (place at.file []) (root h.tree) whole refl) m) ∙ ap (place at.file) (sym path)

  pub value_left : (at : CallRef) (m : ℕ) → at.path.steps ≡ m ∷ [] → (e d : Expression Nowhere) → LevelExpression e → NodeIn before (child at 0) (an_expression e) → NodeIn after (child at 0) (an_expression d) → Loses gone (child at 0) e d
  value_left at m path e d level was is =
      let p = parent before at (an_expression e) was in
      let q = parent after at (an_expression d) is in
      let s = in_block (block_of p.1.tree) m p.0 (sym (ap (node_at (root p.1.tree)) path) ∙ p.1.is_node) in
      let no_list : list_any p.0 ≡ None = ap list_any s.1 in
      let moved = node_moved before stand gone (strings_lost before gone lost) at p.0 p.1 (ap string_child s.1) in
      let there : NodeIn after at (any_without (gone_at gone at) p.0) = subst (λ c. NodeIn after c (any_without (gone_at gone at) p.0)) (stays at m path p.0 p.1) moved in
      let same : q.0 ≡ any_without (gone_at gone at) p.0 = same_there after at (any_without (gone_at gone at) p.0) q.0 there q.1 in
      let left = nth_left (gone_at gone at) p.0 (an_expression e) 0 (fits_none before stand gone (strings_lost before gone lost) at p.0 p.1 no_list) p.2 in
      let value : an_expression d ≡ an_expression (expression_without (from_child 0 (gone_at gone at)) e) = some-injective _ _ (sym q.2 ∙ ap (λ z. nth (child_nodes z) 0) same ∙ left) in
      subst (Loses gone (child at 0) e) (ap (λ g. expression_without g e) (sym (at_child gone at 0)) ∙ sym (same_expression (expression_without (from_child 0 (gone_at gone at)) e) d value)) (loses before gone lost e (child at 0) level was)

  pub place_stays : (at : CallRef) (m : ℕ) → at.path.steps ≡ m ∷ [] → (e : Expression Nowhere) → NodeIn before (child at 0) (an_expression e) → place_left gone (child at 0) ≡ child at 0
  place_stays at m path e was = let p = parent before at (an_expression e) was in child_place gone at 0 ∙ ap (λ c. child c 0) (stays at m path p.0 p.1)

-- ---- in two projects

module _ (old new : Loaded) (names : names_of new.files ≡ names_of old.files) (tells : (i : ℕ) → SameTells (0 + i) (nth (plain_trees old) i) (nth (plain_trees new) i)) where
  pub places_stay : (x : List ℕ) → placed_of (single (project new) x) ≡ placed_of (single (project old) x)
  places_stay x =
      let both = projects_tell old.files new.files names 0 (plain_trees old) (plain_trees new) tells in
      value_place_is x (project new)
      ∙ ap₂ (λ ns l. value_place ns l x)
      (sym (file_names_erased new.files (trees new)) ∙ both.1 ∙ file_names_erased old.files (trees old))
      (sym (told_erased 0 new.files (trees new)) ∙ both.0 ∙ told_erased 0 old.files (trees old))
      ∙ sym (value_place_is x (project old))

  module _ (stand : All MayStandBetween (plain_trees old)) (gone : CallRef → ℕ → Bool) (lost : (c : CallRef) (n : ℕ) → gone c n ≡ true → (y : Node) → NodeIn (plain_trees old) c y → Lost y n) (are_left : plain_trees new ≡ each_without (λ i path k. gone (place i path) k) (plain_trees old)) where
    both_stand : (x : List ℕ) (v v2 : Placed (Expression Span)) → single (project old) x ≡ Some v → single (project new) x ≡ Some v2 → v2.place ≡ v.place → BothStand gone (values_of (project old)) (values_of (project new)) x
    both_stand x v v2 was is same =
        let o = value_outermost (project old) x v was in
        let n = value_in old x v (child o.at 0) was o.is_place in
        let n2 = value_in new x v2 (child o.at 0) is (same ∙ o.is_place) in
        record {
          value = bare_value v;
          now = bare_value v2;
          was = ap (option_map bare_value) was;
          is = ap (option_map bare_value) is;
          moved = same ∙ o.is_place ∙ sym (place_stays (plain_trees old) stand gone lost o.at o.number o.is_at (erase_expression v.it) n) ∙ ap (place_left gone) (sym o.is_place);
          loses = subst (λ c. Loses gone c (erase_expression v.it) (erase_expression v2.it)) (sym o.is_place)
              (value_left (plain_trees old) stand gone lost o.at o.number o.is_at (erase_expression v.it) (erase_expression v2.it) (node_level (plain_trees old) stand (child o.at 0) (erase_expression v.it) n) n (subst (λ ts. NodeIn ts (child o.at 0) (an_expression (erase_expression v2.it))) are_left n2));
        }

    pub values_left : (x : List ℕ) → ValueLoses gone (values_of (project old)) (values_of (project new)) x
    values_left x = go (single (project old) x) refl (single (project new) x) refl (places_stay x)
      where
        go : (o : Option (Placed (Expression Span))) → single (project old) x ≡ o → (o2 : Option (Placed (Expression Span))) → single (project new) x ≡ o2 → placed_of (single (project new) x) ≡ placed_of (single (project old) x)
            → ValueLoses gone (values_of (project old)) (values_of (project new)) x
        go None is None is2 same = inl (ap (option_map bare_value) is, ap (option_map bare_value) is2)
        go None is (Some v2) is2 same = let none : Some v2.place ≡ None = sym (ap placed_of is2) ∙ same ∙ ap placed_of is in absurd cc
        go (Some v) is None is2 same = let none : None ≡ Some v.place = sym (ap placed_of is2) ∙ same ∙ ap placed_of is in absurd cc
        go (Some v) is (Some v2) is2 same = inr (both_stand x v v2 is is2 (some-injective _ _ (sym (ap placed_of is2) ∙ same ∙ ap placed_of is)))
