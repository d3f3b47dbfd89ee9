-- A project before and after one node of it has become another one: the nodes at places, and what variables stand for.
use Rattle.meson_syntax.specs.Paths as paths
use Rattle.meson_sources.proofs.Words.{nat_eq, option_and_then, option_map, [], ap, ap₂, arith, Bool, false, List, map, None, Option, refl, Some, subst, suc}
use Rattle.meson_sources.proofs.Words.{sym, true, ℕ, ◌++◌, ◌+◌, ◌∙◌, ◌∷◌, ◌≡◌, eq-eqb, eqb-true, File, Span, a_block, an_expression, Any, block_of, nth, erase}
use Rattle.meson_sources.proofs.Words.{erase_expression, Expression, file, Nowhere, Plain, child_nodes, node_at, some-injective, and-then-some, Loaded}
use Rattle.meson_sources.proofs.Words.{named_trees, project, trees, parts_from, parts_of_file, BuildFile, child, expression_at, nth_file, place, Placed}
use Rattle.meson_sources.proofs.Words.{CallRef, single, plain_trees, differ_new, differ_old, differ_other, tree_there}
use Rattle.meson_sources.proofs.told.Variables.{of_any, told, told_both, told_erased, file_names_erased, file_names, value_place, value_place_is}
use Rattle.meson_sources.proofs.trees.Places.{bare_node, expression_node, node_with_spans, below, no_statement, node_between, single_named, Far, without_last}
use Rattle.meson_sources.proofs.trees.Shapes.{Becomes, OnPath, on_path}

-- ---- what all files tell

abbrev pub SameTells : ℕ → Option Plain → Option Plain → Type 0
SameTells k None None = Unit {0}
SameTells k (Some t) (Some u) = told (parts_of_file k u) ≡ told (parts_of_file k t)
SameTells k _ _ = ⊥

pub file_tells : (k : ℕ) (t : Plain) → told (parts_of_file k t) ≡ of_any (place k []) (a_block (block_of t))
file_tells k (file s b) = refl

abbrev pub names_of : List File → List (List ℕ)
names_of files = map (λ (f : File). f.name) files

pub projects_tell : (fs gs : List File) → names_of gs ≡ names_of fs → (n : ℕ) (ts us : List Plain) → ((i : ℕ) → SameTells (n + i) (nth ts i) (nth us i))
    → (told (parts_from n (named_trees gs us)) ≡ told (parts_from n (named_trees fs ts))) × (file_names (named_trees gs us) ≡ file_names (named_trees fs ts))
projects_tell [] [] names n ts us all = (refl, refl)
projects_tell [] (g ∷ gs) names n ts us all = absurd cc
projects_tell (f ∷ fs) [] names n ts us all = absurd cc
projects_tell (f ∷ fs) (g ∷ gs) names n [] [] all = (refl, refl)
projects_tell (f ∷ fs) (g ∷ gs) names n [] (u ∷ us) all = absurd (all 0)
projects_tell (f ∷ fs) (g ∷ gs) names n (t ∷ ts) [] all = absurd (all 0)
projects_tell (f ∷ fs) (g ∷ gs) names n (t ∷ ts) (u ∷ us) all =
    let name : g.name ≡ f.name = cc in
    let tails : names_of gs ≡ names_of fs = cc in
    let z : n + 0 ≡ n = omega arith in
    let here : told (parts_of_file n u) ≡ told (parts_of_file n t) = subst (λ k. told (parts_of_file k u) ≡ told (parts_of_file k t)) z (all 0) in
    let rest = projects_tell fs gs tails (n + 1) ts us (λ i. let k : n + suc i ≡ (n + 1) + i = omega arith in subst (λ j. SameTells j (nth ts i) (nth us i)) k (all (suc i))) in (
      told_both (parts_of_file n u) (parts_from (n + 1) (named_trees gs us)) ∙ ap₂ (λ l m. l ++ m) here rest.0 ∙ sym (told_both (parts_of_file n t) (parts_from (n + 1) (named_trees fs ts))),
      ap₂ (λ x l. x ∷ l) name rest.1,
    )

-- ---- away from the path

module _ (older newer : Any Nowhere) where
  pub off_path : (hp path : List ℕ) (x now : Any Nowhere) → Becomes older newer hp x now → ((rest : List ℕ) → hp ≡ path ++ rest → ⊥) → ((m : ℕ) (rest : List ℕ) → path ≡ hp ++ m ∷ rest → ⊥) → node_at now path ≡ node_at x path
  off_path [] [] x now b above below = absurd (above [] refl)
  off_path [] (k ∷ path) x now b above below = absurd (below k path refl)
  off_path (m ∷ hp) [] x now b above below = absurd (above (m ∷ hp) refl)
  off_path (m ∷ hp) (k ∷ path) x now b above below = go (nat_eq m k) refl (off_path hp path b.0 b.1 b.3)
    where
      go : (z : Bool) → nat_eq m k ≡ z → (((rest : List ℕ) → hp ≡ path ++ rest → ⊥) → ((n : ℕ) (rest : List ℕ) → path ≡ hp ++ n ∷ rest → ⊥) → node_at b.1 path ≡ node_at b.0 path) → node_at now (k ∷ path) ≡ node_at x (k ∷ path)
      go true is further =
          let head : m ≡ k = eqb-true m k is in
          let inner = further (λ rest equal. above rest (ap₂ (λ i l. i ∷ l) head equal)) (λ n rest equal. below n rest (ap₂ (λ i l. i ∷ l) (sym head) equal)) in
          ap (λ i. option_and_then (λ z. node_at z path) (nth (child_nodes now) i)) (sym head) ∙ ap (option_and_then (λ z. node_at z path)) (differ_new b.0 b.1 b.2.parts) ∙ inner
          ∙ sym (ap (option_and_then (λ z. node_at z path)) (differ_old b.0 b.1 b.2.parts)) ∙ ap (λ i. option_and_then (λ z. node_at z path) (nth (child_nodes x) i)) head
      go false is further =
          ap (option_and_then (λ z. node_at z path)) (differ_other b.0 b.1 b.2.parts k (λ equal. let yea = eq-eqb m k equal in let both : true ≡ false = sym yea ∙ is in absurd cc))

-- ---- nodes of trees

pub record NodeIn (ts : List Plain) (p : CallRef) (y : Any Nowhere) : Type 0 where
  pub tree : Plain
  pub is_tree : nth ts p.file ≡ Some tree
  pub is_node : node_at (a_block (block_of tree)) p.path.steps ≡ Some y

pub bare_in : (l : Loaded) (p : CallRef) (e : Expression Span) → expression_at (project l) p ≡ Some e → NodeIn (plain_trees l) p (an_expression (erase_expression e))
bare_in l p e is =
    let o = and-then-some (λ (g : BuildFile Span). paths.expression_on_path g.tree p.path.steps) (nth_file (project l) p.file) e is in
    record { tree = erase o.0.tree; is_tree = tree_there l.files l.parsed p.file o.0 o.1; is_node = bare_node o.0.tree p.path.steps e o.2 }

-- ---- where one node has become another one

module _ (old new : Loaded) (names : names_of new.files ≡ names_of old.files) (h : CallRef) (tree now : Plain) (was : nth (plain_trees old) h.file ≡ Some tree) (is_now : nth (plain_trees new) h.file ≡ Some now)
    (others : (i : ℕ) → (h.file ≡ i → ⊥) → nth (plain_trees new) i ≡ nth (plain_trees old) i) (older newer : Expression Nowhere)
    (becomes : Becomes (an_expression older) (an_expression newer) h.path.steps (a_block (block_of tree)) (a_block (block_of now))) where
  abbrev ts : List Plain
  ts = plain_trees old

  abbrev us : List Plain
  us = plain_trees new

  abbrev root : Any Nowhere
  root = a_block (block_of tree)

  abbrev root2 : Any Nowhere
  root2 = a_block (block_of now)

  by_file : (P : Type 0) (i : ℕ) → (h.file ≡ i → P) → ((h.file ≡ i → ⊥) → P) → P
  by_file P i yea nay = go (nat_eq h.file i) refl
    where
      go : (z : Bool) → nat_eq h.file i ≡ z → P
      go true is = yea (eqb-true h.file i is)
      go false is = nay (λ equal. let both : true ≡ false = sym (eq-eqb h.file i equal) ∙ is in absurd cc)

  node_at_older : node_at root h.path.steps ≡ Some (an_expression older)
  node_at_older = at_end h.path.steps root root2 becomes
    where
      at_end : (path : List ℕ) (x y : Any Nowhere) → Becomes (an_expression older) (an_expression newer) path x y → node_at x path ≡ Some (an_expression older)
      at_end [] x y b = ap Some b.0
      at_end (n ∷ path) x y b = ap (option_and_then (λ z. node_at z path)) (differ_old b.0 b.1 b.2.parts) ∙ at_end path b.0 b.1 b.3

  -- ---- above, and away

  pub node_above : (p : CallRef) (rest : List ℕ) → h ≡ below p rest → (y : Any Nowhere) → NodeIn ts p y → OnPath (an_expression older) (an_expression newer) p.path.steps rest root root2 y
  node_above p rest leads y n =
      let same_file : h.file ≡ p.file = ap (λ (q : CallRef). q.file) leads in
      let same_tree : n.tree ≡ tree = some-injective _ _ (sym n.is_tree ∙ ap (nth ts) (sym same_file) ∙ was) in
      on_path (an_expression older) (an_expression newer) p.path.steps rest root root2 y
      (subst (λ l. Becomes (an_expression older) (an_expression newer) l root root2) (ap (λ (q : CallRef). q.path.steps) leads) becomes)
      (ap (λ t. node_at (a_block (block_of t)) p.path.steps) (sym same_tree) ∙ n.is_node)

  -- and there it is afterwards
  pub next_in : (p : CallRef) (rest : List ℕ) (leads : h ≡ below p rest) (y : Any Nowhere) (n : NodeIn ts p y) → NodeIn us p (node_above p rest leads y n).next
  next_in p rest leads y n =
      let same_file : h.file ≡ p.file = ap (λ (q : CallRef). q.file) leads in
      record { tree = now; is_tree = ap (nth us) (sym same_file) ∙ is_now; is_node = (node_above p rest leads y n).is_next }

  pub node_away : (p : CallRef) → Far h p → ((m : ℕ) (rest : List ℕ) → p ≡ below h (m ∷ rest) → ⊥) → (y : Any Nowhere) → NodeIn ts p y → NodeIn us p y
  node_away p far apart y n = by_file (NodeIn us p y) p.file
      (λ same_file.
      let same_tree : n.tree ≡ tree = some-injective _ _ (sym n.is_tree ∙ ap (nth ts) (sym same_file) ∙ was) in
      record {
        tree = now;
        is_tree = ap (nth us) (sym same_file) ∙ is_now;
        is_node =
            off_path (an_expression older) (an_expression newer) h.path.steps p.path.steps root root2 becomes (λ rest equal. far rest (ap₂ place same_file equal)) (λ m rest equal. apart m rest (ap₂ place (sym same_file) equal))
            ∙ ap (λ t. node_at (a_block (block_of t)) p.path.steps) (sym same_tree) ∙ n.is_node;
      })
      (λ other. record { tree = n.tree; is_tree = others p.file other ∙ n.is_tree; is_node = n.is_node })

  pub same_in : (vs : List Plain) (p : CallRef) (y z : Any Nowhere) → NodeIn vs p y → NodeIn vs p z → z ≡ y
  same_in vs p y z m n =
      let same_tree : n.tree ≡ m.tree = some-injective _ _ (sym n.is_tree ∙ m.is_tree) in
      some-injective z y (sym n.is_node ∙ ap (λ t. node_at (a_block (block_of t)) p.path.steps) same_tree ∙ m.is_node)

  -- the value of a variable does not stand within the node
  pub value_apart : (x : List ℕ) (v : Placed (Expression Span)) → single (project old) x ≡ Some v → (m : ℕ) (rest : List ℕ) → v.place ≡ below h (m ∷ rest) → ⊥
  value_apart x v is m rest within =
      let s = single_named (project old) x v is in
      let a = s.2 in
      let at = s.0 in
      let places : child at 0 ≡ below h (m ∷ rest) = sym s.1 ∙ within in
      let same_file : at.file ≡ h.file = ap (λ (q : CallRef). q.file) places in
      let w = without_last at.path.steps h.path.steps rest 0 m (ap (λ (q : CallRef). q.path.steps) places) in
      let erased : erase a.file.tree ≡ tree = some-injective _ _ (sym (tree_there old.files old.parsed at.file a.file a.is_file) ∙ ap (nth ts) same_file ∙ was) in
      let here = node_at_older in
      let spanned = node_with_spans a.file.tree h.path.steps older (ap (λ t. node_at (a_block (block_of t)) h.path.steps) erased ∙ here) in
      let there = expression_node Span a.file.tree h.path.steps spanned.0 spanned.1 in
      no_statement w.0 spanned.0 _ (sym (node_between h.path.steps w.0 (a_block (block_of a.file.tree)) (an_expression spanned.0) there) ∙ ap (node_at (a_block (block_of a.file.tree))) (sym w.1) ∙ a.is_node)

  -- ---- the same places

  module _ (tells : (p : CallRef) → of_any p root2 ≡ of_any p root) where
    same_tells : (i : ℕ) → SameTells (0 + i) (nth ts i) (nth us i)
    same_tells i =
        by_file (SameTells (0 + i) (nth ts i) (nth us i)) i
        (λ same.
        subst (λ o. SameTells (0 + i) o (nth us i)) (sym (ap (nth ts) (sym same) ∙ was))
        (subst (λ o. SameTells (0 + i) (Some tree) o) (sym (ap (nth us) (sym same) ∙ is_now)) (file_tells (0 + i) now ∙ tells (place (0 + i) []) ∙ sym (file_tells (0 + i) tree))))
        (λ other. subst (λ o. SameTells (0 + i) (nth ts i) o) (sym (others i other)) (itself (0 + i) (nth ts i)))
      where
        itself : (k : ℕ) (o : Option Plain) → SameTells k o o
        itself k None = tt
        itself k (Some t) = refl

    pub same_places : (x : List ℕ) → option_map (λ (v : Placed (Expression Span)). v.place) (single (project new) x) ≡ option_map (λ (v : Placed (Expression Span)). v.place) (single (project old) x)
    same_places x =
        let both = projects_tell old.files new.files names 0 ts us same_tells in
        value_place_is x (project new)
        ∙ ap₂ (λ ns l. value_place ns l x)
        (sym (file_names_erased new.files (trees new)) ∙ both.1 ∙ file_names_erased old.files (trees old))
        (sym (told_erased 0 new.files (trees new)) ∙ both.0 ∙ told_erased 0 old.files (trees old))
        ∙ sym (value_place_is x (project old))
