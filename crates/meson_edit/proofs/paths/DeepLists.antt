-- A file with another list in the place of one is no deeper than before by more than the list is.
use Rattle.meson_edit.proofs.Words.{option_map, ◌≡◌, ℕ, ◌+◌, ◌≤◌, List, [], ◌∷◌, Some, subst, Word, expression_depth, listing_depth, file_depth, Sort}
use Rattle.meson_edit.proofs.Words.{of_expression, of_statement, of_block, Node, Hole, around, nth_hole, reach, ListIn, list_in, ListAt, list_within}
use Rattle.meson_edit.proofs.Words.{list_of_node, Nowhere, Expression, array, dictionary, call, Listing, Block, File, file, some-injective, map-some}
use Rattle.meson_edit.proofs.Words.{and-then-some, DepthsGrow}
use Rattle.meson_edit.proofs.paths.Depths.{node_depth, Grows, child-grows}

module _ (S : Type 0) where
  -- a hole of a child, in the whole node
  abbrev into : (sort : Sort) (g : Hole S (Node sort S)) → Hole S (Node g.sort S) → Hole S (Node sort S)
  into sort g = around g.before g.behind g.back

  abbrev NodeGrows : (sort : Sort) → Node sort S → Hole S (Node sort S) → Type 0
  NodeGrows sort = Grows S (Node sort S) (node_depth S sort)

  pub reach-grows : (sort : Sort) (x : Node sort S) (path : List ℕ) (h : Hole S (Node sort S)) → reach S sort x path ≡ Some h → NodeGrows sort x h
  reach-grows sort x [] h is = subst (NodeGrows sort x) (some-injective _ _ is) (λ y k l. l)
  reach-grows sort x (n ∷ path) h is =
      let o = and-then-some (λ g. option_map (into sort g) (reach S g.sort g.inside path)) (nth_hole S sort x n) h is in
      let g = o.0 in
      let m = map-some (into sort g) (reach S g.sort g.inside path) h o.2 in
      let i = m.0 in
      subst (NodeGrows sort x) m.2 (λ y k l. child-grows S sort x n g o.1 (i.back y) k (reach-grows g.sort g.inside path i m.1 y k l))

-- ---- lists

list-in-grows : (e : Expression Nowhere) (l : ListIn Nowhere) → list_in e ≡ Some l → (m : Listing Nowhere) (k : ℕ) → listing_depth m ≤ listing_depth l.list + k
    → expression_depth (l.back m) ≤ expression_depth e + k
list-in-grows (array l) o is = subst (λ (u : ListIn Nowhere). (m : Listing Nowhere) (k : ℕ) → listing_depth m ≤ listing_depth u.list + k → expression_depth (u.back m) ≤ listing_depth l + k) (some-injective _ _ is) (λ m k g. g)
list-in-grows (dictionary l) o is = subst (λ (u : ListIn Nowhere). (m : Listing Nowhere) (k : ℕ) → listing_depth m ≤ listing_depth u.list + k → expression_depth (u.back m) ≤ listing_depth l + k) (some-injective _ _ is) (λ m k g. g)
list-in-grows (call s x l) o is = subst (λ (u : ListIn Nowhere). (m : Listing Nowhere) (k : ℕ) → listing_depth m ≤ listing_depth u.list + k → expression_depth (u.back m) ≤ listing_depth l + k) (some-injective _ _ is) (λ m k g. g)
list-in-grows _ o is = absurd cc

-- a file that grows with one of its lists
abbrev ListGrows : File Nowhere → ListAt Nowhere → Type 0
ListGrows f q = (m : Listing Nowhere) (k : ℕ) → listing_depth m ≤ listing_depth q.list + k → file_depth (q.back m) ≤ file_depth f + k

node-list-grows : (s : Nowhere) (b : Block Nowhere) (sort : Sort) (x : Node sort Nowhere) (before behind : List Word) (back : Node sort Nowhere → Block Nowhere)
    → NodeGrows Nowhere of_block b (record { sort = sort; inside = x; before = before; behind = behind; back = back })
    → (q : ListAt Nowhere) → list_of_node Nowhere sort x (file s b) before behind back ≡ Some q → ListGrows (file s b) q
node-list-grows s b of_expression x before behind back grows q is =
    let o = map-some (list_within (file s b) before behind back) (list_in x) q is in
    subst (ListGrows (file s b)) o.2 (λ m k l. grows (o.0.back m) k (list-in-grows x o.0 o.1 m k l))
node-list-grows s b of_statement x before behind back grows q is = absurd cc
node-list-grows s b of_block x before behind back grows q is = absurd cc

pub depths-grow : DepthsGrow
depths-grow (file s b) path q is m k l =
    let o = and-then-some (λ h. list_of_node Nowhere h.sort h.inside (file s b) h.before h.behind h.back) (reach Nowhere of_block b path) q is in
    let h = o.0 in
    node-list-grows s b h.sort h.inside h.before h.behind h.back (reach-grows Nowhere of_block b path h o.1) q o.2 m k l
