-- What is put where a path leads is found there.
use Rattle.meson_edit.proofs.Words.{option_map, option_and_then, ◌≡◌, ℕ, List, [], ◌∷◌, Some, refl, ap, subst, ◌∙◌, arith, Word, Sort, of_expression}
use Rattle.meson_edit.proofs.Words.{of_statement, of_block, Node, Hole, around, children, nth_hole, reach, ListIn, list_in, ListAt, list_within, list_of_node}
use Rattle.meson_edit.proofs.Words.{list_at, Nowhere, Expression, array, dictionary, call, Listing, Block, File, file, some-injective, map-some, and-then-some}
use Rattle.meson_edit.proofs.Words.{StaysThere, ListsStay}
use Rattle.meson_edit.proofs.paths.Positions.{EveryAt, every-at-nth, with_node}
use Rattle.meson_edit.proofs.paths.InExpressions.{StaysIn, expression-stays}
use Rattle.meson_edit.proofs.paths.InStatements.{statement-stays, block-stays}

module _ (S : Type 0) where
  -- ---- nodes

  children-stay : (sort : Sort) (x : Node sort S) → EveryAt (StaysIn S (Node sort S) (children S sort)) 0 (children S sort x)
  children-stay of_expression e = expression-stays S e
  children-stay of_statement s = statement-stays S s
  children-stay of_block b = block-stays S b

  child-stays : (sort : Sort) (x : Node sort S) (n : ℕ) (h : Hole S (Node sort S)) → nth_hole S sort x n ≡ Some h → (y : Node h.sort S) → nth_hole S sort (h.back y) n ≡ Some (with_node h y)
  child-stays sort x n h is y = (every-at-nth (StaysIn S (Node sort S) (children S sort)) 0 n n (children S sort x) h (omega arith) (children-stay sort x) is).found y

  -- a hole of a child, in the whole node
  abbrev into : (sort : Sort) (g : Hole S (Node sort S)) → Hole S (Node g.sort S) → Hole S (Node sort S)
  into sort g = around g.before g.behind g.back

  -- a node put where a path leads
  abbrev pub PutThere : (sort : Sort) → List ℕ → Hole S (Node sort S) → Type 0
  PutThere sort path h = (y : Node h.sort S) → reach S sort (h.back y) path ≡ Some (with_node h y)

  pub reach-stays : (sort : Sort) (x : Node sort S) (path : List ℕ) (h : Hole S (Node sort S)) → reach S sort x path ≡ Some h → PutThere sort path h
  reach-stays sort x [] h is = subst (PutThere sort []) (some-injective _ _ is) (λ y. refl)
  reach-stays sort x (n ∷ path) h is =
      let o = and-then-some (λ g. option_map (into sort g) (reach S g.sort g.inside path)) (nth_hole S sort x n) h is in
      let g = o.0 in
      let m = map-some (into sort g) (reach S g.sort g.inside path) h o.2 in
      let i = m.0 in
      subst (PutThere sort (n ∷ path)) m.2 (λ y.
      ap (option_and_then (λ c. option_map (into sort c) (reach S c.sort c.inside path))) (child-stays sort x n g o.1 (i.back y))
      ∙ ap (option_map (into sort g)) (reach-stays g.sort g.inside path i m.1 y))

  -- ---- lists

  -- the list of an array, a dictionary or a call that has another list
  abbrev with_list : ListIn S → Listing S → ListIn S
  with_list l m = record { list = m; bracket = l.bracket; ahead = l.ahead; back = l.back }

  list-in-stays : (e : Expression S) (l : ListIn S) → list_in e ≡ Some l → (m : Listing S) → list_in (l.back m) ≡ Some (with_list l m)
  list-in-stays (array l) o is m = subst (λ (u : ListIn S). list_in (u.back m) ≡ Some (with_list u m)) (some-injective _ _ is) refl
  list-in-stays (dictionary l) o is m = subst (λ (u : ListIn S). list_in (u.back m) ≡ Some (with_list u m)) (some-injective _ _ is) refl
  list-in-stays (call s x l) o is m = subst (λ (u : ListIn S). list_in (u.back m) ≡ Some (with_list u m)) (some-injective _ _ is) refl
  list-in-stays _ o is m = absurd cc

  -- a list of a file that stays in its place
  list-there : (s : S) (b : Block S) (path : List ℕ) (h : Hole S (Block S)) → PutThere of_block path h
      → (q : ListAt S) → list_of_node S h.sort h.inside (file s b) h.before h.behind h.back ≡ Some q → (m : Listing S) → StaysThere path q m
  list-there s b path h put q is m = go h.sort h.inside h.before h.behind h.back put is where
    go : (sort : Sort) (x : Node sort S) (before behind : List Word) (back : Node sort S → Block S)
        → PutThere of_block path (record { sort = sort; inside = x; before = before; behind = behind; back = back })
        → list_of_node S sort x (file s b) before behind back ≡ Some q → StaysThere path q m
    go of_expression x before behind back there found =
        let o = map-some (list_within (file s b) before behind back) (list_in x) q found in
        let l = o.0 in
        subst (λ u. StaysThere path u m) o.2 (record {
          there = list_within (file s b) before behind back (with_list l m);
          is_there =
              ap (option_and_then (λ (g : Hole S (Block S)). list_of_node S g.sort g.inside (file s (back (l.back m))) g.before g.behind g.back)) (there (l.back m))
              ∙ ap (option_map (list_within (file s b) before behind back)) (list-in-stays x l o.1 m);
          list = refl;
          bracket = refl;
          before = refl;
          behind = refl;
          back = λ y. refl;
        })
    go of_statement x before behind back there found = absurd cc
    go of_block x before behind back there found = absurd cc

  pub lists-there : (f : File S) (path : List ℕ) (q : ListAt S) → list_at f path ≡ Some q → (l : Listing S) → StaysThere path q l
  lists-there (file s b) path q is m =
      let o = and-then-some (λ h. list_of_node S h.sort h.inside (file s b) h.before h.behind h.back) (reach S of_block b path) q is in
      list-there s b path o.0 (reach-stays of_block b path o.0 o.1) q o.2 m

pub lists-stay : ListsStay
lists-stay t path q is l = lists-there Nowhere t path q is l
