-- What a file becomes where a list is put in its block.
use Rattle.std.specs.Prelude.{option_map, option_and_then}
use Rattle.std.proofs.Common.{◌≡◌, ℕ, List, [], ◌∷◌, Option, Some, None, refl, ap, ◌∙◌}
use Rattle.meson_lex.specs.Significant.{Word}
use Rattle.meson_syntax.specs.Tree.{Listing, Block, File}
use Rattle.meson_syntax.specs.Paths.{Sort, of_expression, of_statement, of_block, Node, Hole, around, nth_hole, reach, block_of, with_block, ListIn, list_in, ListAt, list_within, list_of_node, list_at}
use Rattle.meson_syntax.specs.inside.Putting.{put_own, put_here, in_hole, put_in}
use Rattle.meson_syntax.proofs.parsing.Steps.{some-injective}
use Rattle.meson_syntax.proofs.paths.Reaching.{map-some, and-then-some, reach-fits}
use Rattle.meson_syntax.proofs.paths.StatementChildren.{child-fits}

module _ (S : Type 0) (new : Listing S) where
  -- what is put in the node of a hole
  abbrev into : {T : Type 0} → Hole S T → Listing S × T
  into h = ((put_here h.sort h.inside new).0, h.back (put_here h.sort h.inside new).1)

  reached : (sort : Sort) (x : Node sort S) (path : List ℕ) (h : Hole S (Node sort S)) → reach S sort x path ≡ Some h → put_in S sort x path new ≡ into h
  reached sort x [] h is = ap into (some-injective _ h is)
  reached sort x (n ∷ path) h is =
      let o = and-then-some (λ g. option_map (around g.before g.behind g.back) (reach S g.sort g.inside path)) (nth_hole S sort x n) h is in
      let g = o.0 in
      let m = map-some (around g.before g.behind g.back) (reach S g.sort g.inside path) h o.2 in
      ap (in_hole (λ s y. put_in S s y path new) (new, x)) o.1
      ∙ ap (λ q. (q.0, g.back q.1)) (reached g.sort g.inside path m.0 m.1) ∙ ap into m.2

  -- ---- lists

  abbrev pub told : File S → Listing S × Block S → Listing S × File S
  told f q = (q.0, with_block f q.1)

  in-node : (f : File S) (sort : Sort) (y : Node sort S) (before behind : List Word) (back : Node sort S → Block S) (p : ListAt S)
      → list_of_node S sort y f before behind back ≡ Some p → told f ((put_here sort y new).0, back (put_here sort y new).1) ≡ (p.list, p.back new)
  in-node f of_expression e before behind back p is =
      let m = map-some (list_within f before behind back) (list_in e) p is in
      ap (λ o. told f ((put_own new e o).0, back (put_own new e o).1)) m.1 ∙ ap (λ (q : ListAt S). (q.list, q.back new)) m.2
  in-node f of_statement s before behind back p is = absurd cc
  in-node f of_block b before behind back p is = absurd cc

  pub list-put : (f : File S) (path : List ℕ) (p : ListAt S) → list_at f path ≡ Some p → told f (put_in S of_block (block_of f) path new) ≡ (p.list, p.back new)
  list-put f path p is =
      let o = and-then-some (λ h. list_of_node S h.sort h.inside f h.before h.behind h.back) (reach S of_block (block_of f) path) p is in
      let h = o.0 in
      ap (told f) (reached of_block (block_of f) path h o.1) ∙ in-node f h.sort h.inside h.before h.behind h.back p o.2

  -- ---- no list there

  nowhere : (sort : Sort) (x : Node sort S) (path : List ℕ) → reach S sort x path ≡ None → put_in S sort x path new ≡ (new, x)
  nowhere sort x [] is = absurd cc
  nowhere sort x (n ∷ path) is = each (λ g. nowhere g.sort g.inside path) (nth_hole S sort x n) refl is where
    into_none : (g : Hole S (Node sort S)) (r : Option (Hole S (Node g.sort S))) → option_map (around g.before g.behind g.back) r ≡ None → r ≡ None
    into_none g None e = refl
    into_none g (Some i) e = absurd cc

    each : ((g : Hole S (Node sort S)) → reach S g.sort g.inside path ≡ None → put_in S g.sort g.inside path new ≡ (new, g.inside))
        → (o : Option (Hole S (Node sort S))) → nth_hole S sort x n ≡ o
        → option_and_then (λ g. option_map (around g.before g.behind g.back) (reach S g.sort g.inside path)) o ≡ None
        → in_hole (λ s y. put_in S s y path new) (new, x) o ≡ (new, x)
    each deeper None same e = refl
    each deeper (Some g) same e =
        ap (λ q. (q.0, g.back q.1)) (deeper g (into_none g (reach S g.sort g.inside path) e))
        ∙ ap (λ z. (new, z)) (child-fits S sort x n g same).same

  here-none : (f : File S) (sort : Sort) (y : Node sort S) (before behind : List Word) (back : Node sort S → Block S)
      → list_of_node S sort y f before behind back ≡ None → put_here sort y new ≡ (new, y)
  here-none f of_expression e before behind back is = each (list_in e) is where
    each : (o : Option (ListIn S)) → option_map (list_within f before behind back) o ≡ None → put_own new e o ≡ (new, e)
    each None h = refl
    each (Some l) h = absurd cc
  here-none f of_statement s before behind back is = refl
  here-none f of_block b before behind back is = refl

  pub none-put : (f : File S) (path : List ℕ) → list_at f path ≡ None → put_in S of_block (block_of f) path new ≡ (new, block_of f)
  none-put f path is = each (reach S of_block (block_of f) path) refl is where
    each : (o : Option (Hole S (Block S))) → reach S of_block (block_of f) path ≡ o
        → option_and_then (λ h. list_of_node S h.sort h.inside f h.before h.behind h.back) o ≡ None → put_in S of_block (block_of f) path new
        ≡ (new, block_of f)
    each None same e = nowhere of_block (block_of f) path same
    each (Some h) same e =
        reached of_block (block_of f) path h same ∙ ap (λ q. (q.0, h.back q.1)) (here-none f h.sort h.inside h.before h.behind h.back e)
        ∙ ap (λ z. (new, z)) (reach-fits S of_block (block_of f) path h same).same
