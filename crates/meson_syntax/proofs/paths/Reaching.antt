-- The node that a path names, and the list that it names, fit into their file.
use Rattle.std.specs.Prelude.{option_map, option_and_then}
use Rattle.std.proofs.Common.{◌≡◌, ℕ, ◌≤◌, List, [], ◌∷◌, ◌++◌, Option, Some, None, refl, ap, sym, subst, ◌∙◌, append_assoc, arith}
use Rattle.std.proofs.lemmas.List.{append-nil}
use Rattle.meson_lex.specs.Significant.{Word}
use Rattle.meson_syntax.specs.Tree.{Expression, array, dictionary, call, Listing, Block, File, file}
use Rattle.meson_syntax.specs.Grammar.{expression_words, listing_words, block_words, file_words, looseness, LevelExpression, LevelListing, LevelBlock, LevelFile}
use Rattle.meson_syntax.specs.Paths.{Sort, of_expression, of_statement, of_block, Node, node_words, Hole, around, nth_hole, reach, block_of, with_block, ListIn, list_in, ListAt, list_within, list_of_node, list_at}
use Rattle.meson_syntax.proofs.parsing.Steps.{some-injective}
use Rattle.meson_syntax.proofs.paths.Fits.{LevelNode, AsTight}
use Rattle.meson_syntax.proofs.paths.StatementChildren.{LikeNode, child-fits}

pub map-some : {A B : Type 0} (f : A → B) (o : Option A) (y : B) → option_map f o ≡ Some y → (x : A) × (o ≡ Some x) × (f x ≡ y)
map-some f (Some x) y h = (x, refl, some-injective _ _ h)
map-some f None y h = absurd cc

pub and-then-some : {A B : Type 0} (f : A → Option B) (o : Option A) (y : B) → option_and_then f o ≡ Some y → (x : A) × (o ≡ Some x) × (f x ≡ Some y)
and-then-some f (Some x) y h = (x, refl, h)
and-then-some f None y h = absurd cc

group : {A : Type 0} (a b c d e : List A) → a ++ ((b ++ (c ++ d)) ++ e) ≡ (a ++ b) ++ (c ++ (d ++ e))
group a b c d e = simp append_assoc

module _ (S : Type 0) where
  -- ---- nodes

  pub record Reaches (sort : Sort) (x : Node sort S) (h : Hole S (Node sort S)) : Type 0 where
    pub same : h.back h.inside ≡ x
    pub put : (y : Node h.sort S) → node_words S sort (h.back y) ≡ h.before ++ (node_words S h.sort y ++ h.behind)
    pub tight : (y : Node h.sort S) → AsTight S h.sort h.inside y → AsTight S sort x (h.back y)
    pub inside : LevelNode S sort x → LevelNode S h.sort h.inside
    pub outside : LevelNode S sort x → (y : Node h.sort S) → AsTight S h.sort h.inside y → LevelNode S h.sort y → LevelNode S sort (h.back y)

  like-tight : (sort : Sort) (x y : Node sort S) → LikeNode S sort x y → AsTight S sort x y
  like-tight of_expression x y like = omega (arith, like)
  like-tight of_statement x y like = tt
  like-tight of_block x y like = tt

  pub reach-fits : (sort : Sort) (x : Node sort S) (path : List ℕ) (h : Hole S (Node sort S)) → reach S sort x path ≡ Some h → Reaches sort x h
  reach-fits sort x [] h is = subst (Reaches sort x) (some-injective _ _ is) (record {
    same = refl;
    put = λ y. sym (append-nil (node_words S sort y));
    tight = λ y t. t;
    inside = λ l. l;
    outside = λ l y t ly. ly;
  })
  reach-fits sort x (n ∷ path) h is =
      let o = and-then-some (λ g. option_map (around g.before g.behind g.back) (reach S g.sort g.inside path)) (nth_hole S sort x n) h is in
      let g = o.0 in
      let m = map-some (around g.before g.behind g.back) (reach S g.sort g.inside path) h o.2 in
      let i = m.0 in
      let u = child-fits S sort x n g o.1 in
      let v = reach-fits g.sort g.inside path i m.1 in
      subst (Reaches sort x) m.2 (record {
        same = ap g.back v.same ∙ u.same;
        put = λ y. u.put (i.back y) ∙ ap (λ w. g.before ++ (w ++ g.behind)) (v.put y) ∙ group g.before i.before (node_words S i.sort y) i.behind g.behind;
        tight = λ y t. like-tight sort x (g.back (i.back y)) (u.like (i.back y));
        inside = λ l. v.inside (u.inside l);
        outside = λ l y t ly. u.outside l (i.back y) (v.tight y t) (v.outside (u.inside l) y t ly);
      })

  -- ---- lists

  record ListInFits (e : Expression S) (l : ListIn S) : Type 0 where
    same : l.back l.list ≡ e
    put : (m : Listing S) → expression_words (l.back m) ≡ l.ahead ++ listing_words m l.bracket
    tight : (m : Listing S) → looseness (l.back m) ≤ looseness e
    level : LevelExpression e → LevelListing l.list l.bracket
    outside : (m : Listing S) → LevelListing m l.bracket → LevelExpression (l.back m)

  list-in-fits : (e : Expression S) (l : ListIn S) → list_in e ≡ Some l → ListInFits e l
  list-in-fits (array l) m is = subst (ListInFits (array l)) (some-injective _ _ is) (record { same = refl; put = λ n. refl; tight = λ n. omega arith; level = λ g. g; outside = λ n g. g })
  list-in-fits (dictionary l) m is = subst (ListInFits (dictionary l)) (some-injective _ _ is) (record { same = refl; put = λ n. refl; tight = λ n. omega arith; level = λ g. g; outside = λ n g. g })
  list-in-fits (call s x l) m is = subst (ListInFits (call s x l)) (some-injective _ _ is) (record { same = refl; put = λ n. refl; tight = λ n. omega arith; level = λ g. g; outside = λ n g. g })
  list-in-fits _ m is = absurd cc

  -- the list of a path in its file
  pub record ListFits (f : File S) (p : ListAt S) : Type 0 where
    pub same : p.back p.list ≡ f
    pub put : (l : Listing S) → file_words (p.back l) ≡ p.before ++ (listing_words l p.bracket ++ p.behind)
    pub level : LevelFile f → LevelListing p.list p.bracket
    pub outside : LevelFile f → (l : Listing S) → LevelListing l p.bracket → LevelFile (p.back l)

  with-same : (f : File S) → with_block f (block_of f) ≡ f
  with-same (file s b) = refl

  pub with-words : (f : File S) (b : Block S) → file_words (with_block f b) ≡ block_words b
  with-words (file s c) b = refl

  pub with-level : (f : File S) (b : Block S) → LevelBlock b → LevelFile (with_block f b)
  with-level (file s c) b h = h

  pub of-level : (f : File S) → LevelFile f → LevelBlock (block_of f)
  of-level (file s b) h = h

  list-group : {A : Type 0} (a b c d : List A) → a ++ ((b ++ c) ++ d) ≡ (a ++ b) ++ (c ++ d)
  list-group a b c d = simp append_assoc

  node-list-fits : (f : File S) (sort : Sort) (x : Node sort S) (before behind : List Word) (back : Node sort S → Block S) (p : ListAt S)
      → Reaches of_block (block_of f) (record { sort = sort; inside = x; before = before; behind = behind; back = back }) → list_of_node S sort x f before behind back ≡ Some p → ListFits f p
  node-list-fits f of_expression x before behind back p r is =
      let o = map-some (list_within f before behind back) (list_in x) p is in
      let l = o.0 in
      let i = list-in-fits x l o.1 in
      subst (ListFits f) o.2 (record {
        same = ap (λ e. with_block f (back e)) i.same ∙ ap (with_block f) r.same ∙ with-same f;
        put = λ m. with-words f (back (l.back m)) ∙ r.put (l.back m) ∙ ap (λ w. before ++ (w ++ behind)) (i.put m) ∙ list-group before l.ahead (listing_words m l.bracket) behind;
        level = λ g. i.level (r.inside (of-level f g));
        outside = λ g m lm. with-level f (back (l.back m)) (r.outside (of-level f g) (l.back m) (i.tight m) (i.outside m lm));
      })
  node-list-fits f of_statement x before behind back p r is = absurd cc
  node-list-fits f of_block x before behind back p r is = absurd cc

  pub list-fits : (f : File S) (path : List ℕ) (p : ListAt S) → list_at f path ≡ Some p → ListFits f p
  list-fits f path p is =
      let o = and-then-some (λ h. list_of_node S h.sort h.inside f h.before h.behind h.back) (reach S of_block (block_of f) path) p is in
      let h = o.0 in
      node-list-fits f h.sort h.inside h.before h.behind h.back p (reach-fits of_block (block_of f) path h o.1) o.2
