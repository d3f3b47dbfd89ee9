-- A path names the same in a tree and in the mapped tree.
use Rattle.meson_edit.proofs.Words.{option_map, option_and_then, ◌≡◌, ℕ, List, [], ◌∷◌, ◌++◌, Option, Some, refl, ap, ap₂, subst, ◌∙◌, Word, Sort}
use Rattle.meson_edit.proofs.Words.{of_expression, of_statement, of_block, Node, Hole, around, children, nth_hole, reach, block_of, with_block, ListIn, list_in}
use Rattle.meson_edit.proofs.Words.{list_within, list_of_node, list_at, Expression, identifier, boolean, integer, string, paren, array, dictionary, call, unary}
use Rattle.meson_edit.proofs.Words.{row, postfix, conditional, Listing, Block, File, file, some-injective, each_node, MapsHole, maps, MapsList, InBoth, neither}
use Rattle.meson_edit.proofs.Words.{both, each_expression, each_listing, each_block, each_file}
use Rattle.meson_edit.proofs.kept.EachChildren.{maps-around, nth-maps, children-map}

-- what is found in both, and what is made of it
pub map-both : {A B C D : Type 0} {P : A → B → Type 0} {Q : C → D → Type 0} (f : A → C) (g : B → D) → ((x : A) (y : B) → P x y → Q (f x) (g y))
    → (o : Option A) (u : Option B) → InBoth P o u
    → InBoth Q (option_map f o) (option_map g u)
map-both f g q o u neither = neither
map-both f g q o u (both x y p) = both (f x) (g y) (q x y p)

pub then-both : {A B C D : Type 0} {P : A → B → Type 0} {Q : C → D → Type 0} (f : A → Option C) (g : B → Option D)
    → ((x : A) (y : B) → P x y → InBoth Q (f x) (g y)) → (o : Option A) (u : Option B) → InBoth P o u
    → InBoth Q (option_and_then f o) (option_and_then g u)
then-both f g q o u neither = neither
then-both f g q o u (both x y p) = q x y p

-- what is found in both is to one another as said
pub in-both : {A B : Type 0} {R : A → B → Type 0} (o : Option A) (u : Option B) → InBoth R o u → (x : A) (y : B) → o ≡ Some x → u ≡ Some y → R x y
in-both {R} o u neither x y p q = absurd cc
in-both {R} o u (both a b m) x y p q = subst (λ z. R z y) (some-injective a x p) (subst (R a) (some-injective b y q) m)

-- what is there in the one is there in the other
pub in-other : {A B : Type 0} {R : A → B → Type 0} (o : Option A) (u : Option B) → InBoth R o u → (x : A) → o ≡ Some x → (y : B) × (u ≡ Some y) × R x y
in-other {R} o u neither x p = absurd cc
in-other {R} o u (both a b m) x p = (b, refl, subst (λ z. R z b) (some-injective a x p) m)

module _ {S T : Type 0} (h : S → T) where
  -- ---- nodes

  -- what a path names within a child, in the whole
  further : (sort : Sort) (path : List ℕ) (p : Hole S (Node sort S)) (r : Hole T (Node sort T)) → MapsHole h (each_node h sort) p r
      → ((of : Sort) (y : Node of S) → InBoth (MapsHole h (each_node h of)) (reach S of y path) (reach T of (each_node h of y) path))
      → InBoth (MapsHole h (each_node h sort)) (option_map (around p.before p.behind p.back) (reach S p.sort p.inside path))
      (option_map (around r.before r.behind r.back) (reach T r.sort r.inside path))
  further sort path p r (maps of x before before' behind behind' back back' is-before is-behind agree) ih =
      map-both _ _ (λ y z m. maps-around h (each_node h of) (each_node h sort) before before' behind behind' back back' is-before is-behind agree y z m)
      (reach S of x path) (reach T of (each_node h of x) path) (ih of x)

  pub reach-maps : (sort : Sort) (x : Node sort S) (path : List ℕ)
      → InBoth (MapsHole h (each_node h sort)) (reach S sort x path) (reach T sort (each_node h sort x) path)
  reach-maps sort x [] = both _ _ (maps sort x [] [] [] [] (λ y. y) (λ y. y) refl refl (λ y. refl))
  reach-maps sort x (n ∷ path) =
      then-both _ _ (λ p r m. further sort path p r m (λ of y. reach-maps of y path)) (nth_hole S sort x n) (nth_hole T sort (each_node h sort x) n)
      (nth-maps h (each_node h sort) (children S sort x) (children T sort (each_node h sort x)) (children-map h sort x) n)

  pub nodes-map : (f : File S) (path : List ℕ)
      → InBoth (MapsHole h (each_block h)) (reach S of_block (block_of f) path) (reach T of_block (block_of (each_file h f)) path)
  nodes-map (file s b) path = reach-maps of_block b path

  -- ---- lists

  -- the list of an expression, in both trees
  record MapsIn (p : ListIn S) (r : ListIn T) : Type 0 where
    list : r.list ≡ each_listing h p.list
    bracket : r.bracket ≡ p.bracket
    ahead : r.ahead ≡ p.ahead
    back : (l : Listing S) → r.back (each_listing h l) ≡ each_expression h (p.back l)

  list-in : (e : Expression S) → InBoth MapsIn (list_in e) (list_in (each_expression h e))
  list-in (array l) = both _ _ (record { list = refl; bracket = refl; ahead = refl; back = λ m. refl })
  list-in (dictionary l) = both _ _ (record { list = refl; bracket = refl; ahead = refl; back = λ m. refl })
  list-in (call s x l) = both _ _ (record { list = refl; bracket = refl; ahead = refl; back = λ m. refl })
  list-in (identifier s x) = neither
  list-in (boolean s b) = neither
  list-in (integer s x) = neither
  list-in (string s q x) = neither
  list-in (paren s e) = neither
  list-in (unary s o e) = neither
  list-in (row s e os) = neither
  list-in (postfix s e ts) = neither
  list-in (conditional s c y n) = neither

  put-block : (f : File S) (b : Block S) → with_block (each_file h f) (each_block h b) ≡ each_file h (with_block f b)
  put-block (file s c) b = refl

  list-of : (f : File S) (sort : Sort) (x : Node sort S) (before before' behind behind' : List Word) (back : Node sort S → Block S)
      (back' : Node sort T → Block T) → before' ≡ before → behind' ≡ behind
      → ((y : Node sort S) → back' (each_node h sort y) ≡ each_block h (back y))
      → InBoth (MapsList h) (list_of_node S sort x f before behind back) (list_of_node T sort (each_node h sort x) (each_file h f) before' behind' back')
  list-of f of_expression e before before' behind behind' back back' p q agree =
      map-both (list_within f before behind back) (list_within (each_file h f) before' behind' back')
      (λ l m is. record {
        list = is.list;
        bracket = is.bracket;
        before = ap₂ (λ u v. u ++ v) p is.ahead;
        behind = q;
        back = λ other. ap (λ y. with_block (each_file h f) (back' y)) (is.back other) ∙ ap (with_block (each_file h f)) (agree (l.back other))
            ∙ put-block f (back (l.back other));
      }) (list_in e) (list_in (each_expression h e)) (list-in e)
  list-of f of_statement s before before' behind behind' back back' p q agree = neither
  list-of f of_block b before before' behind behind' back back' p q agree = neither

  list-of-hole : (f : File S) (p : Hole S (Block S)) (r : Hole T (Block T)) → MapsHole h (each_block h) p r
      → InBoth (MapsList h) (list_of_node S p.sort p.inside f p.before p.behind p.back)
      (list_of_node T r.sort r.inside (each_file h f) r.before r.behind r.back)
  list-of-hole f p r (maps sort x before before' behind behind' back back' is-before is-behind agree) =
      list-of f sort x before before' behind behind' back back' is-before is-behind agree

  pub lists-map : (f : File S) (path : List ℕ) → InBoth (MapsList h) (list_at f path) (list_at (each_file h f) path)
  lists-map f path = then-both _ _ (list-of-hole f) (reach S of_block (block_of f) path) (reach T of_block (block_of (each_file h f)) path) (nodes-map f path)
