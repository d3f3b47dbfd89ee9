-- What is around an expression of a tree, with any other one in its place.
use Rattle.std.proofs.Common.{◌≡◌, ℕ, ◌+◌, ◌≤◌, List, [], ◌∷◌, ◌++◌, Some, refl, sym, ap, ◌∙◌}
use Rattle.std.specs.Prelude.{option_map, option_and_then}
use Rattle.meson_lex.specs.Significant.{Word}
use Rattle.meson_lex.specs.declared.kinds.Span.{Span}
use Rattle.meson_syntax.specs.Grammar.{expression_depth, file_depth}
use Rattle.meson_syntax.specs.Paths.{Sort, of_expression, of_statement, of_block, Node, Hole, expression_in, nth_hole, reach, block_of, expression_of, expression_on_path, ListIn, list_in, ListAt, list_at, list_of_node, list_within}
use Rattle.meson_syntax.specs.Tree.{Block, Expression, File, file, Listing, Nowhere, Plain, erase, erase_expression}
use Rattle.meson_syntax.proofs.parsing.Steps.{some-injective}
use Rattle.meson_syntax.proofs.paths.Reaching.{and-then-some, map-some, reach-fits}
use Rattle.meson_edit.specs.Holes.{WordsAround, words_around, erase_front, erase_node}
use Rattle.meson_edit.proofs.paths.DeepLists.{reach-grows}
use Rattle.meson_edit.proofs.paths.Erased.{nodes-erase}
use Rattle.meson_edit.proofs.paths.PutThere.{PutThere, reach-stays}
use Rattle.meson_steps.proofs.InnerPlaces.{Child, below}
use Rattle.meson_places.specs.Expressions.{put_back, with_expression}

pub record Frame (path : List ℕ) : Type 0 where
  pub before : List Word
  pub behind : List Word
  pub back : Expression Nowhere → Block Nowhere
  pub is_there : (y : Expression Nowhere) → reach Nowhere of_block (back y) path ≡ Some (expression_in before y behind back)

module _ (path : List ℕ) (f : Frame path) where
  -- the file with an expression there
  abbrev pub whole : Expression Nowhere → Plain
  whole y = file tt (f.back y)

  pub with_there : (v y : Expression Nowhere) → with_expression path y (whole v) ≡ Some (whole y)
  with_there v y = ap (λ o. option_map (λ b. file tt b) (option_and_then (λ (h : Hole Nowhere (Block Nowhere)). put_back h.sort h.back y) o)) (f.is_there v)

  pub grows : (v y : Expression Nowhere) (k : ℕ) → expression_depth y ≤ expression_depth v + k → file_depth (whole y) ≤ file_depth (whole v) + k
  grows v y k deep = reach-grows Nowhere of_block (f.back v) path (expression_in f.before v f.behind f.back) (f.is_there v) y k deep

-- ---- the frame of an expression that is there

pub record Framed (t : Plain) (path : List ℕ) (v : Expression Nowhere) : Type 0 where
  pub frame : Frame path
  pub is_whole : t ≡ whole path frame v

framed_by : (s : Nowhere) (b : Block Nowhere) (path : List ℕ) (v : Expression Nowhere) (sort : Sort) (x : Node sort Nowhere) (before behind : List Word) (back : Node sort Nowhere → Block Nowhere) → back x ≡ b
    → PutThere Nowhere of_block path (record { sort = sort; inside = x; before = before; behind = behind; back = back }) → expression_of Nowhere sort x ≡ Some v → Framed (file s b) path v
framed_by s b path v of_expression x before behind back same there is =
    record { frame = record { before = before; behind = behind; back = back; is_there = there }; is_whole = ap (λ c. file tt c) (sym same) ∙ ap (λ y. file tt (back y)) (some-injective x v is) }
framed_by s b path v of_statement x before behind back same there is = absurd (let no : ⊥ = cc in no)
framed_by s b path v of_block x before behind back same there is = absurd (let no : ⊥ = cc in no)

pub framed : (t : Plain) (path : List ℕ) (v : Expression Nowhere) → expression_on_path t path ≡ Some v → Framed t path v
framed (file s b) path v is =
    let o = and-then-some (λ (h : Hole Nowhere (Block Nowhere)). expression_of Nowhere h.sort h.inside) (reach Nowhere of_block b path) v is in
    let h = o.0 in
    framed_by s b path v h.sort h.inside h.before h.behind h.back (reach-fits Nowhere of_block b path h o.1).same (reach-stays Nowhere of_block b path h o.1) o.2

-- ---- an expression of a tree with spans

expression_erased : (sort : Sort) (x : Node sort Span) → expression_of Nowhere sort (erase_node Span sort x) ≡ option_map erase_expression (expression_of Span sort x)
expression_erased of_expression e = refl
expression_erased of_statement s = refl
expression_erased of_block b = refl

pub erased_there : (f : File Span) (path : List ℕ) (e : Expression Span) → expression_on_path f path ≡ Some e → expression_on_path (erase f) path ≡ Some (erase_expression e)
erased_there f path e is =
    let o = and-then-some (λ (h : Hole Span (Block Span)). expression_of Span h.sort h.inside) (reach Span of_block (block_of f) path) e is in
    let both = nodes-erase f path ∙ ap (option_map (λ (h : Hole Span (Block Span)). erase_front (words_around h))) o.1 in
    let m = map-some words_around (reach Nowhere of_block (block_of (erase f)) path) (erase_front (words_around o.0)) both in
    ap (option_and_then (λ (h : Hole Nowhere (Block Nowhere)). expression_of Nowhere h.sort h.inside)) m.1
    ∙ ap (λ (w : WordsAround Nowhere). expression_of Nowhere w.sort w.inside) m.2
    ∙ expression_erased o.0.sort o.0.inside ∙ ap (option_map erase_expression) o.2

-- ---- lists of it

-- the list of an expression that is put into a tree
pub record ListPut (path : List ℕ) (put : Expression Nowhere → Plain) (y : Expression Nowhere) (l : ListIn Nowhere) : Type 0 where
  pub place : ListAt Nowhere
  pub is_place : list_at (put y) path ≡ Some place
  pub list : place.list ≡ l.list
  pub bracket : place.bracket ≡ l.bracket
  pub back : (m : Listing Nowhere) → place.back m ≡ put (l.back m)

abbrev pub Spot : List ℕ → (Expression Nowhere → Plain) → Type 0
Spot path put = (y : Expression Nowhere) (l : ListIn Nowhere) → list_in y ≡ Some l → ListPut path put y l

module _ (path : List ℕ) (f : Frame path) where
  pub own_spot : Spot path (whole path f)
  own_spot y l is = record {
    place = list_within (whole path f y) f.before f.behind f.back l;
    is_place =
        ap (option_and_then (λ (h : Hole Nowhere (Block Nowhere)). list_of_node Nowhere h.sort h.inside (whole path f y) h.before h.behind h.back)) (f.is_there y)
        ∙ ap (option_map (list_within (whole path f y) f.before f.behind f.back)) is;
    list = refl;
    bracket = refl;
    back = λ m. refl;
  }

  pub child_spot : (n : ℕ) (make : Expression Nowhere → Expression Nowhere) → ((y : Expression Nowhere) → Child (nth_hole Nowhere of_expression (make y) n) y make) → Spot (path ++ n ∷ []) (λ y. whole path f (make y))
  child_spot n make child y l is =
      let t = whole path f (make y) in
      let c = below of_block (f.back (make y)) path n y (expression_in f.before (make y) f.behind f.back) (f.is_there (make y)) make (child y) in
      record {
        place = list_within t c.before c.behind c.back l;
        is_place =
            ap (option_and_then (λ (h : Hole Nowhere (Block Nowhere)). list_of_node Nowhere h.sort h.inside t h.before h.behind h.back)) c.is
            ∙ ap (option_map (list_within t c.before c.behind c.back)) is;
        list = refl;
        bracket = refl;
        back = λ m. ap (λ b. file tt b) (c.back_is (l.back m));
      }
