-- A block and its statements in a tree and in the tree without its spans: what an edit leaves has the same words in both.
use Rattle.meson_edit.proofs.Words.{option_map, option_and_then, ◌≡◌, ℕ, zero, suc, List, ◌++◌, Some, refl, sym, ap, ap₂, ◌∙◌, Span, block_words, file_words}
use Rattle.meson_edit.proofs.Words.{of_block, Hole, nth, reach, block_of, Nowhere, Plain, Statement, Statements}
use Rattle.meson_edit.proofs.Words.{no_statements, statement, statement_list, Block, block, File, erase, erase_statement, erase_statements, erase_block}
use Rattle.meson_edit.proofs.Words.{block-words-erased, some-injective, map-some, and-then-some, reach-fits, with-words, BlockAt, block_at}
use Rattle.meson_edit.proofs.Words.{statement_in, all_but, block_without, without_statement, WordsAround, words_around, erase_front}
use Rattle.meson_edit.proofs.paths.Erased.{nodes-erase, blocks-erase}
use Rattle.meson_edit.proofs.exchange.AmongStatements.{of-block-at}

-- ---- the words around a block

-- the hole that a block stands in, and the words of the file with another block there
record InHole (S : Type 0) (f : File S) (path : List ℕ) (b : BlockAt S) : Type 0 where
  hole : Hole S (Block S)
  is_hole : reach S of_block (block_of f) path ≡ Some hole
  put : (other : Block S) → file_words (b.back other) ≡ hole.before ++ (block_words other ++ hole.behind)

in-hole : (S : Type 0) (f : File S) (path : List ℕ) (b : BlockAt S) → block_at f path ≡ Some b → InHole S f path b
in-hole S f path b is =
    of-block-at S f path (InHole S f path)
    (λ x before behind back at.
    let h : Hole S (Block S) = record { sort = of_block; inside = x; before = before; behind = behind; back = back } in
    let r = reach-fits S of_block (block_of f) path h at in
    record { hole = h; is_hole = at; put = λ other. with-words S f (back other) ∙ r.put other })
    b is

-- blocks of the same words leave the same words of the whole
same-words : (f : File Span) (path : List ℕ) (b : BlockAt Span) → block_at f path ≡ Some b → (q : BlockAt Nowhere) → block_at (erase f) path ≡ Some q
    → (x : Block Span) (y : Block Nowhere) → block_words x ≡ block_words y → file_words (b.back x) ≡ file_words (q.back y)
same-words f path b is q plain-is x y same =
    let h = in-hole Span f path b is in
    let g = in-hole Nowhere (erase f) path q plain-is in
    let shown : words_around g.hole ≡ erase_front (words_around h.hole) =
    some-injective _ _ (ap (option_map words_around) (sym g.is_hole) ∙ nodes-erase f path ∙ ap (option_map (λ h. erase_front (words_around h))) h.is_hole) in
    h.put x ∙ ap₂ (λ w (p : WordsAround Nowhere). p.before ++ (w ++ p.behind)) same (sym shown) ∙ sym (g.put y)

-- ---- statements

nth-erased : (S : Type 0) (list : Statements S) (n : ℕ) → nth (statement_list (erase_statements list)) n ≡ option_map erase_statement (nth (statement_list list) n)
nth-erased S no_statements n = refl
nth-erased S (statement s more) zero = refl
nth-erased S (statement s more) (suc n) = nth-erased S more n

statement-erased : (S : Type 0) (b : Block S) (n : ℕ) → statement_in (erase_block b) n ≡ option_map erase_statement (statement_in b n)
statement-erased S (block s list) n = nth-erased S list n

all-but-erased : (S : Type 0) (list : Statements S) (n : ℕ) → all_but (erase_statements list) n ≡ erase_statements (all_but list n)
all-but-erased S no_statements n = refl
all-but-erased S (statement s more) zero = refl
all-but-erased S (statement s more) (suc n) = ap (statement (erase_statement s)) (all-but-erased S more n)

without-erased : (S : Type 0) (b : Block S) (n : ℕ) → block_without (erase_block b) n ≡ erase_block (block_without b n)
without-erased S (block s list) n = ap (block tt) (all-but-erased S list n)

-- ---- the statement that an edit names

-- The block and the statement that an edit names, with spans and without, and the tree that the edit makes of that block.
pub record Names (f : File Span) (path : List ℕ) (n : ℕ) (make : BlockAt Nowhere → Plain) (t : Plain) : Type 0 where
  pub place : BlockAt Span
  pub is_place : block_at f path ≡ Some place
  pub node : Statement Span
  pub is_node : statement_in place.inside n ≡ Some node
  pub bare : BlockAt Nowhere
  pub is_bare : block_at (erase f) path ≡ Some bare
  pub same : erase_block place.inside ≡ bare.inside
  pub makes : make bare ≡ t

pub names : (f : File Span) (path : List ℕ) (n : ℕ) (make : BlockAt Nowhere → Plain) (t : Plain)
    → option_and_then (λ b. option_map (λ s. make b) (statement_in b.inside n)) (block_at (erase f) path) ≡ Some t → Names f path n make t
names f path n make t is =
    let o = and-then-some (λ (b : BlockAt Nowhere). option_map (λ s. make b) (statement_in b.inside n)) (block_at (erase f) path) t is in
    let q = o.0 in
    let m = map-some (λ (s : Statement Nowhere). make q) (statement_in q.inside n) t o.2 in
    let p = map-some (λ (b : BlockAt Span). erase_block b.inside) (block_at f path) q.inside (sym (blocks-erase f path) ∙ ap (option_map (λ (b : BlockAt Nowhere). b.inside)) o.1) in
    let b = p.0 in
    let x = map-some erase_statement (statement_in b.inside n) m.0 (sym (statement-erased Span b.inside n) ∙ ap (λ c. statement_in c n) p.2 ∙ m.1) in
    record { place = b; is_place = p.1; node = x.0; is_node = x.1; bare = q; is_bare = o.1; same = p.2; makes = m.2 }

-- ---- the statement that goes

-- The statement that an edit takes out of a file, with its spans: without it the file has the words of the edited tree.
pub record Leaves (f : File Span) (path : List ℕ) (n : ℕ) (t : Plain) : Type 0 where
  pub place : BlockAt Span
  pub is_place : block_at f path ≡ Some place
  pub node : Statement Span
  pub is_node : statement_in place.inside n ≡ Some node
  pub words : file_words (place.back (block_without place.inside n)) ≡ file_words t

pub leaves : (f : File Span) (path : List ℕ) (n : ℕ) (t : Plain) → without_statement path n (erase f) ≡ Some t → Leaves f path n t
leaves f path n t is =
    let v = names f path n (λ b. b.back (block_without b.inside n)) t is in
    let b = v.place in
    let q = v.bare in
    let same : block_words (block_without b.inside n) ≡ block_words (block_without q.inside n) =
    sym (block-words-erased (block_without b.inside n)) ∙ ap block_words (sym (without-erased Span b.inside n) ∙ ap (λ c. block_without c n) v.same) in
    record {
      place = b;
      is_place = v.is_place;
      node = v.node;
      is_node = v.is_node;
      words = same-words f path b v.is_place q v.is_bare (block_without b.inside n) (block_without q.inside n) same ∙ ap file_words v.makes;
    }
