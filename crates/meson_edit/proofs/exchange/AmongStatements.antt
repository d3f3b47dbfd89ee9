-- A statement among those of its block, and the block in its file: the words before and behind it, and where its tokens stand.
use Rattle.meson_edit.proofs.Words.{◌≡◌, ℕ, zero, suc, List, [], ◌∷◌, ◌++◌, Some, refl, ap, subst, ◌∙◌, append_assoc, append-nil, Token, Word, new_line, Span}
use Rattle.meson_edit.proofs.Words.{statement_words, statements_words, block_words, file_words, LevelStatements, LevelBlock, LevelFile, Sort, of_expression}
use Rattle.meson_edit.proofs.Words.{of_statement, of_block, Node, nth, reach, block_of, SpellsStatements, SpellsBlock, SpellsFile, Statement, Statements}
use Rattle.meson_edit.proofs.Words.{no_statements, statement, statement_list, Block, block, File, statement-words, statements-words, some-injective, one-words}
use Rattle.meson_edit.proofs.Words.{then-words, and-then-some, reach-fits, with-words, with-level, of-level, join-words, BlockAt, block_of_node}
use Rattle.meson_edit.proofs.Words.{block_at, statement_in, all_but, block_without, option_map, Hole, with_block, file, take}
use Rattle.meson_edit.specs.ExchangedLines.{statements_in, statements_words_of, words_before}
use Rattle.meson_lex.specs.declared.kinds.Kind.TheVariants as k
use Rattle.meson_edit.proofs.places.Inside.{Inside, inside-part}
use Rattle.meson_edit.proofs.places.InExpressions.{third-of}
use Rattle.meson_edit.proofs.places.InStatements.{reach-inside}
use Rattle.meson_edit.proofs.places.Standing.{block-spelled}
use Rattle.meson_edit.proofs.exchange.States.{Lines, no-lines, lines-append, line-more}
use Rattle.meson_edit.proofs.exchange.StatementLines.{statement-flat}
use Rattle.meson_edit.proofs.exchange.LinedHoles.{reach-lined}

-- ---- statements

record Among (list : Statements Span) (n : ℕ) (x : Statement Span) : Type 0 where
  earlier : List Word
  later : List Word
  lines : Lines earlier
  is_earlier : earlier ≡ statements_words_of (take n (statement_list list))
  others : statements_words (all_but list n) ≡ earlier ++ later
  spelled : (d : ℕ) (ts : List Token) → SpellsStatements list d ts → Inside of_statement x earlier (new_line ∷ later) ts

among-first : (s : Statement Span) (more : Statements Span) → Among (statement s more) zero s
among-first s more = record {
  earlier = [];
  later = statements_words more;
  lines = no-lines;
  is_earlier = refl;
  others = refl;
  spelled = λ d ts h. let q = h.second in record {
    depth = d;
    last = 0;
    front = [];
    own = h.front;
    back = h.back;
    parts = h.joined;
    is_front = refl;
    is_back = then-words _ _ h.back _ _ q (one-words k.LineEnd q.front (λ x. refl) q.first) (statements-words more d q.back q.second);
    spelled = h.first;
  };
}

among-more : (s : Statement Span) (more : Statements Span) (n : ℕ) (x : Statement Span) → Among more n x → Among (statement s more) (suc n) x
among-more s more n x r =
    let line = statement_words s ++ new_line ∷ [] in
    record {
      earlier = line ++ r.earlier;
      later = r.later;
      lines = lines-append line r.earlier (line-more (statement_words s) [] (statement-flat Span s) no-lines) r.lines;
      is_earlier = ap (λ w. line ++ w) r.is_earlier ∙ append_assoc (statement_words s) (new_line ∷ []) (statements_words_of (take n (statement_list more)));
      others = ap (λ w. statement_words s ++ (new_line ∷ w)) r.others ∙ shift (statement_words s) r.earlier r.later;
      spelled = λ d ts h.
          let q = h.second in
          let end = one-words k.LineEnd q.front (λ x. refl) q.first in
          subst (λ w. Inside of_statement x (line ++ r.earlier) w ts) (append-nil (new_line ∷ r.later))
          (inside-part of_statement x r.earlier (new_line ∷ r.later) line [] ts (h.front ++ q.front) q.back [] (third-of ts h.front h.back q.front q.back h.joined q.joined)
          (join-words h.front q.front (statement_words s) (new_line ∷ []) (statement-words s d h.front h.first) end) refl (r.spelled d q.back q.second));
    }
  where
    shift : (a b c : List Word) → a ++ (new_line ∷ (b ++ c)) ≡ ((a ++ new_line ∷ []) ++ b) ++ c
    shift a b c = simp append_assoc

among : (list : Statements Span) (n : ℕ) (x : Statement Span) → nth (statement_list list) n ≡ Some x → Among list n x
among no_statements n x e = absurd cc
among (statement s more) zero x e = subst (Among (statement s more) zero) (some-injective s x e) (among-first s more)
among (statement s more) (suc n) x e = among-more s more n x (among more n x e)

pub record InBlock (b : Block Span) (n : ℕ) (x : Statement Span) : Type 0 where
  pub earlier : List Word
  pub later : List Word
  pub lines : Lines earlier
  pub is_earlier : earlier ≡ statements_words_of (take n (statements_in b))
  pub others : block_words (block_without b n) ≡ earlier ++ later
  pub spelled : (d last : ℕ) (ts : List Token) → SpellsBlock b d last ts → Inside of_statement x earlier (new_line ∷ later) ts

pub in-block : (b : Block Span) (n : ℕ) (x : Statement Span) → statement_in b n ≡ Some x → InBlock b n x
in-block (block s list) n x e =
    let r = among list n x e in
    record { earlier = r.earlier; later = r.later; lines = r.lines; is_earlier = r.is_earlier; others = r.others; spelled = λ d last ts h. r.spelled d ts h.1 }

-- ---- levels

all-but-level : {S : Type 0} (list : Statements S) (n : ℕ) → LevelStatements list → LevelStatements (all_but list n)
all-but-level no_statements n l = tt
all-but-level (statement s more) zero l = l.1
all-but-level (statement s more) (suc n) l = (l.0, all-but-level more n l.1)

pub without-level : {S : Type 0} (b : Block S) (n : ℕ) → LevelBlock b → LevelBlock (block_without b n)
without-level (block s list) n l = all-but-level list n l

-- ---- the block in its file

-- The words around a block are whole lines, and another block may be put there.
pub record BlockFits (S : Type 0) (f : File S) (path : List ℕ) (b : BlockAt S) : Type 0 where
  pub before : List Word
  pub behind : List Word
  pub is_before : words_before f path ≡ Some before
  pub itself : b.back b.inside ≡ f
  pub put : (other : Block S) → file_words (b.back other) ≡ before ++ (block_words other ++ behind)
  pub level : LevelFile f → LevelBlock b.inside
  pub outside : LevelFile f → (other : Block S) → LevelBlock other → LevelFile (b.back other)
  pub lines : Lines before

-- and its tokens are where the path leads
pub record BlockStands (f : File Span) (path : List ℕ) (b : BlockAt Span) : Type 0 where
  pub fits : BlockFits Span f path b
  pub spelled : (len d : ℕ) (ts : List Token) → SpellsFile f len d ts → Inside of_block b.inside fits.before fits.behind ts

with-itself : {S : Type 0} (f : File S) → with_block f (block_of f) ≡ f
with-itself (file s b) = refl

abbrev held : (S : Type 0) (f : File S) (path : List ℕ) (x : Block S) (before behind : List Word) (back : Block S → Block S)
    → reach S of_block (block_of f) path ≡ Some (record { sort = of_block; inside = x; before = before; behind = behind; back = back })
    → BlockFits S f path (record { inside = x; back = λ other. with_block f (back other) })
held S f path x before behind back at =
    let h : Hole S (Block S) = record { sort = of_block; inside = x; before = before; behind = behind; back = back } in
    let r = reach-fits S of_block (block_of f) path h at in
    record {
      before = before;
      behind = behind;
      is_before = ap (option_map (λ h. h.before)) at;
      itself = ap (with_block f) r.same ∙ with-itself f;
      put = λ other. with-words S f (back other) ∙ r.put other;
      level = λ g. r.inside (of-level S f g);
      outside = λ g other lo. with-level S f (back other) (r.outside (of-level S f g) other tt lo);
      lines = reach-lined S (block_of f) path h at;
    }

-- what holds of each block that a path leads to
module _ (S : Type 0) (f : File S) (path : List ℕ) (Holds : BlockAt S → Type 0)
    (each : (x : Block S) (before behind : List Word) (back : Block S → Block S)
    → reach S of_block (block_of f) path ≡ Some (record { sort = of_block; inside = x; before = before; behind = behind; back = back })
    → Holds (record { inside = x; back = λ other. with_block f (back other) })) where
  of-node : (sort : Sort) (x : Node sort S) (before behind : List Word) (back : Node sort S → Block S) (b : BlockAt S)
      → reach S of_block (block_of f) path ≡ Some (record { sort = sort; inside = x; before = before; behind = behind; back = back })
      → block_of_node S sort x f back ≡ Some b → Holds b
  of-node of_expression x before behind back b at is = absurd cc
  of-node of_statement x before behind back b at is = absurd cc
  of-node of_block x before behind back b at is = subst Holds (some-injective _ _ is) (each x before behind back at)

  pub of-block-at : (b : BlockAt S) → block_at f path ≡ Some b → Holds b
  of-block-at b is =
      let o = and-then-some (λ h. block_of_node S h.sort h.inside f h.back) (reach S of_block (block_of f) path) b is in
      let h = o.0 in
      of-node h.sort h.inside h.before h.behind h.back b o.1 o.2

pub block-fits : (S : Type 0) (f : File S) (path : List ℕ) (b : BlockAt S) → block_at f path ≡ Some b → BlockFits S f path b
block-fits S f path b is = of-block-at S f path (BlockFits S f path) (held S f path) b is

pub block-stands : (f : File Span) (path : List ℕ) (b : BlockAt Span) → block_at f path ≡ Some b → BlockStands f path b
block-stands f path b is =
    of-block-at Span f path (BlockStands f path)
    (λ x before behind back at. record {
      fits = held Span f path x before behind back at;
      spelled = λ len d ts sp. reach-inside of_block (block_of f) path d 0 ts _ at (block-spelled f len d ts sp);
    })
    b is
