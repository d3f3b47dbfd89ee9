-- A file without spans whose words stand there has one with spans.
use Rattle.std.proofs.Common.{◌≡◌, ℕ, ◌≤◌, max, List, [], ◌∷◌, ◌++◌, refl, sym, ap, ap₂, subst, arith}
use Rattle.meson_lex.specs.declared.kinds.Kind.{Kind}
use Rattle.meson_lex.specs.declared.kinds.Kind.TheVariants as k
use Rattle.meson_lex.specs.declared.kinds.Span.{Span}
use Rattle.meson_lex.specs.Significant.{new_line}
use Rattle.meson_lex.specs.Located.{Token, words}
use Rattle.meson_syntax.specs.Operators.{assignment_kind}
use Rattle.meson_syntax.specs.Tree.{Nowhere, Plain, Statement, evaluate, assign, selection, iteration, breaks, continues, Branches, no_branches, branch, Otherwise, nothing_else, otherwise, Statements, no_statements, statement, Block, block, File, file, erase, erase_expression, erase_statement, erase_branches, erase_otherwise, erase_statements, erase_block, erase_names}
use Rattle.meson_syntax.specs.Spelling.{One, Then, Deeper, NewLine, SaysNames, SpellsExpression, SpellsStatement, SpellsBranches, SpellsOtherwise, SpellsStatements, SpellsBlock, SpellsFile, SaysName}
use Rattle.meson_syntax.specs.Grammar.{mark, names_words, expression_words, statement_words, branches_words, otherwise_words, statements_words, block_words, file_words, HasBranch, LevelStatement, LevelBranches, LevelOtherwise, LevelStatements, LevelBlock, LevelFile, expression_depth, statement_depth, branches_depth, otherwise_depth, statements_depth, block_depth, file_depth}
use Rattle.meson_syntax.proofs.parsing.NonEmpty.{one-some, then-some, name-some}
use Rattle.meson_syntax.proofs.parsing.FileErased.{has-branch-erased}
use Rattle.meson_syntax.proofs.parsing.Cuts.{cut, join, one-from, nothing-from, one-then, then-one, names-from, line-cut, new-line-from, cover-one, cover-then, cover-block, under, deeper, name-from}
use Rattle.meson_syntax.proofs.parsing.Placing.{three-as, place-expression}

has-branch-as : (bs : Branches Span) (p : Branches Nowhere) → erase_branches bs ≡ p → HasBranch p → HasBranch bs
has-branch-as bs p h has = subst (λ A. A) (has-branch-erased bs) (subst (λ x. HasBranch x) (sym h) has)

branches-some : (bs : Branches Span) (word : Kind) (d : ℕ) → HasBranch bs → SpellsBranches bs word d [] → ⊥
branches-some no_branches word d has h = absurd has
branches-some (branch e b more) word d has h = then-some _ _ (one-some word) h

mutual
  pub place-statement : (p : Statement Nowhere) (d : ℕ) (ts : List Token) → LevelStatement p → statement_depth p ≤ d → words ts ≡ statement_words p
      → (t : Statement Span) × (erase_statement t ≡ p) × SpellsStatement t d ts
  place-statement (evaluate p) d ts l n e =
      let r = place-expression p d ts l n e in
      (evaluate r.0, ap evaluate r.1, r.2)
  place-statement (assign u x s p) d ts l n e =
      let a = cut ((k.Identifier, x.text) ∷ []) (mark (assignment_kind s) ++ expression_words p) ts e in
      let b = cut (mark (assignment_kind s)) (expression_words p) a.back a.second in
      let r = place-expression p d b.back l n b.second in
      let P = SpellsExpression r.0 d in
      let y = name-from x a.front a.first in
      let t = join (SaysName y.0) (Then (One (assignment_kind s)) P) _ _ ts a y.2 (one-then (assignment_kind s) P _ a.back b r.2) in
      let c = cover-then (SaysName y.0) (Then (One (assignment_kind s)) P) ts (name-some y.0) t in
      (assign c.0 y.0 s r.0, ap₂ (λ v w. assign tt v s w) y.1 r.1, (c.1, t))
  place-statement (selection u bs o) d ts l n e =
      let a = cut (branches_words bs k.WordIf) (otherwise_words o ++ mark k.WordEndif) ts e in
      let b = cut (otherwise_words o) (mark k.WordEndif) a.back a.second in
      let room = under (max (branches_depth bs) (otherwise_depth o)) d n in
      let fits = room.fits in
      let r = place-branches bs k.WordIf room.inner a.front l.1 (omega arith) a.first in
      let q = place-otherwise o room.inner b.front l.2 (omega arith) b.first in
      let has = has-branch-as r.0 bs r.1 l.0 in
      let P = SpellsBranches r.0 k.WordIf room.inner in
      let Q = SpellsOtherwise q.0 room.inner in
      let t = join P (Then Q (One k.WordEndif)) _ _ ts a r.2 (then-one k.WordEndif Q _ a.back b q.2) in
      let c = cover-then P (Then Q (One k.WordEndif)) ts (branches-some r.0 k.WordIf room.inner has) t in (
        selection c.0 r.0 q.0,
        ap₂ (selection tt) r.1 q.1,
        (c.1, has, deeper (λ inner. Then (SpellsBranches r.0 k.WordIf inner) (Then (SpellsOtherwise q.0 inner) (One k.WordEndif))) _ d ts room t),
      )
  place-statement (iteration u xs p body) d ts l n e =
      let bodied = (new_line ∷ block_words body) ++ mark k.WordEndforeach in
      let a = cut (mark k.WordForeach) (names_words xs ++ (mark k.Colon ++ (expression_words p ++ bodied))) ts e in
      let b = cut (names_words xs) (mark k.Colon ++ (expression_words p ++ bodied)) a.back a.second in
      let f = cut (mark k.Colon) (expression_words p ++ bodied) b.back b.second in
      let g = cut (expression_words p) bodied f.back f.second in
      let h = cut (new_line ∷ block_words body) (mark k.WordEndforeach) g.back g.second in
      let line = line-cut (block_words body) h.front h.first in
      let room = under (max (expression_depth p) (block_depth body)) d n in
      let fits = room.fits in
      let r = place-expression p room.inner g.front l.1 (omega arith) g.first in
      let q = place-block body room.inner line.token.to line.rest l.2 (omega arith) line.second in
      let P : ℕ → List Token → Type 0 = λ inner. Then (SpellsExpression r.0 inner) (Then (NewLine (SpellsBlock q.0 inner)) (One k.WordEndforeach)) in
      let Q = NewLine (SpellsBlock q.0 room.inner) in
      let inside = join (SpellsExpression r.0 room.inner) (Then Q (One k.WordEndforeach)) _ _ f.back g r.2
      (then-one k.WordEndforeach Q _ g.back h (new-line-from (SpellsBlock q.0 room.inner) _ h.front line q.2)) in
      let ys = names-from xs b.front l.0 b.first in
      let t = one-then k.WordForeach (Then (SaysNames ys.0) (Then (One k.Colon) (Deeper P d))) _ ts a
      (join (SaysNames ys.0) (Then (One k.Colon) (Deeper P d)) _ _ a.back b ys.2
      (one-then k.Colon (Deeper P d) _ b.back f (deeper P _ d f.back room inside))) in
      let c = cover-then (One k.WordForeach) (Then (SaysNames ys.0) (Then (One k.Colon) (Deeper P d))) ts (one-some k.WordForeach) t in
      (iteration c.0 ys.0 r.0 q.0, three-as (iteration tt) (erase_names ys.0) xs (erase_expression r.0) p (erase_block q.0) body ys.1 r.1 q.1, (c.1, t))
  place-statement (breaks u) d ts l n e =
      let w = one-from k.WordBreak ts e in
      let c = cover-one k.WordBreak ts w in
      (breaks c.0, refl, (c.1, w))
  place-statement (continues u) d ts l n e =
      let w = one-from k.WordContinue ts e in
      let c = cover-one k.WordContinue ts w in
      (continues c.0, refl, (c.1, w))

  pub place-branches : (p : Branches Nowhere) (word : Kind) (d : ℕ) (ts : List Token) → LevelBranches p → branches_depth p ≤ d → words ts ≡ branches_words p word
      → (t : Branches Span) × (erase_branches t ≡ p) × SpellsBranches t word d ts
  place-branches no_branches word d ts l n e = (no_branches, refl, nothing-from ts e)
  place-branches (branch p body more) word d ts l n e =
      let after = (new_line ∷ block_words body) ++ branches_words more k.WordElif in
      let a = cut (mark word) (expression_words p ++ after) ts e in
      let b = cut (expression_words p) after a.back a.second in
      let f = cut (new_line ∷ block_words body) (branches_words more k.WordElif) b.back b.second in
      let line = line-cut (block_words body) f.front f.first in
      let r = place-expression p d b.front l.0 (omega arith) b.first in
      let q = place-block body d line.token.to line.rest l.1 (omega arith) line.second in
      let m = place-branches more k.WordElif d f.back l.2 (omega arith) f.second in
      let P = SpellsExpression r.0 d in
      let Q = NewLine (SpellsBlock q.0 d) in
      let R = SpellsBranches m.0 k.WordElif d in
      let made = ap₂ branch r.1 q.1 in (
        branch r.0 q.0 m.0,
        three-as branch (erase_expression r.0) p (erase_block q.0) body (erase_branches m.0) more r.1 q.1 m.1,
        one-then word (Then P (Then Q R)) _ ts a
            (join P (Then Q R) _ _ a.back b r.2
            (join Q R _ _ b.back f (new-line-from (SpellsBlock q.0 d) _ f.front line q.2) m.2)),
      )

  pub place-otherwise : (p : Otherwise Nowhere) (d : ℕ) (ts : List Token) → LevelOtherwise p → otherwise_depth p ≤ d → words ts ≡ otherwise_words p
      → (t : Otherwise Span) × (erase_otherwise t ≡ p) × SpellsOtherwise t d ts
  place-otherwise nothing_else d ts l n e = (nothing_else, refl, nothing-from ts e)
  place-otherwise (otherwise body) d ts l n e =
      let a = cut (mark k.WordElse) (new_line ∷ block_words body) ts e in
      let line = line-cut (block_words body) a.back a.second in
      let r = place-block body d line.token.to line.rest l n line.second in
      (otherwise r.0, ap otherwise r.1, one-then k.WordElse (NewLine (SpellsBlock r.0 d)) _ ts a (new-line-from (SpellsBlock r.0 d) _ a.back line r.2))

  pub place-statements : (p : Statements Nowhere) (d : ℕ) (ts : List Token) → LevelStatements p → statements_depth p ≤ d → words ts ≡ statements_words p
      → (t : Statements Span) × (erase_statements t ≡ p) × SpellsStatements t d ts
  place-statements no_statements d ts l n e = (no_statements, refl, nothing-from ts e)
  place-statements (statement s more) d ts l n e =
      let a = cut (statement_words s) (new_line ∷ statements_words more) ts e in
      let b = cut (mark k.LineEnd) (statements_words more) a.back a.second in
      let r = place-statement s d a.front l.0 (omega arith) a.first in
      let q = place-statements more d b.back l.1 (omega arith) b.second in
      let P = SpellsStatements q.0 d in (
        statement r.0 q.0,
        ap₂ statement r.1 q.1,
        join (SpellsStatement r.0 d) (Then (One k.LineEnd) P) _ _ ts a r.2 (one-then k.LineEnd P _ a.back b q.2),
      )

  pub place-block : (p : Block Nowhere) (d last : ℕ) (ts : List Token) → LevelBlock p → block_depth p ≤ d → words ts ≡ block_words p
      → (t : Block Span) × (erase_block t ≡ p) × SpellsBlock t d last ts
  place-block (block u list) d last ts l n e =
      let r = place-statements list d ts l n e in
      let c = cover-block last ts in
      (block c.0 r.0, ap (block tt) r.1, (c.1, r.2))

pub place-file : (p : Plain) (len d : ℕ) (ts : List Token) → LevelFile p → file_depth p ≤ d → words ts ≡ file_words p
    → (f : File Span) × (erase f ≡ p) × SpellsFile f len d ts
place-file (file u b) len d ts l n e =
    let r = place-block b d 0 ts l n e in
    (file (record { from = 0; to = len }) r.0, ap (file tt) r.1, (refl, refl, r.2))
