-- No border of a statement lies behind the tokens that spell it, and none of a file behind its text.
use Rattle.meson_edit.proofs.Words.{ℕ, ◌+◌, ◌≤◌, List, [], ◌∷◌, length, Some, None, subst, sym, ap, arith, max-le, joined, Token, located, start, Kind, Span}
use Rattle.meson_edit.proofs.Words.{places_of_names, code_expression, code_statement, code_branches, code_statements, code_block, code_file, furthest_span}
use Rattle.meson_edit.proofs.Words.{furthest_spans, furthest_stmt, furthest_stmts, furthest_block, furthest_branches, furthest, furthest_list, max_depth}
use Rattle.meson_edit.proofs.Words.{list_items, CoversBlock, NewLine, SaysMoreNames, SaysNames, SpellsStatement, SpellsBranches, SpellsStatements, SpellsBlock}
use Rattle.meson_edit.proofs.Words.{SpellsFile, Name, Statement, evaluate, assign, selection, iteration, breaks, continues, Branches, no_branches, branch}
use Rattle.meson_edit.proofs.Words.{nothing_else, otherwise, Statements, no_statements, statement, Block, block, File, file, list_view, view, fold-roll-Stmt}
use Rattle.meson_edit.proofs.Words.{fold-roll-Block, fold-roll-Branch, Stmt-F, list_told, file_told}
use Rattle.meson_lex.specs.declared.kinds.Kind.TheVariants as k
use Rattle.meson_edit.specs.Borders.{TreesEnd, ListsEnd}
use Rattle.meson_edit.proofs.borders.Tokens.{Within, covers-within, parts-within, spots-within, located-within}
use Rattle.meson_edit.proofs.borders.Trees.{at_most, expression-ends, listing-ends}

module _ (n : ℕ) where
  more-names-end : (xs : List (Name Span)) (ts : List Token) → SaysMoreNames xs ts → Within n ts → furthest_spans (places_of_names xs) ≤ n
  more-names-end [] ts h w = omega arith
  more-names-end (x ∷ xs) ts h w =
      let q = h.second in
      let v = parts-within n _ _ h.back q (parts-within n _ _ ts h w).1 in
      max-le (covers-within n x.place q.front q.first.0 v.0) (more-names-end xs q.back q.second v.1)

  names-end : (xs : List (Name Span)) (ts : List Token) → SaysNames xs ts → Within n ts → furthest_spans (places_of_names xs) ≤ n
  names-end [] ts h w = absurd h
  names-end (x ∷ xs) ts h w =
      let v = parts-within n _ _ ts h w in
      max-le (covers-within n x.place h.front h.first.0 v.0) (more-names-end xs h.back h.second v.1)

  block-covers : (last : ℕ) (s : Span) (ts : List Token) → CoversBlock last s ts → last ≤ n → Within n ts → furthest_span s ≤ n
  block-covers last s [] c e w = max-le (at_most c.0 e) (at_most c.1 e)
  block-covers last s (t ∷ ts) c e w = covers-within n s (t ∷ ts) c w

  line-within : (P : ℕ → List Token → Type 0) (ts : List Token) (l : NewLine P ts) → Within n ts → (l.token.to ≤ n) × Within n l.rest
  line-within P ts l w = let all : Within n (l.token ∷ l.rest) = subst (Within n) l.joined w in (all.1, all.2)

  mutual
    statement-ends : (s : Statement Span) (d : ℕ) (ts : List Token) → SpellsStatement s d ts → Within n ts → furthest_stmt (code_statement s) ≤ n
    statement-ends (evaluate e) d ts h w = at_most (fold-roll-Stmt _ _ _ _ _ _ (Stmt-F.Expr (code_expression e))) (expression-ends n e d ts h w)
    statement-ends (assign s x a e) d ts h w =
        let p = h.1 in
        let q = p.second in
        let v = parts-within n _ _ ts p w in
        let u = parts-within n _ _ p.back q v.1 in
        at_most (fold-roll-Stmt _ _ _ _ _ _ (Stmt-F.Assign s x.place a (code_expression e)))
        (max-le (covers-within n s ts h.0 w)
        (max-le (covers-within n x.place p.front p.first.0 v.0) (expression-ends n e d q.back q.second u.1)))
    statement-ends (selection s bs nothing_else) d ts h w =
        let p = h.2.spelled in
        let v = parts-within n _ _ ts p w in
        at_most (fold-roll-Stmt _ _ _ _ _ _ (Stmt-F.If s (code_branches bs) None))
        (max-le (covers-within n s ts h.0 w) (max-le (branches-end bs k.WordIf h.2.inner p.front p.first v.0) (omega arith)))
    statement-ends (selection s bs (otherwise b)) d ts h w =
        let p = h.2.spelled in
        let q = p.second in
        let v = parts-within n _ _ ts p w in
        let u = parts-within n _ _ p.back q v.1 in
        let y = line-within _ q.first.back q.first.second (parts-within n _ _ q.front q.first u.0).1 in
        let body = block-ends b h.2.inner q.first.second.token.to q.first.second.rest q.first.second.second y.0 y.1 in
        at_most (fold-roll-Stmt _ _ _ _ _ _ (Stmt-F.If s (code_branches bs) (Some (code_block b))))
        (max-le (covers-within n s ts h.0 w) (max-le (branches-end bs k.WordIf h.2.inner p.front p.first v.0) body))
    statement-ends (iteration s xs e b) d ts h w =
        let p = h.1 in
        let q = p.second in
        let r = q.second in
        let t = r.second.spelled in
        let u = t.second in
        let v = parts-within n _ _ p.back q (parts-within n _ _ ts p w).1 in
        let x = parts-within n _ _ r.back t (parts-within n _ _ q.back r v.1).1 in
        let y = line-within _ u.front u.first (parts-within n _ _ t.back u x.1).0 in
        let value = expression-ends n e r.second.inner t.front t.first x.0 in
        let body = block-ends b r.second.inner u.first.token.to u.first.rest u.first.second y.0 y.1 in
        at_most (fold-roll-Stmt _ _ _ _ _ _ (Stmt-F.Foreach s (places_of_names xs) (code_expression e) (code_block b)))
        (max-le (covers-within n s ts h.0 w) (max-le (names-end xs q.front q.first v.0) (max-le value body)))
    statement-ends (breaks s) d ts h w = at_most (fold-roll-Stmt _ _ _ _ _ _ (Stmt-F.Break s)) (covers-within n s ts h.0 w)
    statement-ends (continues s) d ts h w = at_most (fold-roll-Stmt _ _ _ _ _ _ (Stmt-F.Continue s)) (covers-within n s ts h.0 w)

    branches-end : (bs : Branches Span) (word : Kind) (d : ℕ) (ts : List Token) → SpellsBranches bs word d ts → Within n ts
        → furthest_branches (code_branches bs) ≤ n
    branches-end no_branches word d ts h w = omega arith
    branches-end (branch e b more) word d ts h w =
        let q = h.second in
        let r = q.second in
        let v = parts-within n _ _ h.back q (parts-within n _ _ ts h w).1 in
        let u = parts-within n _ _ q.back r v.1 in
        let y = line-within _ r.front r.first u.0 in
        let condition = expression-ends n e d q.front q.first v.0 in
        let body = block-ends b d r.first.token.to r.first.rest r.first.second y.0 y.1 in
        max-le (at_most (fold-roll-Branch _ _ _ _ _ _ (record { condition = code_expression e; block = code_block b })) (max-le condition body))
        (branches-end more k.WordElif d r.back r.second u.1)

    statements-end : (list : Statements Span) (d : ℕ) (ts : List Token) → SpellsStatements list d ts → Within n ts → furthest_stmts (code_statements list) ≤ n
    statements-end no_statements d ts h w = omega arith
    statements-end (statement s more) d ts h w =
        let q = h.second in
        let v = parts-within n _ _ ts h w in
        let u = parts-within n _ _ h.back q v.1 in
        max-le (statement-ends s d h.front h.first v.0) (statements-end more d q.back q.second u.1)

    block-ends : (b : Block Span) (d last : ℕ) (ts : List Token) → SpellsBlock b d last ts → last ≤ n → Within n ts → furthest_block (code_block b) ≤ n
    block-ends (block s list) d last ts h e w =
        at_most (fold-roll-Block _ _ _ _ _ _ (record { statements = code_statements list; span = s }))
        (max-le (block-covers last s ts h.0 e w) (statements-end list d ts h.1 w))

  file-ends : (f : File Span) (d : ℕ) (ts : List Token) → SpellsFile f n d ts → Within n ts → furthest (code_file f) ≤ n
  file-ends (file s b) d ts h w =
      let start : s.from ≤ n = at_most h.0 (omega arith) in
      let end : s.to ≤ n = at_most h.1 (omega arith) in
      max-le (max-le start end) (block-ends b d 0 ts h.2 (omega arith) w)

pub trees-end : TreesEnd
trees-end limits source t is =
    let items = is.reads.spells.items in
    let n = length source in
    let all : length (joined items) ≤ n = omega (arith, ap length is.reads.spells.are_items.joins) in
    let far = file-ends n (view source t) limits.depth (located items) is.stands (located-within n items all) in
    let same = ap furthest (file_told source t) in
    (is.stands.1, omega (arith, far, same, is.stands.1))

pub lists-end : ListsEnd
lists-end b source l is =
    let items = list_items is.reads.text in
    let n = length source in
    let all : 0 + length (joined items) ≤ n = omega (arith, ap length is.reads.text.are_items.joins) in
    let far = listing-ends n (list_view source l) b max_depth _ is.stands (spots-within n start 0 0 items (omega arith) all).0 in
    at_most (sym (ap furthest_list (list_told source l))) far
