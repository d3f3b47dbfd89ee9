-- What is spelled as a statement, a block or a file is read so.
use Rattle.std.proofs.Common.{◌≡◌, ℕ, suc, zero, ◌≤◌, true, List, [], ◌∷◌, ◌++◌, Option, Some, refl, sym, ap, ap₂, subst, ◌∙◌, append_assoc, arith}
use Rattle.std.proofs.lemmas.List.{append-nil}
use Rattle.meson_lex.specs.declared.kinds.Kind.{Kind}
use Rattle.meson_lex.specs.declared.kinds.Kind.TheVariants as k
use Rattle.meson_lex.specs.declared.kinds.Span.{Span}
use Rattle.meson_lex.specs.Located.{Token}
use Rattle.meson_syntax.specs.declared.operator.Assignment.{Assignment}
use Rattle.meson_syntax.specs.declared.operator.Assignment.TheVariants as assigns
use Rattle.meson_syntax.specs.Operators.{assignment_kind}
use Rattle.meson_syntax.specs.Tree.{Expression, Statement, evaluate, assign, selection, iteration, breaks, continues, Branches, no_branches, branch, branches_of, branch_list, Otherwise, nothing_else, otherwise, Statements, no_statements, statement, statements_of, statement_list, Block, block, File, file, Name}
use Rattle.meson_syntax.specs.Grammar.{HasBranch}
use Rattle.meson_syntax.specs.inside.Input.{Input, kind, from, next, sees, sees_two, after_kind, expect, span_from, left}
use Rattle.meson_syntax.specs.inside.Reading.{room, expression}
use Rattle.meson_syntax.specs.inside.ReadingFiles.{ends_block, block_span, name, names_from, names, assigned, evaluated, simple, bodied, branched, branches_from, branches, otherwised, selected, iterated, broken, continued, stmt_by, stmt, statement_line, lines_from, statement_lines, blocked, block_within, file_of_block, whole}
use Rattle.meson_syntax.specs.Spelling.{end_of, Covers, CoversBlock, One, Then, Deeper, NewLine, SaysMoreNames, SaysNames, SpellsExpression, SpellsStatement, SpellsBranches, SpellsOtherwise, SpellsStatements, SpellsBlock, SpellsFile, SaysName}
use Rattle.meson_syntax.proofs.parsing.Steps.{Passes, part, nothing-same}
use Rattle.meson_syntax.proofs.parsing.Splits.{bind-is, yes-at, no-at, passes-split, one-read, yes-sees, not-sees, yes-two, not-two, expect-is, after-is, after-not, covered, falls, name-read}
use Rattle.meson_syntax.proofs.parsing.NonEmpty.{one-some, then-some, statement-some}
use Rattle.meson_syntax.proofs.parsing.Firsts.{Stops, Starts, first-one, first-expression, name-alone, first-name}
use Rattle.meson_syntax.proofs.parsing.FirstsFiles.{line-split, first-line, line-stops, first-branches, branches-end, otherwise-end, first-statement}
use Rattle.meson_syntax.proofs.parsing.Complete.{room-is}
use Rattle.meson_syntax.proofs.parsing.CompleteRows.{passes-left, complete-expression}

-- ---- trees as lists, and back

pub list-of-statements : {S : Type 0} (list : Statements S) → statements_of (statement_list list) ≡ list
list-of-statements no_statements = refl
list-of-statements (statement s more) = ap (statement s) (list-of-statements more)

pub list-of-branches : {S : Type 0} (bs : Branches S) → branches_of (branch_list bs) ≡ bs
list-of-branches no_branches = refl
list-of-branches (branch e b more) = ap (branch e b) (list-of-branches more)

-- ---- names

complete-name : (x : Name Span) (i j : Input) → Passes (SaysName x) i j → name i ≡ Some (x, j)
unfolding name
complete-name x i j r =
    let w = name-read x i j r in
    yes-at (sees k.Identifier i) _ _ i _ (yes-sees k.Identifier i w.is) (ap₂ (λ y z. Some (y, z)) w.says w.goes)

complete-names_from : (xs : List (Name Span)) (n : ℕ) (found : List (Name Span)) (i j : Input) → left i ≤ n → Passes (SaysMoreNames xs) i j → (kind j ≡ Some k.Comma → ⊥)
    → names_from n found i ≡ Some (found ++ xs, j)
unfolding names_from
complete-names_from [] zero found i j fuel r stop = ap₂ (λ f x. Some (f, x)) (sym (append-nil found)) (nothing-same i j r)
complete-names_from [] (suc n) found i j fuel r stop =
    rw (nothing-same i j r) (no-at (sees k.Comma j) _ _ (after_kind k.Comma j) _ (not-sees k.Comma j stop)
    (ap₂ (λ f x. Some (f, x)) (sym (append-nil found)) (after-not k.Comma j stop)))
complete-names_from (x ∷ xs) zero found i j fuel r stop =
    let p = passes-split (One k.Comma) _ i j r in
    let less = falls (One k.Comma) i p.at (one-some k.Comma) p.first in
    absurd (omega arith)
complete-names_from (x ∷ xs) (suc n) found i j fuel r stop =
    let p = passes-split (One k.Comma) (Then (SaysName x) (SaysMoreNames xs)) i j r in
    let q = passes-split (SaysName x) (SaysMoreNames xs) p.at j p.second in
    let less = falls (One k.Comma) i p.at (one-some k.Comma) p.first in
    let lesser = passes-left (SaysName x) p.at q.at q.first in
    let rest = complete-names_from xs n (found ++ x ∷ []) q.at j (omega arith) q.second stop in
    yes-at (sees k.Comma i) _ _ (after_kind k.Comma i) _ (yes-sees k.Comma i (one-read k.Comma i p.at p.first).is)
    (rw (after-is k.Comma i p.at p.first) (bind-is (name p.at) _ (x, q.at) _ (complete-name x p.at q.at q.first)
    (rest ∙ ap (λ f. Some (f, j)) (append_assoc found (x ∷ []) xs))))

complete-names : (xs : List (Name Span)) (i j : Input) → Passes (SaysNames xs) i j → (kind j ≡ Some k.Comma → ⊥) → names i ≡ Some (xs, j)
unfolding names
complete-names [] i j r stop = absurd r.fits
complete-names (x ∷ xs) i j r stop =
    let p = passes-split (SaysName x) (SaysMoreNames xs) i j r in
    bind-is (name i) _ (x, p.at) _ (complete-name x i p.at p.first) (complete-names_from xs (left p.at) (x ∷ []) p.at j (omega arith) p.second stop)

-- ---- spans of blocks

-- from the first statement to the last, or empty
block-covered : (s : Span) (list : Statements Span) (d : ℕ) (i j : Input) → (r : Passes (SpellsStatements list d) i j) → CoversBlock i.last s r.used
    → block_span (from i) (statement_list list) j ≡ s
unfolding span_from
block-covered s no_statements d i j r c =
    let at : CoversBlock i.last s [] = subst (λ ts. CoversBlock i.last s ts) r.fits c in
    let end : j.last ≡ i.last = r.took.last ∙ ap (end_of i.last) r.fits in
    let make : ℕ → ℕ → Span = λ a b. record { from = a; to = b } in
    ap₂ make (end ∙ sym at.0) (end ∙ sym at.1)
block-covered s (statement t more) d i j r c = covered s i j r.used (covers r.used (λ e. then-some _ _ (statement-some t d) (subst (SpellsStatements (statement t more) d) e r.fits)) c) r.took where
  covers : (ts : List Token) → (ts ≡ [] → ⊥) → CoversBlock i.last s ts → Covers s ts
  covers [] some c = absurd (some refl)
  covers (t ∷ ts) some c = c

-- ---- the rules, where blocks one level deeper are read as they are spelled

module _ (d : ℕ) (blocks : (b : Block Span) (i j : Input) → Passes (Deeper (λ inner. SpellsBlock b inner i.last) d) i j → ends_block (kind j) ≡ true → block_within d i ≡ Some (b, j)) where
  -- an expression of the statement, or of a construct one level deeper
  value-is : (e : Expression Span) (i j : Input) → Passes (SpellsExpression e d) i j → Stops (kind j) → expression (suc d) i ≡ Some (e, j)
  value-is e i j r stop = complete-expression (suc d) e i j (part _ _ i j r (record { inner = d; less = refl; spelled = r.fits })) stop

  inside-is : (inner : ℕ) → d ≡ suc inner → (e : Expression Span) (i j : Input) → Passes (SpellsExpression e inner) i j → Stops (kind j) → expression d i ≡ Some (e, j)
  inside-is inner less e i j r stop = complete-expression d e i j (part _ _ i j r (record { inner = inner; less = less; spelled = r.fits })) stop

  complete-bodied : (inner : ℕ) → d ≡ suc inner → (b : Block Span) (i j : Input) → Passes (NewLine (SpellsBlock b inner)) i j → ends_block (kind j) ≡ true
      → bodied (room d) (expression (suc d)) (expression d) (block_within d) i ≡ Some (b, j)
  unfolding bodied
  complete-bodied inner less b i j r ends =
      let p = line-split (SpellsBlock b inner) i j r in
      bind-is (expect k.LineEnd i) _ (tt, p.at) _ (expect-is k.LineEnd i p.at p.first)
      (blocks b p.at j (part _ _ p.at j p.second (record { inner = inner; less = less; spelled = p.second.fits })) ends)

  -- ---- `if`

  complete-branched : (inner : ℕ) → d ≡ suc inner → (word : Kind) (e : Expression Span) (b : Block Span) (i a m j : Input)
      → Passes (One word) i a → Passes (SpellsExpression e inner) a m → Passes (NewLine (SpellsBlock b inner)) m j → ends_block (kind j) ≡ true
      → branched (room d) (expression (suc d)) (expression d) (block_within d) i ≡ Some ((e, b), j)
  unfolding branched
  complete-branched inner less word e b i a m j w r body ends =
      rw (one-read word i a w).goes
      (bind-is (expression d a) _ (e, m) _ (inside-is inner less e a m r (line-stops m (first-line (SpellsBlock b inner) m j body)))
      (bind-is (bodied (room d) (expression (suc d)) (expression d) (block_within d) m) _ (b, j) _ (complete-bodied inner less b m j body ends) refl))

  complete-branches_from : (inner : ℕ) → d ≡ suc inner → (bs : Branches Span) (n : ℕ) (found : List (Expression Span × Block Span)) (i j : Input)
      → left i ≤ n → Passes (SpellsBranches bs k.WordElif inner) i j → ends_block (kind j) ≡ true → (kind j ≡ Some k.WordElif → ⊥)
      → branches_from (room d) (expression (suc d)) (expression d) (block_within d) n found i ≡ Some (found ++ branch_list bs, j)
  unfolding branches_from
  complete-branches_from inner less no_branches zero found i j fuel r ends stop = ap₂ (λ f x. Some (f, x)) (sym (append-nil found)) (nothing-same i j r)
  complete-branches_from inner less no_branches (suc n) found i j fuel r ends stop =
      rw (nothing-same i j r) (no-at (sees k.WordElif j) _ _ j _ (not-sees k.WordElif j stop) (ap (λ f. Some (f, j)) (sym (append-nil found))))
  complete-branches_from inner less (branch e b more) zero found i j fuel r ends stop =
      let p = passes-split (One k.WordElif) _ i j r in
      let falling = falls (One k.WordElif) i p.at (one-some k.WordElif) p.first in
      absurd (omega arith)
  complete-branches_from inner less (branch e b more) (suc n) found i j fuel r ends stop =
      let E = SpellsExpression e inner in
      let B = NewLine (SpellsBlock b inner) in
      let M = SpellsBranches more k.WordElif inner in
      let p = passes-split (One k.WordElif) (Then E (Then B M)) i j r in
      let q = passes-split E (Then B M) p.at j p.second in
      let m = passes-split B M q.at j q.second in
      let first = falls (One k.WordElif) i p.at (one-some k.WordElif) p.first in
      let second = passes-left E p.at q.at q.first in
      let third = passes-left B q.at m.at m.first in
      let rest = complete-branches_from inner less more n (found ++ (e, b) ∷ []) m.at j (omega arith) m.second ends stop in
      yes-at (sees k.WordElif i) _ _ i _ (yes-sees k.WordElif i (one-read k.WordElif i p.at p.first).is)
      (bind-is (branched (room d) (expression (suc d)) (expression d) (block_within d) i) _ ((e, b), m.at) _
      (complete-branched inner less k.WordElif e b i p.at q.at m.at p.first q.first m.first (branches-end more inner m.at j m.second ends))
      (rest ∙ ap (λ f. Some (f, j)) (append_assoc found ((e, b) ∷ []) (branch_list more))))

  complete-branches : (inner : ℕ) → d ≡ suc inner → (bs : Branches Span) (i j : Input) → HasBranch bs → Passes (SpellsBranches bs k.WordIf inner) i j → ends_block (kind j) ≡ true → (kind j ≡ Some k.WordElif → ⊥)
      → branches (room d) (expression (suc d)) (expression d) (block_within d) i ≡ Some (branch_list bs, j)
  unfolding branches
  complete-branches inner less no_branches i j some r ends stop = absurd some
  complete-branches inner less (branch e b more) i j some r ends stop =
      let E = SpellsExpression e inner in
      let B = NewLine (SpellsBlock b inner) in
      let M = SpellsBranches more k.WordElif inner in
      let p = passes-split (One k.WordIf) (Then E (Then B M)) i j r in
      let q = passes-split E (Then B M) p.at j p.second in
      let m = passes-split B M q.at j q.second in
      bind-is (branched (room d) (expression (suc d)) (expression d) (block_within d) i) _ ((e, b), m.at) _
      (complete-branched inner less k.WordIf e b i p.at q.at m.at p.first q.first m.first (branches-end more inner m.at j m.second ends))
      (complete-branches_from inner less more (left m.at) ((e, b) ∷ []) m.at j (omega arith) m.second ends stop)

  complete-otherwised : (inner : ℕ) → d ≡ suc inner → (o : Otherwise Span) (i j : Input) → Passes (SpellsOtherwise o inner) i j → kind j ≡ Some k.WordEndif
      → otherwised (room d) (expression (suc d)) (expression d) (block_within d) i ≡ Some (o, j)
  unfolding otherwised
  complete-otherwised inner less nothing_else i j r end =
      let no : kind j ≡ Some k.WordElse → ⊥ = λ c. let both : Some k.WordElse ≡ Some k.WordEndif = sym c ∙ end in absurd cc in
      rw (nothing-same i j r) (no-at (sees k.WordElse j) _ _ (after_kind k.WordElse j) _ (not-sees k.WordElse j no) (ap (λ x. Some (nothing_else, x)) (after-not k.WordElse j no)))
  complete-otherwised inner less (otherwise b) i j r end =
      let p = passes-split (One k.WordElse) (NewLine (SpellsBlock b inner)) i j r in
      yes-at (sees k.WordElse i) _ _ (after_kind k.WordElse i) _ (yes-sees k.WordElse i (one-read k.WordElse i p.at p.first).is)
      (rw (after-is k.WordElse i p.at p.first)
      (bind-is (bodied (room d) (expression (suc d)) (expression d) (block_within d) p.at) _ (b, j) _ (complete-bodied inner less b p.at j p.second (ap ends_block end)) refl))

  complete-selected : (s : Span) (bs : Branches Span) (o : Otherwise Span) (i j : Input) → Passes (SpellsStatement (selection s bs o) d) i j
      → selected (room d) (expression (suc d)) (expression d) (block_within d) i ≡ Some (selection s bs o, j)
  unfolding selected
  complete-selected s bs o i j r =
      let inner = r.fits.2.inner in
      let less = r.fits.2.less in
      let B = SpellsBranches bs k.WordIf inner in
      let O = SpellsOtherwise o inner in
      let p = passes-split B (Then O (One k.WordEndif)) i j (part _ _ i j r r.fits.2.spelled) in
      let q = passes-split O (One k.WordEndif) p.at j p.second in
      let ends = otherwise-end o inner p.at q.at q.first (one-read k.WordEndif q.at j q.second).is in
      yes-at (room d) _ _ i _ (room-is d (omega arith))
      (bind-is (branches (room d) (expression (suc d)) (expression d) (block_within d) i) _ (branch_list bs, p.at) _ (complete-branches inner less bs i p.at r.fits.1 p.first ends.0 ends.1)
      (bind-is (otherwised (room d) (expression (suc d)) (expression d) (block_within d) p.at) _ (o, q.at) _ (complete-otherwised inner less o p.at q.at q.first (one-read k.WordEndif q.at j q.second).is)
      (bind-is (expect k.WordEndif q.at) _ (tt, j) _ (expect-is k.WordEndif q.at j q.second)
      (ap₂ (λ x y. Some (selection x y o, j)) (covered s i j r.used r.fits.0 r.took) (list-of-branches bs)))))

  -- ---- `foreach`

  complete-iterated : (s : Span) (xs : List (Name Span)) (e : Expression Span) (b : Block Span) (i j : Input) → Passes (SpellsStatement (iteration s xs e b) d) i j
      → iterated (room d) (expression (suc d)) (expression d) (block_within d) i ≡ Some (iteration s xs e b, j)
  unfolding iterated
  complete-iterated s xs e b i j r =
      let D = Deeper (λ inner. Then (SpellsExpression e inner) (Then (NewLine (SpellsBlock b inner)) (One k.WordEndforeach))) d in
      let p1 = passes-split (One k.WordForeach) (Then (SaysNames xs) (Then (One k.Colon) D)) i j (part _ _ i j r r.fits.1) in
      let p2 = passes-split (SaysNames xs) (Then (One k.Colon) D) p1.at j p1.second in
      let p3 = passes-split (One k.Colon) D p2.at j p2.second in
      let inner = p3.second.fits.inner in
      let less = p3.second.fits.less in
      let E = SpellsExpression e inner in
      let B = NewLine (SpellsBlock b inner) in
      let p4 = passes-split E (Then B (One k.WordEndforeach)) p3.at j (part _ _ p3.at j p3.second p3.second.fits.spelled) in
      let p5 = passes-split B (One k.WordEndforeach) p4.at j p4.second in
      let colon = one-read k.Colon p2.at p3.at p3.first in
      let end = one-read k.WordEndforeach p5.at j p5.second in
      let no-comma : kind p2.at ≡ Some k.Comma → ⊥ = λ c. let both : Some k.Comma ≡ Some k.Colon = sym c ∙ colon.is in absurd cc in
      yes-at (room d) _ _ i _ (room-is d (omega arith))
      (rw (one-read k.WordForeach i p1.at p1.first).goes
      (bind-is (names p1.at) _ (xs, p2.at) _ (complete-names xs p1.at p2.at p2.first no-comma)
      (bind-is (expect k.Colon p2.at) _ (tt, p3.at) _ (expect-is k.Colon p2.at p3.at p3.first)
      (bind-is (expression d p3.at) _ (e, p4.at) _ (inside-is inner less e p3.at p4.at p4.first (line-stops p4.at (first-line (SpellsBlock b inner) p4.at p5.at p5.first)))
      (bind-is (bodied (room d) (expression (suc d)) (expression d) (block_within d) p4.at) _ (b, p5.at) _ (complete-bodied inner less b p4.at p5.at p5.first (ap ends_block end.is))
      (bind-is (expect k.WordEndforeach p5.at) _ (tt, j) _ (expect-is k.WordEndforeach p5.at j p5.second)
      (ap (λ x. Some (iteration x xs e b, j)) (covered s i j r.used r.fits.0 r.took))))))))

  -- ---- other statements

  -- what begins an expression begins no other statement
  simple-by : (κ : Option Kind) → Starts κ → stmt_by (room d) (expression (suc d)) (expression d) (block_within d) κ ≡ simple (room d) (expression (suc d)) (expression d) (block_within d)
  simple-by (Some k.WordIf) h = absurd (omega arith)
  simple-by (Some k.WordForeach) h = absurd (omega arith)
  simple-by (Some k.WordBreak) h = absurd (omega arith)
  simple-by (Some k.WordContinue) h = absurd (omega arith)
  simple-by _ h = refl

  complete-evaluated : (e : Expression Span) (i j : Input) → Passes (SpellsExpression e d) i j → kind j ≡ Some k.LineEnd
      → simple (room d) (expression (suc d)) (expression d) (block_within d) i ≡ Some (evaluate e, j)
  unfolding simple evaluated
  complete-evaluated e i j r end =
      let alone : kind i ≡ Some k.Identifier → Stops (kind (next i)) → kind (next i) ≡ Some k.LineEnd = λ n free. ap kind (name-alone e d i j r n free) ∙ end in
      let unset : kind i ≡ Some k.Identifier → kind (next i) ≡ Some k.Assign → ⊥ = λ n a.
      let free : Stops (kind (next i)) = rw a (omega arith) in
      let both : Some k.LineEnd ≡ Some k.Assign = sym (alone n free) ∙ a in
      absurd cc in
      let unadded : kind i ≡ Some k.Identifier → kind (next i) ≡ Some k.PlusAssign → ⊥ = λ n a.
      let free : Stops (kind (next i)) = rw a (omega arith) in
      let both : Some k.LineEnd ≡ Some k.PlusAssign = sym (alone n free) ∙ a in
      absurd cc in
      no-at (sees_two k.Identifier k.Assign i) _ _ i _ (not-two k.Identifier k.Assign i unset)
      (no-at (sees_two k.Identifier k.PlusAssign i) _ _ i _ (not-two k.Identifier k.PlusAssign i unadded)
      (bind-is (expression (suc d) i) _ (e, j) _ (value-is e i j r (line-stops j end)) refl))

  assigned-is : (s : Span) (x : Name Span) (a : Assignment) (e : Expression Span) (i j : Input) → Passes (SpellsStatement (assign s x a e) d) i j → kind j ≡ Some k.LineEnd
      → (kind i ≡ Some k.Identifier) × (kind (next i) ≡ Some (assignment_kind a)) × (assigned (room d) (expression (suc d)) (expression d) (block_within d) a i ≡ Some (assign s x a e, j))
  unfolding assigned
  assigned-is s x a e i j r end =
      let P = SpellsExpression e d in
      let κ = assignment_kind a in
      let p = passes-split (SaysName x) (Then (One κ) P) i j (part _ _ i j r r.fits.1) in
      let q = passes-split (One κ) P p.at j p.second in
      let w = name-read x i p.at p.first in
      let mark = one-read κ p.at q.at q.first in
      let goes : next (next i) ≡ q.at = ap next w.goes ∙ mark.goes in
      let value : expression (suc d) (next (next i)) ≡ Some (e, j) = rw goes (value-is e q.at j q.second (line-stops j end)) in
      (w.is, ap kind w.goes ∙ mark.is, bind-is (expression (suc d) (next (next i))) _ (e, j) _ value (ap₂ (λ y z. Some (assign y z a e, j)) (covered s i j r.used r.fits.0 r.took) w.says))

  complete-assigned : (s : Span) (x : Name Span) (a : Assignment) (e : Expression Span) (i j : Input) → Passes (SpellsStatement (assign s x a e) d) i j → kind j ≡ Some k.LineEnd
      → simple (room d) (expression (suc d)) (expression d) (block_within d) i ≡ Some (assign s x a e, j)
  unfolding simple
  complete-assigned s x assigns.Set e i j r end =
      let w = assigned-is s x assigns.Set e i j r end in
      yes-at (sees_two k.Identifier k.Assign i) _ _ i _ (yes-two k.Identifier k.Assign i w.0 w.1) w.2
  complete-assigned s x assigns.Add e i j r end =
      let w = assigned-is s x assigns.Add e i j r end in
      no-at (sees_two k.Identifier k.Assign i) _ _ i _ (not-two k.Identifier k.Assign i (λ n c. let both : Some k.Assign ≡ Some k.PlusAssign = sym c ∙ w.1 in absurd cc))
      (yes-at (sees_two k.Identifier k.PlusAssign i) _ _ i _ (yes-two k.Identifier k.PlusAssign i w.0 w.1) w.2)

  complete-stmt : (s : Statement Span) (i j : Input) → Passes (SpellsStatement s d) i j → kind j ≡ Some k.LineEnd → stmt (room d) (expression (suc d)) (expression d) (block_within d) i ≡ Some (s, j)
  unfolding stmt broken continued
  complete-stmt (evaluate e) i j r end = rw (simple-by (kind i) (first-expression e d i j r)) (complete-evaluated e i j r end)
  complete-stmt (assign s x a e) i j r end = rw (first-name x _ i j (part _ _ i j r r.fits.1)) (complete-assigned s x a e i j r end)
  complete-stmt (selection s bs o) i j r end =
      let inner = r.fits.2.inner in
      let p = passes-split (SpellsBranches bs k.WordIf inner) _ i j (part _ _ i j r r.fits.2.spelled) in
      rw (first-branches bs k.WordIf inner i p.at r.fits.1 p.first) (complete-selected s bs o i j r)
  complete-stmt (iteration s xs e b) i j r end = rw (first-one k.WordForeach _ i j (part _ _ i j r r.fits.1)) (complete-iterated s xs e b i j r)
  complete-stmt (breaks s) i j r end =
      let w = one-read k.WordBreak i j (part _ _ i j r r.fits.1) in
      rw w.is (rw w.goes (ap (λ x. Some (breaks x, j)) (covered s i j r.used r.fits.0 r.took)))
  complete-stmt (continues s) i j r end =
      let w = one-read k.WordContinue i j (part _ _ i j r r.fits.1) in
      rw w.is (rw w.goes (ap (λ x. Some (continues x, j)) (covered s i j r.used r.fits.0 r.took)))

  -- ---- blocks

  complete-line : (s : Statement Span) (i m j : Input) → Passes (SpellsStatement s d) i m → Passes (One k.LineEnd) m j → statement_line (room d) (expression (suc d)) (expression d) (block_within d) i ≡ Some (s, j)
  unfolding statement_line
  complete-line s i m j r ends =
      bind-is (stmt (room d) (expression (suc d)) (expression d) (block_within d) i) _ (s, m) _ (complete-stmt s i m r (one-read k.LineEnd m j ends).is)
      (bind-is (expect k.LineEnd m) _ (tt, j) _ (expect-is k.LineEnd m j ends) refl)

  complete-lines_from : (list : Statements Span) (n : ℕ) (found : List (Statement Span)) (i j : Input) → left i ≤ n → Passes (SpellsStatements list d) i j → ends_block (kind j) ≡ true
      → lines_from (room d) (expression (suc d)) (expression d) (block_within d) n found i ≡ Some (found ++ statement_list list, j)
  unfolding lines_from
  complete-lines_from no_statements zero found i j fuel r ends = ap₂ (λ f x. Some (f, x)) (sym (append-nil found)) (nothing-same i j r)
  complete-lines_from no_statements (suc n) found i j fuel r ends =
      rw (nothing-same i j r) (yes-at (ends_block (kind j)) _ _ j _ ends (ap (λ f. Some (f, j)) (sym (append-nil found))))
  complete-lines_from (statement s more) zero found i j fuel r ends =
      let p = passes-split (SpellsStatement s d) _ i j r in
      let less = falls (SpellsStatement s d) i p.at (statement-some s d) p.first in
      absurd (omega arith)
  complete-lines_from (statement s more) (suc n) found i j fuel r ends =
      let P = SpellsStatements more d in
      let p = passes-split (SpellsStatement s d) (Then (One k.LineEnd) P) i j r in
      let q = passes-split (One k.LineEnd) P p.at j p.second in
      let less = falls (SpellsStatement s d) i p.at (statement-some s d) p.first in
      let lesser = falls (One k.LineEnd) p.at q.at (one-some k.LineEnd) q.first in
      let rest = complete-lines_from more n (found ++ s ∷ []) q.at j (omega arith) q.second ends in
      no-at (ends_block (kind i)) _ _ i _ (first-statement s d i p.at p.first)
      (bind-is (statement_line (room d) (expression (suc d)) (expression d) (block_within d) i) _ (s, q.at) _ (complete-line s i p.at q.at p.first q.first)
      (rest ∙ ap (λ f. Some (f, j)) (append_assoc found (s ∷ []) (statement_list more))))

  complete-blocked : (b : Block Span) (i j : Input) → Passes (SpellsBlock b d i.last) i j → ends_block (kind j) ≡ true → blocked (room d) (expression (suc d)) (expression d) (block_within d) i ≡ Some (b, j)
  unfolding blocked statement_lines
  complete-blocked (block s list) i j r ends =
      let ss : Passes (SpellsStatements list d) i j = record { used = r.used; fits = r.fits.1; took = r.took } in
      bind-is (lines_from (room d) (expression (suc d)) (expression d) (block_within d) (left i) [] i) _ (statement_list list, j) _ (complete-lines_from list (left i) [] i j (omega arith) ss ends)
      (ap₂ (λ x l. Some (block x l, j)) (block-covered s list d i j ss r.fits.0) (list-of-statements list))

-- ---- every depth

pub complete-block : (d : ℕ) (b : Block Span) (i j : Input) → Passes (Deeper (λ inner. SpellsBlock b inner i.last) d) i j → ends_block (kind j) ≡ true → block_within d i ≡ Some (b, j)
unfolding block_within
complete-block zero b i j r ends = let less = r.fits.less in absurd (omega arith)
complete-block (suc d) b i j r ends =
    let less = r.fits.less in
    let same : r.fits.inner ≡ d = omega arith in
    complete-blocked d (complete-block d) b i j (part _ _ i j r (subst (λ x. SpellsBlock b x i.last r.used) same r.fits.spelled)) ends

-- ---- files

span-is : (s : Span) (a b : ℕ) → s.from ≡ a → s.to ≡ b → record { from = a; to = b } ≡ s
span-is s a b p q = ap₂ (λ x y. record { from = x; to = y }) (sym p) (sym q)

-- What its tokens spell is what a file is read as.
pub whole-complete : (depth len : ℕ) (ts : List Token) (f : File Span) → SpellsFile f len depth ts → whole depth len ts ≡ Some f
unfolding whole kind
whole-complete depth len ts (file s b) h =
    let i : Input = record { last = 0; rest = ts } in
    let j : Input = record { last = end_of 0 ts; rest = [] } in
    let r : Passes (Deeper (λ inner. SpellsBlock b inner 0) (suc depth)) i j = record { used = ts; fits = record { inner = depth; less = refl; spelled = h.2 }; took = record { rest = sym (append-nil ts); last = refl } } in
    ap (file_of_block len) (complete-block (suc depth) b i j r refl) ∙ ap (λ x. Some (file x b)) (span-is s 0 len h.0 h.1)
