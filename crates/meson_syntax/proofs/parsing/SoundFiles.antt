-- What is read as a statement, a block or a file is spelled so.
use Rattle.std.proofs.Common.{◌≡◌, ℕ, suc, zero, Bool, true, List, [], ◌∷◌, ◌++◌, Option, Some, None, inl, inr, refl, sym, ap, subst, ◌∙◌, append_assoc, arith}
use Rattle.std.proofs.lemmas.List.{append-nil}
use Rattle.meson_lex.specs.declared.kinds.Kind.{Kind}
use Rattle.meson_lex.specs.declared.kinds.Kind.TheVariants as k
use Rattle.meson_lex.specs.declared.kinds.Span.{Span}
use Rattle.meson_lex.specs.Located.{Token}
use Rattle.meson_syntax.specs.declared.operator.Assignment.{Assignment}
use Rattle.meson_syntax.specs.declared.operator.Assignment.TheVariants as assigns
use Rattle.meson_syntax.specs.Operators.{assignment_kind}
use Rattle.meson_syntax.specs.Tree.{Expression, Statement, branches_of, Otherwise, nothing_else, Block, block, File, file, statements_of, Name}
use Rattle.meson_syntax.specs.inside.Input.{same_kind, Input, Outcome, Parser, kind, from, next, sees, sees_two, after_kind, expect, span_from, left, name_next}
use Rattle.meson_syntax.specs.inside.Reading.{room, expression}
use Rattle.meson_syntax.specs.inside.ReadingFiles.{ends_block, block_span, name, names_from, names, assigned, evaluated, simple, bodied, branched, branches_from, branches, otherwised, selected, iterated, broken, continued, stmt_by, stmt, statement_line, lines_from, statement_lines, blocked, block_within, if_over, file_of_block, whole}
use Rattle.meson_syntax.specs.Grammar.{HasBranch}
use Rattle.meson_syntax.specs.Spelling.{end_of, Covers, CoversBlock, One, Then, Deeper, NewLine, SaysMoreNames, SaysNames, SpellsExpression, SpellsStatement, SpellsBranches, SpellsOtherwise, SpellsStatements, SpellsBlock, SpellsFile, SaysName}
use Rattle.meson_syntax.proofs.parsing.Steps.{Passes, part, passes-then, passes-nothing, and_then_some, chosen_at, some-injective, passes-at, node, sees-one, expect-one, eat-one, eat-none, two-both, kind-sees, sees-name}
use Rattle.meson_syntax.proofs.parsing.NonEmpty.{one-some, then-some, statement-some, name-some}
use Rattle.meson_syntax.proofs.parsing.SoundRows.{sound-expression}

-- ---- line ends

-- a line end, and then what P takes behind it
passes-new-line : (P : ℕ → List Token → Type 0) (i m j : Input) → Passes (One k.LineEnd) i m → Passes (P m.last) m j → Passes (NewLine P) i j
passes-new-line P i m j p q =
    let t = p.fits.token in
    let ends : m.last ≡ t.to = p.took.last ∙ ap (end_of i.last) p.fits.alone in
    record {
      used = t ∷ q.used;
      fits = record { token = t; rest = q.used; joined = refl; is = p.fits.is; second = subst (λ l. P l q.used) ends q.fits };
      took = record {
        rest = p.took.rest ∙ ap (λ u. u ++ m.rest) p.fits.alone ∙ ap (λ r. t ∷ r) q.took.rest;
        last = q.took.last ∙ ap (λ l. end_of l q.used) ends;
      };
    }

-- ---- names

sound-name : (i : Input) (q : Name Span × Input) → name i ≡ Some q → Passes (SaysName q.0) i q.1
unfolding name
sound-name i q h = elim (chosen_at (sees k.Identifier i) _ _ i _ h) [
  | inl w ↦ passes-at (λ x. SaysName x) i _ q w.1 (sees-name i w.0)
  | inr w ↦ absurd cc
]

record NamesRead (found : List (Name Span)) (i : Input) (q : List (Name Span) × Input) : Type 0 where
  more : List (Name Span)
  are : q.0 ≡ found ++ more
  spelled : Passes (SaysMoreNames more) i q.1

no-names : (found : List (Name Span)) (i : Input) (q : List (Name Span) × Input) → Some (found, i) ≡ Some q → NamesRead found i q
no-names found i q h = subst (NamesRead found i) (some-injective _ q h) (record { more = []; are = sym (append-nil found); spelled = passes-nothing i })

sound-names_from : (n : ℕ) (found : List (Name Span)) (i : Input) (q : List (Name Span) × Input) → names_from n found i ≡ Some q → NamesRead found i q
unfolding names_from
sound-names_from zero found i q h = no-names found i q h
sound-names_from (suc n) found i q h =
    let m = after_kind k.Comma i in
    elim (chosen_at (sees k.Comma i) _ _ m _ h) [
      | inl w ↦
          (let a = and_then_some (name m) _ _ w.1 in
          let x = a.0.0 in
          let rest = sound-names_from n (found ++ x ∷ []) a.0.1 q a.2 in
          let P = SaysMoreNames rest.more in
          record {
            more = x ∷ rest.more;
            are = rest.are ∙ append_assoc found (x ∷ []) rest.more;
            spelled = passes-then (One k.Comma) (Then (SaysName x) P) i m q.1 (eat-one k.Comma i w.0)
                (passes-then (SaysName x) P m a.0.1 q.1 (sound-name m a.0 a.1) rest.spelled);
          })
      | inr w ↦ no-names found i q (ap (λ x. Some (found, x)) (sym (eat-none k.Comma i w.0)) ∙ w.1)
    ]

sound-names : (i : Input) (q : List (Name Span) × Input) → names i ≡ Some q → Passes (SaysNames q.0) i q.1
unfolding names
sound-names i q h =
    let a = and_then_some (name i) _ _ h in
    let x = a.0.0 in
    let m = a.0.1 in
    let read = sound-names_from (left m) (x ∷ []) m q a.2 in
    let r = passes-then (SaysName x) (SaysMoreNames read.more) i m q.1 (sound-name i a.0 a.1) read.spelled in
    subst (λ xs. Passes (SaysNames xs) i q.1) (sym read.are) r

-- ---- selections and iterations at d, where what stands inside is read as it is spelled at n, one level deeper

module _ (room : Bool) (expr inner : Parser (Expression Span)) (body : Parser (Block Span)) (d n : ℕ) (less : d ≡ suc n)
    (sound-inner : (i : Input) (q : Expression Span × Input) → inner i ≡ Some q → Passes (SpellsExpression q.0 n) i q.1)
    (sound-body : (i : Input) (q : Block Span × Input) → body i ≡ Some q → Passes (SpellsBlock q.0 n i.last) i q.1) where
  sound-bodied : (i : Input) (q : Block Span × Input) → bodied room expr inner body i ≡ Some q → Passes (NewLine (SpellsBlock q.0 n)) i q.1
  unfolding bodied
  sound-bodied i q h =
      let a = and_then_some (expect k.LineEnd i) _ _ h in
      passes-new-line (SpellsBlock q.0 n) i a.0.1 q.1 (expect-one k.LineEnd i a.0 a.1) (sound-body a.0.1 q a.2)

  -- a condition and its block behind this word
  record BranchRead (word : Kind) (i : Input) (q : (Expression Span × Block Span) × Input) : Type 0 where
    at : Input
    behind : Input
    first : Passes (One word) i at
    asked : Passes (SpellsExpression q.0.0 n) at behind
    then_so : Passes (NewLine (SpellsBlock q.0.1 n)) behind q.1

  sound-branched : (word : Kind) (i : Input) (q : (Expression Span × Block Span) × Input) → sees word i ≡ true → branched room expr inner body i ≡ Some q → BranchRead word i q
  unfolding branched
  sound-branched word i q is h =
      let a = and_then_some (inner (next i)) _ _ h in
      let b = and_then_some (bodied room expr inner body a.0.1) _ _ a.2 in
      subst (BranchRead word i) (some-injective _ q b.2) (record {
        at = next i;
        behind = a.0.1;
        first = sees-one word i is;
        asked = sound-inner (next i) a.0 a.1;
        then_so = sound-bodied a.0.1 b.0 b.1;
      })

  one-branch : (word : Kind) (i j : Input) (q : (Expression Span × Block Span) × Input) (more : List (Expression Span × Block Span)) → BranchRead word i q
      → Passes (SpellsBranches (branches_of more) k.WordElif n) q.1 j → Passes (SpellsBranches (branches_of (q.0 ∷ more)) word n) i j
  one-branch word i j q more b rest =
      let P = SpellsExpression q.0.0 n in
      let Q = NewLine (SpellsBlock q.0.1 n) in
      let R = SpellsBranches (branches_of more) k.WordElif n in
      passes-then (One word) (Then P (Then Q R)) i b.at j b.first (passes-then P (Then Q R) b.at b.behind j b.asked (passes-then Q R b.behind q.1 j b.then_so rest))

  record BranchesRead (found : List (Expression Span × Block Span)) (i : Input) (q : List (Expression Span × Block Span) × Input) : Type 0 where
    more : List (Expression Span × Block Span)
    are : q.0 ≡ found ++ more
    spelled : Passes (SpellsBranches (branches_of more) k.WordElif n) i q.1

  no-branches : (found : List (Expression Span × Block Span)) (i : Input) (q : List (Expression Span × Block Span) × Input) → Some (found, i) ≡ Some q → BranchesRead found i q
  no-branches found i q h = subst (BranchesRead found i) (some-injective _ q h) (record { more = []; are = sym (append-nil found); spelled = passes-nothing i })

  sound-branches_from : (turns : ℕ) (found : List (Expression Span × Block Span)) (i : Input) (q : List (Expression Span × Block Span) × Input)
      → branches_from room expr inner body turns found i ≡ Some q → BranchesRead found i q
  unfolding branches_from
  sound-branches_from zero found i q h = no-branches found i q h
  sound-branches_from (suc turns) found i q h = elim (chosen_at (sees k.WordElif i) _ _ i _ h) [
    | inl w ↦
        (let a = and_then_some (branched room expr inner body i) _ _ w.1 in
        let b = a.0.0 in
        let rest = sound-branches_from turns (found ++ b ∷ []) a.0.1 q a.2 in
        record {
          more = b ∷ rest.more;
          are = rest.are ∙ append_assoc found (b ∷ []) rest.more;
          spelled = one-branch k.WordElif i q.1 a.0 rest.more (sound-branched k.WordElif i a.0 w.0 a.1) rest.spelled;
        })
    | inr w ↦ no-branches found i q w.1
  ]

  -- one branch or more, from `if`
  SpellsSome : List (Expression Span × Block Span) → List Token → Type 0
  SpellsSome bs ts = HasBranch (branches_of bs) × SpellsBranches (branches_of bs) k.WordIf n ts

  sound-branches : (i : Input) (q : List (Expression Span × Block Span) × Input) → sees k.WordIf i ≡ true → branches room expr inner body i ≡ Some q → Passes (SpellsSome q.0) i q.1
  unfolding branches SpellsSome
  sound-branches i q is h =
      let a = and_then_some (branched room expr inner body i) _ _ h in
      let b = a.0.0 in
      let m = a.0.1 in
      let read = sound-branches_from (left m) (b ∷ []) m q a.2 in
      let r = one-branch k.WordIf i q.1 a.0 read.more (sound-branched k.WordIf i a.0 is a.1) read.spelled in
      let some : Passes (SpellsSome (b ∷ read.more)) i q.1 = part _ _ i q.1 r (tt, r.fits) in
      subst (λ bs. Passes (SpellsSome bs) i q.1) (sym read.are) some

  sound-otherwised : (i : Input) (q : Otherwise Span × Input) → otherwised room expr inner body i ≡ Some q → Passes (SpellsOtherwise q.0 n) i q.1
  unfolding otherwised
  sound-otherwised i q h =
      let m = after_kind k.WordElse i in
      elim (chosen_at (sees k.WordElse i) _ _ m _ h) [
        | inl w ↦
            (let a = and_then_some (bodied room expr inner body m) _ _ w.1 in
            let P = NewLine (SpellsBlock a.0.0 n) in
            passes-at (λ o. SpellsOtherwise o n) i _ q a.2 (passes-then (One k.WordElse) P i m a.0.1 (eat-one k.WordElse i w.0) (sound-bodied m a.0 a.1)))
        | inr w ↦ passes-at (λ o. SpellsOtherwise o n) i (nothing_else, i) q (ap (λ x. Some (nothing_else, x)) (sym (eat-none k.WordElse i w.0)) ∙ w.1) (passes-nothing i)
      ]

  sound-selected : (i : Input) (q : Statement Span × Input) → sees k.WordIf i ≡ true → selected room expr inner body i ≡ Some q → Passes (SpellsStatement q.0 d) i q.1
  unfolding selected SpellsSome
  sound-selected i q is h = elim (chosen_at room _ _ i _ h) [
    | inl w ↦
        (let a = and_then_some (branches room expr inner body i) _ _ w.1 in
        let o = and_then_some (otherwised room expr inner body a.0.1) _ _ a.2 in
        let e = and_then_some (expect k.WordEndif o.0.1) _ _ o.2 in
        let j = e.0.1 in
        let bs = sound-branches i a.0 is a.1 in
        let P = SpellsBranches (branches_of a.0.0) k.WordIf n in
        let Q = SpellsOtherwise o.0.0 n in
        let r = passes-then P (Then Q (One k.WordEndif)) i a.0.1 j (part _ _ i a.0.1 bs bs.fits.1)
        (passes-then Q (One k.WordEndif) a.0.1 o.0.1 j (sound-otherwised a.0.1 o.0 o.1) (expect-one k.WordEndif o.0.1 e.0 e.1)) in
        let t = node _ i j (then-some _ _ (branches-some a.0.0 bs.fits.0)) r in
        passes-at (λ s. SpellsStatement s d) i _ q e.2 (part _ _ i j t (t.fits.0, bs.fits.0, record { inner = n; less = less; spelled = t.fits.1 })))
    | inr w ↦ absurd cc
  ] where
    branches-some : (bs : List (Expression Span × Block Span)) → HasBranch (branches_of bs) → SpellsBranches (branches_of bs) k.WordIf n [] → ⊥
    branches-some [] has h = has
    branches-some (b ∷ bs) has h = then-some _ _ (one-some k.WordIf) h

  sound-iterated : (i : Input) (q : Statement Span × Input) → sees k.WordForeach i ≡ true → iterated room expr inner body i ≡ Some q → Passes (SpellsStatement q.0 d) i q.1
  unfolding iterated
  sound-iterated i q is h = elim (chosen_at room _ _ i _ h) [
    | inl w ↦
        (let xs = and_then_some (names (next i)) _ _ w.1 in
        let c = and_then_some (expect k.Colon xs.0.1) _ _ xs.2 in
        let e = and_then_some (inner c.0.1) _ _ c.2 in
        let b = and_then_some (bodied room expr inner body e.0.1) _ _ e.2 in
        let f = and_then_some (expect k.WordEndforeach b.0.1) _ _ b.2 in
        let j = f.0.1 in
        let P = λ (m : ℕ). SpellsExpression e.0.0 m in
        let Q = λ (m : ℕ). NewLine (SpellsBlock b.0.0 m) in
        let R = λ (m : ℕ). Then (P m) (Then (Q m) (One k.WordEndforeach)) in
        let within = passes-then (P n) (Then (Q n) (One k.WordEndforeach)) c.0.1 e.0.1 j (sound-inner c.0.1 e.0 e.1)
        (passes-then (Q n) (One k.WordEndforeach) e.0.1 b.0.1 j (sound-bodied e.0.1 b.0 b.1) (expect-one k.WordEndforeach b.0.1 f.0 f.1)) in
        let deeper : Passes (Deeper R d) c.0.1 j = part _ _ c.0.1 j within (record { inner = n; less = less; spelled = within.fits }) in
        let r = passes-then (One k.WordForeach) (Then (SaysNames xs.0.0) (Then (One k.Colon) (Deeper R d))) i (next i) j (sees-one k.WordForeach i is)
        (passes-then (SaysNames xs.0.0) (Then (One k.Colon) (Deeper R d)) (next i) xs.0.1 j (sound-names (next i) xs.0 xs.1)
        (passes-then (One k.Colon) (Deeper R d) xs.0.1 c.0.1 j (expect-one k.Colon xs.0.1 c.0 c.1) deeper)) in
        let t = node _ i j (then-some _ _ (one-some k.WordForeach)) r in
        passes-at (λ s. SpellsStatement s d) i _ q f.2 t)
    | inr w ↦ absurd cc
  ]

-- ---- statements and blocks at d

covers-block : (last : ℕ) (s : Span) (ts : List Token) → Covers s ts → CoversBlock last s ts
covers-block last s [] c = absurd c
covers-block last s (t ∷ ts) c = c

module _ (room : Bool) (expr inner : Parser (Expression Span)) (body : Parser (Block Span)) (d : ℕ)
    (sound-expr : (i : Input) (q : Expression Span × Input) → expr i ≡ Some q → Passes (SpellsExpression q.0 d) i q.1)
    (sound-selection : (i : Input) (q : Statement Span × Input) → sees k.WordIf i ≡ true → selected room expr inner body i ≡ Some q → Passes (SpellsStatement q.0 d) i q.1)
    (sound-iteration : (i : Input) (q : Statement Span × Input) → sees k.WordForeach i ≡ true → iterated room expr inner body i ≡ Some q → Passes (SpellsStatement q.0 d) i q.1) where
  sound-assigned : (a : Assignment) (i : Input) (q : Statement Span × Input) → sees_two k.Identifier (assignment_kind a) i ≡ true → assigned room expr inner body a i ≡ Some q
      → Passes (SpellsStatement q.0 d) i q.1
  unfolding assigned
  sound-assigned a i q two h =
      let sign = assignment_kind a in
      let both = two-both k.Identifier sign i two in
      let at = next (next i) in
      let e = and_then_some (expr at) _ _ h in
      let P = SpellsExpression e.0.0 d in
      let r = passes-then (SaysName (name_next i)) (Then (One sign) P) i (next i) e.0.1 (sees-name i both.0)
      (passes-then (One sign) P (next i) at e.0.1 (sees-one sign (next i) both.1) (sound-expr at e.0 e.1)) in
      let n = node _ i e.0.1 (then-some _ _ (name-some (name_next i))) r in
      passes-at (λ s. SpellsStatement s d) i _ q e.2 n

  sound-simple : (i : Input) (q : Statement Span × Input) → simple room expr inner body i ≡ Some q → Passes (SpellsStatement q.0 d) i q.1
  unfolding simple evaluated
  sound-simple i q h = elim (chosen_at (sees_two k.Identifier k.Assign i) _ _ i _ h) [
    | inl w ↦ sound-assigned assigns.Set i q w.0 w.1
    | inr w ↦ elim (chosen_at (sees_two k.Identifier k.PlusAssign i) _ _ i _ w.1) [
      | inl v ↦ sound-assigned assigns.Add i q v.0 v.1
      | inr v ↦
          (let a = and_then_some (expr i) _ _ v.1 in
          passes-at (λ s. SpellsStatement s d) i _ q a.2 (sound-expr i a.0 a.1))
    ]
  ]

  sound-broken : (i : Input) (q : Statement Span × Input) → sees k.WordBreak i ≡ true → broken room expr inner body i ≡ Some q → Passes (SpellsStatement q.0 d) i q.1
  unfolding broken
  sound-broken i q is h = passes-at (λ s. SpellsStatement s d) i _ q h (node _ i (next i) (one-some k.WordBreak) (sees-one k.WordBreak i is))

  sound-continued : (i : Input) (q : Statement Span × Input) → sees k.WordContinue i ≡ true → continued room expr inner body i ≡ Some q → Passes (SpellsStatement q.0 d) i q.1
  unfolding continued
  sound-continued i q is h = passes-at (λ s. SpellsStatement s d) i _ q h (node _ i (next i) (one-some k.WordContinue) (sees-one k.WordContinue i is))

  sound-stmt_by : (i : Input) (κ : Option Kind) (q : Statement Span × Input) → kind i ≡ κ → stmt_by room expr inner body κ i ≡ Some q → Passes (SpellsStatement q.0 d) i q.1
  unfolding same_kind
  sound-stmt_by i (Some k.WordIf) q e h = sound-selection i q (kind-sees i k.WordIf k.WordIf e refl) h
  sound-stmt_by i (Some k.WordForeach) q e h = sound-iteration i q (kind-sees i k.WordForeach k.WordForeach e refl) h
  sound-stmt_by i (Some k.WordBreak) q e h = sound-broken i q (kind-sees i k.WordBreak k.WordBreak e refl) h
  sound-stmt_by i (Some k.WordContinue) q e h = sound-continued i q (kind-sees i k.WordContinue k.WordContinue e refl) h
  sound-stmt_by i _ q e h = sound-simple i q h

  sound-stmt : (i : Input) (q : Statement Span × Input) → stmt room expr inner body i ≡ Some q → Passes (SpellsStatement q.0 d) i q.1
  unfolding stmt
  sound-stmt i q h = sound-stmt_by i (kind i) q refl h

  record LineRead (i : Input) (q : Statement Span × Input) : Type 0 where
    at : Input
    first : Passes (SpellsStatement q.0 d) i at
    ends : Passes (One k.LineEnd) at q.1

  sound-line : (i : Input) (q : Statement Span × Input) → statement_line room expr inner body i ≡ Some q → LineRead i q
  unfolding statement_line
  sound-line i q h =
      let a = and_then_some (stmt room expr inner body i) _ _ h in
      let b = and_then_some (expect k.LineEnd a.0.1) _ _ a.2 in
      subst (LineRead i) (some-injective _ q b.2) (record {
        at = a.0.1;
        first = sound-stmt i a.0 a.1;
        ends = expect-one k.LineEnd a.0.1 b.0 b.1;
      })

  record LinesRead (found : List (Statement Span)) (i : Input) (q : List (Statement Span) × Input) : Type 0 where
    more : List (Statement Span)
    are : q.0 ≡ found ++ more
    spelled : Passes (SpellsStatements (statements_of more) d) i q.1

  no-lines : (found : List (Statement Span)) (i : Input) (q : List (Statement Span) × Input) → Some (found, i) ≡ Some q → LinesRead found i q
  no-lines found i q h = subst (LinesRead found i) (some-injective _ q h) (record { more = []; are = sym (append-nil found); spelled = passes-nothing i })

  sound-lines_from : (n : ℕ) (found : List (Statement Span)) (i : Input) (q : List (Statement Span) × Input) → lines_from room expr inner body n found i ≡ Some q → LinesRead found i q
  unfolding lines_from
  sound-lines_from zero found i q h = no-lines found i q h
  sound-lines_from (suc n) found i q h = elim (chosen_at (ends_block (kind i)) _ _ i _ h) [
    | inl w ↦ no-lines found i q w.1
    | inr w ↦
        (let a = and_then_some (statement_line room expr inner body i) _ _ w.1 in
        let s = a.0.0 in
        let first = sound-line i a.0 a.1 in
        let rest = sound-lines_from n (found ++ s ∷ []) a.0.1 q a.2 in
        let P = SpellsStatements (statements_of rest.more) d in
        record {
          more = s ∷ rest.more;
          are = rest.are ∙ append_assoc found (s ∷ []) rest.more;
          spelled = passes-then (SpellsStatement s d) (Then (One k.LineEnd) P) i first.at q.1 first.first
              (passes-then (One k.LineEnd) P first.at a.0.1 q.1 first.ends rest.spelled);
        })
  ]

  -- statements make a block, which stands where they do
  sound-statements : (list : List (Statement Span)) (i j : Input) → Passes (SpellsStatements (statements_of list) d) i j
      → Passes (SpellsBlock (block (block_span (from i) list j) (statements_of list)) d i.last) i j
  unfolding span_from
  sound-statements [] i j r =
      let s : Span = record { from = j.last; to = j.last } in
      let l : j.last ≡ i.last = r.took.last ∙ ap (end_of i.last) r.fits in
      part _ _ i j r (subst (CoversBlock i.last s) (sym r.fits) (l, l), r.fits)
  sound-statements (s ∷ list) i j r =
      let n = node _ i j (then-some _ _ (statement-some s d)) r in
      part _ _ i j n (covers-block i.last (span_from (from i) j) n.used n.fits.0, n.fits.1)

  sound-blocked : (i : Input) (q : Block Span × Input) → blocked room expr inner body i ≡ Some q → Passes (SpellsBlock q.0 d i.last) i q.1
  unfolding blocked statement_lines
  sound-blocked i q h =
      let a = and_then_some (lines_from room expr inner body (left i) [] i) _ _ h in
      let j = a.0.1 in
      let read = sound-lines_from (left i) [] i a.0 a.1 in
      let made = sound-statements read.more i j read.spelled in
      let is = ap (λ l. Some (block (block_span (from i) l j) (statements_of l), j)) (sym read.are) in
      passes-at (λ b. SpellsBlock b d i.last) i _ q (is ∙ a.2) made

-- ---- expressions and blocks by their depth

-- an expression, where so many constructs may stand inside one another
pub expression-sound : (d : ℕ) (i : Input) (q : Expression Span × Input) → expression (suc d) i ≡ Some q → Passes (SpellsExpression q.0 d) i q.1
expression-sound d i q h =
    let r = sound-expression (suc d) i q h in
    let less = r.fits.less in
    let inner : r.fits.inner ≡ d = omega arith in
    part _ _ i q.1 r (subst (λ n. SpellsExpression q.0 n r.used) inner r.fits.spelled)

-- a block, which stands behind the token before it
pub block-sound : (d : ℕ) (i : Input) (q : Block Span × Input) → block_within (suc d) i ≡ Some q → Passes (SpellsBlock q.0 d i.last) i q.1
unfolding block_within selected iterated
block-sound zero i q h =
    sound-blocked (room zero) (expression (suc zero)) (expression zero) (block_within zero) zero (expression-sound zero) (λ i q is h. absurd cc) (λ i q is h. absurd cc) i q h
block-sound (suc n) i q h =
    let d = suc n in
    let expr = expression (suc d) in
    let inner = expression d in
    let body = block_within d in
    let selection = sound-selected (room d) expr inner body d n refl (expression-sound n) (block-sound n) in
    let iteration = sound-iterated (room d) expr inner body d n refl (expression-sound n) (block-sound n) in
    sound-blocked (room d) expr inner body d (expression-sound d) selection iteration i q h

-- ---- files

over : {A : Type 0} (x y : A) (rest : List Token) → if_over x rest ≡ Some y → (rest ≡ []) × (x ≡ y)
over x y [] h = (refl, some-injective x y h)
over x y (t ∷ ts) h = absurd cc

file_of-some : (len : ℕ) (r : Outcome (Block Span)) (f : File Span) → file_of_block len r ≡ Some f
    → (q : Block Span × Input) × (r ≡ Some q) × (q.1.rest ≡ []) × (file (record { from = 0; to = len }) q.0 ≡ f)
file_of-some len None f h = absurd cc
file_of-some len (Some q) f h = let o = over (file (record { from = 0; to = len }) q.0) f q.1.rest h in (q, refl, o.0, o.1)

-- What a file is read as is spelled by its tokens.
pub whole-sound : (depth len : ℕ) (ts : List Token) (f : File Span) → whole depth len ts ≡ Some f → SpellsFile f len depth ts
unfolding whole
whole-sound depth len ts f h =
    let i : Input = record { last = 0; rest = ts } in
    let a = file_of-some len (block_within (suc depth) i) f h in
    let q = a.0 in
    let r = block-sound depth i q a.1 in
    let all : r.used ≡ ts = sym (r.took.rest ∙ ap (λ x. r.used ++ x) a.2 ∙ append-nil r.used) in
    let spelled : SpellsBlock q.0 depth 0 ts = subst (SpellsBlock q.0 depth 0) all r.fits in
    subst (λ x. SpellsFile x len depth ts) a.3 (refl, refl, spelled)
