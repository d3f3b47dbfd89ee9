-- The first tokens of what is spelled, and what may stand behind it.
use Rattle.std.proofs.Common.{◌≡◌, ℕ, suc, ◌+◌, ◌-◌, ◌<◌, ◌≤◌, Bool, true, false, List, Option, Some, None, refl, ap, ◌∙◌, arith}
use Rattle.meson_lex.specs.declared.kinds.Kind.{Kind}
use Rattle.meson_lex.specs.declared.kinds.Kind.TheVariants as k
use Rattle.meson_lex.specs.declared.kinds.Span.{Span}
use Rattle.meson_lex.specs.Located.{Token}
use Rattle.meson_syntax.specs.declared.operator.Operator.{Operator}
use Rattle.meson_syntax.specs.declared.operator.Operator.TheVariants as op
use Rattle.meson_syntax.specs.declared.operator.UnaryOperator.{UnaryOperator}
use Rattle.meson_syntax.specs.declared.operator.UnaryOperator.TheVariants as unary_op
use Rattle.meson_syntax.specs.declared.operator.StringKind.{StringKind}
use Rattle.meson_syntax.specs.declared.operator.StringKind.TheVariants as quotes
use Rattle.meson_syntax.specs.declared.operator.Bracket.{Bracket}
use Rattle.meson_syntax.specs.declared.operator.Bracket.TheVariants as bracket
use Rattle.meson_syntax.specs.Operators.{operator_kind, unary_kind, string_kind, boolean_kind, opens, closes, level}
use Rattle.meson_syntax.specs.Tree.{Expression, identifier, boolean, integer, string, paren, array, dictionary, call, unary, row, postfix, conditional, Operands, no_operands, operand, Tail, method, index, Tails, no_tails, tail, Listing, listing, Argument, plain, named, pair, Name}
use Rattle.meson_syntax.specs.Grammar.{looseness, row_level, HasOperand, HasTail}
use Rattle.meson_syntax.specs.inside.Input.{Input, kind, next}
use Rattle.meson_syntax.specs.inside.Reading.{row_of, unary_of}
use Rattle.meson_syntax.specs.Spelling.{One, Then, SpellsExpression, SpellsOperands, SpellsTail, SpellsTails, SpellsListing, SpellsArgument, SaysName}
use Rattle.meson_syntax.proofs.parsing.Steps.{Passes, part, nothing-same}
use Rattle.meson_syntax.proofs.parsing.Splits.{passes-split, says-read, one-read, name-read}

-- ---- what may stand behind an expression

-- the loosest kind of expression that goes on with it, or more than any
abbrev pub binding : Option Kind → ℕ
binding (Some k.OpenRound) = 0
binding (Some k.Dot) = 1
binding (Some k.OpenSquare) = 1
binding (Some k.Star) = 3
binding (Some k.Slash) = 3
binding (Some k.Percent) = 3
binding (Some k.Plus) = 4
binding (Some k.Minus) = 4
binding (Some k.Less) = 5
binding (Some k.LessEqual) = 5
binding (Some k.Greater) = 5
binding (Some k.GreaterEqual) = 5
binding (Some k.WordIn) = 5
binding (Some k.WordNot) = 5
binding (Some k.Equal) = 6
binding (Some k.NotEqual) = 6
binding (Some k.WordAnd) = 7
binding (Some k.WordOr) = 8
binding (Some k.Question) = 9
binding _ = 10

-- no expression goes on with it
abbrev pub Stops : Option Kind → Type 0
Stops κ = 9 < binding κ

pub stops-at : (n : ℕ) (i : Input) (κ : Kind) → n < binding (kind i) → binding (Some κ) ≤ n → kind i ≡ Some κ → ⊥
stops-at n i κ h b e = let same : binding (kind i) ≡ binding (Some κ) = ap binding e in omega arith

-- a row goes on with an operator of its level
pub binding-row : (κ : Option Kind) (l : ℕ) → row_of κ ≡ suc l → binding κ ≡ 2 + suc l
binding-row (Some k.Star) l e = omega arith
binding-row (Some k.Slash) l e = omega arith
binding-row (Some k.Percent) l e = omega arith
binding-row (Some k.Plus) l e = omega arith
binding-row (Some k.Minus) l e = omega arith
binding-row (Some k.Less) l e = omega arith
binding-row (Some k.LessEqual) l e = omega arith
binding-row (Some k.Greater) l e = omega arith
binding-row (Some k.GreaterEqual) l e = omega arith
binding-row (Some k.WordIn) l e = omega arith
binding-row (Some k.WordNot) l e = omega arith
binding-row (Some k.Equal) l e = omega arith
binding-row (Some k.NotEqual) l e = omega arith
binding-row (Some k.WordAnd) l e = omega arith
binding-row (Some k.WordOr) l e = omega arith
binding-row _ l e = absurd (omega arith)

pub operator-row : (o : Operator) → row_of (Some (operator_kind o)) ≡ level o
operator-row op.Or = refl
operator-row op.And = refl
operator-row op.Equal = refl
operator-row op.NotEqual = refl
operator-row op.Less = refl
operator-row op.LessEqual = refl
operator-row op.Greater = refl
operator-row op.GreaterEqual = refl
operator-row op.In = refl
operator-row op.NotIn = refl
operator-row op.Plus = refl
operator-row op.Minus = refl
operator-row op.Times = refl
operator-row op.Divide = refl
operator-row op.Remainder = refl

level-is : (o : Operator) → (1 ≤ level o) × (level o ≤ 6)
level-is op.Or = (omega arith, omega arith)
level-is op.And = (omega arith, omega arith)
level-is op.Equal = (omega arith, omega arith)
level-is op.NotEqual = (omega arith, omega arith)
level-is op.Less = (omega arith, omega arith)
level-is op.LessEqual = (omega arith, omega arith)
level-is op.Greater = (omega arith, omega arith)
level-is op.GreaterEqual = (omega arith, omega arith)
level-is op.In = (omega arith, omega arith)
level-is op.NotIn = (omega arith, omega arith)
level-is op.Plus = (omega arith, omega arith)
level-is op.Minus = (omega arith, omega arith)
level-is op.Times = (omega arith, omega arith)
level-is op.Divide = (omega arith, omega arith)
level-is op.Remainder = (omega arith, omega arith)

operator-binds : (o : Operator) → binding (Some (operator_kind o)) ≤ 8
operator-binds o =
    let is = level-is o in
    let same = operator-row o in
    let l = level o - 1 in
    let binds = binding-row (Some (operator_kind o)) l (omega arith) in
    omega arith

pub row-some : (os : Operands Span) → HasOperand os → 1 ≤ row_level os
row-some no_operands some = absurd some
row-some (operand o e more) some = (level-is o).0

pub row-most : (os : Operands Span) → row_level os ≤ 6
row-most no_operands = omega arith
row-most (operand o e more) = (level-is o).1

pub looseness-most : (e : Expression Span) → looseness e ≤ 9
looseness-most (unary s o e) = omega arith
looseness-most (row s e os) = let most = row-most os in omega arith
looseness-most (postfix s e ts) = omega arith
looseness-most (conditional s c y n) = omega arith
looseness-most _ = omega arith

pub closing-stops : (b : Bracket) → Stops (Some (closes b))
closing-stops bracket.Round = omega arith
closing-stops bracket.Square = omega arith
closing-stops bracket.Curly = omega arith

-- ---- first tokens

pub first-name : (x : Name Span) (Q : List Token → Type 0) (i j : Input) → Passes (Then (SaysName x) Q) i j → kind i ≡ Some k.Identifier
first-name x Q i j r = let s = passes-split (SaysName x) Q i j r in (name-read x i s.at s.first).is

pub first-one : (κ : Kind) (Q : List Token → Type 0) (i j : Input) → Passes (Then (One κ) Q) i j → kind i ≡ Some κ
first-one κ Q i j r = let s = passes-split (One κ) Q i j r in (one-read κ i s.at s.first).is

pub first-listing : (l : Listing Span) (b : Bracket) (d : ℕ) (i j : Input) → Passes (SpellsListing l b d) i j → kind i ≡ Some (opens b)
first-listing (listing s trailing list) b d i j r = first-one (opens b) _ i j (part _ _ i j r r.fits.3)

-- the tightest kind of expression that begins with it, or more than any
abbrev pub beginning : Option Kind → ℕ
beginning (Some k.Identifier) = 0
beginning (Some k.WordTrue) = 0
beginning (Some k.WordFalse) = 0
beginning (Some k.Integer) = 0
beginning (Some k.PlainString) = 0
beginning (Some k.MultilineString) = 0
beginning (Some k.FormatString) = 0
beginning (Some k.FormatMultilineString) = 0
beginning (Some k.OpenRound) = 0
beginning (Some k.OpenSquare) = 0
beginning (Some k.OpenCurly) = 0
beginning (Some k.WordNot) = 2
beginning (Some k.Minus) = 2
beginning _ = 10

begins-boolean : (b : Bool) → beginning (Some (boolean_kind b)) ≡ 0
begins-boolean true = refl
begins-boolean false = refl

begins-string : (q : StringKind) → beginning (Some (string_kind q)) ≡ 0
begins-string quotes.Plain = refl
begins-string quotes.Multiline = refl
begins-string quotes.Format = refl
begins-string quotes.FormatMultiline = refl

begins-unary : (o : UnaryOperator) → beginning (Some (unary_kind o)) ≡ 2
begins-unary unary_op.Not = refl
begins-unary unary_op.Minus = refl

pub begins-expression : (e : Expression Span) (d : ℕ) (i j : Input) → Passes (SpellsExpression e d) i j → beginning (kind i) ≤ looseness e
begins-expression (identifier s x) d i j r = let b = ap beginning (says-read k.Identifier x i j (part _ _ i j r r.fits.1)).is in omega arith
begins-expression (boolean s t) d i j r = let b = ap beginning (one-read (boolean_kind t) i j (part _ _ i j r r.fits.1)).is ∙ begins-boolean t in omega arith
begins-expression (integer s x) d i j r = let b = ap beginning (says-read k.Integer x i j (part _ _ i j r r.fits.1)).is in omega arith
begins-expression (string s q x) d i j r = let b = ap beginning (says-read (string_kind q) x i j (part _ _ i j r r.fits.1)).is ∙ begins-string q in omega arith
begins-expression (paren s e) d i j r = let b = ap beginning (first-one k.OpenRound _ i j (part _ _ i j r r.fits.1)) in omega arith
begins-expression (array l) d i j r = let b = ap beginning (first-listing l bracket.Square d i j r) in omega arith
begins-expression (dictionary l) d i j r = let b = ap beginning (first-listing l bracket.Curly d i j r) in omega arith
begins-expression (call s x l) d i j r = let b = ap beginning (first-name x _ i j (part _ _ i j r r.fits.1)) in omega arith
begins-expression (unary s o e) d i j r = let b = ap beginning (first-one (unary_kind o) _ i j (part _ _ i j r r.fits.2)) ∙ begins-unary o in omega arith
begins-expression (row s e os) d i j r =
    let p = passes-split (SpellsExpression e d) _ i j (part _ _ i j r r.fits.3) in
    let b = begins-expression e d i p.at p.first in
    let tighter = r.fits.2 in
    omega arith
begins-expression (postfix s e ts) d i j r =
    let p = passes-split (SpellsExpression e d) _ i j (part _ _ i j r r.fits.3) in
    let b = begins-expression e d i p.at p.first in
    let tighter = r.fits.2 in
    omega arith
begins-expression (conditional s c y n) d i j r =
    let p = passes-split (SpellsExpression c d) _ i j (part _ _ i j r r.fits.2) in
    let b = begins-expression c d i p.at p.first in
    let tighter = r.fits.1 in
    omega arith

-- an expression may begin with it
abbrev pub Starts : Option Kind → Type 0
Starts κ = beginning κ ≤ 9

pub first-expression : (e : Expression Span) (d : ℕ) (i j : Input) → Passes (SpellsExpression e d) i j → Starts (kind i)
first-expression e d i j r = let b = begins-expression e d i j r in let most = looseness-most e in omega arith

pub first-argument : (a : Argument Span) (b : Bracket) (seen : Bool) (d : ℕ) (i j : Input) → Passes (SpellsArgument a b seen d) i j → Starts (kind i)
first-argument (plain e) b seen d i j r = first-expression e r.fits.2.inner i j (part _ _ i j r r.fits.2.spelled)
first-argument (named s x e) b seen d i j r = let first = ap beginning (first-name x _ i j (part _ _ i j r r.fits.2)) in omega arith
first-argument (pair s e f) b seen d i j r =
    let p = passes-split _ _ i j (part _ _ i j r r.fits.2) in
    first-expression e p.first.fits.inner i p.at (part _ _ i p.at p.first p.first.fits.spelled)

closing-starts : (b : Bracket) → Starts (Some (closes b)) → ⊥
closing-starts bracket.Round s = omega arith
closing-starts bracket.Square s = omega arith
closing-starts bracket.Curly s = omega arith

pub starts-closing : (i : Input) (b : Bracket) → Starts (kind i) → kind i ≡ Some (closes b) → ⊥
starts-closing i b s e = let same = ap beginning e in closing-starts b (omega arith)

-- what begins an expression without an operator before it is no such operator
pub unary-none : (κ : Option Kind) → beginning κ ≤ 1 → unary_of κ ≡ None
unary-none (Some k.WordNot) h = absurd (omega arith)
unary-none (Some k.Minus) h = absurd (omega arith)
unary-none _ h = refl

pub unary-some : (o : UnaryOperator) → unary_of (Some (unary_kind o)) ≡ Some o
unary-some unary_op.Not = refl
unary-some unary_op.Minus = refl

-- ---- what stands behind a part

pub first-operands : (os : Operands Span) (n d : ℕ) (i j : Input) → HasOperand os → Passes (SpellsOperands os n d) i j → (row_of (kind i) ≡ n) × (binding (kind i) ≤ 8)
first-operands no_operands n d i j some r = absurd some
first-operands (operand o e more) n d i j some r =
    let first = first-one (operator_kind o) _ i j (part _ _ i j r r.fits.2) in
    let same = ap binding first in
    let most = operator-binds o in
    (ap row_of first ∙ operator-row o ∙ r.fits.0, omega arith)

pub first-tail : (t : Tail Span) (d : ℕ) (i j : Input) → Passes (SpellsTail t d) i j → binding (kind i) ≡ 1
first-tail (method s x l) d i j r = ap binding (first-one k.Dot _ i j (part _ _ i j r r.fits.1))
first-tail (index s e) d i j r = ap binding (first-one k.OpenSquare _ i j (part _ _ i j r r.fits.1))

pub first-tails : (ts : Tails Span) (d : ℕ) (i j : Input) → HasTail ts → Passes (SpellsTails ts d) i j → binding (kind i) ≡ 1
first-tails no_tails d i j some r = absurd some
first-tails (tail t more) d i j some r = let p = passes-split (SpellsTail t d) _ i j r in first-tail t d i p.at p.first

-- behind an operand stands the row's next operator, or what stands behind the row
pub operand-stop : (os : Operands Span) (l d : ℕ) (i j : Input) → Passes (SpellsOperands os (suc l) d) i j → 2 + suc l < binding (kind j) → 2 + l < binding (kind i)
operand-stop no_operands l d i j r h = let same = ap (λ x. binding (kind x)) (nothing-same i j r) in omega arith
operand-stop (operand o e more) l d i j r h = let first = first-operands (operand o e more) (suc l) d i j tt r in let b = binding-row (kind i) l first.0 in omega arith

-- ---- names

string-unnamed : (q : StringKind) → string_kind q ≡ k.Identifier → ⊥
string-unnamed quotes.Plain e = absurd cc
string-unnamed quotes.Multiline e = absurd cc
string-unnamed quotes.Format e = absurd cc
string-unnamed quotes.FormatMultiline e = absurd cc

boolean-unnamed : (b : Bool) → boolean_kind b ≡ k.Identifier → ⊥
boolean-unnamed true e = absurd cc
boolean-unnamed false e = absurd cc

-- An expression that begins with a name is that name, where a token stands behind it with which none goes on:
-- so a colon or `=` behind a name ends no expression that is longer.
pub name-alone : (e : Expression Span) (d : ℕ) (i j : Input) → Passes (SpellsExpression e d) i j → kind i ≡ Some k.Identifier → Stops (kind (next i)) → next i ≡ j
name-alone (identifier s x) d i j r e stop = (says-read k.Identifier x i j (part _ _ i j r r.fits.1)).goes
name-alone (boolean s b) d i j r e stop = let is = (one-read (boolean_kind b) i j (part _ _ i j r r.fits.1)).is in absurd (boolean-unnamed b (cc))
name-alone (integer s x) d i j r e stop = let is = (says-read k.Integer x i j (part _ _ i j r r.fits.1)).is in absurd cc
name-alone (string s q x) d i j r e stop = let is = (says-read (string_kind q) x i j (part _ _ i j r r.fits.1)).is in absurd (string-unnamed q (cc))
name-alone (paren s f) d i j r e stop = let is = first-one k.OpenRound _ i j (part _ _ i j r r.fits.1) in absurd cc
name-alone (array l) d i j r e stop = let is = first-listing l bracket.Square d i j r in absurd cc
name-alone (dictionary l) d i j r e stop = let is = first-listing l bracket.Curly d i j r in absurd cc
name-alone (call s x l) d i j r e stop =
    let p = passes-split (SaysName x) _ i j (part _ _ i j r r.fits.1) in
    let is = first-listing l bracket.Round d p.at j p.second in
    let goes = (name-read x i p.at p.first).goes in
    absurd (stops-at 9 (next i) k.OpenRound stop (omega arith) (ap kind goes ∙ is))
name-alone (unary s o f) d i j r e stop =
    let two = ap beginning (first-one (unary_kind o) _ i j (part _ _ i j r r.fits.2)) ∙ begins-unary o in
    let none = ap beginning e in
    absurd (omega arith)
name-alone (row s f os) d i j r e stop =
    let p = passes-split (SpellsExpression f d) _ i j (part _ _ i j r r.fits.3) in
    let same = ap (λ x. binding (kind x)) (name-alone f d i p.at p.first e stop) in
    let first = first-operands os (row_level os) d p.at j r.fits.1 p.second in
    absurd (omega arith)
name-alone (postfix s f ts) d i j r e stop =
    let p = passes-split (SpellsExpression f d) _ i j (part _ _ i j r r.fits.3) in
    let same = ap (λ x. binding (kind x)) (name-alone f d i p.at p.first e stop) in
    let first = first-tails ts d p.at j r.fits.1 p.second in
    absurd (omega arith)
name-alone (conditional s c y n) d i j r e stop =
    let p = passes-split (SpellsExpression c d) _ i j (part _ _ i j r r.fits.2) in
    let same = ap (λ x. binding (kind x)) (name-alone c d i p.at p.first e stop) in
    let first = ap binding (first-one k.Question _ p.at j p.second) in
    absurd (omega arith)
