-- The first and the last token of a node, and its span.
use Rattle.meson_edit.proofs.Words.{◌≡◌, ℕ, Bool, List, [], ◌∷◌, ◌++◌, sym, ap, ◌∙◌, append_assoc, subst, append-nil, Token, Kind, Span, HasOperand, HasTail}
use Rattle.meson_edit.proofs.Words.{HasBranch, row_level, string_kind, boolean_kind, unary_kind, opens, closes, Covers, One, IsOneToken, Then, SpellsExpression}
use Rattle.meson_edit.proofs.Words.{SpellsOperands, SpellsTail, SpellsTails, SpellsListing, SpellsArgument, SpellsBranches, SpellsStatement, Expression}
use Rattle.meson_edit.proofs.Words.{identifier, boolean, integer, string, paren, array, dictionary, call, unary, row, postfix, conditional, Operands}
use Rattle.meson_edit.proofs.Words.{no_operands, operand, Tail, method, index, Tails, no_tails, tail, Listing, listing, Argument, plain, named, pair, Branches}
use Rattle.meson_edit.proofs.Words.{no_branches, branch, Statement, evaluate, assign, selection, iteration, breaks, continues, Bracket, IsOwnKind, boolean-own}
use Rattle.meson_edit.proofs.Words.{closes-own, listing-covers, opens-own, string-own, unary-own, IsOwn, expression_span, argument_span, statement_span}
use Rattle.meson_lex.specs.declared.kinds.Kind.TheVariants as k
use Rattle.meson_syntax.specs.declared.operator.Bracket.TheVariants as bracket
use Rattle.meson_edit.proofs.places.Owned.{Bounded}

record Begins (ts : List Token) : Type 0 where
  first : Token
  rest : List Token
  begins : ts ≡ first ∷ rest
  first_own : IsOwn first

record Closes (ts : List Token) : Type 0 where
  front : List Token
  last : Token
  ends : ts ≡ front ++ last ∷ []
  last_own : IsOwn last

bounded : (ts : List Token) → Begins ts → Closes ts → Bounded ts
bounded ts b c = record { first = b.first; rest = b.rest; begins = b.begins; first_own = b.first_own; front = c.front; last = c.last; ends = c.ends; last_own = c.last_own }

one-begins : (κ : Kind) (ts : List Token) → IsOwnKind κ → One κ ts → Begins ts
one-begins κ ts own w = record { first = w.token; rest = []; begins = w.alone; first_own = λ e. own (sym w.is ∙ e) }

one-closes : (κ : Kind) (ts : List Token) → IsOwnKind κ → One κ ts → Closes ts
one-closes κ ts own w = record { front = []; last = w.token; ends = w.alone; last_own = λ e. own (sym w.is ∙ e) }

says-one : (κ : Kind) (x : List ℕ) (ts : List Token) → IsOneToken κ x ts → One κ ts
says-one κ x ts w = record { token = w.token; alone = w.alone; is = w.is }

then-begins : (P Q : List Token → Type 0) (ts : List Token) (t : Then P Q ts) → Begins t.front → Begins ts
then-begins P Q ts t b = record { first = b.first; rest = b.rest ++ t.back; begins = t.joined ∙ ap (λ f. f ++ t.back) b.begins; first_own = b.first_own }

then-closes : (P Q : List Token → Type 0) (ts : List Token) (t : Then P Q ts) → Closes t.back → Closes ts
then-closes P Q ts t c = record {
  front = t.front ++ c.front;
  last = c.last;
  ends = t.joined ∙ ap (λ b. t.front ++ b) c.ends ∙ sym (append_assoc t.front c.front (c.last ∷ []));
  last_own = c.last_own;
}

identifier-own : IsOwnKind k.Identifier
identifier-own e = absurd cc

one-bounded : (κ : Kind) (ts : List Token) → IsOwnKind κ → One κ ts → Begins ts × Closes ts
one-bounded κ ts own w = (one-begins κ ts own w, one-closes κ ts own w)

then-bounded : (P Q : List Token → Type 0) (ts : List Token) (t : Then P Q ts) → Begins t.front → Closes t.back → Begins ts × Closes ts
then-bounded P Q ts t b c = (then-begins P Q ts t b, then-closes P Q ts t c)

listing-ends : (l : Listing Span) (b : Bracket) (d : ℕ) (ts : List Token) → SpellsListing l b d ts → Begins ts × Closes ts
listing-ends (listing s trailing list) b d ts h =
    let p = h.3 in
    let q = p.second in
    then-bounded _ _ ts p (one-begins (opens b) p.front (opens-own b) p.first) (then-closes _ _ p.back q (one-closes (closes b) q.back (closes-own b) q.second))

mutual
  expression-ends : (e : Expression Span) (d : ℕ) (ts : List Token) → SpellsExpression e d ts → Begins ts × Closes ts
  expression-ends (identifier s x) d ts h = one-bounded k.Identifier ts identifier-own (says-one k.Identifier x ts h.1)
  expression-ends (boolean s b) d ts h = one-bounded (boolean_kind b) ts (boolean-own b) h.1
  expression-ends (integer s x) d ts h = one-bounded k.Integer ts (λ e. absurd cc) (says-one k.Integer x ts h.1)
  expression-ends (string s q x) d ts h = one-bounded (string_kind q) ts (string-own q) (says-one (string_kind q) x ts h.1)
  expression-ends (paren s e) d ts h =
      let p = h.1 in
      let q = p.second in
      then-bounded _ _ ts p (one-begins k.OpenRound p.front (λ e. absurd cc) p.first) (then-closes _ _ p.back q (one-closes k.CloseRound q.back (λ e. absurd cc) q.second))
  expression-ends (array l) d ts h = listing-ends l bracket.Square d ts h
  expression-ends (dictionary l) d ts h = listing-ends l bracket.Curly d ts h
  expression-ends (call s x l) d ts h =
      let p = h.1 in
      let l-ends = listing-ends l bracket.Round d p.back p.second in
      then-bounded _ _ ts p (one-begins k.Identifier p.front identifier-own (says-one k.Identifier x.text p.front p.first.1)) l-ends.1
  expression-ends (unary s o e) d ts h =
      let p = h.2 in
      let inner = expression-ends e d p.back p.second in
      then-bounded _ _ ts p (one-begins (unary_kind o) p.front (unary-own o) p.first) inner.1
  expression-ends (row s e os) d ts h =
      let p = h.3 in
      let first = expression-ends e d p.front p.first in
      then-bounded _ _ ts p first.0 (operands-close os (row_level os) d p.back h.1 p.second)
  expression-ends (postfix s e tails) d ts h =
      let p = h.3 in
      let first = expression-ends e d p.front p.first in
      then-bounded _ _ ts p first.0 (tails-close tails d p.back h.1 p.second)
  expression-ends (conditional s c y n) d ts h =
      let p = h.2 in
      let q = p.second in
      let r = q.second in
      let u = r.second in
      let first = expression-ends c d p.front p.first in
      let other = expression-ends n u.second.inner u.back u.second.spelled in
      then-bounded _ _ ts p first.0 (then-closes _ _ p.back q (then-closes _ _ q.back r (then-closes _ _ r.back u other.1)))

  operands-close : (os : Operands Span) (n d : ℕ) (ts : List Token) → HasOperand os → SpellsOperands os n d ts → Closes ts
  operands-close no_operands n d ts some h = absurd some
  operands-close (operand o e no_operands) n d ts some h =
      let p = h.2 in
      let q = p.second in
      let r = q.second in
      let value = expression-ends e d r.front r.first in
      let all = r.joined ∙ ap (λ b. r.front ++ b) r.second ∙ append-nil r.front in
      then-closes _ _ ts p (then-closes _ _ p.back q (subst Closes (sym all) value.1))
  operands-close (operand o e (operand i f more)) n d ts some h =
      let p = h.2 in
      let q = p.second in
      let r = q.second in
      then-closes _ _ ts p (then-closes _ _ p.back q (then-closes _ _ q.back r (operands-close (operand i f more) n d r.back tt r.second)))

  tails-close : (tails : Tails Span) (d : ℕ) (ts : List Token) → HasTail tails → SpellsTails tails d ts → Closes ts
  tails-close no_tails d ts some h = absurd some
  tails-close (tail t no_tails) d ts some h =
      let all = h.joined ∙ ap (λ b. h.front ++ b) h.second ∙ append-nil h.front in
      subst Closes (sym all) (tail-closes t d h.front h.first)
  tails-close (tail t (tail u more)) d ts some h = then-closes _ _ ts h (tails-close (tail u more) d h.back tt h.second)

  tail-closes : (t : Tail Span) (d : ℕ) (ts : List Token) → SpellsTail t d ts → Closes ts
  tail-closes (method s x l) d ts h =
      let p = h.1 in
      let q = p.second in
      let l-ends = listing-ends l bracket.Round d q.back q.second in
      then-closes _ _ ts p (then-closes _ _ p.back q l-ends.1)
  tail-closes (index s e) d ts h =
      let p = h.1 in
      let q = p.second in
      then-closes _ _ ts p (then-closes _ _ p.back q (one-closes k.CloseSquare q.back (λ e. absurd cc) q.second))

pub bounded-expression : (e : Expression Span) (d : ℕ) (ts : List Token) → SpellsExpression e d ts → Bounded ts
bounded-expression e d ts h = let ends = expression-ends e d ts h in bounded ts ends.0 ends.1

pub bounded-argument : (a : Argument Span) (b : Bracket) (seen : Bool) (d : ℕ) (ts : List Token) → SpellsArgument a b seen d ts → Bounded ts
bounded-argument (plain e) b seen d ts h = bounded-expression e h.2.inner ts h.2.spelled
bounded-argument (named s x e) b seen d ts h =
    let p = h.2 in
    let q = p.second in
    let value = expression-ends e q.second.inner q.back q.second.spelled in
    bounded ts (then-begins _ _ ts p (one-begins k.Identifier p.front identifier-own (says-one k.Identifier x.text p.front p.first.1))) (then-closes _ _ ts p (then-closes _ _ p.back q value.1))
bounded-argument (pair s e f) b seen d ts h =
    let p = h.2 in
    let q = p.second in
    let key = expression-ends e p.first.inner p.front p.first.spelled in
    let value = expression-ends f q.second.inner q.back q.second.spelled in
    bounded ts (then-begins _ _ ts p key.0) (then-closes _ _ ts p (then-closes _ _ p.back q value.1))

branches-begin : (bs : Branches Span) (d : ℕ) (ts : List Token) → HasBranch bs → SpellsBranches bs k.WordIf d ts → Begins ts
branches-begin no_branches d ts some h = absurd some
branches-begin (branch e b more) d ts some h = then-begins _ _ ts h (one-begins k.WordIf h.front (λ e. absurd cc) h.first)

pub bounded-statement : (s : Statement Span) (d : ℕ) (ts : List Token) → SpellsStatement s d ts → Bounded ts
bounded-statement (evaluate e) d ts h = bounded-expression e d ts h
bounded-statement (assign s x a e) d ts h =
    let p = h.1 in
    let q = p.second in
    let value = expression-ends e d q.back q.second in
    bounded ts (then-begins _ _ ts p (one-begins k.Identifier p.front identifier-own (says-one k.Identifier x.text p.front p.first.1))) (then-closes _ _ ts p (then-closes _ _ p.back q value.1))
bounded-statement (selection s bs o) d ts h =
    let p = h.2.spelled in
    let q = p.second in
    bounded ts (then-begins _ _ ts p (branches-begin bs h.2.inner p.front h.1 p.first))
    (then-closes _ _ ts p (then-closes _ _ p.back q (one-closes k.WordEndif q.back (λ e. absurd cc) q.second)))
bounded-statement (iteration s xs e b) d ts h =
    let p = h.1 in
    let q = p.second in
    let r = q.second in
    let t = r.second.spelled in
    let u = t.second in
    bounded ts (then-begins _ _ ts p (one-begins k.WordForeach p.front (λ e. absurd cc) p.first))
    (then-closes _ _ ts p (then-closes _ _ p.back q (then-closes _ _ q.back r (then-closes _ _ r.back t (then-closes _ _ t.back u (one-closes k.WordEndforeach u.back (λ e. absurd cc) u.second))))))
bounded-statement (breaks s) d ts h = let ends = one-bounded k.WordBreak ts (λ e. absurd cc) h.1 in bounded ts ends.0 ends.1
bounded-statement (continues s) d ts h = let ends = one-bounded k.WordContinue ts (λ e. absurd cc) h.1 in bounded ts ends.0 ends.1

pub expression-covers : (e : Expression Span) (d : ℕ) (ts : List Token) → SpellsExpression e d ts → Covers (expression_span e) ts
expression-covers (identifier s x) d ts h = h.0
expression-covers (boolean s b) d ts h = h.0
expression-covers (integer s x) d ts h = h.0
expression-covers (string s q x) d ts h = h.0
expression-covers (paren s e) d ts h = h.0
expression-covers (array l) d ts h = listing-covers l bracket.Square d ts h
expression-covers (dictionary l) d ts h = listing-covers l bracket.Curly d ts h
expression-covers (call s x l) d ts h = h.0
expression-covers (unary s o e) d ts h = h.0
expression-covers (row s e os) d ts h = h.0
expression-covers (postfix s e tails) d ts h = h.0
expression-covers (conditional s c y n) d ts h = h.0

pub argument-covers : (a : Argument Span) (b : Bracket) (seen : Bool) (d : ℕ) (ts : List Token) → SpellsArgument a b seen d ts → Covers (argument_span a) ts
argument-covers (plain e) b seen d ts h = expression-covers e h.2.inner ts h.2.spelled
argument-covers (named s x e) b seen d ts h = h.0
argument-covers (pair s e f) b seen d ts h = h.0

pub statement-covers : (s : Statement Span) (d : ℕ) (ts : List Token) → SpellsStatement s d ts → Covers (statement_span s) ts
statement-covers (evaluate e) d ts h = expression-covers e d ts h
statement-covers (assign s x a e) d ts h = h.0
statement-covers (selection s bs o) d ts h = h.0
statement-covers (iteration s xs e b) d ts h = h.0
statement-covers (breaks s) d ts h = h.0
statement-covers (continues s) d ts h = h.0
