-- What is spelled stands within any depth that its tree has room in.
use Rattle.std.proofs.Common.{ℕ, zero, suc, ◌<◌, ◌≤◌, Bool, false, List, refl, arith}
use Rattle.meson_lex.specs.declared.kinds.Span.{Span}
use Rattle.meson_lex.specs.Located.{Token}
use Rattle.meson_syntax.specs.declared.operator.Bracket.{Bracket}
use Rattle.meson_syntax.specs.declared.operator.Bracket.TheVariants as bracket
use Rattle.meson_syntax.specs.Tree.{Expression, identifier, boolean, integer, string, paren, array, dictionary, call, unary, row, postfix, conditional, Operands, no_operands, operand, Tail, method, index, Tails, no_tails, tail, Listing, listing, Argument, plain, named, pair, is_named, Arguments, no_arguments, argument}
use Rattle.meson_syntax.specs.Spelling.{Then, Deeper, NewLine, SpellsExpression, SpellsOperands, SpellsTail, SpellsTails, SpellsListing, SpellsArguments, SpellsArgument}
use Rattle.meson_syntax.specs.Grammar.{row_level, expression_depth, operands_depth, tail_depth, tails_depth, listing_depth, arguments_depth, argument_depth}

-- one level deeper, where there is room for it
pub deeper_in : (P : ℕ → List Token → Type 0) (m k : ℕ) (ts : List Token) → m < k → ((j : ℕ) → m ≤ j → P j ts) → Deeper P k ts
deeper_in P m zero ts room p = absurd (omega (arith, room))
deeper_in P m (suc j) ts room p = record { inner = j; less = refl; spelled = p j (omega (arith, room)) }

-- two parts within another depth
pub both : {P Q R S : List Token → Type 0} {ts : List Token} (t : Then P Q ts) → R t.front → S t.back → Then R S ts
both t r s = record { front = t.front; back = t.back; joined = t.joined; first = r; second = s }

pub new_line : {P Q : ℕ → List Token → Type 0} {ts : List Token} (line : NewLine P ts) → Q line.token.to line.rest → NewLine Q ts
new_line line q = record { token = line.token; rest = line.rest; joined = line.joined; is = line.is; second = q }

mutual
  pub expression_in : (e : Expression Span) (d k : ℕ) (ts : List Token) → SpellsExpression e d ts → expression_depth e ≤ k → SpellsExpression e k ts
  expression_in (identifier s x) d k ts h room = h
  expression_in (boolean s b) d k ts h room = h
  expression_in (integer s x) d k ts h room = h
  expression_in (string s q x) d k ts h room = h
  expression_in (paren s e) d k ts h room =
      let p = h.1 in
      let q = p.second in
      let w = q.first in
      (h.0, both p p.first (both q (deeper_in (SpellsExpression e) (expression_depth e) k q.front (omega (arith, room)) (λ j r. expression_in e w.inner j q.front w.spelled r)) q.second))
  expression_in (array l) d k ts h room = listing_in l bracket.Square d k ts h room
  expression_in (dictionary l) d k ts h room = listing_in l bracket.Curly d k ts h room
  expression_in (call s x l) d k ts h room = let p = h.1 in (h.0, both p p.first (listing_in l bracket.Round d k p.back p.second room))
  expression_in (unary s o e) d k ts h room = let p = h.2 in (h.0, h.1, both p p.first (expression_in e d k p.back p.second room))
  expression_in (row s e os) d k ts h room =
      let p = h.3 in
      (h.0, h.1, h.2, both p (expression_in e d k p.front p.first (omega (arith, room))) (operands_in os (row_level os) d k p.back p.second (omega (arith, room))))
  expression_in (postfix s e tails) d k ts h room =
      let p = h.3 in
      (h.0, h.1, h.2, both p (expression_in e d k p.front p.first (omega (arith, room))) (tails_in tails d k p.back p.second (omega (arith, room))))
  expression_in (conditional s c y n) d k ts h room =
      let p = h.2 in
      let q = p.second in
      let w = q.second in
      let yes = w.first in
      let v = w.second in
      let no = v.second in (
        h.0,
        h.1,
        both p (expression_in c d k p.front p.first (omega (arith, room))) (both q q.first (both w (deeper_in (SpellsExpression y) (expression_depth y) k w.front (omega (arith, room)) (λ j r. expression_in y yes.inner j w.front yes.spelled r)) (both v v.first (deeper_in (SpellsExpression n) (expression_depth n) k v.back (omega (arith, room)) (λ j r. expression_in n no.inner j v.back no.spelled r))))),
      )

  operands_in : (os : Operands Span) (n d k : ℕ) (ts : List Token) → SpellsOperands os n d ts → operands_depth os ≤ k → SpellsOperands os n k ts
  operands_in no_operands n d k ts h room = h
  operands_in (operand o e more) n d k ts h room =
      let p = h.2 in
      let q = p.second in
      let w = q.second in (
        h.0,
        h.1,
        both p p.first (both q q.first (both w (expression_in e d k w.front w.first (omega (arith, room))) (operands_in more n d k w.back w.second (omega (arith, room))))),
      )

  tail_in : (t : Tail Span) (d k : ℕ) (ts : List Token) → SpellsTail t d ts → tail_depth t ≤ k → SpellsTail t k ts
  tail_in (method s x l) d k ts h room =
      let p = h.1 in
      let q = p.second in
      (h.0, both p p.first (both q q.first (listing_in l bracket.Round d k q.back q.second room)))
  tail_in (index s e) d k ts h room =
      let p = h.1 in
      let q = p.second in
      let w = q.first in
      (h.0, both p p.first (both q (deeper_in (SpellsExpression e) (expression_depth e) k q.front (omega (arith, room)) (λ j r. expression_in e w.inner j q.front w.spelled r)) q.second))

  tails_in : (tails : Tails Span) (d k : ℕ) (ts : List Token) → SpellsTails tails d ts → tails_depth tails ≤ k → SpellsTails tails k ts
  tails_in no_tails d k ts h room = h
  tails_in (tail t more) d k ts h room = both h (tail_in t d k h.front h.first (omega (arith, room))) (tails_in more d k h.back h.second (omega (arith, room)))

  pub listing_in : (l : Listing Span) (b : Bracket) (d k : ℕ) (ts : List Token) → SpellsListing l b d ts → listing_depth l ≤ k → SpellsListing l b k ts
  listing_in (listing s trailing list) b d k ts h room =
      let p = h.3 in
      let q = p.second in
      (h.0, omega (arith, room), h.2, both p p.first (both q (arguments_in list trailing b false d k q.front q.first (omega (arith, room))) q.second))

  arguments_in : (list : Arguments Span) (trailing : Bool) (b : Bracket) (seen : Bool) (d k : ℕ) (ts : List Token) → SpellsArguments list trailing b seen d ts → arguments_depth list < k
      → SpellsArguments list trailing b seen k ts
  arguments_in no_arguments trailing b seen d k ts h room = h
  arguments_in (argument a more) trailing b seen d k ts h room =
      let q = h.second in
      both h (argument_in a b seen d k h.front h.first (omega (arith, room))) (both q q.first (arguments_in more trailing b (is_named a) d k q.back q.second (omega (arith, room))))

  argument_in : (a : Argument Span) (b : Bracket) (seen : Bool) (d k : ℕ) (ts : List Token) → SpellsArgument a b seen d ts → argument_depth a < k → SpellsArgument a b seen k ts
  argument_in (plain e) b seen d k ts h room =
      let w = h.2 in
      (h.0, h.1, deeper_in (SpellsExpression e) (expression_depth e) k ts room (λ j r. expression_in e w.inner j ts w.spelled r))
  argument_in (named s x e) b seen d k ts h room =
      let p = h.2 in
      let q = p.second in
      let w = q.second in (
        h.0,
        h.1,
        both p p.first (both q q.first (deeper_in (SpellsExpression e) (expression_depth e) k q.back room (λ j r. expression_in e w.inner j q.back w.spelled r))),
      )
  argument_in (pair s e f) b seen d k ts h room =
      let p = h.2 in
      let v = p.first in
      let q = p.second in
      let w = q.second in (
        h.0,
        h.1,
        both p (deeper_in (SpellsExpression e) (expression_depth e) k p.front (omega (arith, room)) (λ j r. expression_in e v.inner j p.front v.spelled r)) (both q q.first (deeper_in (SpellsExpression f) (expression_depth f) k q.back (omega (arith, room)) (λ j r. expression_in f w.inner j q.back w.spelled r))),
      )
