-- An expression without spans whose words stand there has one with spans.
use Rattle.std.proofs.Common.{◌≡◌, ℕ, ◌<◌, ◌≤◌, max, Bool, false, List, [], ◌∷◌, ◌++◌, map, refl, sym, ap, ap₂, subst, ◌∙◌, arith}
use Rattle.meson_lex.specs.declared.kinds.Kind.TheVariants as k
use Rattle.meson_lex.specs.declared.kinds.Span.{Span}
use Rattle.meson_lex.specs.Located.{Token, words}
use Rattle.meson_syntax.specs.declared.operator.Bracket.{Bracket}
use Rattle.meson_syntax.specs.declared.operator.Bracket.TheVariants as bracket
use Rattle.meson_syntax.specs.Operators.{operator_kind, operator_rest, unary_kind, string_kind, boolean_kind, opens, closes}
use Rattle.meson_syntax.specs.Tree.{Nowhere, Expression, identifier, boolean, integer, string, paren, array, dictionary, call, unary, row, postfix, conditional, Operands, no_operands, operand, Tail, method, index, Tails, no_tails, tail, Listing, listing, Argument, plain, named, pair, is_named, Arguments, no_arguments, argument, erase_expression, erase_operands, erase_tail, erase_tails, erase_listing, erase_argument, erase_arguments}
use Rattle.meson_syntax.specs.Spelling.{One, Then, Deeper, Each, Comma, SpellsExpression, SpellsOperands, SpellsTail, SpellsTails, SpellsListing, SpellsArguments, SpellsArgument, SaysName}
use Rattle.meson_syntax.specs.Grammar.{mark, comma_words, expression_words, operands_words, tail_words, tails_words, listing_words, argument_words, arguments_words, row_level, looseness, HasOperand, HasTail, Flagged, LevelExpression, LevelOperands, LevelTail, LevelTails, LevelListing, LevelArgument, LevelArguments, expression_depth, operands_depth, tail_depth, tails_depth, listing_depth, argument_depth, arguments_depth}
use Rattle.meson_syntax.proofs.parsing.NonEmpty.{one-some, expression-some, name-some}
use Rattle.meson_syntax.proofs.parsing.Marks.{string-keeps}
use Rattle.meson_syntax.proofs.parsing.Erased.{named-erased, flagged-erased, comma-erased, row-erased, looseness-erased, has-operand-erased, has-tail-erased}
use Rattle.meson_syntax.proofs.parsing.Cuts.{cut, join, one-from, says-from, nothing-from, one-then, then-one, each-from, comma-from, cover-one, cover-says, cover-then, under, deeper, name-from}

-- ---- what a tree says is what the tree without its spans says

named-as : (a : Argument Span) (p : Argument Nowhere) → erase_argument a ≡ p → is_named a ≡ is_named p
named-as a p h = sym (named-erased a) ∙ ap (λ x. is_named x) h

flagged-as : (list : Arguments Span) (p : Arguments Nowhere) (trailing : Bool) → erase_arguments list ≡ p → Flagged trailing p → Flagged trailing list
flagged-as list p trailing h f = subst (λ A. A) (flagged-erased trailing list) (subst (λ x. Flagged trailing x) (sym h) f)

comma-as : (list : Arguments Span) (p : Arguments Nowhere) (trailing : Bool) (ts : List Token) → erase_arguments list ≡ p → words ts ≡ comma_words p trailing → Comma list trailing ts
comma-as list p trailing ts h e = comma-from list trailing ts (e ∙ ap (λ x. comma_words x trailing) (sym h) ∙ comma-erased list trailing)

looseness-as : (t : Expression Span) (p : Expression Nowhere) → erase_expression t ≡ p → looseness t ≡ looseness p
looseness-as t p h = sym (looseness-erased t) ∙ ap (λ x. looseness x) h

row-as : (os : Operands Span) (p : Operands Nowhere) → erase_operands os ≡ p → row_level os ≡ row_level p
row-as os p h = sym (row-erased os) ∙ ap (λ x. row_level x) h

has-operand-as : (os : Operands Span) (p : Operands Nowhere) → erase_operands os ≡ p → HasOperand p → HasOperand os
has-operand-as os p h has = subst (λ A. A) (has-operand-erased os) (subst (λ x. HasOperand x) (sym h) has)

has-tail-as : (tails : Tails Span) (p : Tails Nowhere) → erase_tails tails ≡ p → HasTail p → HasTail tails
has-tail-as tails p h has = subst (λ A. A) (has-tail-erased tails) (subst (λ x. HasTail x) (sym h) has)

pub three-as : {A B C D : Type 0} → (f : A → B → C → D) → (a b : A) (c d : B) (x y : C) → a ≡ b → c ≡ d → x ≡ y → f a c x ≡ f b d y
three-as f a b c d x y p q r = ap₂ (λ u v. f u v x) p q ∙ ap (f b d) r

-- ---- expressions

mutual
  pub place-expression : (p : Expression Nowhere) (d : ℕ) (ts : List Token) → LevelExpression p → expression_depth p ≤ d → words ts ≡ expression_words p
      → (t : Expression Span) × (erase_expression t ≡ p) × SpellsExpression t d ts
  place-expression (identifier u x) d ts l n e =
      let w = says-from k.Identifier x ts (λ y. refl) e in
      let c = cover-says k.Identifier x ts w in
      (identifier c.0 x, refl, (c.1, w))
  place-expression (boolean u b) d ts l n e =
      let w = one-from (boolean_kind b) ts e in
      let c = cover-one (boolean_kind b) ts w in
      (boolean c.0 b, refl, (c.1, w))
  place-expression (integer u x) d ts l n e =
      let w = says-from k.Integer x ts (λ y. refl) e in
      let c = cover-says k.Integer x ts w in
      (integer c.0 x, refl, (c.1, w))
  place-expression (string u q x) d ts l n e =
      let w = says-from (string_kind q) x ts (string-keeps q) e in
      let c = cover-says (string_kind q) x ts w in
      (string c.0 q x, refl, (c.1, w))
  place-expression (paren u p) d ts l n e =
      let a = cut (mark k.OpenRound) (expression_words p ++ mark k.CloseRound) ts e in
      let b = cut (expression_words p) (mark k.CloseRound) a.back a.second in
      let room = under (expression_depth p) d n in
      let r = place-expression p room.inner b.front l room.fits b.first in
      let P = Deeper (SpellsExpression r.0) d in
      let t = one-then k.OpenRound (Then P (One k.CloseRound)) _ ts a
      (then-one k.CloseRound P _ a.back b (deeper (SpellsExpression r.0) _ d b.front room r.2)) in
      let c = cover-then (One k.OpenRound) (Then P (One k.CloseRound)) ts (one-some k.OpenRound) t in
      (paren c.0 r.0, ap (paren tt) r.1, (c.1, t))
  place-expression (array list) d ts l n e =
      let r = place-listing list bracket.Square d ts l n e in
      (array r.0, ap array r.1, r.2)
  place-expression (dictionary list) d ts l n e =
      let r = place-listing list bracket.Curly d ts l n e in
      (dictionary r.0, ap dictionary r.1, r.2)
  place-expression (call u x list) d ts l n e =
      let a = cut ((k.Identifier, x.text) ∷ []) (listing_words list bracket.Round) ts e in
      let r = place-listing list bracket.Round d a.back l n a.second in
      let y = name-from x a.front a.first in
      let t = join (SaysName y.0) (SpellsListing r.0 bracket.Round d) _ _ ts a y.2 r.2 in
      let c = cover-then (SaysName y.0) (SpellsListing r.0 bracket.Round d) ts (name-some y.0) t in
      (call c.0 y.0 r.0, ap₂ (call tt) y.1 r.1, (c.1, t))
  place-expression (unary u o p) d ts l n e =
      let a = cut (mark (unary_kind o)) (expression_words p) ts e in
      let r = place-expression p d a.back l.1 n a.second in
      let same = looseness-as r.0 p r.1 in
      let t = one-then (unary_kind o) (SpellsExpression r.0 d) _ ts a r.2 in
      let c = cover-then (One (unary_kind o)) (SpellsExpression r.0 d) ts (one-some (unary_kind o)) t in
      (unary c.0 o r.0, ap (unary tt o) r.1, (c.1, omega arith, t))
  place-expression (row u p os) d ts l n e =
      let a = cut (expression_words p) (operands_words os) ts e in
      let r = place-expression p d a.front l.2 (omega arith) a.first in
      let q = place-operands os (row_level os) d a.back l.3 (omega arith) a.second in
      let same = looseness-as r.0 p r.1 in
      let level = row-as q.0 os q.1 in
      let rest = subst (λ m. SpellsOperands q.0 m d a.back) (sym level) q.2 in
      let t = join (SpellsExpression r.0 d) (SpellsOperands q.0 (row_level q.0) d) _ _ ts a r.2 rest in
      let c = cover-then (SpellsExpression r.0 d) (SpellsOperands q.0 (row_level q.0) d) ts (expression-some r.0 d) t in
      (row c.0 r.0 q.0, ap₂ (row tt) r.1 q.1, (c.1, has-operand-as q.0 os q.1 l.0, omega arith, t))
  place-expression (postfix u p tails) d ts l n e =
      let a = cut (expression_words p) (tails_words tails) ts e in
      let r = place-expression p d a.front l.2 (omega arith) a.first in
      let q = place-tails tails d a.back l.3 (omega arith) a.second in
      let same = looseness-as r.0 p r.1 in
      let t = join (SpellsExpression r.0 d) (SpellsTails q.0 d) _ _ ts a r.2 q.2 in
      let c = cover-then (SpellsExpression r.0 d) (SpellsTails q.0 d) ts (expression-some r.0 d) t in
      (postfix c.0 r.0 q.0, ap₂ (postfix tt) r.1 q.1, (c.1, has-tail-as q.0 tails q.1 l.0, omega arith, t))
  place-expression (conditional u p y m) d ts l n e =
      let a = cut (expression_words p) (mark k.Question ++ (expression_words y ++ (mark k.Colon ++ expression_words m))) ts e in
      let b = cut (mark k.Question) (expression_words y ++ (mark k.Colon ++ expression_words m)) a.back a.second in
      let f = cut (expression_words y) (mark k.Colon ++ expression_words m) b.back b.second in
      let g = cut (mark k.Colon) (expression_words m) f.back f.second in
      let room = under (max (expression_depth y) (expression_depth m)) d (omega arith) in
      let fits = room.fits in
      let r = place-expression p d a.front l.1 (omega arith) a.first in
      let yes = place-expression y room.inner f.front l.2 (omega arith) f.first in
      let no = place-expression m room.inner g.back l.3 (omega arith) g.second in
      let same = looseness-as r.0 p r.1 in
      let Y = Deeper (SpellsExpression yes.0) d in
      let N = Deeper (SpellsExpression no.0) d in
      let t = join (SpellsExpression r.0 d) (Then (One k.Question) (Then Y (Then (One k.Colon) N))) _ _ ts a r.2
      (one-then k.Question (Then Y (Then (One k.Colon) N)) _ a.back b
      (join Y (Then (One k.Colon) N) _ _ b.back f (deeper (SpellsExpression yes.0) _ d f.front room yes.2)
      (one-then k.Colon N _ f.back g (deeper (SpellsExpression no.0) _ d g.back room no.2)))) in
      let c = cover-then (SpellsExpression r.0 d) (Then (One k.Question) (Then Y (Then (One k.Colon) N))) ts (expression-some r.0 d) t in
      let made = three-as (conditional tt) (erase_expression r.0) p (erase_expression yes.0) y (erase_expression no.0) m r.1 yes.1 no.1 in
      (conditional c.0 r.0 yes.0 no.0, made, (c.1, omega arith, t))

  place-operands : (p : Operands Nowhere) (level d : ℕ) (ts : List Token) → LevelOperands p level → operands_depth p ≤ d → words ts ≡ operands_words p
      → (t : Operands Span) × (erase_operands t ≡ p) × SpellsOperands t level d ts
  place-operands no_operands level d ts l n e = (no_operands, refl, nothing-from ts e)
  place-operands (operand o p more) level d ts l n e =
      let a = cut (mark (operator_kind o)) (map (λ κ. (κ, [])) (operator_rest o) ++ (expression_words p ++ operands_words more)) ts e in
      let b = cut (map (λ κ. (κ, [])) (operator_rest o)) (expression_words p ++ operands_words more) a.back a.second in
      let f = cut (expression_words p) (operands_words more) b.back b.second in
      let r = place-expression p d f.front l.2 (omega arith) f.first in
      let q = place-operands more level d f.back l.3 (omega arith) f.second in
      let same = looseness-as r.0 p r.1 in
      let P = SpellsExpression r.0 d in
      let Q = SpellsOperands q.0 level d in
      let t = one-then (operator_kind o) (Then (Each (operator_rest o)) (Then P Q)) _ ts a
      (join (Each (operator_rest o)) (Then P Q) _ _ a.back b (each-from (operator_rest o) b.front b.first)
      (join P Q _ _ b.back f r.2 q.2)) in
      (operand o r.0 q.0, ap₂ (operand o) r.1 q.1, (l.0, omega arith, t))

  place-tail : (p : Tail Nowhere) (d : ℕ) (ts : List Token) → LevelTail p → tail_depth p ≤ d → words ts ≡ tail_words p
      → (t : Tail Span) × (erase_tail t ≡ p) × SpellsTail t d ts
  place-tail (method u x list) d ts l n e =
      let a = cut (mark k.Dot) ((k.Identifier, x.text) ∷ listing_words list bracket.Round) ts e in
      let b = cut ((k.Identifier, x.text) ∷ []) (listing_words list bracket.Round) a.back a.second in
      let y = name-from x b.front b.first in
      let r = place-listing list bracket.Round d b.back l n b.second in
      let P = SpellsListing r.0 bracket.Round d in
      let t = one-then k.Dot (Then (SaysName y.0) P) _ ts a (join (SaysName y.0) P _ _ a.back b y.2 r.2) in
      let c = cover-then (One k.Dot) (Then (SaysName y.0) P) ts (one-some k.Dot) t in
      (method c.0 y.0 r.0, ap₂ (method tt) y.1 r.1, (c.1, t))
  place-tail (index u p) d ts l n e =
      let a = cut (mark k.OpenSquare) (expression_words p ++ mark k.CloseSquare) ts e in
      let b = cut (expression_words p) (mark k.CloseSquare) a.back a.second in
      let room = under (expression_depth p) d n in
      let r = place-expression p room.inner b.front l room.fits b.first in
      let P = Deeper (SpellsExpression r.0) d in
      let t = one-then k.OpenSquare (Then P (One k.CloseSquare)) _ ts a
      (then-one k.CloseSquare P _ a.back b (deeper (SpellsExpression r.0) _ d b.front room r.2)) in
      let c = cover-then (One k.OpenSquare) (Then P (One k.CloseSquare)) ts (one-some k.OpenSquare) t in
      (index c.0 r.0, ap (index tt) r.1, (c.1, t))

  place-tails : (p : Tails Nowhere) (d : ℕ) (ts : List Token) → LevelTails p → tails_depth p ≤ d → words ts ≡ tails_words p
      → (t : Tails Span) × (erase_tails t ≡ p) × SpellsTails t d ts
  place-tails no_tails d ts l n e = (no_tails, refl, nothing-from ts e)
  place-tails (tail p more) d ts l n e =
      let a = cut (tail_words p) (tails_words more) ts e in
      let r = place-tail p d a.front l.0 (omega arith) a.first in
      let q = place-tails more d a.back l.1 (omega arith) a.second in
      (tail r.0 q.0, ap₂ tail r.1 q.1, join (SpellsTail r.0 d) (SpellsTails q.0 d) _ _ ts a r.2 q.2)

  pub place-listing : (p : Listing Nowhere) (b : Bracket) (d : ℕ) (ts : List Token) → LevelListing p b → listing_depth p ≤ d → words ts ≡ listing_words p b
      → (t : Listing Span) × (erase_listing t ≡ p) × SpellsListing t b d ts
  place-listing (listing u trailing list) b d ts l n e =
      let a = cut (mark (opens b)) (arguments_words list trailing ++ mark (closes b)) ts e in
      let f = cut (arguments_words list trailing) (mark (closes b)) a.back a.second in
      let r = place-arguments list trailing b false d f.front l.1 n f.first in
      let P = SpellsArguments r.0 trailing b false d in
      let t = one-then (opens b) (Then P (One (closes b))) _ ts a (then-one (closes b) P _ a.back f r.2) in
      let c = cover-then (One (opens b)) (Then P (One (closes b))) ts (one-some (opens b)) t in
      (listing c.0 trailing r.0, ap (listing tt trailing) r.1, (c.1, omega arith, flagged-as r.0 list trailing r.1 l.0, t))

  place-arguments : (p : Arguments Nowhere) (trailing : Bool) (b : Bracket) (seen : Bool) (d : ℕ) (ts : List Token) → LevelArguments p b seen → arguments_depth p < d → words ts ≡ arguments_words p trailing
      → (t : Arguments Span) × (erase_arguments t ≡ p) × SpellsArguments t trailing b seen d ts
  place-arguments no_arguments trailing b seen d ts l n e = (no_arguments, refl, nothing-from ts e)
  place-arguments (argument x more) trailing b seen d ts l n e =
      let a = cut (argument_words x) (comma_words more trailing ++ arguments_words more trailing) ts e in
      let f = cut (comma_words more trailing) (arguments_words more trailing) a.back a.second in
      let r = place-argument x b seen d a.front l.0 (omega arith) a.first in
      let q = place-arguments more trailing b (is_named x) d f.back l.1 (omega arith) f.second in
      let rest = subst (λ s. SpellsArguments q.0 trailing b s d f.back) (sym (named-as r.0 x r.1)) q.2 in
      let P = SpellsArguments q.0 trailing b (is_named r.0) d in (
        argument r.0 q.0,
        ap₂ argument r.1 q.1,
        join (SpellsArgument r.0 b seen d) (Then (Comma q.0 trailing) P) _ _ ts a r.2
            (join (Comma q.0 trailing) P _ _ a.back f (comma-as q.0 more trailing f.front q.1 f.first) rest),
      )

  place-argument : (p : Argument Nowhere) (b : Bracket) (seen : Bool) (d : ℕ) (ts : List Token) → LevelArgument p b seen → argument_depth p < d → words ts ≡ argument_words p
      → (t : Argument Span) × (erase_argument t ≡ p) × SpellsArgument t b seen d ts
  place-argument (plain p) b seen d ts l n e =
      let room = under (expression_depth p) d n in
      let r = place-expression p room.inner ts l.2 room.fits e in
      (plain r.0, ap plain r.1, (l.0, l.1, deeper (SpellsExpression r.0) _ d ts room r.2))
  place-argument (named u x p) b seen d ts l n e =
      let a = cut ((k.Identifier, x.text) ∷ []) (mark k.Colon ++ expression_words p) ts e in
      let f = cut (mark k.Colon) (expression_words p) a.back a.second in
      let room = under (expression_depth p) d n in
      let r = place-expression p room.inner f.back l.1 room.fits f.second in
      let P = Deeper (SpellsExpression r.0) d in
      let y = name-from x a.front a.first in
      let t = join (SaysName y.0) (Then (One k.Colon) P) _ _ ts a y.2 (one-then k.Colon P _ a.back f (deeper (SpellsExpression r.0) _ d f.back room r.2)) in
      let c = cover-then (SaysName y.0) (Then (One k.Colon) P) ts (name-some y.0) t in
      (named c.0 y.0 r.0, ap₂ (named tt) y.1 r.1, (c.1, l.0, t))
  place-argument (pair u p v) b seen d ts l n e =
      let a = cut (expression_words p) (mark k.Colon ++ expression_words v) ts e in
      let f = cut (mark k.Colon) (expression_words v) a.back a.second in
      let room = under (max (expression_depth p) (expression_depth v)) d n in
      let fits = room.fits in
      let r = place-expression p room.inner a.front l.1 (omega arith) a.first in
      let q = place-expression v room.inner f.back l.2 (omega arith) f.second in
      let P = Deeper (SpellsExpression r.0) d in
      let Q = Deeper (SpellsExpression q.0) d in
      let key = deeper (SpellsExpression r.0) _ d a.front room r.2 in
      let t = join P (Then (One k.Colon) Q) _ _ ts a key (one-then k.Colon Q _ a.back f (deeper (SpellsExpression q.0) _ d f.back room q.2)) in
      let c = cover-then P (Then (One k.Colon) Q) ts (λ h. expression-some r.0 h.inner h.spelled) t in
      (pair c.0 r.0 q.0, ap₂ (pair tt) r.1 q.1, (c.1, l.0, t))
