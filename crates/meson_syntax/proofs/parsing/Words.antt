-- What spells an expression are its words.
use Rattle.std.proofs.Common.{◌≡◌, ℕ, Bool, true, false, List, [], ◌∷◌, ◌++◌, map, refl, ap, ap₂, ◌∙◌}
use Rattle.meson_lex.specs.declared.kinds.Kind.{Kind}
use Rattle.meson_lex.specs.declared.kinds.Kind.TheVariants as k
use Rattle.meson_lex.specs.declared.kinds.Span.{Span}
use Rattle.meson_lex.specs.Significant.{Word, kept}
use Rattle.meson_lex.specs.Located.{Token, word_of, words}
use Rattle.meson_lex.proofs.TokenWords.{words-append}
use Rattle.meson_syntax.specs.declared.operator.Bracket.{Bracket}
use Rattle.meson_syntax.specs.declared.operator.Bracket.TheVariants as bracket
use Rattle.meson_syntax.specs.Operators.{operator_kind, operator_rest, unary_kind, string_kind, boolean_kind, opens, closes}
use Rattle.meson_syntax.specs.Tree.{Expression, identifier, boolean, integer, string, paren, array, dictionary, call, unary, row, postfix, conditional, Operands, no_operands, operand, Tail, method, index, Tails, no_tails, tail, Listing, listing, Argument, plain, named, pair, is_named, Arguments, no_arguments, argument, Name}
use Rattle.meson_syntax.specs.Spelling.{One, IsOneToken, Then, Each, Comma, SpellsExpression, SpellsOperands, SpellsTail, SpellsTails, SpellsListing, SpellsArguments, SpellsArgument, SaysName}
use Rattle.meson_syntax.specs.Grammar.{mark, comma_words, expression_words, operands_words, tail_words, tails_words, listing_words, argument_words, arguments_words}
use Rattle.meson_syntax.proofs.parsing.Marks.{Drop, string-keeps, boolean-drops, unary-drops, opens-drops, closes-drops, operator-drops, rest-drops}

-- ---- steps

pub says-words : (κ : Kind) (x : List ℕ) (ts : List Token) → kept κ x ≡ x → IsOneToken κ x ts → words ts ≡ (κ, x) ∷ []
says-words κ x ts keeps w =
    let made : word_of w.token ≡ (κ, x) = ap₂ (λ (a : Kind) (b : List ℕ). (a, kept a b)) w.is w.says ∙ ap (λ b. (κ, b)) keeps in
    ap words w.alone ∙ ap (λ y. y ∷ []) made

pub name-words : (x : Name Span) (ts : List Token) → SaysName x ts → words ts ≡ (k.Identifier, x.text) ∷ []
name-words x ts h = says-words k.Identifier x.text ts refl h.1

pub one-words : (κ : Kind) (ts : List Token) → ((x : List ℕ) → kept κ x ≡ []) → One κ ts → words ts ≡ mark κ
one-words κ ts drops w =
    let t = w.token in
    let made : word_of t ≡ (κ, []) = ap (λ (a : Kind). (a, kept a t.text)) w.is ∙ ap (λ b. (κ, b)) (drops t.text) in
    ap words w.alone ∙ ap (λ y. y ∷ []) made

pub then-words : (P Q : List Token → Type 0) (ts : List Token) (a b : List Word) → (t : Then P Q ts) → words t.front ≡ a → words t.back ≡ b → words ts ≡ a ++ b
then-words P Q ts a b t p q = ap words t.joined ∙ words-append t.front t.back ∙ ap₂ (λ x y. x ++ y) p q

pub each-words : (κs : List Kind) (ts : List Token) → Drop κs → Each κs ts → words ts ≡ map (λ κ. (κ, [])) κs
each-words [] ts drops h = ap words h
each-words (κ ∷ κs) ts drops h = then-words _ _ ts _ _ h (one-words κ h.front drops.0 h.first) (each-words κs h.back drops.1 h.second)

pub comma-words : (more : Arguments Span) (trailing : Bool) (ts : List Token) → Comma more trailing ts → words ts ≡ comma_words more trailing
comma-words no_arguments true ts h = one-words k.Comma ts (λ x. refl) h
comma-words no_arguments false ts h = ap words h
comma-words (argument a more) trailing ts h = one-words k.Comma ts (λ x. refl) h

-- ---- expressions

mutual
  pub expression-words : (e : Expression Span) (d : ℕ) (ts : List Token) → SpellsExpression e d ts → words ts ≡ expression_words e
  expression-words (identifier s x) d ts h = says-words k.Identifier x ts refl h.1
  expression-words (boolean s b) d ts h = one-words (boolean_kind b) ts (boolean-drops b) h.1
  expression-words (integer s x) d ts h = says-words k.Integer x ts refl h.1
  expression-words (string s q x) d ts h = says-words (string_kind q) x ts (string-keeps q x) h.1
  expression-words (paren s e) d ts h =
      let p = h.1 in
      let q = p.second in
      then-words _ _ ts _ _ p (one-words k.OpenRound p.front (λ x. refl) p.first)
      (then-words _ _ p.back _ _ q (expression-words e q.first.inner q.front q.first.spelled) (one-words k.CloseRound q.back (λ x. refl) q.second))
  expression-words (array l) d ts h = listing-words l bracket.Square d ts h
  expression-words (dictionary l) d ts h = listing-words l bracket.Curly d ts h
  expression-words (call s x l) d ts h =
      let p = h.1 in
      then-words _ _ ts _ _ p (name-words x p.front p.first) (listing-words l bracket.Round d p.back p.second)
  expression-words (unary s o e) d ts h =
      let p = h.2 in
      then-words _ _ ts _ _ p (one-words (unary_kind o) p.front (unary-drops o) p.first) (expression-words e d p.back p.second)
  expression-words (row s e os) d ts h =
      let p = h.3 in
      then-words _ _ ts _ _ p (expression-words e d p.front p.first) (operands-words os _ d p.back p.second)
  expression-words (postfix s e tails) d ts h =
      let p = h.3 in
      then-words _ _ ts _ _ p (expression-words e d p.front p.first) (tails-words tails d p.back p.second)
  expression-words (conditional s c y n) d ts h =
      let p = h.2 in
      let q = p.second in
      let r = q.second in
      let t = r.second in
      then-words _ _ ts _ _ p (expression-words c d p.front p.first)
      (then-words _ _ p.back _ _ q (one-words k.Question q.front (λ x. refl) q.first)
      (then-words _ _ q.back _ _ r (expression-words y r.first.inner r.front r.first.spelled)
      (then-words _ _ r.back _ _ t (one-words k.Colon t.front (λ x. refl) t.first) (expression-words n t.second.inner t.back t.second.spelled))))

  pub operands-words : (os : Operands Span) (n d : ℕ) (ts : List Token) → SpellsOperands os n d ts → words ts ≡ operands_words os
  operands-words no_operands n d ts h = ap words h
  operands-words (operand o e more) n d ts h =
      let p = h.2 in
      let q = p.second in
      let r = q.second in
      then-words _ _ ts (mark (operator_kind o)) (map (λ κ. (κ, [])) (operator_rest o) ++ (expression_words e ++ operands_words more)) p (one-words (operator_kind o) p.front (operator-drops o) p.first)
      (then-words _ _ p.back _ _ q (each-words (operator_rest o) q.front (rest-drops o) q.first)
      (then-words _ _ q.back _ _ r (expression-words e d r.front r.first) (operands-words more n d r.back r.second)))

  pub tail-words : (t : Tail Span) (d : ℕ) (ts : List Token) → SpellsTail t d ts → words ts ≡ tail_words t
  tail-words (method s x l) d ts h =
      let p = h.1 in
      let q = p.second in
      then-words _ _ ts _ _ p (one-words k.Dot p.front (λ x. refl) p.first)
      (then-words _ _ p.back _ _ q (name-words x q.front q.first) (listing-words l bracket.Round d q.back q.second))
  tail-words (index s e) d ts h =
      let p = h.1 in
      let q = p.second in
      then-words _ _ ts _ _ p (one-words k.OpenSquare p.front (λ x. refl) p.first)
      (then-words _ _ p.back _ _ q (expression-words e q.first.inner q.front q.first.spelled) (one-words k.CloseSquare q.back (λ x. refl) q.second))

  pub tails-words : (tails : Tails Span) (d : ℕ) (ts : List Token) → SpellsTails tails d ts → words ts ≡ tails_words tails
  tails-words no_tails d ts h = ap words h
  tails-words (tail t more) d ts h = then-words _ _ ts _ _ h (tail-words t d h.front h.first) (tails-words more d h.back h.second)

  pub listing-words : (l : Listing Span) (b : Bracket) (d : ℕ) (ts : List Token) → SpellsListing l b d ts → words ts ≡ listing_words l b
  listing-words (listing s trailing list) b d ts h =
      let p = h.3 in
      let q = p.second in
      then-words _ _ ts _ _ p (one-words (opens b) p.front (opens-drops b) p.first)
      (then-words _ _ p.back _ _ q (arguments-words list trailing b false d q.front q.first) (one-words (closes b) q.back (closes-drops b) q.second))

  pub arguments-words : (list : Arguments Span) (trailing : Bool) (b : Bracket) (seen : Bool) (d : ℕ) (ts : List Token) → SpellsArguments list trailing b seen d ts → words ts ≡ arguments_words list trailing
  arguments-words no_arguments trailing b seen d ts h = ap words h
  arguments-words (argument a more) trailing b seen d ts h =
      let q = h.second in
      then-words _ _ ts _ _ h (argument-words a b seen d h.front h.first)
      (then-words _ _ h.back _ _ q (comma-words more trailing q.front q.first) (arguments-words more trailing b (is_named a) d q.back q.second))

  pub argument-words : (a : Argument Span) (b : Bracket) (seen : Bool) (d : ℕ) (ts : List Token) → SpellsArgument a b seen d ts → words ts ≡ argument_words a
  argument-words (plain e) b seen d ts h = expression-words e h.2.inner ts h.2.spelled
  argument-words (named s x e) b seen d ts h =
      let p = h.2 in
      let q = p.second in
      then-words _ _ ts _ _ p (name-words x p.front p.first)
      (then-words _ _ p.back _ _ q (one-words k.Colon q.front (λ x. refl) q.first) (expression-words e q.second.inner q.back q.second.spelled))
  argument-words (pair s e f) b seen d ts h =
      let p = h.2 in
      let q = p.second in
      then-words _ _ ts _ _ p (expression-words e p.first.inner p.front p.first.spelled)
      (then-words _ _ p.back _ _ q (one-words k.Colon q.front (λ x. refl) q.first) (expression-words f q.second.inner q.back q.second.spelled))
