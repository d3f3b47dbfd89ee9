-- The words of an element end, and with no comma.
use Rattle.meson_edit.proofs.Words.{◌≡◌, Bool, true, false, List, [], ◌∷◌, ◌++◌, refl, sym, ap, subst, ◌∙◌, inl, inr, ◌⊎◌, append_assoc, append-nil, Word, mark}
use Rattle.meson_edit.proofs.Words.{operator_words, expression_words, operands_words, tail_words, tails_words, listing_words, argument_words, arguments_words}
use Rattle.meson_edit.proofs.Words.{closes, opens, unary_kind, string_kind, boolean_kind, Expression, identifier, boolean, integer, string, paren, array}
use Rattle.meson_edit.proofs.Words.{dictionary, call, unary, row, postfix, conditional, Operands, no_operands, operand, Tail, method, index, Tails, no_tails}
use Rattle.meson_edit.proofs.Words.{tail, Listing, listing, Argument, plain, named, pair, Bracket}
use Rattle.meson_lex.specs.declared.kinds.Kind.TheVariants as k
use Rattle.meson_syntax.specs.declared.operator.Bracket.TheVariants as bracket
use Rattle.meson_syntax.specs.declared.operator.StringKind.{StringKind}
use Rattle.meson_syntax.specs.declared.operator.StringKind.TheVariants as quotes

pub record EndsWell (ws : List Word) : Type 0 where
  pub front : List Word
  pub last : Word
  pub is : ws ≡ front ++ last ∷ []
  pub no_comma : last.0 ≡ k.Comma → ⊥

one-ends : (w : Word) → (w.0 ≡ k.Comma → ⊥) → EndsWell (w ∷ [])
one-ends w other = record { front = []; last = w; is = refl; no_comma = other }

behind-ends : (a b : List Word) → EndsWell b → EndsWell (a ++ b)
behind-ends a b e = record { front = a ++ e.front; last = e.last; is = ap (λ z. a ++ z) e.is ∙ sym (append_assoc a e.front (e.last ∷ [])); no_comma = e.no_comma }

-- what may stand behind: nothing, or what ends well
rest-ends : (a b : List Word) → EndsWell a → (b ≡ []) ⊎ EndsWell b → EndsWell (a ++ b)
rest-ends a b e (inl none) = subst (λ z. EndsWell (a ++ z)) (sym none) (subst EndsWell (sym (append-nil a)) e)
rest-ends a b e (inr some) = behind-ends a b some

boolean-ends : (b : Bool) → boolean_kind b ≡ k.Comma → ⊥
boolean-ends true = λ is. cc
boolean-ends false = λ is. cc

string-ends : (q : StringKind) → string_kind q ≡ k.Comma → ⊥
string-ends quotes.Plain = λ is. cc
string-ends quotes.Multiline = λ is. cc
string-ends quotes.Format = λ is. cc
string-ends quotes.FormatMultiline = λ is. cc

closes-ends : (b : Bracket) → closes b ≡ k.Comma → ⊥
closes-ends bracket.Round = λ is. cc
closes-ends bracket.Square = λ is. cc
closes-ends bracket.Curly = λ is. cc

module _ {S : Type 0} where
  listing-ends : (l : Listing S) (b : Bracket) → EndsWell (listing_words l b)
  listing-ends (listing s trailing list) b =
      behind-ends (mark (opens b)) (arguments_words list trailing ++ mark (closes b)) (behind-ends (arguments_words list trailing) (mark (closes b)) (one-ends (closes b, []) (closes-ends b)))

  tail-ends : (t : Tail S) → EndsWell (tail_words t)
  tail-ends (method s x l) = behind-ends ((k.Dot, []) ∷ (k.Identifier, x.text) ∷ []) (listing_words l bracket.Round) (listing-ends l bracket.Round)
  tail-ends (index s e) = behind-ends (mark k.OpenSquare) (expression_words e ++ mark k.CloseSquare) (behind-ends (expression_words e) (mark k.CloseSquare) (one-ends (k.CloseSquare, []) (λ is. cc)))

  tails-end : (ts : Tails S) → (tails_words ts ≡ []) ⊎ EndsWell (tails_words ts)
  tails-end no_tails = inl refl
  tails-end (tail t more) = inr (rest-ends (tail_words t) (tails_words more) (tail-ends t) (tails-end more))

  mutual
    expression-ends : (e : Expression S) → EndsWell (expression_words e)
    expression-ends (identifier s x) = one-ends (k.Identifier, x) (λ is. cc)
    expression-ends (boolean s b) = one-ends (boolean_kind b, []) (boolean-ends b)
    expression-ends (integer s x) = one-ends (k.Integer, x) (λ is. cc)
    expression-ends (string s q x) = one-ends (string_kind q, x) (string-ends q)
    expression-ends (paren s e) = behind-ends (mark k.OpenRound) (expression_words e ++ mark k.CloseRound) (behind-ends (expression_words e) (mark k.CloseRound) (one-ends (k.CloseRound, []) (λ is. cc)))
    expression-ends (array l) = listing-ends l bracket.Square
    expression-ends (dictionary l) = listing-ends l bracket.Curly
    expression-ends (call s x l) = behind-ends ((k.Identifier, x.text) ∷ []) (listing_words l bracket.Round) (listing-ends l bracket.Round)
    expression-ends (unary s o e) = behind-ends (mark (unary_kind o)) (expression_words e) (expression-ends e)
    expression-ends (row s e os) = rest-ends (expression_words e) (operands_words os) (expression-ends e) (operands-end os)
    expression-ends (postfix s e ts) = rest-ends (expression_words e) (tails_words ts) (expression-ends e) (tails-end ts)
    expression-ends (conditional s c y n) =
        behind-ends (expression_words c) (mark k.Question ++ (expression_words y ++ (mark k.Colon ++ expression_words n)))
        (behind-ends (mark k.Question) (expression_words y ++ (mark k.Colon ++ expression_words n))
        (behind-ends (expression_words y) (mark k.Colon ++ expression_words n) (behind-ends (mark k.Colon) (expression_words n) (expression-ends n))))

    operands-end : (os : Operands S) → (operands_words os ≡ []) ⊎ EndsWell (operands_words os)
    operands-end no_operands = inl refl
    operands-end (operand o e more) = inr (behind-ends (operator_words o) (expression_words e ++ operands_words more) (rest-ends (expression_words e) (operands_words more) (expression-ends e) (operands-end more)))

  pub argument-ends : (a : Argument S) → EndsWell (argument_words a)
  argument-ends (plain e) = expression-ends e
  argument-ends (named s x e) = behind-ends ((k.Identifier, x.text) ∷ mark k.Colon) (expression_words e) (expression-ends e)
  argument-ends (pair s e f) = behind-ends (expression_words e) (mark k.Colon ++ expression_words f) (behind-ends (mark k.Colon) (expression_words f) (expression-ends f))
