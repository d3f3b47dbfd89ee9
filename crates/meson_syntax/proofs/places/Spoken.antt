-- Inside a list no line end is a token, so its tokens are the words of its items.
use Rattle.std.proofs.Common.{◌≡◌, ℕ, Bool, true, false, List, [], ◌∷◌, ◌++◌, refl, sym, ap, ap₂, ◌∙◌, subst}
use Rattle.std.specs.Prelude.{⊤}
use Rattle.meson_lex.specs.declared.kinds.Kind.{Kind}
use Rattle.meson_lex.specs.declared.kinds.Kind.TheVariants as k
use Rattle.meson_lex.specs.Items.{Lexeme}
use Rattle.meson_lex.specs.Significant.{Word, kept, new_line, Role, Gap, Ends, Opens, Closes, Other, role, State, step, ends_line, only_if, emit_by, emitted}
use Rattle.meson_syntax.specs.declared.operator.Operator.{Operator}
use Rattle.meson_syntax.specs.declared.operator.Operator.TheVariants as op
use Rattle.meson_syntax.specs.declared.operator.Bracket.{Bracket}
use Rattle.meson_syntax.specs.declared.operator.Bracket.TheVariants as bracket
use Rattle.meson_syntax.specs.Operators.{opens, closes, string_kind, boolean_kind, unary_kind}
use Rattle.meson_syntax.specs.Tree.{Expression, identifier, boolean, integer, string, paren, array, dictionary, call, unary, row, postfix, conditional, Operands, no_operands, operand, Tail, method, index, Tails, no_tails, tail, Listing, listing, Argument, plain, named, pair, Arguments, no_arguments, argument}
use Rattle.meson_syntax.specs.Grammar.{mark, comma_words, operator_words, expression_words, operands_words, tail_words, tails_words, listing_words, argument_words, arguments_words}
use Rattle.meson_syntax.specs.Paths.{inner_words}
use Rattle.meson_lex.specs.Words.{spoken_by, spoken}
use Rattle.meson_syntax.proofs.places.Covers.{IsOwnKind, string-own, boolean-own, unary-own, opens-own, closes-own}

-- none of the words is a line end
abbrev pub NoLine : List Word → Type 0
NoLine [] = ⊤
NoLine (w ∷ ws) = (w ≡ new_line → ⊥) × NoLine ws

pub no-line-append : (a b : List Word) → NoLine a → NoLine b → NoLine (a ++ b)
no-line-append [] b p q = q
no-line-append (w ∷ a) b p q = (p.0, no-line-append a b p.1 q)

pub front-no-line : (a b : List Word) → NoLine (a ++ b) → NoLine a
front-no-line [] b h = tt
front-no-line (w ∷ a) b h = (h.0, front-no-line a b h.1)

pub back-no-line : (a b : List Word) → NoLine (a ++ b) → NoLine b
back-no-line [] b h = h
back-no-line (w ∷ a) b h = back-no-line a b h.1

only-spoken : (b : Bool) → NoLine (only_if b new_line) → only_if b new_line ≡ []
only-spoken true h = absurd (h.0 refl)
only-spoken false h = refl

role-spoken : (r : Role) (s : State) (w : Word) → NoLine (emit_by r s w) → emit_by r s w ≡ spoken_by r w
role-spoken Gap s w h = refl
role-spoken Ends s w h = only-spoken (ends_line s.depth s.fresh) h
role-spoken Opens s w h = refl
role-spoken Closes s w h = refl
role-spoken Other s w h = refl

emitted-spoken : (s : State) (xs : List Lexeme) → NoLine (emitted s xs) → emitted s xs ≡ spoken xs
emitted-spoken s [] h = refl
emitted-spoken s (x ∷ xs) h =
    let w : Word = (x.kind, kept x.kind x.text) in
    let a = emit_by (role x.kind) s w in
    let b = emitted (step s x) xs in
    ap₂ (λ u v. u ++ v) (role-spoken (role x.kind) s w (front-no-line a b h)) (emitted-spoken (step s x) xs (back-no-line a b h))

-- what is emitted, where that is no line end
pub spoken-is : (s : State) (xs : List Lexeme) (w : List Word) → NoLine w → emitted s xs ≡ w → spoken xs ≡ w
spoken-is s xs w h e = sym (emitted-spoken s xs (subst NoLine (sym e) h)) ∙ e

-- ---- the words of elements

kind-no-line : (κ : Kind) (x : List ℕ) → IsOwnKind κ → NoLine ((κ, x) ∷ [])
kind-no-line κ x own = (λ e. own (ap (λ (w : Word). w.0) e), tt)

mark-no-line : (κ : Kind) → IsOwnKind κ → NoLine (mark κ)
mark-no-line κ own = kind-no-line κ [] own

name-no-line : (x : List ℕ) → NoLine ((k.Identifier, x) ∷ [])
name-no-line x = kind-no-line k.Identifier x (λ e. absurd cc)

comma-mark : NoLine (mark k.Comma)
comma-mark = mark-no-line k.Comma (λ e. absurd cc)

colon-mark : NoLine (mark k.Colon)
colon-mark = mark-no-line k.Colon (λ e. absurd cc)

operator-no-line : (o : Operator) → NoLine (operator_words o)
operator-no-line op.Or = mark-no-line k.WordOr (λ e. absurd cc)
operator-no-line op.And = mark-no-line k.WordAnd (λ e. absurd cc)
operator-no-line op.Equal = mark-no-line k.Equal (λ e. absurd cc)
operator-no-line op.NotEqual = mark-no-line k.NotEqual (λ e. absurd cc)
operator-no-line op.Less = mark-no-line k.Less (λ e. absurd cc)
operator-no-line op.LessEqual = mark-no-line k.LessEqual (λ e. absurd cc)
operator-no-line op.Greater = mark-no-line k.Greater (λ e. absurd cc)
operator-no-line op.GreaterEqual = mark-no-line k.GreaterEqual (λ e. absurd cc)
operator-no-line op.In = mark-no-line k.WordIn (λ e. absurd cc)
operator-no-line op.NotIn = no-line-append (mark k.WordNot) (mark k.WordIn) (mark-no-line k.WordNot (λ e. absurd cc)) (mark-no-line k.WordIn (λ e. absurd cc))
operator-no-line op.Plus = mark-no-line k.Plus (λ e. absurd cc)
operator-no-line op.Minus = mark-no-line k.Minus (λ e. absurd cc)
operator-no-line op.Times = mark-no-line k.Star (λ e. absurd cc)
operator-no-line op.Divide = mark-no-line k.Slash (λ e. absurd cc)
operator-no-line op.Remainder = mark-no-line k.Percent (λ e. absurd cc)

module _ (S : Type 0) where
  comma-no-line : (more : Arguments S) (trailing : Bool) → NoLine (comma_words more trailing)
  comma-no-line no_arguments true = comma-mark
  comma-no-line no_arguments false = tt
  comma-no-line (argument a more) trailing = comma-mark

  mutual
    pub expression-no-line : (e : Expression S) → NoLine (expression_words e)
    expression-no-line (identifier s x) = name-no-line x
    expression-no-line (boolean s b) = mark-no-line (boolean_kind b) (boolean-own b)
    expression-no-line (integer s x) = kind-no-line k.Integer x (λ e. absurd cc)
    expression-no-line (string s q x) = kind-no-line (string_kind q) x (string-own q)
    expression-no-line (paren s e) =
        no-line-append (mark k.OpenRound) (expression_words e ++ mark k.CloseRound) (mark-no-line k.OpenRound (λ e. absurd cc))
        (no-line-append (expression_words e) (mark k.CloseRound) (expression-no-line e) (mark-no-line k.CloseRound (λ e. absurd cc)))
    expression-no-line (array l) = listing-no-line l bracket.Square
    expression-no-line (dictionary l) = listing-no-line l bracket.Curly
    expression-no-line (call s x l) = no-line-append ((k.Identifier, x.text) ∷ []) (listing_words l bracket.Round) (name-no-line x.text) (listing-no-line l bracket.Round)
    expression-no-line (unary s o e) = no-line-append (mark (unary_kind o)) (expression_words e) (mark-no-line (unary_kind o) (unary-own o)) (expression-no-line e)
    expression-no-line (row s e os) = no-line-append (expression_words e) (operands_words os) (expression-no-line e) (operands-no-line os)
    expression-no-line (postfix s e ts) = no-line-append (expression_words e) (tails_words ts) (expression-no-line e) (tails-no-line ts)
    expression-no-line (conditional s c y n) =
        no-line-append (expression_words c) (mark k.Question ++ (expression_words y ++ (mark k.Colon ++ expression_words n))) (expression-no-line c)
        (no-line-append (mark k.Question) (expression_words y ++ (mark k.Colon ++ expression_words n)) (mark-no-line k.Question (λ e. absurd cc))
        (no-line-append (expression_words y) (mark k.Colon ++ expression_words n) (expression-no-line y) (no-line-append (mark k.Colon) (expression_words n) colon-mark (expression-no-line n))))

    operands-no-line : (os : Operands S) → NoLine (operands_words os)
    operands-no-line no_operands = tt
    operands-no-line (operand o e more) =
        no-line-append (operator_words o) (expression_words e ++ operands_words more) (operator-no-line o) (no-line-append (expression_words e) (operands_words more) (expression-no-line e) (operands-no-line more))

    tail-no-line : (t : Tail S) → NoLine (tail_words t)
    tail-no-line (method s x l) =
        no-line-append (mark k.Dot) ((k.Identifier, x.text) ∷ listing_words l bracket.Round) (mark-no-line k.Dot (λ e. absurd cc))
        (no-line-append ((k.Identifier, x.text) ∷ []) (listing_words l bracket.Round) (name-no-line x.text) (listing-no-line l bracket.Round))
    tail-no-line (index s e) =
        no-line-append (mark k.OpenSquare) (expression_words e ++ mark k.CloseSquare) (mark-no-line k.OpenSquare (λ e. absurd cc))
        (no-line-append (expression_words e) (mark k.CloseSquare) (expression-no-line e) (mark-no-line k.CloseSquare (λ e. absurd cc)))

    tails-no-line : (ts : Tails S) → NoLine (tails_words ts)
    tails-no-line no_tails = tt
    tails-no-line (tail t more) = no-line-append (tail_words t) (tails_words more) (tail-no-line t) (tails-no-line more)

    listing-no-line : (l : Listing S) (b : Bracket) → NoLine (listing_words l b)
    listing-no-line (listing s trailing list) b =
        no-line-append (mark (opens b)) (arguments_words list trailing ++ mark (closes b)) (mark-no-line (opens b) (opens-own b))
        (no-line-append (arguments_words list trailing) (mark (closes b)) (arguments-no-line list trailing) (mark-no-line (closes b) (closes-own b)))

    pub argument-no-line : (a : Argument S) → NoLine (argument_words a)
    argument-no-line (plain e) = expression-no-line e
    argument-no-line (named s x e) =
        no-line-append ((k.Identifier, x.text) ∷ []) (mark k.Colon ++ expression_words e) (name-no-line x.text) (no-line-append (mark k.Colon) (expression_words e) colon-mark (expression-no-line e))
    argument-no-line (pair s e f) =
        no-line-append (expression_words e) (mark k.Colon ++ expression_words f) (expression-no-line e) (no-line-append (mark k.Colon) (expression_words f) colon-mark (expression-no-line f))

    arguments-no-line : (list : Arguments S) (trailing : Bool) → NoLine (arguments_words list trailing)
    arguments-no-line no_arguments trailing = tt
    arguments-no-line (argument a more) trailing =
        no-line-append (argument_words a) (comma_words more trailing ++ arguments_words more trailing) (argument-no-line a) (no-line-append (comma_words more trailing) (arguments_words more trailing) (comma-no-line more trailing) (arguments-no-line more trailing))

  pub inner-no-line : (l : Listing S) → NoLine (inner_words l)
  inner-no-line (listing s trailing list) = arguments-no-line list trailing
