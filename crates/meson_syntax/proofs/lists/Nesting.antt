-- The words of a list open no bracket that they do not close, so the items between its brackets give their words and no line end.
use Rattle.std.proofs.Common.{◌≡◌, ℕ, zero, suc, pred, ◌+◌, Bool, true, false, List, [], ◌∷◌, ◌++◌, Option, Some, None, refl, sym, ap, ◌∙◌, append_assoc, arith}
use Rattle.std.specs.Prelude.{option_and_then}
use Rattle.meson_lex.specs.declared.kinds.Kind.{Kind}
use Rattle.meson_lex.specs.declared.kinds.Kind.TheVariants as k
use Rattle.meson_lex.specs.Items.{Lexeme}
use Rattle.meson_lex.specs.Significant.{Word, kept, new_line, Role, Gap, Ends, Opens, Closes, Other, role, State, step_by, ends_line, only_if, emit_by, emitted, after}
use Rattle.meson_syntax.specs.declared.operator.Operator.{Operator}
use Rattle.meson_syntax.specs.declared.operator.Operator.TheVariants as op
use Rattle.meson_syntax.specs.declared.operator.UnaryOperator.{UnaryOperator}
use Rattle.meson_syntax.specs.declared.operator.UnaryOperator.TheVariants as unary_operator
use Rattle.meson_syntax.specs.declared.operator.StringKind.{StringKind}
use Rattle.meson_syntax.specs.declared.operator.StringKind.TheVariants as quotes
use Rattle.meson_syntax.specs.declared.operator.Bracket.{Bracket}
use Rattle.meson_syntax.specs.declared.operator.Bracket.TheVariants as bracket
use Rattle.meson_syntax.specs.Operators.{opens, closes, string_kind, boolean_kind, unary_kind}
use Rattle.meson_syntax.specs.Tree.{Expression, identifier, boolean, integer, string, paren, array, dictionary, call, unary, row, postfix, conditional, Operands, no_operands, operand, Tail, method, index, Tails, no_tails, tail, Listing, listing, Argument, plain, named, pair, Arguments, no_arguments, argument}
use Rattle.meson_syntax.specs.Grammar.{mark, comma_words, operator_words, expression_words, operands_words, tail_words, tails_words, listing_words, argument_words, arguments_words}
use Rattle.meson_syntax.specs.Paths.{inner_words}
use Rattle.meson_lex.specs.Words.{spoken_by, spoken}
use Rattle.meson_syntax.proofs.parsing.Steps.{some-injective}

-- how many brackets are open after a word, where `n` are before it
abbrev nest_by : Role → ℕ → Option ℕ
nest_by Gap n = Some n
nest_by Ends n = Some n
nest_by Opens n = Some (suc n)
nest_by Closes zero = None
nest_by Closes (suc n) = Some n
nest_by Other n = Some n

abbrev pub nest : ℕ → List Word → Option ℕ
nest n [] = Some n
nest n (w ∷ ws) = option_and_then (λ m. nest m ws) (nest_by (role w.0) n)

-- ---- what the words of a tree open they close

-- words that open nothing that they do not close, wherever they stand
abbrev pub Flat : List Word → Type 0
Flat a = (n : ℕ) (b : List Word) → nest n (a ++ b) ≡ nest n b

pub flat-append : (a b : List Word) → Flat a → Flat b → Flat (a ++ b)
flat-append a b f g n c = ap (nest n) (append_assoc a b c) ∙ f n (b ++ c) ∙ g n c

pub flat-word : (κ : Kind) (x : List ℕ) → role κ ≡ Other → Flat ((κ, x) ∷ [])
flat-word κ x other n b = rw other refl

flat-brackets : (opens closes : Kind) (a : List Word) → role opens ≡ Opens → role closes ≡ Closes → Flat a → Flat (mark opens ++ (a ++ mark closes))
flat-brackets opens closes a o c f n b =
    let inside : nest (suc n) ((a ++ mark closes) ++ b) ≡ nest n b =
    ap (nest (suc n)) (append_assoc a (mark closes) b) ∙ f (suc n) (mark closes ++ b) ∙ closed in
    opened ∙ inside where
      closed : nest (suc n) (mark closes ++ b) ≡ nest n b
      closed = rw c refl

      opened : nest n ((mark opens ++ (a ++ mark closes)) ++ b) ≡ nest (suc n) ((a ++ mark closes) ++ b)
      opened = rw o refl

-- ---- single words

string-other : (q : StringKind) → role (string_kind q) ≡ Other
string-other quotes.Plain = refl
string-other quotes.Multiline = refl
string-other quotes.Format = refl
string-other quotes.FormatMultiline = refl

boolean-other : (b : Bool) → role (boolean_kind b) ≡ Other
boolean-other true = refl
boolean-other false = refl

unary-other : (o : UnaryOperator) → role (unary_kind o) ≡ Other
unary-other unary_operator.Not = refl
unary-other unary_operator.Minus = refl

pub opens-role : (b : Bracket) → role (opens b) ≡ Opens
opens-role bracket.Round = refl
opens-role bracket.Square = refl
opens-role bracket.Curly = refl

pub closes-role : (b : Bracket) → role (closes b) ≡ Closes
closes-role bracket.Round = refl
closes-role bracket.Square = refl
closes-role bracket.Curly = refl

operator-flat : (o : Operator) → Flat (operator_words o)
operator-flat op.Or = flat-word k.WordOr [] refl
operator-flat op.And = flat-word k.WordAnd [] refl
operator-flat op.Equal = flat-word k.Equal [] refl
operator-flat op.NotEqual = flat-word k.NotEqual [] refl
operator-flat op.Less = flat-word k.Less [] refl
operator-flat op.LessEqual = flat-word k.LessEqual [] refl
operator-flat op.Greater = flat-word k.Greater [] refl
operator-flat op.GreaterEqual = flat-word k.GreaterEqual [] refl
operator-flat op.In = flat-word k.WordIn [] refl
operator-flat op.NotIn = flat-append (mark k.WordNot) (mark k.WordIn) (flat-word k.WordNot [] refl) (flat-word k.WordIn [] refl)
operator-flat op.Plus = flat-word k.Plus [] refl
operator-flat op.Minus = flat-word k.Minus [] refl
operator-flat op.Times = flat-word k.Star [] refl
operator-flat op.Divide = flat-word k.Slash [] refl
operator-flat op.Remainder = flat-word k.Percent [] refl

module _ (S : Type 0) where
  comma-flat : (more : Arguments S) (trailing : Bool) → Flat (comma_words more trailing)
  comma-flat no_arguments true = flat-word k.Comma [] refl
  comma-flat no_arguments false = λ n b. refl
  comma-flat (argument a more) trailing = flat-word k.Comma [] refl

  mutual
    pub expression-flat : (e : Expression S) → Flat (expression_words e)
    expression-flat (identifier s x) = flat-word k.Identifier x refl
    expression-flat (boolean s b) = flat-word (boolean_kind b) [] (boolean-other b)
    expression-flat (integer s x) = flat-word k.Integer x refl
    expression-flat (string s q x) = flat-word (string_kind q) x (string-other q)
    expression-flat (paren s e) = flat-brackets k.OpenRound k.CloseRound (expression_words e) refl refl (expression-flat e)
    expression-flat (array l) = listing-flat l bracket.Square
    expression-flat (dictionary l) = listing-flat l bracket.Curly
    expression-flat (call s x l) = flat-append ((k.Identifier, x.text) ∷ []) (listing_words l bracket.Round) (flat-word k.Identifier x.text refl) (listing-flat l bracket.Round)
    expression-flat (unary s o e) = flat-append (mark (unary_kind o)) (expression_words e) (flat-word (unary_kind o) [] (unary-other o)) (expression-flat e)
    expression-flat (row s e os) = flat-append (expression_words e) (operands_words os) (expression-flat e) (operands-flat os)
    expression-flat (postfix s e ts) = flat-append (expression_words e) (tails_words ts) (expression-flat e) (tails-flat ts)
    expression-flat (conditional s c y n) =
        flat-append (expression_words c) (mark k.Question ++ (expression_words y ++ (mark k.Colon ++ expression_words n))) (expression-flat c)
        (flat-append (mark k.Question) (expression_words y ++ (mark k.Colon ++ expression_words n)) (flat-word k.Question [] refl)
        (flat-append (expression_words y) (mark k.Colon ++ expression_words n) (expression-flat y) (flat-append (mark k.Colon) (expression_words n) (flat-word k.Colon [] refl) (expression-flat n))))

    operands-flat : (os : Operands S) → Flat (operands_words os)
    operands-flat no_operands = λ n b. refl
    operands-flat (operand o e more) =
        flat-append (operator_words o) (expression_words e ++ operands_words more) (operator-flat o) (flat-append (expression_words e) (operands_words more) (expression-flat e) (operands-flat more))

    tail-flat : (t : Tail S) → Flat (tail_words t)
    tail-flat (method s x l) =
        flat-append (mark k.Dot) ((k.Identifier, x.text) ∷ listing_words l bracket.Round) (flat-word k.Dot [] refl)
        (flat-append ((k.Identifier, x.text) ∷ []) (listing_words l bracket.Round) (flat-word k.Identifier x.text refl) (listing-flat l bracket.Round))
    tail-flat (index s e) = flat-brackets k.OpenSquare k.CloseSquare (expression_words e) refl refl (expression-flat e)

    tails-flat : (ts : Tails S) → Flat (tails_words ts)
    tails-flat no_tails = λ n b. refl
    tails-flat (tail t more) = flat-append (tail_words t) (tails_words more) (tail-flat t) (tails-flat more)

    listing-flat : (l : Listing S) (b : Bracket) → Flat (listing_words l b)
    listing-flat (listing s trailing list) b = flat-brackets (opens b) (closes b) (arguments_words list trailing) (opens-role b) (closes-role b) (arguments-flat list trailing)

    argument-flat : (a : Argument S) → Flat (argument_words a)
    argument-flat (plain e) = expression-flat e
    argument-flat (named s x e) =
        flat-append ((k.Identifier, x.text) ∷ []) (mark k.Colon ++ expression_words e) (flat-word k.Identifier x.text refl) (flat-append (mark k.Colon) (expression_words e) (flat-word k.Colon [] refl) (expression-flat e))
    argument-flat (pair s e f) =
        flat-append (expression_words e) (mark k.Colon ++ expression_words f) (expression-flat e) (flat-append (mark k.Colon) (expression_words f) (flat-word k.Colon [] refl) (expression-flat f))

    arguments-flat : (list : Arguments S) (trailing : Bool) → Flat (arguments_words list trailing)
    arguments-flat no_arguments trailing = λ n b. refl
    arguments-flat (argument a more) trailing =
        flat-append (argument_words a) (comma_words more trailing ++ arguments_words more trailing) (argument-flat a)
        (flat-append (comma_words more trailing) (arguments_words more trailing) (comma-flat more trailing) (arguments-flat more trailing))

  pub inner-flat : (l : Listing S) → nest 0 (inner_words l) ≡ Some 0
  inner-flat (listing s trailing list) = ap (nest 0) (sym (append-nothing (arguments_words list trailing))) ∙ arguments-flat list trailing 0 [] where
    append-nothing : (a : List Word) → a ++ [] ≡ a
    append-nothing [] = refl
    append-nothing (w ∷ a) = ap (λ b. w ∷ b) (append-nothing a)

-- ---- items inside brackets

-- what items give that stand inside brackets of which `outer + 1` stay open, and the state after them
record Given (s : State) (xs : List Lexeme) (m outer : ℕ) : Type 0 where
  is_spoken : emitted s xs ≡ spoken xs
  depth : (after s xs).depth ≡ m + suc outer

abbrev Gives : List Lexeme → Type 0
Gives xs = (n m outer : ℕ) (s : State) → s.depth ≡ n + suc outer → nest n (spoken xs) ≡ Some m → Given s xs m outer

pub quiet-line : (depth n outer : ℕ) (fresh : Bool) → depth ≡ n + suc outer → ends_line depth fresh ≡ false
quiet-line zero n outer fresh e = absurd (omega arith)
quiet-line (suc d) n outer fresh e = refl

gives-by : (r : Role) (w : Word) → role w.0 ≡ r → (xs : List Lexeme) → Gives xs → (n m outer : ℕ) (s : State) → s.depth ≡ n + suc outer → nest n (spoken_by r w ++ spoken xs) ≡ Some m
    → (emit_by r s w ++ emitted (step_by r s) xs ≡ spoken_by r w ++ spoken xs) × ((after (step_by r s) xs).depth ≡ m + suc outer)
gives-by Gap w is xs ih n m outer s e h = let g = ih n m outer s e h in (g.is_spoken, g.depth)
gives-by Ends w is xs ih n m outer s e h =
    let quiet = quiet-line s.depth n outer s.fresh e in
    let g = ih n m outer (step_by Ends s) e h in
    (ap (λ b. only_if b new_line ++ emitted (step_by Ends s) xs) quiet ∙ g.is_spoken, g.depth)
gives-by Opens w is xs ih n m outer s e h =
    let g = ih (suc n) m outer (step_by Opens s) (omega arith) (rw is at h) in
    (ap (λ l. w ∷ l) g.is_spoken, g.depth)
gives-by Closes w is xs ih zero m outer s e h = let no-close : None ≡ Some m = rw is at h in absurd cc
gives-by Closes w is xs ih (suc n) m outer s e h =
    let more : s.depth ≡ suc (n + suc outer) = omega arith in
    let g = ih n m outer (step_by Closes s) (ap pred more) (rw is at h) in
    (ap (λ l. w ∷ l) g.is_spoken, g.depth)
gives-by Other w is xs ih n m outer s e h =
    let g = ih n m outer (step_by Other s) e (rw is at h) in
    (ap (λ l. w ∷ l) g.is_spoken, g.depth)

gives : (xs : List Lexeme) → Gives xs
gives [] n m outer s e h = let same : n ≡ m = some-injective n m h in record { is_spoken = refl; depth = omega arith }
gives (x ∷ xs) n m outer s e h =
    let g = gives-by (role x.kind) (x.kind, kept x.kind x.text) refl xs (gives xs) n m outer s e h in
    record { is_spoken = g.0; depth = g.1 }

-- items between the brackets of a list, at a state with a bracket open
pub inside-emitted : (xs : List Lexeme) (outer : ℕ) (s : State) → s.depth ≡ suc outer → nest 0 (spoken xs) ≡ Some 0 → emitted s xs ≡ spoken xs
inside-emitted xs outer s e h = (gives xs 0 0 outer s (omega arith) h).is_spoken

pub inside-depth : (xs : List Lexeme) (outer : ℕ) (s : State) → s.depth ≡ suc outer → nest 0 (spoken xs) ≡ Some 0 → (after s xs).depth ≡ suc outer
inside-depth xs outer s e h = let d = (gives xs 0 0 outer s (omega arith) h).depth in omega arith
