-- No border of an expression lies behind the tokens that spell it.
use Rattle.meson_edit.proofs.Words.{◌≡◌, ℕ, ◌≤◌, Bool, false, List, subst, sym, arith, max-le, Token, Span, code_expression, code_operands, code_tail}
use Rattle.meson_edit.proofs.Words.{code_tails, code_listing, code_argument, code_arguments, furthest_expr, furthest_operands, furthest_tail, furthest_tails}
use Rattle.meson_edit.proofs.Words.{furthest_list, furthest_arg, furthest_args, row_level, SpellsExpression, SpellsOperands, SpellsTail, SpellsTails}
use Rattle.meson_edit.proofs.Words.{SpellsListing, SpellsArguments, SpellsArgument, Expression, identifier, boolean, integer, string, paren, array, dictionary}
use Rattle.meson_edit.proofs.Words.{call, unary, row, postfix, conditional, Operands, no_operands, operand, Tail, method, index, Tails, no_tails, tail, Listing}
use Rattle.meson_edit.proofs.Words.{listing, Argument, plain, named, pair, is_named, Arguments, no_arguments, argument, Bracket, fold-roll-Arg, fold-roll-Expr}
use Rattle.meson_edit.proofs.Words.{fold-roll-Tail, fold-roll-List, fold-roll-Operand, Arg-F, Expr-F, Tail-F}
use Rattle.meson_syntax.specs.declared.operator.Bracket.TheVariants as bracket
use Rattle.meson_edit.proofs.borders.Tokens.{Within, covers-within, parts-within}

-- what is at most n is so under another name
pub at_most : {a b n : ℕ} → a ≡ b → b ≤ n → a ≤ n
at_most {n} e h = subst (λ m. m ≤ n) (sym e) h

module _ (n : ℕ) where
  mutual
    pub expression-ends : (e : Expression Span) (d : ℕ) (ts : List Token) → SpellsExpression e d ts → Within n ts → furthest_expr (code_expression e) ≤ n
    expression-ends (identifier s x) d ts h w = at_most (fold-roll-Expr _ _ _ _ _ _ _ _ _ _ (Expr-F.Identifier s)) (covers-within n s ts h.0 w)
    expression-ends (boolean s b) d ts h w = at_most (fold-roll-Expr _ _ _ _ _ _ _ _ _ _ (Expr-F.Boolean s b)) (covers-within n s ts h.0 w)
    expression-ends (integer s x) d ts h w = at_most (fold-roll-Expr _ _ _ _ _ _ _ _ _ _ (Expr-F.Integer s)) (covers-within n s ts h.0 w)
    expression-ends (string s q x) d ts h w = at_most (fold-roll-Expr _ _ _ _ _ _ _ _ _ _ (Expr-F.String s q)) (covers-within n s ts h.0 w)
    expression-ends (paren s e) d ts h w =
        let p = h.1 in
        let q = p.second in
        let v = parts-within n _ _ p.back q (parts-within n _ _ ts p w).1 in
        at_most (fold-roll-Expr _ _ _ _ _ _ _ _ _ _ (Expr-F.Paren s (code_expression e)))
        (max-le (covers-within n s ts h.0 w) (expression-ends e q.first.inner q.front q.first.spelled v.0))
    expression-ends (array l) d ts h w =
        at_most (fold-roll-Expr _ _ _ _ _ _ _ _ _ _ (Expr-F.Array (code_listing l))) (listing-ends l bracket.Square d ts h w)
    expression-ends (dictionary l) d ts h w =
        at_most (fold-roll-Expr _ _ _ _ _ _ _ _ _ _ (Expr-F.Dictionary (code_listing l))) (listing-ends l bracket.Curly d ts h w)
    expression-ends (call s x l) d ts h w =
        let p = h.1 in
        let v = parts-within n _ _ ts p w in
        at_most (fold-roll-Expr _ _ _ _ _ _ _ _ _ _ (Expr-F.Call s x.place (code_listing l)))
        (max-le (covers-within n s ts h.0 w)
        (max-le (covers-within n x.place p.front p.first.0 v.0) (listing-ends l bracket.Round d p.back p.second v.1)))
    expression-ends (unary s o e) d ts h w =
        let p = h.2 in
        let v = parts-within n _ _ ts p w in
        at_most (fold-roll-Expr _ _ _ _ _ _ _ _ _ _ (Expr-F.Unary s o (code_expression e)))
        (max-le (covers-within n s ts h.0 w) (expression-ends e d p.back p.second v.1))
    expression-ends (row s e os) d ts h w =
        let p = h.3 in
        let v = parts-within n _ _ ts p w in
        at_most (fold-roll-Expr _ _ _ _ _ _ _ _ _ _ (Expr-F.Row s (code_expression e) (code_operands os)))
        (max-le (covers-within n s ts h.0 w)
        (max-le (expression-ends e d p.front p.first v.0) (operands-end os (row_level os) d p.back p.second v.1)))
    expression-ends (postfix s e tails) d ts h w =
        let p = h.3 in
        let v = parts-within n _ _ ts p w in
        at_most (fold-roll-Expr _ _ _ _ _ _ _ _ _ _ (Expr-F.Postfix s (code_expression e) (code_tails tails)))
        (max-le (covers-within n s ts h.0 w)
        (max-le (expression-ends e d p.front p.first v.0) (tails-end tails d p.back p.second v.1)))
    expression-ends (conditional s c y z) d ts h w =
        let p = h.2 in
        let q = p.second in
        let r = q.second in
        let u = r.second in
        let v = parts-within n _ _ ts p w in
        let x = parts-within n _ _ q.back r (parts-within n _ _ p.back q v.1).1 in
        let o = parts-within n _ _ r.back u x.1 in
        let yes_end = expression-ends y r.first.inner r.front r.first.spelled x.0 in
        let no_end = expression-ends z u.second.inner u.back u.second.spelled o.1 in
        at_most (fold-roll-Expr _ _ _ _ _ _ _ _ _ _ (Expr-F.Conditional s (code_expression c) (code_expression y) (code_expression z)))
        (max-le (covers-within n s ts h.0 w) (max-le (expression-ends c d p.front p.first v.0) (max-le yes_end no_end)))

    operands-end : (os : Operands Span) (m d : ℕ) (ts : List Token) → SpellsOperands os m d ts → Within n ts → furthest_operands (code_operands os) ≤ n
    operands-end no_operands m d ts h w = omega arith
    operands-end (operand o e more) m d ts h w =
        let p = h.2 in
        let q = p.second in
        let r = q.second in
        let v = parts-within n _ _ q.back r (parts-within n _ _ p.back q (parts-within n _ _ ts p w).1).1 in
        let value = expression-ends e d r.front r.first v.0 in
        max-le (at_most (fold-roll-Operand _ _ _ _ _ _ _ _ _ _ (record { operator = o; value = code_expression e })) value)
        (operands-end more m d r.back r.second v.1)

    tail-ends : (t : Tail Span) (d : ℕ) (ts : List Token) → SpellsTail t d ts → Within n ts → furthest_tail (code_tail t) ≤ n
    tail-ends (method s x l) d ts h w =
        let p = h.1 in
        let q = p.second in
        let v = parts-within n _ _ p.back q (parts-within n _ _ ts p w).1 in
        at_most (fold-roll-Tail _ _ _ _ _ _ _ _ _ _ (Tail-F.Method s x.place (code_listing l)))
        (max-le (covers-within n s ts h.0 w)
        (max-le (covers-within n x.place q.front q.first.0 v.0) (listing-ends l bracket.Round d q.back q.second v.1)))
    tail-ends (index s e) d ts h w =
        let p = h.1 in
        let q = p.second in
        let v = parts-within n _ _ p.back q (parts-within n _ _ ts p w).1 in
        at_most (fold-roll-Tail _ _ _ _ _ _ _ _ _ _ (Tail-F.Index s (code_expression e)))
        (max-le (covers-within n s ts h.0 w) (expression-ends e q.first.inner q.front q.first.spelled v.0))

    tails-end : (tails : Tails Span) (d : ℕ) (ts : List Token) → SpellsTails tails d ts → Within n ts → furthest_tails (code_tails tails) ≤ n
    tails-end no_tails d ts h w = omega arith
    tails-end (tail t more) d ts h w =
        let v = parts-within n _ _ ts h w in
        max-le (tail-ends t d h.front h.first v.0) (tails-end more d h.back h.second v.1)

    pub listing-ends : (l : Listing Span) (b : Bracket) (d : ℕ) (ts : List Token) → SpellsListing l b d ts → Within n ts → furthest_list (code_listing l) ≤ n
    listing-ends (listing s trailing list) b d ts h w =
        let p = h.3 in
        let q = p.second in
        let v = parts-within n _ _ p.back q (parts-within n _ _ ts p w).1 in
        at_most (fold-roll-List _ _ _ _ _ _ _ _ _ _ (record { items = code_arguments list; trailing = trailing; span = s }))
        (max-le (covers-within n s ts h.0 w) (arguments-end list trailing b false d q.front q.first v.0))

    arguments-end : (list : Arguments Span) (trailing : Bool) (b : Bracket) (seen : Bool) (d : ℕ) (ts : List Token)
        → SpellsArguments list trailing b seen d ts → Within n ts → furthest_args (code_arguments list) ≤ n
    arguments-end no_arguments trailing b seen d ts h w = omega arith
    arguments-end (argument a more) trailing b seen d ts h w =
        let q = h.second in
        let v = parts-within n _ _ ts h w in
        let x = parts-within n _ _ h.back q v.1 in
        max-le (argument-ends a b seen d h.front h.first v.0) (arguments-end more trailing b (is_named a) d q.back q.second x.1)

    argument-ends : (a : Argument Span) (b : Bracket) (seen : Bool) (d : ℕ) (ts : List Token) → SpellsArgument a b seen d ts → Within n ts
        → furthest_arg (code_argument a) ≤ n
    argument-ends (plain e) b seen d ts h w =
        at_most (fold-roll-Arg _ _ _ _ _ _ _ _ _ _ (Arg-F.Plain (code_expression e))) (expression-ends e h.2.inner ts h.2.spelled w)
    argument-ends (named s x e) b seen d ts h w =
        let p = h.2 in
        let q = p.second in
        let v = parts-within n _ _ ts p w in
        let u = parts-within n _ _ p.back q v.1 in
        at_most (fold-roll-Arg _ _ _ _ _ _ _ _ _ _ (Arg-F.Named s x.place (code_expression e)))
        (max-le (covers-within n s ts h.0 w)
        (max-le (covers-within n x.place p.front p.first.0 v.0) (expression-ends e q.second.inner q.back q.second.spelled u.1)))
    argument-ends (pair s e f) b seen d ts h w =
        let p = h.2 in
        let q = p.second in
        let v = parts-within n _ _ ts p w in
        let u = parts-within n _ _ p.back q v.1 in
        at_most (fold-roll-Arg _ _ _ _ _ _ _ _ _ _ (Arg-F.Pair s (code_expression e) (code_expression f)))
        (max-le (covers-within n s ts h.0 w)
        (max-le (expression-ends e p.first.inner p.front p.first.spelled v.0) (expression-ends f q.second.inner q.back q.second.spelled u.1)))
