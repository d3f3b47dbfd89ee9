-- An expression without its spans has the same words, levels and depth.
use Rattle.std.proofs.Common.{◌≡◌, ℕ, suc, ◌+◌, ◌<◌, ◌≤◌, max, Bool, true, false, ◌∷◌, ◌++◌, refl, ap, ap₂, ◌∙◌}
use Rattle.meson_lex.specs.declared.kinds.Kind.TheVariants as k
use Rattle.meson_syntax.specs.declared.operator.Bracket.{Bracket}
use Rattle.meson_syntax.specs.declared.operator.Bracket.TheVariants as bracket
use Rattle.meson_syntax.specs.Operators.{unary_kind, opens, closes}
use Rattle.meson_syntax.specs.Tree.{Expression, identifier, boolean, integer, string, paren, array, dictionary, call, unary, row, postfix, conditional, Operands, no_operands, operand, Tail, method, index, Tails, no_tails, tail, Listing, listing, Argument, plain, named, pair, is_named, Arguments, no_arguments, argument, erase_expression, erase_operands, erase_tail, erase_tails, erase_listing, erase_argument, erase_arguments}
use Rattle.meson_syntax.specs.Grammar.{mark, comma_words, operator_words, expression_words, operands_words, tail_words, tails_words, listing_words, argument_words, arguments_words, row_level, looseness, HasOperand, HasTail, Flagged, LevelExpression, LevelOperands, LevelTail, LevelTails, LevelListing, LevelArgument, LevelArguments, expression_depth, operands_depth, tail_depth, tails_depth, listing_depth, argument_depth, arguments_depth}

pub both : (A B C D : Type 0) → A ≡ B → C ≡ D → (A × C) ≡ (B × D)
both A B C D p q = ap₂ (λ X Y. X × Y) p q

pub three : (A B C D E F : Type 0) → A ≡ B → C ≡ D → E ≡ F → (A × C × E) ≡ (B × D × F)
three A B C D E F p q r = ap₂ (λ X Y. X × Y × E) p q ∙ ap (λ Z. B × D × Z) r

pub four : (A B C D E F G H : Type 0) → A ≡ B → C ≡ D → E ≡ F → G ≡ H → (A × C × E × G) ≡ (B × D × F × H)
four A B C D E F G H p q r s = ap₂ (λ X Y. X × Y × E × G) p q ∙ ap₂ (λ X Y. B × D × X × Y) r s

module _ {S : Type 0} where
  -- ---- the shape

  pub named-erased : (a : Argument S) → is_named (erase_argument a) ≡ is_named a
  named-erased (plain e) = refl
  named-erased (named s x e) = refl
  named-erased (pair s e f) = refl

  pub flagged-erased : (trailing : Bool) (list : Arguments S) → Flagged trailing (erase_arguments list) ≡ Flagged trailing list
  flagged-erased trailing no_arguments = refl
  flagged-erased trailing (argument a more) = refl

  pub comma-erased : (list : Arguments S) (trailing : Bool) → comma_words (erase_arguments list) trailing ≡ comma_words list trailing
  comma-erased no_arguments true = refl
  comma-erased no_arguments false = refl
  comma-erased (argument a more) trailing = refl

  pub row-erased : (os : Operands S) → row_level (erase_operands os) ≡ row_level os
  row-erased no_operands = refl
  row-erased (operand o e more) = refl

  pub looseness-erased : (e : Expression S) → looseness (erase_expression e) ≡ looseness e
  looseness-erased (identifier s x) = refl
  looseness-erased (boolean s b) = refl
  looseness-erased (integer s x) = refl
  looseness-erased (string s q x) = refl
  looseness-erased (paren s e) = refl
  looseness-erased (array l) = refl
  looseness-erased (dictionary l) = refl
  looseness-erased (call s x l) = refl
  looseness-erased (unary s o e) = refl
  looseness-erased (row s e os) = ap (λ n. 2 + n) (row-erased os)
  looseness-erased (postfix s e ts) = refl
  looseness-erased (conditional s c y n) = refl

  pub has-operand-erased : (os : Operands S) → HasOperand (erase_operands os) ≡ HasOperand os
  has-operand-erased no_operands = refl
  has-operand-erased (operand o e more) = refl

  pub has-tail-erased : (ts : Tails S) → HasTail (erase_tails ts) ≡ HasTail ts
  has-tail-erased no_tails = refl
  has-tail-erased (tail t more) = refl

  -- ---- words

  mutual
    pub expression-words-erased : (e : Expression S) → expression_words (erase_expression e) ≡ expression_words e
    expression-words-erased (identifier s x) = refl
    expression-words-erased (boolean s b) = refl
    expression-words-erased (integer s x) = refl
    expression-words-erased (string s q x) = refl
    expression-words-erased (paren s e) = ap (λ w. mark k.OpenRound ++ (w ++ mark k.CloseRound)) (expression-words-erased e)
    expression-words-erased (array l) = listing-words-erased l bracket.Square
    expression-words-erased (dictionary l) = listing-words-erased l bracket.Curly
    expression-words-erased (call s x l) = ap (λ w. (k.Identifier, x.text) ∷ w) (listing-words-erased l bracket.Round)
    expression-words-erased (unary s o e) = ap (λ w. mark (unary_kind o) ++ w) (expression-words-erased e)
    expression-words-erased (row s e os) = ap₂ (λ u v. u ++ v) (expression-words-erased e) (operands-words-erased os)
    expression-words-erased (postfix s e ts) = ap₂ (λ u v. u ++ v) (expression-words-erased e) (tails-words-erased ts)
    expression-words-erased (conditional s c y n) =
        ap₂ (λ u v. u ++ (mark k.Question ++ v)) (expression-words-erased c) (ap₂ (λ u v. u ++ (mark k.Colon ++ v)) (expression-words-erased y) (expression-words-erased n))

    pub operands-words-erased : (os : Operands S) → operands_words (erase_operands os) ≡ operands_words os
    operands-words-erased no_operands = refl
    operands-words-erased (operand o e more) = ap₂ (λ u v. operator_words o ++ (u ++ v)) (expression-words-erased e) (operands-words-erased more)

    pub tail-words-erased : (t : Tail S) → tail_words (erase_tail t) ≡ tail_words t
    tail-words-erased (method s x l) = ap (λ w. mark k.Dot ++ ((k.Identifier, x.text) ∷ w)) (listing-words-erased l bracket.Round)
    tail-words-erased (index s e) = ap (λ w. mark k.OpenSquare ++ (w ++ mark k.CloseSquare)) (expression-words-erased e)

    pub tails-words-erased : (ts : Tails S) → tails_words (erase_tails ts) ≡ tails_words ts
    tails-words-erased no_tails = refl
    tails-words-erased (tail t more) = ap₂ (λ u v. u ++ v) (tail-words-erased t) (tails-words-erased more)

    pub listing-words-erased : (l : Listing S) (b : Bracket) → listing_words (erase_listing l) b ≡ listing_words l b
    listing-words-erased (listing s trailing list) b = ap (λ w. mark (opens b) ++ (w ++ mark (closes b))) (arguments-words-erased list trailing)

    pub argument-words-erased : (a : Argument S) → argument_words (erase_argument a) ≡ argument_words a
    argument-words-erased (plain e) = expression-words-erased e
    argument-words-erased (named s x e) = ap (λ w. (k.Identifier, x.text) ∷ (mark k.Colon ++ w)) (expression-words-erased e)
    argument-words-erased (pair s e f) = ap₂ (λ u v. u ++ (mark k.Colon ++ v)) (expression-words-erased e) (expression-words-erased f)

    pub arguments-words-erased : (list : Arguments S) (trailing : Bool) → arguments_words (erase_arguments list) trailing ≡ arguments_words list trailing
    arguments-words-erased no_arguments trailing = refl
    arguments-words-erased (argument a more) trailing =
        ap₂ (λ u v. u ++ v) (argument-words-erased a) (ap₂ (λ u v. u ++ v) (comma-erased more trailing) (arguments-words-erased more trailing))

  -- ---- levels

  mutual
    pub expression-level-erased : (e : Expression S) → LevelExpression (erase_expression e) ≡ LevelExpression e
    expression-level-erased (identifier s x) = refl
    expression-level-erased (boolean s b) = refl
    expression-level-erased (integer s x) = refl
    expression-level-erased (string s q x) = refl
    expression-level-erased (paren s e) = expression-level-erased e
    expression-level-erased (array l) = listing-level-erased l bracket.Square
    expression-level-erased (dictionary l) = listing-level-erased l bracket.Curly
    expression-level-erased (call s x l) = listing-level-erased l bracket.Round
    expression-level-erased (unary s o e) = both _ _ _ _ (ap (λ n. n ≤ 1) (looseness-erased e)) (expression-level-erased e)
    expression-level-erased (row s e os) =
        four _ _ _ _ _ _ _ _ (has-operand-erased os) (ap₂ (λ m n. m < 2 + n) (looseness-erased e) (row-erased os)) (expression-level-erased e)
        (ap (LevelOperands (erase_operands os)) (row-erased os) ∙ operands-level-erased os (row_level os))
    expression-level-erased (postfix s e ts) = four _ _ _ _ _ _ _ _ (has-tail-erased ts) (ap (λ n. n ≤ 0) (looseness-erased e)) (expression-level-erased e) (tails-level-erased ts)
    expression-level-erased (conditional s c y n) = four _ _ _ _ _ _ _ _ (ap (λ m. m ≤ 8) (looseness-erased c)) (expression-level-erased c) (expression-level-erased y) (expression-level-erased n)

    operands-level-erased : (os : Operands S) (n : ℕ) → LevelOperands (erase_operands os) n ≡ LevelOperands os n
    operands-level-erased no_operands n = refl
    operands-level-erased (operand o e more) n = four _ _ _ _ _ _ _ _ refl (ap (λ m. m < 2 + n) (looseness-erased e)) (expression-level-erased e) (operands-level-erased more n)

    tail-level-erased : (t : Tail S) → LevelTail (erase_tail t) ≡ LevelTail t
    tail-level-erased (method s x l) = listing-level-erased l bracket.Round
    tail-level-erased (index s e) = expression-level-erased e

    tails-level-erased : (ts : Tails S) → LevelTails (erase_tails ts) ≡ LevelTails ts
    tails-level-erased no_tails = refl
    tails-level-erased (tail t more) = both _ _ _ _ (tail-level-erased t) (tails-level-erased more)

    pub listing-level-erased : (l : Listing S) (b : Bracket) → LevelListing (erase_listing l) b ≡ LevelListing l b
    listing-level-erased (listing s trailing list) b = both _ _ _ _ (flagged-erased trailing list) (arguments-level-erased list b false)

    argument-level-erased : (a : Argument S) (b : Bracket) (seen : Bool) → LevelArgument (erase_argument a) b seen ≡ LevelArgument a b seen
    argument-level-erased (plain e) b seen = three _ _ _ _ _ _ refl refl (expression-level-erased e)
    argument-level-erased (named s x e) b seen = both _ _ _ _ refl (expression-level-erased e)
    argument-level-erased (pair s e f) b seen = three _ _ _ _ _ _ refl (expression-level-erased e) (expression-level-erased f)

    arguments-level-erased : (list : Arguments S) (b : Bracket) (seen : Bool) → LevelArguments (erase_arguments list) b seen ≡ LevelArguments list b seen
    arguments-level-erased no_arguments b seen = refl
    arguments-level-erased (argument a more) b seen =
        both _ _ _ _ (argument-level-erased a b seen) (ap (LevelArguments (erase_arguments more) b) (named-erased a) ∙ arguments-level-erased more b (is_named a))

  -- ---- depth

  mutual
    pub expression-depth-erased : (e : Expression S) → expression_depth (erase_expression e) ≡ expression_depth e
    expression-depth-erased (identifier s x) = refl
    expression-depth-erased (boolean s b) = refl
    expression-depth-erased (integer s x) = refl
    expression-depth-erased (string s q x) = refl
    expression-depth-erased (paren s e) = ap suc (expression-depth-erased e)
    expression-depth-erased (array l) = listing-depth-erased l
    expression-depth-erased (dictionary l) = listing-depth-erased l
    expression-depth-erased (call s x l) = listing-depth-erased l
    expression-depth-erased (unary s o e) = expression-depth-erased e
    expression-depth-erased (row s e os) = ap₂ max (expression-depth-erased e) (operands-depth-erased os)
    expression-depth-erased (postfix s e ts) = ap₂ max (expression-depth-erased e) (tails-depth-erased ts)
    expression-depth-erased (conditional s c y n) = ap₂ max (expression-depth-erased c) (ap suc (ap₂ max (expression-depth-erased y) (expression-depth-erased n)))

    operands-depth-erased : (os : Operands S) → operands_depth (erase_operands os) ≡ operands_depth os
    operands-depth-erased no_operands = refl
    operands-depth-erased (operand o e more) = ap₂ max (expression-depth-erased e) (operands-depth-erased more)

    tail-depth-erased : (t : Tail S) → tail_depth (erase_tail t) ≡ tail_depth t
    tail-depth-erased (method s x l) = listing-depth-erased l
    tail-depth-erased (index s e) = ap suc (expression-depth-erased e)

    tails-depth-erased : (ts : Tails S) → tails_depth (erase_tails ts) ≡ tails_depth ts
    tails-depth-erased no_tails = refl
    tails-depth-erased (tail t more) = ap₂ max (tail-depth-erased t) (tails-depth-erased more)

    pub listing-depth-erased : (l : Listing S) → listing_depth (erase_listing l) ≡ listing_depth l
    listing-depth-erased (listing s trailing list) = ap suc (arguments-depth-erased list)

    argument-depth-erased : (a : Argument S) → argument_depth (erase_argument a) ≡ argument_depth a
    argument-depth-erased (plain e) = expression-depth-erased e
    argument-depth-erased (named s x e) = expression-depth-erased e
    argument-depth-erased (pair s e f) = ap₂ max (expression-depth-erased e) (expression-depth-erased f)

    arguments-depth-erased : (list : Arguments S) → arguments_depth (erase_arguments list) ≡ arguments_depth list
    arguments-depth-erased no_arguments = refl
    arguments-depth-erased (argument a more) = ap₂ max (argument-depth-erased a) (arguments-depth-erased more)
