-- The grammar: the words of a tree, where its parts may be, and how deep they nest.
-- Meson manual, Syntax: the grammar at its end, and the sections named below.
use Rattle.std.specs.Prelude.{◌≡◌, ℕ, suc, ◌+◌, ◌<◌, ◌≤◌, max, Bool, true, false, List, [], ◌∷◌, ◌++◌, map, ⊤}
use Rattle.meson_lex.specs.declared.kinds.Kind.{Kind}
use Rattle.meson_lex.specs.declared.kinds.Kind.TheVariants as k
use Rattle.meson_lex.specs.Significant.{Word, new_line}
use Rattle.meson_syntax.specs.declared.operator.Operator.{Operator}
use Rattle.meson_syntax.specs.declared.operator.Bracket.{Bracket}
use Rattle.meson_syntax.specs.declared.operator.Bracket.TheVariants as bracket
use Rattle.meson_syntax.specs.Operators.{operator_kind, operator_rest, unary_kind, string_kind, boolean_kind, assignment_kind, opens, closes, holds_values, holds_names, holds_pairs, level}
use Rattle.meson_syntax.specs.Tree.{Name, Expression, identifier, boolean, integer, string, paren, array, dictionary, call, unary, row, postfix, conditional, Operands, no_operands, operand, Tail, method, index, Tails, no_tails, tail, Listing, listing, Argument, plain, named, pair, is_named, Arguments, no_arguments, argument, Statement, evaluate, assign, selection, iteration, breaks, continues, Branches, no_branches, branch, Otherwise, nothing_else, otherwise, Statements, no_statements, statement, Block, block, File, file}

-- ---- words

abbrev pub mark : Kind → List Word
mark κ = (κ, []) ∷ []

-- names with commas between them
abbrev pub more_names_words : {S : Type 0} → List (Name S) → List Word
more_names_words [] = []
more_names_words (x ∷ xs) = mark k.Comma ++ ((k.Identifier, x.text) ∷ more_names_words xs)

abbrev pub names_words : {S : Type 0} → List (Name S) → List Word
names_words [] = []
names_words (x ∷ xs) = (k.Identifier, x.text) ∷ more_names_words xs

abbrev pub comma_words : {S : Type 0} → Arguments S → Bool → List Word
comma_words no_arguments true = mark k.Comma
comma_words no_arguments false = []
comma_words (argument a more) trailing = mark k.Comma

abbrev pub operator_words : Operator → List Word
operator_words o = map (λ κ. (κ, [])) (operator_kind o ∷ operator_rest o)

abbrev mutual
  pub expression_words : {S : Type 0} → Expression S → List Word
  expression_words (identifier s x) = (k.Identifier, x) ∷ []
  expression_words (boolean s b) = mark (boolean_kind b)
  expression_words (integer s x) = (k.Integer, x) ∷ []
  expression_words (string s q x) = (string_kind q, x) ∷ []
  expression_words (paren s e) = mark k.OpenRound ++ (expression_words e ++ mark k.CloseRound)
  expression_words (array l) = listing_words l bracket.Square
  expression_words (dictionary l) = listing_words l bracket.Curly
  expression_words (call s x l) = (k.Identifier, x.text) ∷ listing_words l bracket.Round
  expression_words (unary s o e) = mark (unary_kind o) ++ expression_words e
  expression_words (row s e os) = expression_words e ++ operands_words os
  expression_words (postfix s e ts) = expression_words e ++ tails_words ts
  expression_words (conditional s c y n) = expression_words c ++ (mark k.Question ++ (expression_words y ++ (mark k.Colon ++ expression_words n)))

  -- each with the operator before it
  pub operands_words : {S : Type 0} → Operands S → List Word
  operands_words no_operands = []
  operands_words (operand o e more) = operator_words o ++ (expression_words e ++ operands_words more)

  pub tail_words : {S : Type 0} → Tail S → List Word
  tail_words (method s x l) = mark k.Dot ++ ((k.Identifier, x.text) ∷ listing_words l bracket.Round)
  tail_words (index s e) = mark k.OpenSquare ++ (expression_words e ++ mark k.CloseSquare)

  pub tails_words : {S : Type 0} → Tails S → List Word
  tails_words no_tails = []
  tails_words (tail t more) = tail_words t ++ tails_words more

  pub listing_words : {S : Type 0} → Listing S → Bracket → List Word
  listing_words (listing s trailing list) b = mark (opens b) ++ (arguments_words list trailing ++ mark (closes b))

  pub argument_words : {S : Type 0} → Argument S → List Word
  argument_words (plain e) = expression_words e
  argument_words (named s x e) = (k.Identifier, x.text) ∷ (mark k.Colon ++ expression_words e)
  argument_words (pair s e f) = expression_words e ++ (mark k.Colon ++ expression_words f)

  -- each element with the comma after it
  pub arguments_words : {S : Type 0} → Arguments S → Bool → List Word
  arguments_words no_arguments trailing = []
  arguments_words (argument a more) trailing = argument_words a ++ (comma_words more trailing ++ arguments_words more trailing)

abbrev mutual
  pub statement_words : {S : Type 0} → Statement S → List Word
  statement_words (evaluate e) = expression_words e
  statement_words (assign s x a e) = (k.Identifier, x.text) ∷ (mark (assignment_kind a) ++ expression_words e)
  statement_words (selection s bs o) = branches_words bs k.WordIf ++ (otherwise_words o ++ mark k.WordEndif)
  statement_words (iteration s xs e b) = mark k.WordForeach ++
      (names_words xs ++ (mark k.Colon ++ (expression_words e ++ ((new_line ∷ block_words b) ++ mark k.WordEndforeach))))
  statement_words (breaks s) = mark k.WordBreak
  statement_words (continues s) = mark k.WordContinue

  -- after `if`, and after `elif` from the second on
  pub branches_words : {S : Type 0} → Branches S → Kind → List Word
  branches_words no_branches word = []
  branches_words (branch e b more) word = mark word ++ (expression_words e ++ ((new_line ∷ block_words b) ++ branches_words more k.WordElif))

  pub otherwise_words : {S : Type 0} → Otherwise S → List Word
  otherwise_words nothing_else = []
  otherwise_words (otherwise b) = mark k.WordElse ++ (new_line ∷ block_words b)

  -- each statement with its line end
  pub statements_words : {S : Type 0} → Statements S → List Word
  statements_words no_statements = []
  statements_words (statement s more) = statement_words s ++ (new_line ∷ statements_words more)

  pub block_words : {S : Type 0} → Block S → List Word
  block_words (block s statements) = statements_words statements

abbrev pub file_words : {S : Type 0} → File S → List Word
file_words (file s b) = block_words b

-- ---- levels

-- How loosely an expression holds together: 0 what is one thing, 1 with tails, 2 with an operator before it, 3 to 8 the rows, 9 a conditional.
abbrev pub row_level : {S : Type 0} → Operands S → ℕ
row_level no_operands = 0
row_level (operand o e more) = level o

abbrev pub looseness : {S : Type 0} → Expression S → ℕ
looseness (postfix s e ts) = 1
looseness (unary s o e) = 2
looseness (row s e os) = 2 + row_level os
looseness (conditional s c y n) = 9
looseness _ = 0

abbrev pub HasOperand : {S : Type 0} → Operands S → Type 0
HasOperand no_operands = ⊥
HasOperand (operand o e more) = ⊤

abbrev pub HasTail : {S : Type 0} → Tails S → Type 0
HasTail no_tails = ⊥
HasTail (tail t more) = ⊤

abbrev pub HasBranch : {S : Type 0} → Branches S → Type 0
HasBranch no_branches = ⊥
HasBranch (branch e b more) = ⊤

abbrev pub HasName : {A : Type 0} → List A → Type 0
HasName [] = ⊥
HasName (x ∷ xs) = ⊤

-- no trailing comma in an empty list
abbrev pub Flagged : {S : Type 0} → Bool → Arguments S → Type 0
Flagged trailing no_arguments = trailing ≡ false
Flagged trailing (argument a more) = ⊤

-- Each operand binds tighter than what it is in. A row has two operands or more, all with operators of its level. A list has what its brackets hold, and
-- arguments without a name are first.
abbrev mutual
  pub LevelExpression : {S : Type 0} → Expression S → Type 0
  LevelExpression (identifier s x) = ⊤
  LevelExpression (boolean s b) = ⊤
  LevelExpression (integer s x) = ⊤
  LevelExpression (string s q x) = ⊤
  LevelExpression (paren s e) = LevelExpression e
  LevelExpression (array l) = LevelListing l bracket.Square
  LevelExpression (dictionary l) = LevelListing l bracket.Curly
  LevelExpression (call s x l) = LevelListing l bracket.Round
  LevelExpression (unary s o e) = (looseness e ≤ 1) × LevelExpression e
  LevelExpression (row s e os) = HasOperand os × (looseness e < 2 + row_level os) × LevelExpression e × LevelOperands os (row_level os)
  LevelExpression (postfix s e ts) = HasTail ts × (looseness e ≤ 0) × LevelExpression e × LevelTails ts
  LevelExpression (conditional s c y n) = (looseness c ≤ 8) × LevelExpression c × LevelExpression y × LevelExpression n

  pub LevelOperands : {S : Type 0} → Operands S → ℕ → Type 0
  LevelOperands no_operands n = ⊤
  LevelOperands (operand o e more) n = (level o ≡ n) × (looseness e < 2 + n) × LevelExpression e × LevelOperands more n

  pub LevelTail : {S : Type 0} → Tail S → Type 0
  LevelTail (method s x l) = LevelListing l bracket.Round
  LevelTail (index s e) = LevelExpression e

  pub LevelTails : {S : Type 0} → Tails S → Type 0
  LevelTails no_tails = ⊤
  LevelTails (tail t more) = LevelTail t × LevelTails more

  pub LevelListing : {S : Type 0} → Listing S → Bracket → Type 0
  LevelListing (listing s trailing list) b = Flagged trailing list × LevelArguments list b false

  -- and whether an argument with a name came before
  pub LevelArgument : {S : Type 0} → Argument S → Bracket → Bool → Type 0
  LevelArgument (plain e) b seen = (holds_values b ≡ true) × (seen ≡ false) × LevelExpression e
  LevelArgument (named s x e) b seen = (holds_names b ≡ true) × LevelExpression e
  LevelArgument (pair s e f) b seen = (holds_pairs b ≡ true) × LevelExpression e × LevelExpression f

  pub LevelArguments : {S : Type 0} → Arguments S → Bracket → Bool → Type 0
  LevelArguments no_arguments b seen = ⊤
  LevelArguments (argument a more) b seen = LevelArgument a b seen × LevelArguments more b (is_named a)

abbrev mutual
  pub LevelStatement : {S : Type 0} → Statement S → Type 0
  LevelStatement (evaluate e) = LevelExpression e
  LevelStatement (assign s x a e) = LevelExpression e
  LevelStatement (selection s bs o) = HasBranch bs × LevelBranches bs × LevelOtherwise o
  LevelStatement (iteration s xs e b) = HasName xs × LevelExpression e × LevelBlock b
  LevelStatement (breaks s) = ⊤
  LevelStatement (continues s) = ⊤

  pub LevelBranches : {S : Type 0} → Branches S → Type 0
  LevelBranches no_branches = ⊤
  LevelBranches (branch e b more) = LevelExpression e × LevelBlock b × LevelBranches more

  pub LevelOtherwise : {S : Type 0} → Otherwise S → Type 0
  LevelOtherwise nothing_else = ⊤
  LevelOtherwise (otherwise b) = LevelBlock b

  pub LevelStatements : {S : Type 0} → Statements S → Type 0
  LevelStatements no_statements = ⊤
  LevelStatements (statement s more) = LevelStatement s × LevelStatements more

  pub LevelBlock : {S : Type 0} → Block S → Type 0
  LevelBlock (block s statements) = LevelStatements statements

abbrev pub LevelFile : {S : Type 0} → File S → Type 0
LevelFile (file s b) = LevelBlock b

-- ---- depth: how many brackets, conditionals (around their second and third part), selections and iterations are inside one another

abbrev mutual
  pub expression_depth : {S : Type 0} → Expression S → ℕ
  expression_depth (identifier s x) = 0
  expression_depth (boolean s b) = 0
  expression_depth (integer s x) = 0
  expression_depth (string s q x) = 0
  expression_depth (paren s e) = suc (expression_depth e)
  expression_depth (array l) = listing_depth l
  expression_depth (dictionary l) = listing_depth l
  expression_depth (call s x l) = listing_depth l
  expression_depth (unary s o e) = expression_depth e
  expression_depth (row s e os) = max (expression_depth e) (operands_depth os)
  expression_depth (postfix s e ts) = max (expression_depth e) (tails_depth ts)
  expression_depth (conditional s c y n) = max (expression_depth c) (suc (max (expression_depth y) (expression_depth n)))

  pub operands_depth : {S : Type 0} → Operands S → ℕ
  operands_depth no_operands = 0
  operands_depth (operand o e more) = max (expression_depth e) (operands_depth more)

  pub tail_depth : {S : Type 0} → Tail S → ℕ
  tail_depth (method s x l) = listing_depth l
  tail_depth (index s e) = suc (expression_depth e)

  pub tails_depth : {S : Type 0} → Tails S → ℕ
  tails_depth no_tails = 0
  tails_depth (tail t more) = max (tail_depth t) (tails_depth more)

  pub listing_depth : {S : Type 0} → Listing S → ℕ
  listing_depth (listing s trailing list) = suc (arguments_depth list)

  pub argument_depth : {S : Type 0} → Argument S → ℕ
  argument_depth (plain e) = expression_depth e
  argument_depth (named s x e) = expression_depth e
  argument_depth (pair s e f) = max (expression_depth e) (expression_depth f)

  pub arguments_depth : {S : Type 0} → Arguments S → ℕ
  arguments_depth no_arguments = 0
  arguments_depth (argument a more) = max (argument_depth a) (arguments_depth more)

abbrev mutual
  pub statement_depth : {S : Type 0} → Statement S → ℕ
  statement_depth (evaluate e) = expression_depth e
  statement_depth (assign s x a e) = expression_depth e
  statement_depth (selection s bs o) = suc (max (branches_depth bs) (otherwise_depth o))
  statement_depth (iteration s xs e b) = suc (max (expression_depth e) (block_depth b))
  statement_depth (breaks s) = 0
  statement_depth (continues s) = 0

  pub branches_depth : {S : Type 0} → Branches S → ℕ
  branches_depth no_branches = 0
  branches_depth (branch e b more) = max (max (expression_depth e) (block_depth b)) (branches_depth more)

  pub otherwise_depth : {S : Type 0} → Otherwise S → ℕ
  otherwise_depth nothing_else = 0
  otherwise_depth (otherwise b) = block_depth b

  pub statements_depth : {S : Type 0} → Statements S → ℕ
  statements_depth no_statements = 0
  statements_depth (statement s more) = max (statement_depth s) (statements_depth more)

  pub block_depth : {S : Type 0} → Block S → ℕ
  block_depth (block s statements) = statements_depth statements

abbrev pub file_depth : {S : Type 0} → File S → ℕ
file_depth (file s b) = block_depth b
