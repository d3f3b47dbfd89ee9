-- Which located tokens spell a tree, and the places of its nodes: a grammar, from trees to tokens.
-- A node extends from its first token to its last, a list from bracket to bracket.
use Rattle.std.specs.Prelude.{◌≡◌, ℕ, suc, ◌+◌, ◌<◌, ◌≤◌, Bool, true, false, List, [], ◌∷◌, ◌++◌}
use Rattle.meson_lex.specs.declared.kinds.Kind.{Kind}
use Rattle.meson_lex.specs.declared.kinds.Kind.TheVariants as k
use Rattle.meson_lex.specs.declared.kinds.Span.{Span}
use Rattle.meson_lex.specs.Located.{Token}
use Rattle.meson_syntax.specs.declared.operator.Bracket.{Bracket}
use Rattle.meson_syntax.specs.declared.operator.Bracket.TheVariants as bracket
use Rattle.meson_syntax.specs.Operators.{operator_kind, operator_rest, unary_kind, string_kind, boolean_kind, assignment_kind, opens, closes, holds_values, holds_names, holds_pairs, level}
use Rattle.meson_syntax.specs.Tree.{Name, Expression, identifier, boolean, integer, string, paren, array, dictionary, call, unary, row, postfix, conditional, Operands, no_operands, operand, Tail, method, index, Tails, no_tails, tail, Listing, listing, Argument, plain, named, pair, is_named, Arguments, no_arguments, argument, Statement, evaluate, assign, selection, iteration, breaks, continues, Branches, no_branches, branch, Otherwise, nothing_else, otherwise, Statements, no_statements, statement, Block, block, File, file}
use Rattle.meson_syntax.specs.Grammar.{looseness, row_level, HasOperand, HasTail, HasBranch, Flagged}

-- the place where the last token ends
abbrev pub end_of : ℕ → List Token → ℕ
end_of last [] = last
end_of last (t ∷ ts) = end_of t.to ts

-- from the first token to the last
abbrev pub Covers : Span → List Token → Type 0
Covers s [] = ⊥
Covers s (t ∷ ts) = (s.from ≡ t.from) × (s.to ≡ end_of t.to ts)

-- a block without a statement is empty, at the end of the token before it
abbrev pub CoversBlock : ℕ → Span → List Token → Type 0
CoversBlock last s [] = (s.from ≡ last) × (s.to ≡ last)
CoversBlock last s (t ∷ ts) = Covers s (t ∷ ts)

-- one token of this kind
pub record One (kind : Kind) (ts : List Token) : Type 0 where
  pub token : Token
  pub alone : ts ≡ token ∷ []
  pub is : token.kind ≡ kind

-- one token of this kind and text
pub record IsOneToken (kind : Kind) (text : List ℕ) (ts : List Token) : Type 0 where
  pub token : Token
  pub alone : ts ≡ token ∷ []
  pub is : token.kind ≡ kind
  pub says : token.text ≡ text

-- what P takes, and then what Q takes
pub record Then (P Q : List Token → Type 0) (ts : List Token) : Type 0 where
  pub front : List Token
  pub back : List Token
  pub joined : ts ≡ front ++ back
  pub first : P front
  pub second : Q back

-- one level deeper
pub record Deeper (P : ℕ → List Token → Type 0) (depth : ℕ) (ts : List Token) : Type 0 where
  pub inner : ℕ
  pub less : depth ≡ suc inner
  pub spelled : P inner ts

-- a line end, and then what P takes, which knows the place of the line end
pub record NewLine (P : ℕ → List Token → Type 0) (ts : List Token) : Type 0 where
  pub token : Token
  pub rest : List Token
  pub joined : ts ≡ token ∷ rest
  pub is : token.kind ≡ k.LineEnd
  pub second : P token.to rest

abbrev pub Nothing : List Token → Type 0
Nothing ts = ts ≡ []

-- a token of each of these kinds
abbrev pub Each : List Kind → List Token → Type 0
Each [] ts = Nothing ts
Each (κ ∷ κs) ts = Then (One κ) (Each κs) ts

-- one token of this name, at its place
abbrev pub SaysName : Name Span → List Token → Type 0
SaysName name ts = Covers name.place ts × IsOneToken k.Identifier name.text ts

-- names with commas between them
abbrev pub SaysMoreNames : List (Name Span) → List Token → Type 0
SaysMoreNames [] ts = Nothing ts
SaysMoreNames (x ∷ xs) ts = Then (One k.Comma) (Then (SaysName x) (SaysMoreNames xs)) ts

abbrev pub SaysNames : List (Name Span) → List Token → Type 0
SaysNames [] ts = ⊥
SaysNames (x ∷ xs) ts = Then (SaysName x) (SaysMoreNames xs) ts

-- the comma after an element: if another follows, or a trailing one is written
abbrev pub Comma : {S : Type 0} → Arguments S → Bool → List Token → Type 0
Comma no_arguments true = One k.Comma
Comma no_arguments false = Nothing
Comma (argument a more) trailing = One k.Comma

-- The tokens spell the tree, with its spans, and at most depth constructs are inside one another.
abbrev mutual
  pub SpellsExpression : Expression Span → ℕ → List Token → Type 0
  SpellsExpression (identifier s x) depth ts = Covers s ts × IsOneToken k.Identifier x ts
  SpellsExpression (boolean s b) depth ts = Covers s ts × One (boolean_kind b) ts
  SpellsExpression (integer s x) depth ts = Covers s ts × IsOneToken k.Integer x ts
  SpellsExpression (string s q x) depth ts = Covers s ts × IsOneToken (string_kind q) x ts
  SpellsExpression (paren s e) depth ts = Covers s ts × Then (One k.OpenRound) (Then (Deeper (SpellsExpression e) depth) (One k.CloseRound)) ts
  SpellsExpression (array l) depth ts = SpellsListing l bracket.Square depth ts
  SpellsExpression (dictionary l) depth ts = SpellsListing l bracket.Curly depth ts
  SpellsExpression (call s x l) depth ts = Covers s ts × Then (SaysName x) (SpellsListing l bracket.Round depth) ts
  SpellsExpression (unary s o e) depth ts = Covers s ts × (looseness e ≤ 1) × Then (One (unary_kind o)) (SpellsExpression e depth) ts
  SpellsExpression (row s e os) depth ts = Covers s ts × HasOperand os × (looseness e < 2 + row_level os)
      × Then (SpellsExpression e depth) (SpellsOperands os (row_level os) depth) ts
  SpellsExpression (postfix s e tails) depth ts = Covers s ts × HasTail tails × (looseness e ≤ 0)
      × Then (SpellsExpression e depth) (SpellsTails tails depth) ts
  SpellsExpression (conditional s c y n) depth ts = Covers s ts × (looseness c ≤ 8)
      × Then (SpellsExpression c depth) (Then (One k.Question)
      (Then (Deeper (SpellsExpression y) depth) (Then (One k.Colon) (Deeper (SpellsExpression n) depth)))) ts

  -- each with an operator of the row's level before it
  pub SpellsOperands : Operands Span → ℕ → ℕ → List Token → Type 0
  SpellsOperands no_operands n depth ts = Nothing ts
  SpellsOperands (operand o e more) n depth ts = (level o ≡ n) × (looseness e < 2 + n)
      × Then (One (operator_kind o)) (Then (Each (operator_rest o)) (Then (SpellsExpression e depth) (SpellsOperands more n depth))) ts

  pub SpellsTail : Tail Span → ℕ → List Token → Type 0
  SpellsTail (method s x l) depth ts = Covers s ts × Then (One k.Dot) (Then (SaysName x) (SpellsListing l bracket.Round depth)) ts
  SpellsTail (index s e) depth ts = Covers s ts × Then (One k.OpenSquare) (Then (Deeper (SpellsExpression e) depth) (One k.CloseSquare)) ts

  pub SpellsTails : Tails Span → ℕ → List Token → Type 0
  SpellsTails no_tails depth ts = Nothing ts
  SpellsTails (tail t more) depth ts = Then (SpellsTail t depth) (SpellsTails more depth) ts

  pub SpellsListing : Listing Span → Bracket → ℕ → List Token → Type 0
  SpellsListing (listing s trailing list) b depth ts = Covers s ts × (0 < depth) × Flagged trailing list
      × Then (One (opens b)) (Then (SpellsArguments list trailing b false depth) (One (closes b))) ts

  -- what the brackets hold, and after an argument with a name only arguments with names
  pub SpellsArguments : Arguments Span → Bool → Bracket → Bool → ℕ → List Token → Type 0
  SpellsArguments no_arguments trailing b seen depth ts = Nothing ts
  SpellsArguments (argument a more) trailing b seen depth ts =
      Then (SpellsArgument a b seen depth) (Then (Comma more trailing) (SpellsArguments more trailing b (is_named a) depth)) ts

  pub SpellsArgument : Argument Span → Bracket → Bool → ℕ → List Token → Type 0
  SpellsArgument (plain e) b seen depth ts = (holds_values b ≡ true) × (seen ≡ false) × Deeper (SpellsExpression e) depth ts
  SpellsArgument (named s x e) b seen depth ts = Covers s ts × (holds_names b ≡ true)
      × Then (SaysName x) (Then (One k.Colon) (Deeper (SpellsExpression e) depth)) ts
  SpellsArgument (pair s e f) b seen depth ts = Covers s ts × (holds_pairs b ≡ true)
      × Then (Deeper (SpellsExpression e) depth) (Then (One k.Colon) (Deeper (SpellsExpression f) depth)) ts

abbrev mutual
  pub SpellsStatement : Statement Span → ℕ → List Token → Type 0
  SpellsStatement (evaluate e) depth ts = SpellsExpression e depth ts
  SpellsStatement (assign s x a e) depth ts = Covers s ts × Then (SaysName x) (Then (One (assignment_kind a)) (SpellsExpression e depth)) ts
  SpellsStatement (selection s bs o) depth ts = Covers s ts × HasBranch bs
      × Deeper (λ inner. Then (SpellsBranches bs k.WordIf inner) (Then (SpellsOtherwise o inner) (One k.WordEndif))) depth ts
  SpellsStatement (iteration s xs e b) depth ts = Covers s ts × Then (One k.WordForeach) (Then (SaysNames xs) (Then (One k.Colon)
      (Deeper (λ inner. Then (SpellsExpression e inner) (Then (NewLine (SpellsBlock b inner)) (One k.WordEndforeach))) depth))) ts
  SpellsStatement (breaks s) depth ts = Covers s ts × One k.WordBreak ts
  SpellsStatement (continues s) depth ts = Covers s ts × One k.WordContinue ts

  -- after `if`, and after `elif` from the second on
  pub SpellsBranches : Branches Span → Kind → ℕ → List Token → Type 0
  SpellsBranches no_branches word depth ts = Nothing ts
  SpellsBranches (branch e b more) word depth ts =
      Then (One word) (Then (SpellsExpression e depth) (Then (NewLine (SpellsBlock b depth)) (SpellsBranches more k.WordElif depth))) ts

  pub SpellsOtherwise : Otherwise Span → ℕ → List Token → Type 0
  SpellsOtherwise nothing_else depth ts = Nothing ts
  SpellsOtherwise (otherwise b) depth ts = Then (One k.WordElse) (NewLine (SpellsBlock b depth)) ts

  -- each statement with its line end
  pub SpellsStatements : Statements Span → ℕ → List Token → Type 0
  SpellsStatements no_statements depth ts = Nothing ts
  SpellsStatements (statement s more) depth ts = Then (SpellsStatement s depth) (Then (One k.LineEnd) (SpellsStatements more depth)) ts

  -- after a token that ends there
  pub SpellsBlock : Block Span → ℕ → ℕ → List Token → Type 0
  SpellsBlock (block s statements) depth last ts = CoversBlock last s ts × SpellsStatements statements depth ts

-- the tokens of a file of this number of bytes
abbrev pub SpellsFile : File Span → ℕ → ℕ → List Token → Type 0
SpellsFile (file s b) len depth ts = (s.from ≡ 0) × (s.to ≡ len) × SpellsBlock b depth 0 ts
