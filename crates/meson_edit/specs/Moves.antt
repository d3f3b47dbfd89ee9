-- A tree with the values of its nodes and names mapped by one function.
use Rattle.std.specs.Prelude.{ℕ, List, map}
use Rattle.meson_lex.specs.Located.{Token}
use Rattle.meson_syntax.specs.Tree.{Name, Expression, identifier, boolean, integer, string, paren, array, dictionary, call, unary, row, postfix, conditional, Operands, no_operands, operand, Tail, method, index, Tails, no_tails, tail, Listing, listing, Argument, plain, named, pair, Arguments, no_arguments, argument, Statement, evaluate, assign, selection, iteration, breaks, continues, Branches, no_branches, branch, Otherwise, nothing_else, otherwise, Statements, no_statements, statement, Block, block, File, file}

module _ {S T : Type 0} (h : S → T) where
  abbrev pub each_name : Name S → Name T
  each_name name = record { place = h name.place; text = name.text }

  abbrev mutual
    pub each_expression : Expression S → Expression T
    each_expression (identifier s x) = identifier (h s) x
    each_expression (boolean s b) = boolean (h s) b
    each_expression (integer s x) = integer (h s) x
    each_expression (string s q x) = string (h s) q x
    each_expression (paren s e) = paren (h s) (each_expression e)
    each_expression (array l) = array (each_listing l)
    each_expression (dictionary l) = dictionary (each_listing l)
    each_expression (call s x l) = call (h s) (each_name x) (each_listing l)
    each_expression (unary s o e) = unary (h s) o (each_expression e)
    each_expression (row s e os) = row (h s) (each_expression e) (each_operands os)
    each_expression (postfix s e ts) = postfix (h s) (each_expression e) (each_tails ts)
    each_expression (conditional s c y n) = conditional (h s) (each_expression c) (each_expression y) (each_expression n)

    pub each_operands : Operands S → Operands T
    each_operands no_operands = no_operands
    each_operands (operand o e more) = operand o (each_expression e) (each_operands more)

    pub each_tail : Tail S → Tail T
    each_tail (method s x l) = method (h s) (each_name x) (each_listing l)
    each_tail (index s e) = index (h s) (each_expression e)

    pub each_tails : Tails S → Tails T
    each_tails no_tails = no_tails
    each_tails (tail t more) = tail (each_tail t) (each_tails more)

    pub each_listing : Listing S → Listing T
    each_listing (listing s trailing list) = listing (h s) trailing (each_arguments list)

    pub each_argument : Argument S → Argument T
    each_argument (plain e) = plain (each_expression e)
    each_argument (named s x e) = named (h s) (each_name x) (each_expression e)
    each_argument (pair s e f) = pair (h s) (each_expression e) (each_expression f)

    pub each_arguments : Arguments S → Arguments T
    each_arguments no_arguments = no_arguments
    each_arguments (argument a more) = argument (each_argument a) (each_arguments more)

  abbrev mutual
    pub each_statement : Statement S → Statement T
    each_statement (evaluate e) = evaluate (each_expression e)
    each_statement (assign s x a e) = assign (h s) (each_name x) a (each_expression e)
    each_statement (selection s bs o) = selection (h s) (each_branches bs) (each_otherwise o)
    each_statement (iteration s xs e b) = iteration (h s) (map each_name xs) (each_expression e) (each_block b)
    each_statement (breaks s) = breaks (h s)
    each_statement (continues s) = continues (h s)

    pub each_branches : Branches S → Branches T
    each_branches no_branches = no_branches
    each_branches (branch e b more) = branch (each_expression e) (each_block b) (each_branches more)

    pub each_otherwise : Otherwise S → Otherwise T
    each_otherwise nothing_else = nothing_else
    each_otherwise (otherwise b) = otherwise (each_block b)

    pub each_statements : Statements S → Statements T
    each_statements no_statements = no_statements
    each_statements (statement s more) = statement (each_statement s) (each_statements more)

    pub each_block : Block S → Block T
    each_block (block s statements) = block (h s) (each_statements statements)

  abbrev pub each_file : File S → File T
  each_file (file s b) = file (h s) (each_block b)

abbrev pub token_by : (ℕ → ℕ) → Token → Token
token_by g t = record { kind = t.kind; text = t.text; from = g t.from; to = g t.to }

abbrev pub tokens_by : (ℕ → ℕ) → List Token → List Token
tokens_by g = map (token_by g)
