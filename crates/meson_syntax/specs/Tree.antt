-- Trees of build files. Each node carries an S: a span, or nothing.
use Rattle.std.specs.Prelude.{ℕ, Bool, true, false, List, [], ◌∷◌, map}
use Rattle.meson_syntax.specs.declared.operator.Operator.{Operator}
use Rattle.meson_syntax.specs.declared.operator.UnaryOperator.{UnaryOperator}
use Rattle.meson_syntax.specs.declared.operator.StringKind.{StringKind}
use Rattle.meson_syntax.specs.declared.operator.Assignment.{Assignment}

-- a name as it is written, and what it carries
pub record Name (S : Type 0) : Type 0 where
  pub place : S
  pub text : List ℕ

mutual
  pub data Expression (S : Type 0) : Type 0 where
    identifier : S → List ℕ → Expression S
    boolean : S → Bool → Expression S
    -- a number, and a string with its quotes, as they are written
    integer : S → List ℕ → Expression S
    string : S → StringKind → List ℕ → Expression S
    -- an expression in round brackets
    paren : S → Expression S → Expression S
    array : Listing S → Expression S
    dictionary : Listing S → Expression S
    -- a function's name and its arguments
    call : S → Name S → Listing S → Expression S
    unary : S → UnaryOperator → Expression S → Expression S
    -- the first operand, and each further one with the operator before it
    row : S → Expression S → Operands S → Expression S
    -- an expression with the method calls and indexes after it
    postfix : S → Expression S → Tails S → Expression S
    -- the condition, and the answers for yes and for no
    conditional : S → Expression S → Expression S → Expression S → Expression S

  pub data Operands (S : Type 0) : Type 0 where
    no_operands : Operands S
    operand : Operator → Expression S → Operands S → Operands S

  pub data Tail (S : Type 0) : Type 0 where
    method : S → Name S → Listing S → Tail S
    index : S → Expression S → Tail S

  pub data Tails (S : Type 0) : Type 0 where
    no_tails : Tails S
    tail : Tail S → Tails S → Tails S

  -- a list from bracket to bracket: whether a comma is after its last element, and its elements
  pub data Listing (S : Type 0) : Type 0 where
    listing : S → Bool → Arguments S → Listing S

  pub data Argument (S : Type 0) : Type 0 where
    plain : Expression S → Argument S
    named : S → Name S → Expression S → Argument S
    -- a dictionary's key and its value
    pair : S → Expression S → Expression S → Argument S

  pub data Arguments (S : Type 0) : Type 0 where
    no_arguments : Arguments S
    argument : Argument S → Arguments S → Arguments S

mutual
  pub data Statement (S : Type 0) : Type 0 where
    evaluate : Expression S → Statement S
    -- a variable, what is done with it, and the value
    assign : S → Name S → Assignment → Expression S → Statement S
    -- from `if` to `endif`
    selection : S → Branches S → Otherwise S → Statement S
    -- from `foreach` to `endforeach`: the variables, what they run through, and the body
    iteration : S → List (Name S) → Expression S → Block S → Statement S
    breaks : S → Statement S
    continues : S → Statement S

  -- the conditions of `if` and of each `elif`, each with the block after it
  pub data Branches (S : Type 0) : Type 0 where
    no_branches : Branches S
    branch : Expression S → Block S → Branches S → Branches S

  -- the block after `else`, if there is one
  pub data Otherwise (S : Type 0) : Type 0 where
    nothing_else : Otherwise S
    otherwise : Block S → Otherwise S

  pub data Statements (S : Type 0) : Type 0 where
    no_statements : Statements S
    statement : Statement S → Statements S → Statements S

  pub data Block (S : Type 0) : Type 0 where
    block : S → Statements S → Block S

pub data File (S : Type 0) : Type 0 where
  file : S → Block S → File S

-- ---- the same as lists, and back

abbrev pub arguments_of : {S : Type 0} → List (Argument S) → Arguments S
arguments_of [] = no_arguments
arguments_of (a ∷ more) = argument a (arguments_of more)

abbrev pub argument_list : {S : Type 0} → Arguments S → List (Argument S)
argument_list no_arguments = []
argument_list (argument a more) = a ∷ argument_list more

abbrev pub operands_of : {S : Type 0} → List (Operator × Expression S) → Operands S
operands_of [] = no_operands
operands_of (o ∷ more) = operand o.0 o.1 (operands_of more)

abbrev pub operand_list : {S : Type 0} → Operands S → List (Operator × Expression S)
operand_list no_operands = []
operand_list (operand o e more) = (o, e) ∷ operand_list more

abbrev pub tails_of : {S : Type 0} → List (Tail S) → Tails S
tails_of [] = no_tails
tails_of (t ∷ more) = tail t (tails_of more)

abbrev pub tail_list : {S : Type 0} → Tails S → List (Tail S)
tail_list no_tails = []
tail_list (tail t more) = t ∷ tail_list more

abbrev pub branches_of : {S : Type 0} → List (Expression S × Block S) → Branches S
branches_of [] = no_branches
branches_of (b ∷ more) = branch b.0 b.1 (branches_of more)

abbrev pub branch_list : {S : Type 0} → Branches S → List (Expression S × Block S)
branch_list no_branches = []
branch_list (branch e b more) = (e, b) ∷ branch_list more

abbrev pub statements_of : {S : Type 0} → List (Statement S) → Statements S
statements_of [] = no_statements
statements_of (s ∷ more) = statement s (statements_of more)

abbrev pub statement_list : {S : Type 0} → Statements S → List (Statement S)
statement_list no_statements = []
statement_list (statement s more) = s ∷ statement_list more

abbrev pub is_named : {S : Type 0} → Argument S → Bool
is_named (plain e) = false
is_named (named s x e) = true
is_named (pair s e f) = false

-- ---- trees without spans

abbrev pub Nowhere : Type 0
Nowhere = Unit {0}

abbrev pub Plain : Type 0
Plain = File Nowhere

-- a name that is nowhere in a source
abbrev pub bare_name : List ℕ → Name Nowhere
bare_name text = record { place = tt; text = text }

abbrev pub erase_name : {S : Type 0} → Name S → Name Nowhere
erase_name name = bare_name name.text

abbrev pub erase_names : {S : Type 0} → List (Name S) → List (Name Nowhere)
erase_names = map erase_name

abbrev mutual
  pub erase_expression : {S : Type 0} → Expression S → Expression Nowhere
  erase_expression (identifier s x) = identifier tt x
  erase_expression (boolean s b) = boolean tt b
  erase_expression (integer s x) = integer tt x
  erase_expression (string s q x) = string tt q x
  erase_expression (paren s e) = paren tt (erase_expression e)
  erase_expression (array l) = array (erase_listing l)
  erase_expression (dictionary l) = dictionary (erase_listing l)
  erase_expression (call s x l) = call tt (erase_name x) (erase_listing l)
  erase_expression (unary s o e) = unary tt o (erase_expression e)
  erase_expression (row s e os) = row tt (erase_expression e) (erase_operands os)
  erase_expression (postfix s e ts) = postfix tt (erase_expression e) (erase_tails ts)
  erase_expression (conditional s c y n) = conditional tt (erase_expression c) (erase_expression y) (erase_expression n)

  pub erase_operands : {S : Type 0} → Operands S → Operands Nowhere
  erase_operands no_operands = no_operands
  erase_operands (operand o e more) = operand o (erase_expression e) (erase_operands more)

  pub erase_tail : {S : Type 0} → Tail S → Tail Nowhere
  erase_tail (method s x l) = method tt (erase_name x) (erase_listing l)
  erase_tail (index s e) = index tt (erase_expression e)

  pub erase_tails : {S : Type 0} → Tails S → Tails Nowhere
  erase_tails no_tails = no_tails
  erase_tails (tail t more) = tail (erase_tail t) (erase_tails more)

  pub erase_listing : {S : Type 0} → Listing S → Listing Nowhere
  erase_listing (listing s trailing list) = listing tt trailing (erase_arguments list)

  pub erase_argument : {S : Type 0} → Argument S → Argument Nowhere
  erase_argument (plain e) = plain (erase_expression e)
  erase_argument (named s x e) = named tt (erase_name x) (erase_expression e)
  erase_argument (pair s e f) = pair tt (erase_expression e) (erase_expression f)

  pub erase_arguments : {S : Type 0} → Arguments S → Arguments Nowhere
  erase_arguments no_arguments = no_arguments
  erase_arguments (argument a more) = argument (erase_argument a) (erase_arguments more)

abbrev mutual
  pub erase_statement : {S : Type 0} → Statement S → Statement Nowhere
  erase_statement (evaluate e) = evaluate (erase_expression e)
  erase_statement (assign s x a e) = assign tt (erase_name x) a (erase_expression e)
  erase_statement (selection s bs o) = selection tt (erase_branches bs) (erase_otherwise o)
  erase_statement (iteration s xs e b) = iteration tt (erase_names xs) (erase_expression e) (erase_block b)
  erase_statement (breaks s) = breaks tt
  erase_statement (continues s) = continues tt

  pub erase_branches : {S : Type 0} → Branches S → Branches Nowhere
  erase_branches no_branches = no_branches
  erase_branches (branch e b more) = branch (erase_expression e) (erase_block b) (erase_branches more)

  pub erase_otherwise : {S : Type 0} → Otherwise S → Otherwise Nowhere
  erase_otherwise nothing_else = nothing_else
  erase_otherwise (otherwise b) = otherwise (erase_block b)

  pub erase_statements : {S : Type 0} → Statements S → Statements Nowhere
  erase_statements no_statements = no_statements
  erase_statements (statement s more) = statement (erase_statement s) (erase_statements more)

  pub erase_block : {S : Type 0} → Block S → Block Nowhere
  erase_block (block s statements) = block tt (erase_statements statements)

abbrev pub erase : {S : Type 0} → File S → Plain
erase (file s b) = file tt (erase_block b)
