-- Build files without some of the literals in their lists, and evaluations in whose values these are missing. Nodes may carry something else there.
use Rattle.std.specs.Prelude.{Bool, true, false, not, List, map, if◌then◌else◌, Option, Some, None, option_map}
use Rattle.std.specs.List.{filter}
use Rattle.meson_syntax.specs.Tree.{Name, Expression, identifier, boolean, integer, string, paren, array, dictionary, call, unary, row, postfix, conditional, Operands, no_operands, operand, Tail, method, index, Tails, no_tails, tail, Listing, listing, Argument, plain, named, pair, Arguments, no_arguments, argument, Statement, evaluate, assign, selection, iteration, breaks, continues, Branches, no_branches, branch, Otherwise, nothing_else, otherwise, Statements, no_statements, statement, Block, block, File, file}
use Rattle.meson_calls.specs.Calls.{Call}
use Rattle.meson_calls.specs.Project.{BuildFile, Project}
use Rattle.meson_meaning.specs.Expressions.{Sort, call_with, literal_in, of_another, of_files, of_target, sort_of}
use Rattle.meson_meaning.specs.States.{Making, State, Use}
use Rattle.meson_meaning.specs.Values.{Atom, Literal, Value, anything, element, other, several, single, text}

-- ---- which elements of a list may be left out: none, those after the first one without a name, or each

pub data Loses : Type 0 where
  nothing : Loses
  later_ones : Loses
  each_one : Loses

-- an array and a call of `files` are lists of files, and so are the sources of a target
abbrev pub loses : Sort → Loses
loses of_files = each_one
loses of_target = later_ones
loses of_another = nothing

abbrev pub may_go : Loses → Bool → Bool
may_go nothing goes = false
may_go later_ones goes = false
may_go each_one goes = goes

-- after an element: one without a name is the first one
abbrev pub after_unnamed : Loses → Loses
after_unnamed nothing = nothing
after_unnamed later_ones = each_one
after_unnamed each_one = each_one

abbrev pub loses_after : {S : Type 0} → Loses → Argument S → Loses
loses_after m (plain e) = after_unnamed m
loses_after m (named s x e) = m
loses_after m (pair s e f) = m

abbrev pub has_none : {S : Type 0} → Arguments S → Bool
has_none no_arguments = true
has_none (argument a more) = false

-- a list that has no element has no comma
abbrev pub comma_left : {S : Type 0} → Bool → Arguments S → Bool
comma_left trailing list = if has_none list then false else trailing

-- ---- which literals are left out, by what their nodes carry

module _ {S : Type 0} (gone : S → Bool) where
  abbrev pub literal_goes : Option (Literal S) → Bool
  literal_goes None = false
  literal_goes (Some l) = gone l.stands

  abbrev pub argument_goes : Argument S → Bool
  argument_goes (plain e) = literal_goes (literal_in e)
  argument_goes (named s x e) = false
  argument_goes (pair s e f) = false

  abbrev pub atom_stays : Atom S → Bool
  atom_stays (element l folder) = not (gone l.stands)
  atom_stays (single l folder) = true
  atom_stays other = true

abbrev pub kept_before : {S : Type 0} → Bool → Argument S → Arguments S → Arguments S
kept_before goes a more = if goes then more else argument a more

-- ---- trees

module _ {S T : Type 0} (to : S → T) (gone : S → Bool) where
  abbrev pub name_as : Name S → Name T
  name_as x = record { place = to x.place; text = x.text }

  abbrev mutual
    pub expression_without : Expression S → Expression T
    expression_without (identifier s x) = identifier (to s) x
    expression_without (boolean s b) = boolean (to s) b
    expression_without (integer s x) = integer (to s) x
    expression_without (string s q x) = string (to s) q x
    expression_without (paren s e) = paren (to s) (expression_without e)
    expression_without (array l) = array (listing_without each_one l)
    expression_without (dictionary l) = dictionary (listing_without nothing l)
    expression_without (call s f l) = call (to s) (name_as f) (listing_without (loses (sort_of (call_with f.text l))) l)
    expression_without (unary s o e) = unary (to s) o (expression_without e)
    expression_without (row s e os) = row (to s) (expression_without e) (operands_without os)
    expression_without (postfix s e ts) = postfix (to s) (expression_without e) (tails_without ts)
    expression_without (conditional s c y n) = conditional (to s) (expression_without c) (expression_without y) (expression_without n)

    pub operands_without : Operands S → Operands T
    operands_without no_operands = no_operands
    operands_without (operand o e more) = operand o (expression_without e) (operands_without more)

    pub tail_without : Tail S → Tail T
    tail_without (method s f (listing r trailing list)) = method (to s) (name_as f) (listing (to r) trailing (arguments_without nothing list))
    tail_without (index s e) = index (to s) (expression_without e)

    pub tails_without : Tails S → Tails T
    tails_without no_tails = no_tails
    tails_without (tail t more) = tail (tail_without t) (tails_without more)

    pub listing_without : Loses → Listing S → Listing T
    listing_without m (listing s trailing list) = listing (to s) (comma_left trailing (arguments_without m list)) (arguments_without m list)

    pub argument_without : Argument S → Argument T
    argument_without (plain e) = plain (expression_without e)
    argument_without (named s x e) = named (to s) (name_as x) (expression_without e)
    argument_without (pair s e f) = pair (to s) (expression_without e) (expression_without f)

    pub arguments_without : Loses → Arguments S → Arguments T
    arguments_without m no_arguments = no_arguments
    arguments_without m (argument a more) =
        kept_before (may_go m (argument_goes gone a)) (argument_without a) (arguments_without (loses_after m a) more)

  abbrev mutual
    pub statement_without : Statement S → Statement T
    statement_without (evaluate e) = evaluate (expression_without e)
    statement_without (assign s x a e) = assign (to s) (name_as x) a (expression_without e)
    statement_without (selection s bs o) = selection (to s) (branches_without bs) (otherwise_without o)
    statement_without (iteration s xs e b) = iteration (to s) (map name_as xs) (expression_without e) (block_without b)
    statement_without (breaks s) = breaks (to s)
    statement_without (continues s) = continues (to s)

    pub branches_without : Branches S → Branches T
    branches_without no_branches = no_branches
    branches_without (branch e b more) = branch (expression_without e) (block_without b) (branches_without more)

    pub otherwise_without : Otherwise S → Otherwise T
    otherwise_without nothing_else = nothing_else
    otherwise_without (otherwise b) = otherwise (block_without b)

    pub statements_without : Statements S → Statements T
    statements_without no_statements = no_statements
    statements_without (statement s more) = statement (statement_without s) (statements_without more)

    pub block_without : Block S → Block T
    block_without (block s list) = block (to s) (statements_without list)

  abbrev pub tree_without : File S → File T
  tree_without (file s b) = file (to s) (block_without b)

  abbrev pub file_without : BuildFile S → BuildFile T
  file_without f = record { name = f.name; tree = tree_without f.tree }

  abbrev pub project_without : Project S → Project T
  project_without p = map file_without p

  -- a call
  abbrev pub call_without : Call S → Call T
  call_without c = call_with c.function (listing_without (loses (sort_of c)) c.arguments)

  -- ---- values

  abbrev pub literal_as : Literal S → Literal T
  literal_as l = record { stands = to l.stands; text = l.text }

  abbrev pub atom_as : Atom S → Atom T
  atom_as (element l folder) = element (literal_as l) folder
  atom_as (single l folder) = single (literal_as l) folder
  atom_as other = other

  abbrev pub atoms_without : List (Atom S) → List (Atom T)
  atoms_without xs = map atom_as (filter (atom_stays gone) xs)

  abbrev pub value_without : Value S → Value T
  value_without (text t) = text (option_map literal_as t)
  value_without (several xs) = several (atoms_without xs)
  value_without anything = anything

  abbrev pub making_without : Making S → Making T
  making_without m = record { call = to m.call; file = m.file; sources = atoms_without m.sources }

  abbrev pub use_without : Use S → Use T
  use_without u = record { place = to u.place; values = map value_without u.values }

  abbrev pub state_without : State S → State T
  state_without st = record {
    variables = λ x. option_map value_without (st.variables x);
    asked = st.asked;
    made = map making_without st.made;
    used = map use_without st.used;
  }
