-- Paths into trees: each step is the number of a child, counted from 0 in the order of the source. The children of a block are its statements. Those of an
-- expression statement or an assignment are its expression. Those of a selection are condition, block, condition, block, .., and the block after `else`. Those
-- of an iteration are its expression and its block. Those of an array are its elements; of a dictionary key, value, key, value, .. Those of a call are the
-- expressions of its arguments, those of a row its operands. Those of a unary expression or a parenthesis are its inside, those of a conditional its three
-- parts. Those of a postfix row are its base, and then the argument expressions or the index of each tail. A file is its block.
use Rattle.std.specs.Prelude.{ℕ, zero, suc, Bool, List, [], ◌∷◌, ◌++◌, map, Option, Some, None, option_map, option_and_then}
use Rattle.meson_lex.specs.declared.kinds.Kind.TheVariants as k
use Rattle.meson_lex.specs.Significant.{Word, new_line}
use Rattle.meson_lex.specs.declared.kinds.Kind.{Kind}
use Rattle.meson_syntax.specs.declared.operator.Bracket.{Bracket}
use Rattle.meson_syntax.specs.declared.operator.Bracket.TheVariants as bracket
use Rattle.meson_syntax.specs.Operators.{unary_kind, assignment_kind, opens, closes}
use Rattle.meson_syntax.specs.Tree.{Expression, paren, array, dictionary, call, unary, row, postfix, conditional, Operands, no_operands, operand, Tail, method, index, Tails, no_tails, tail, Listing, listing, Argument, plain, named, pair, Arguments, no_arguments, argument, Statement, evaluate, assign, selection, iteration, breaks, continues, Branches, no_branches, branch, Otherwise, nothing_else, otherwise, Statements, no_statements, statement, Block, block, File, file}
use Rattle.meson_syntax.specs.Grammar.{mark, names_words, comma_words, operator_words, expression_words, operands_words, tail_words, tails_words, argument_words, arguments_words, statement_words, branches_words, otherwise_words, statements_words, block_words}

-- what a path may name
pub data Sort : Type 0 where
  of_expression : Sort
  of_statement : Sort
  of_block : Sort

abbrev pub Node : Sort → Type 0 → Type 0
Node of_expression S = Expression S
Node of_statement S = Statement S
Node of_block S = Block S

abbrev pub node_words : (S : Type 0) (sort : Sort) → Node sort S → List Word
node_words S of_expression e = expression_words e
node_words S of_statement s = statement_words s
node_words S of_block b = block_words b

-- A node within something: the words before and after it, and that thing with another node in its place.
pub record Hole (S : Type 0) (T : Type 0) : Type 0 where
  pub sort : Sort
  pub inside : Node sort S
  pub before : List Word
  pub behind : List Word
  pub back : Node sort S → T

-- a hole in a part of something that has these words before and after the part
abbrev pub around : {S T U : Type 0} → List Word → List Word → (T → U) → Hole S T → Hole S U
around before behind make h = record { sort = h.sort; inside = h.inside; before = before ++ h.before; behind = h.behind ++ behind; back = λ x. make (h.back x) }

abbrev pub all_around : {S T U : Type 0} → List Word → List Word → (T → U) → List (Hole S T) → List (Hole S U)
all_around before behind make holes = map (around before behind make) holes

-- an expression, or a block, that is a child itself
abbrev pub expression_in : {S T : Type 0} → List Word → Expression S → List Word → (Expression S → T) → Hole S T
expression_in before e behind make = record { sort = of_expression; inside = e; before = before; behind = behind; back = make }

abbrev pub block_in : {S T : Type 0} → List Word → Block S → List Word → (Block S → T) → Hole S T
block_in before b behind make = record { sort = of_block; inside = b; before = before; behind = behind; back = make }

-- ---- children

abbrev pub argument_children : {S : Type 0} → Argument S → List (Hole S (Argument S))
argument_children (plain e) = expression_in [] e [] plain ∷ []
argument_children (named s x e) = expression_in ((k.Identifier, x.text) ∷ mark k.Colon) e [] (named s x) ∷ []
argument_children (pair s e f) = expression_in [] e (mark k.Colon ++ expression_words f) (λ x. pair s x f)
    ∷ expression_in (expression_words e ++ mark k.Colon) f [] (pair s e) ∷ []

abbrev pub arguments_children : {S : Type 0} → Arguments S → Bool → List (Hole S (Arguments S))
arguments_children no_arguments trailing = []
arguments_children (argument a more) trailing =
    all_around [] (comma_words more trailing ++ arguments_words more trailing) (λ x. argument x more) (argument_children a)
    ++ all_around (argument_words a ++ comma_words more trailing) [] (argument a) (arguments_children more trailing)

abbrev pub listing_children : {S : Type 0} → Listing S → Bracket → List (Hole S (Listing S))
listing_children (listing s trailing list) b = all_around (mark (opens b)) (mark (closes b)) (listing s trailing) (arguments_children list trailing)

abbrev pub operands_children : {S : Type 0} → Operands S → List (Hole S (Operands S))
operands_children no_operands = []
operands_children (operand o e more) =
    expression_in (operator_words o) e (operands_words more) (λ x. operand o x more)
    ∷ all_around (operator_words o ++ expression_words e) [] (operand o e) (operands_children more)

abbrev pub tail_children : {S : Type 0} → Tail S → List (Hole S (Tail S))
tail_children (method s x l) = all_around (mark k.Dot ++ (k.Identifier, x.text) ∷ []) [] (method s x) (listing_children l bracket.Round)
tail_children (index s e) = expression_in (mark k.OpenSquare) e (mark k.CloseSquare) (index s) ∷ []

abbrev pub tails_children : {S : Type 0} → Tails S → List (Hole S (Tails S))
tails_children no_tails = []
tails_children (tail t more) = all_around [] (tails_words more) (λ x. tail x more) (tail_children t)
    ++ all_around (tail_words t) [] (tail t) (tails_children more)

abbrev pub expression_children : {S : Type 0} → Expression S → List (Hole S (Expression S))
expression_children (paren s e) = expression_in (mark k.OpenRound) e (mark k.CloseRound) (paren s) ∷ []
expression_children (array l) = all_around [] [] array (listing_children l bracket.Square)
expression_children (dictionary l) = all_around [] [] dictionary (listing_children l bracket.Curly)
expression_children (call s x l) = all_around ((k.Identifier, x.text) ∷ []) [] (call s x) (listing_children l bracket.Round)
expression_children (unary s o e) = expression_in (mark (unary_kind o)) e [] (unary s o) ∷ []
expression_children (row s e os) = expression_in [] e (operands_words os) (λ x. row s x os)
    ∷ all_around (expression_words e) [] (row s e) (operands_children os)
expression_children (postfix s e ts) = expression_in [] e (tails_words ts) (λ x. postfix s x ts)
    ∷ all_around (expression_words e) [] (postfix s e) (tails_children ts)
expression_children (conditional s c y n) =
    expression_in [] c (mark k.Question ++ (expression_words y ++ (mark k.Colon ++ expression_words n))) (λ x. conditional s x y n)
    ∷ expression_in (expression_words c ++ mark k.Question) y (mark k.Colon ++ expression_words n) (λ x. conditional s c x n)
    ∷ expression_in (expression_words c ++ (mark k.Question ++ (expression_words y ++ mark k.Colon))) n [] (conditional s c y)
    ∷ []
expression_children _ = []

abbrev pub branches_children : {S : Type 0} → Branches S → Kind → List (Hole S (Branches S))
branches_children no_branches word = []
branches_children (branch e b more) word =
    expression_in (mark word) e ((new_line ∷ block_words b) ++ branches_words more k.WordElif) (λ x. branch x b more)
    ∷ block_in (mark word ++ (expression_words e ++ new_line ∷ [])) b (branches_words more k.WordElif) (λ x. branch e x more)
    ∷ all_around (mark word ++ (expression_words e ++ (new_line ∷ block_words b))) [] (branch e b) (branches_children more k.WordElif)

abbrev pub otherwise_children : {S : Type 0} → Otherwise S → List (Hole S (Otherwise S))
otherwise_children nothing_else = []
otherwise_children (otherwise b) = block_in (mark k.WordElse ++ new_line ∷ []) b [] otherwise ∷ []

abbrev pub statement_children : {S : Type 0} → Statement S → List (Hole S (Statement S))
statement_children (evaluate e) = expression_in [] e [] evaluate ∷ []
statement_children (assign s x a e) = expression_in ((k.Identifier, x.text) ∷ mark (assignment_kind a)) e [] (assign s x a) ∷ []
statement_children (selection s bs o) =
    all_around [] (otherwise_words o ++ mark k.WordEndif) (λ x. selection s x o) (branches_children bs k.WordIf)
    ++ all_around (branches_words bs k.WordIf) (mark k.WordEndif) (selection s bs) (otherwise_children o)
statement_children (iteration s xs e b) =
    expression_in (mark k.WordForeach ++ (names_words xs ++ mark k.Colon)) e ((new_line ∷ block_words b) ++ mark k.WordEndforeach) (λ x. iteration s xs x b)
    ∷ block_in (mark k.WordForeach ++ (names_words xs ++ (mark k.Colon ++ (expression_words e ++ new_line ∷ [])))) b (mark k.WordEndforeach) (iteration s xs e)
    ∷ []
statement_children (breaks s) = []
statement_children (continues s) = []

abbrev pub statements_children : {S : Type 0} → Statements S → List (Hole S (Statements S))
statements_children no_statements = []
statements_children (statement s more) =
    record { sort = of_statement; inside = s; before = []; behind = new_line ∷ statements_words more; back = λ x. statement x more }
    ∷ all_around (statement_words s ++ new_line ∷ []) [] (statement s) (statements_children more)

abbrev pub block_children : {S : Type 0} → Block S → List (Hole S (Block S))
block_children (block s list) = all_around [] [] (block s) (statements_children list)

abbrev pub children : (S : Type 0) (sort : Sort) → Node sort S → List (Hole S (Node sort S))
children S of_expression e = expression_children e
children S of_statement s = statement_children s
children S of_block b = block_children b

-- ---- paths

abbrev pub nth : {A : Type 0} → List A → ℕ → Option A
nth [] n = None
nth (x ∷ xs) zero = Some x
nth (x ∷ xs) (suc n) = nth xs n

abbrev pub nth_hole : (S : Type 0) (sort : Sort) → Node sort S → ℕ → Option (Hole S (Node sort S))
nth_hole S sort x n = nth (children S sort x) n

-- the node that a path names
abbrev pub reach : (S : Type 0) (sort : Sort) → Node sort S → List ℕ → Option (Hole S (Node sort S))
reach S sort x [] = Some (record { sort = sort; inside = x; before = []; behind = []; back = λ y. y })
reach S sort x (n ∷ path) = option_and_then (λ h. option_map (around h.before h.behind h.back) (reach S h.sort h.inside path)) (nth_hole S sort x n)

abbrev pub block_of : {S : Type 0} → File S → Block S
block_of (file s b) = b

abbrev pub with_block : {S : Type 0} → File S → Block S → File S
with_block (file s b) other = file s other

-- the expression that a path names
abbrev pub expression_of : (S : Type 0) (sort : Sort) → Node sort S → Option (Expression S)
expression_of S of_expression e = Some e
expression_of S of_statement s = None
expression_of S of_block b = None

abbrev pub expression_on_path : {S : Type 0} → File S → List ℕ → Option (Expression S)
expression_on_path {S} f path = option_and_then (λ h. expression_of S h.sort h.inside) (reach S of_block (block_of f) path)

-- ---- lists

-- the list of an array, a dictionary or a call: its brackets, the words before it, and that expression with another list
pub record ListIn (S : Type 0) : Type 0 where
  pub list : Listing S
  pub bracket : Bracket
  pub ahead : List Word
  pub back : Listing S → Expression S

abbrev pub list_in : {S : Type 0} → Expression S → Option (ListIn S)
list_in (array l) = Some (record { list = l; bracket = bracket.Square; ahead = []; back = array })
list_in (dictionary l) = Some (record { list = l; bracket = bracket.Curly; ahead = []; back = dictionary })
list_in (call s x l) = Some (record { list = l; bracket = bracket.Round; ahead = (k.Identifier, x.text) ∷ []; back = call s x })
list_in _ = None

-- the list of the array, dictionary or call that a path names, in its file
pub record ListAt (S : Type 0) : Type 0 where
  pub list : Listing S
  pub bracket : Bracket
  pub before : List Word
  pub behind : List Word
  pub back : Listing S → File S

abbrev pub list_within : {S : Type 0} → File S → (before behind : List Word) → (Expression S → Block S) → ListIn S → ListAt S
list_within f before behind back l =
    record { list = l.list; bracket = l.bracket; before = before ++ l.ahead; behind = behind; back = λ other. with_block f (back (l.back other)) }

abbrev pub list_of_node : (S : Type 0) (sort : Sort) → Node sort S → File S → (before behind : List Word) → (Node sort S → Block S) → Option (ListAt S)
list_of_node S of_expression e f before behind back = option_map (list_within f before behind back) (list_in e)
list_of_node S of_statement s f before behind back = None
list_of_node S of_block b f before behind back = None

abbrev pub list_at : {S : Type 0} → File S → List ℕ → Option (ListAt S)
list_at {S} f path = option_and_then (λ h. list_of_node S h.sort h.inside f h.before h.behind h.back) (reach S of_block (block_of f) path)

-- ---- parts of a list

abbrev pub list_span : {S : Type 0} → Listing S → S
list_span (listing s trailing list) = s

-- the words between the brackets
abbrev pub inner_words : {S : Type 0} → Listing S → List Word
inner_words (listing s trailing list) = arguments_words list trailing

-- An element of a list: the words before and after it between the brackets, and the elements with another one in its place.
pub record ElementAt (S : Type 0) : Type 0 where
  pub element : Argument S
  pub before : List Word
  pub behind : List Word

abbrev pub elements_at : {S : Type 0} → Arguments S → Bool → List (ElementAt S)
elements_at no_arguments trailing = []
elements_at (argument a more) trailing =
    record { element = a; before = []; behind = comma_words more trailing ++ arguments_words more trailing }
    ∷ map (λ p. record { element = p.element; before = argument_words a ++ (comma_words more trailing ++ p.before); behind = p.behind })
    (elements_at more trailing)

abbrev pub element_at : {S : Type 0} → Listing S → ℕ → Option (ElementAt S)
element_at (listing s trailing list) n = nth (elements_at list trailing) n

-- the value of an element (of a pair what is after its colon), and the words before it in the element
abbrev pub value_of : {S : Type 0} → Argument S → Option (Expression S)
value_of (plain e) = Some e
value_of (named s x e) = Some e
value_of (pair s e f) = Some f

abbrev pub words_ahead : {S : Type 0} → Argument S → List Word
words_ahead (plain e) = []
words_ahead (named s x e) = (k.Identifier, x.text) ∷ mark k.Colon
words_ahead (pair s e f) = expression_words e ++ mark k.Colon
