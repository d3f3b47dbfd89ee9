-- A node is what is its own, its skeleton, and its children. Another node in the place of a child leaves the skeleton.
use Rattle.meson_lex.specs.declared.kinds.Kind.TheVariants as k
use Rattle.meson_syntax.specs.declared.operator.Bracket.TheVariants as bracket
use Rattle.meson_syntax.specs.Tree.{integer}
use Rattle.std.proofs.Math.Seq.{drop-append_seam}
use Rattle.meson_lex.specs.declared.kinds.Kind.{Kind}
use Rattle.meson_syntax.specs.declared.operator.Operator.{Operator}
use Rattle.meson_syntax.specs.declared.operator.UnaryOperator.{UnaryOperator}
use Rattle.meson_syntax.specs.Tree.{breaks, continues}
use Rattle.meson_sources.proofs.Words.{⊤, [], ap, append-nil, ap₂, Bool, drop, false, length, List, refl, suc, sym, ℕ, ◌++◌, ◌∙◌, ◌∷◌, ◌≡◌, new_line, Word}
use Rattle.meson_sources.proofs.Words.{a_block, a_statement, an_expression, Any, arguments_parts, branches_parts, listing_parts, argument_words}
use Rattle.meson_sources.proofs.Words.{arguments_words, block_words, branches_words, comma_words, expression_words, mark, operator_words, otherwise_words}
use Rattle.meson_sources.proofs.Words.{tail_words, tails_words, closes, opens, all_around, argument_children, arguments_children, branches_children, children}
use Rattle.meson_sources.proofs.Words.{expression_children, Hole, listing_children, Node, of_block, of_expression, of_statement, operands_children}
use Rattle.meson_sources.proofs.Words.{otherwise_children, Sort, statement_children, statements_children, tail_children, tails_children, Argument, argument}
use Rattle.meson_sources.proofs.Words.{Arguments, arguments_of, array, assign, block, boolean, branch, Branches, call, conditional, dictionary, evaluate}
use Rattle.meson_sources.proofs.Words.{Expression, identifier, index, iteration, Listing, listing, method, Name, named, no_arguments, no_branches, no_operands}
use Rattle.meson_sources.proofs.Words.{no_statements, no_tails, nothing_else, Nowhere, operand, Operands, Otherwise, otherwise, pair, paren, plain, postfix}
use Rattle.meson_sources.proofs.Words.{row, selection, Statement, statement, Statements, string, Tail, tail, Tails, unary, Assignment, Bracket, StringKind}
use Rattle.meson_sources.proofs.Words.{any_of, child_nodes, operands_parts, otherwise_parts, statements_parts, tails_parts, Every, every-append, every-around}

-- any value
abbrev some_value : Expression Nowhere
some_value = boolean tt false

-- an argument without its value
abbrev pub blank : Argument Nowhere → Argument Nowhere
blank (plain e) = plain some_value
blank (named s x e) = named s x some_value
blank (pair s e f) = pair s some_value some_value

abbrev pub blanks : Arguments Nowhere → List (Argument Nowhere)
blanks no_arguments = []
blanks (argument a more) = blank a ∷ blanks more

abbrev pub list_blanks : Listing Nowhere → List (Argument Nowhere)
list_blanks (listing s trailing list) = blanks list

abbrev pub trailing_of : Listing Nowhere → Bool
trailing_of (listing s trailing list) = trailing

abbrev pub operators : Operands Nowhere → List Operator
operators no_operands = []
operators (operand o e more) = o ∷ operators more

pub data BlankTail : Type 0 where
  a_method : List ℕ → Bool → List (Argument Nowhere) → BlankTail
  an_index : BlankTail

abbrev blank_tail : Tail Nowhere → BlankTail
blank_tail (method s x l) = a_method x.text (trailing_of l) (list_blanks l)
blank_tail (index s e) = an_index

abbrev blank_tails : Tails Nowhere → List BlankTail
blank_tails no_tails = []
blank_tails (tail t more) = blank_tail t ∷ blank_tails more

abbrev branch_count : Branches Nowhere → ℕ
branch_count no_branches = 0
branch_count (branch e b more) = suc (branch_count more)

pub data ListKind : Type 0 where
  array_kind : ListKind
  dictionary_kind : ListKind
  call_kind : List ℕ → ListKind

pub data Skeleton : Type 0 where
  a_list : ListKind → Bool → List (Argument Nowhere) → Skeleton
  an_identifier : List ℕ → Skeleton
  a_boolean : Bool → Skeleton
  an_integer : List ℕ → Skeleton
  a_string : StringKind → List ℕ → Skeleton
  a_paren : Skeleton
  a_unary : UnaryOperator → Skeleton
  a_row : List Operator → Skeleton
  a_postfix : List BlankTail → Skeleton
  a_conditional : Skeleton
  an_evaluation : Skeleton
  an_assignment : List ℕ → Assignment → Skeleton
  a_selection : ℕ → Skeleton
  a_loop : List (Name Nowhere) → Skeleton
  a_break : Skeleton
  a_continue : Skeleton
  a_sequence : Skeleton

abbrev expression_skeleton : Expression Nowhere → Skeleton
expression_skeleton (identifier s x) = an_identifier x
expression_skeleton (boolean s x) = a_boolean x
expression_skeleton (integer s x) = an_integer x
expression_skeleton (string s q x) = a_string q x
expression_skeleton (paren s e) = a_paren
expression_skeleton (array l) = a_list array_kind (trailing_of l) (list_blanks l)
expression_skeleton (dictionary l) = a_list dictionary_kind (trailing_of l) (list_blanks l)
expression_skeleton (call s f l) = a_list (call_kind f.text) (trailing_of l) (list_blanks l)
expression_skeleton (unary s o e) = a_unary o
expression_skeleton (row s e os) = a_row (operators os)
expression_skeleton (postfix s e ts) = a_postfix (blank_tails ts)
expression_skeleton (conditional s c y n) = a_conditional

abbrev statement_skeleton : Statement Nowhere → Skeleton
statement_skeleton (evaluate e) = an_evaluation
statement_skeleton (assign s x a e) = an_assignment x.text a
statement_skeleton (selection s bs o) = a_selection (branch_count bs)
statement_skeleton (iteration s xs e b) = a_loop xs
statement_skeleton (breaks s) = a_break
statement_skeleton (continues s) = a_continue

abbrev pub skeleton : Any Nowhere → Skeleton
skeleton (an_expression e) = expression_skeleton e
skeleton (a_statement s) = statement_skeleton s
skeleton (a_block b) = a_sequence

-- ---- another node in a hole

abbrev Stays : {T K : Type 0} → (T → K) → T → Hole Nowhere T → Type 0
Stays f x h = (y : Node h.sort Nowhere) → f (h.back y) ≡ f x

-- where it leaves what is seen of a part, it leaves what is seen of the whole
around_stays : {T U K L : Type 0} (f : T → K) (g : U → L) (see : K → L) (before behind : List Word) (make : T → U) → ((z : T) → g (make z) ≡ see (f z)) → (x : T) (hs : List (Hole Nowhere T))
    → Every (Stays f x) hs → Every (Stays g (make x)) (all_around before behind make hs)
around_stays f g see before behind make are x hs every = every-around (Stays f x) (Stays g (make x)) before behind make (λ h stays y. are (h.back y) ∙ ap see (stays y) ∙ sym (are x)) hs every

all_of : {A : Type 0} (xs : List A) → Every (λ (x : A). ⊤) xs
all_of [] = tt
all_of (x ∷ xs) = (tt, all_of xs)

argument_stays : (a : Argument Nowhere) → Every (Stays blank a) (argument_children a)
argument_stays (plain e) = (λ y. refl, tt)
argument_stays (named s x e) = (λ y. refl, tt)
argument_stays (pair s e f) = (λ y. refl, (λ y. refl, tt))

arguments_stay : (list : Arguments Nowhere) (trailing : Bool) → Every (Stays blanks list) (arguments_children list trailing)
arguments_stay no_arguments trailing = tt
arguments_stay (argument a more) trailing =
    let behind = comma_words more trailing ++ arguments_words more trailing in
    let before = argument_words a ++ comma_words more trailing in
    every-append (Stays blanks (argument a more)) (all_around [] behind (λ x. argument x more) (argument_children a)) (all_around before [] (argument a) (arguments_children more trailing))
    (around_stays blank blanks (λ b. b ∷ blanks more) [] behind (λ x. argument x more) (λ z. refl) a (argument_children a) (argument_stays a))
    (around_stays blanks blanks (λ l. blank a ∷ l) before [] (argument a) (λ z. refl) more (arguments_children more trailing) (arguments_stay more trailing))

-- what is seen of a list
abbrev list_seen : Listing Nowhere → Bool × List (Argument Nowhere)
list_seen l = (trailing_of l, list_blanks l)

listing_stays : (l : Listing Nowhere) (b : Bracket) → Every (Stays list_seen l) (listing_children l b)
listing_stays (listing s trailing list) b =
    around_stays blanks list_seen (λ bs. (trailing, bs)) (mark (opens b)) (mark (closes b)) (listing s trailing) (λ z. refl) list (arguments_children list trailing) (arguments_stay list trailing)

operands_stay : (os : Operands Nowhere) → Every (Stays operators os) (operands_children os)
operands_stay no_operands = tt
operands_stay (operand o e more) = (λ y. refl, around_stays operators operators (λ l. o ∷ l) (operator_words o ++ expression_words e) [] (operand o e) (λ z. refl) more (operands_children more) (operands_stay more))

tail_stays : (t : Tail Nowhere) → Every (Stays blank_tail t) (tail_children t)
tail_stays (method s x l) =
    around_stays list_seen blank_tail (λ b. a_method x.text b.0 b.1) (mark k.Dot ++ (k.Identifier, x.text) ∷ []) [] (method s x) (λ z. refl) l (listing_children l bracket.Round) (listing_stays l bracket.Round)
tail_stays (index s e) = (λ y. refl, tt)

tails_stay : (ts : Tails Nowhere) → Every (Stays blank_tails ts) (tails_children ts)
tails_stay no_tails = tt
tails_stay (tail t more) =
    every-append (Stays blank_tails (tail t more)) (all_around [] (tails_words more) (λ x. tail x more) (tail_children t)) (all_around (tail_words t) [] (tail t) (tails_children more))
    (around_stays blank_tail blank_tails (λ b. b ∷ blank_tails more) [] (tails_words more) (λ x. tail x more) (λ z. refl) t (tail_children t) (tail_stays t))
    (around_stays blank_tails blank_tails (λ l. blank_tail t ∷ l) (tail_words t) [] (tail t) (λ z. refl) more (tails_children more) (tails_stay more))

list_stays : (see : Bool × List (Argument Nowhere) → Skeleton) (b : Bracket) (before : List Word) (make : Listing Nowhere → Expression Nowhere) → ((z : Listing Nowhere) → expression_skeleton (make z) ≡ see (list_seen z)) → (l : Listing Nowhere)
    → Every (Stays expression_skeleton (make l)) (all_around before [] make (listing_children l b))
list_stays see b before make are l = around_stays list_seen expression_skeleton see before [] make are l (listing_children l b) (listing_stays l b)

expression_stays : (e : Expression Nowhere) → Every (Stays expression_skeleton e) (expression_children e)
expression_stays (paren s e) = (λ y. refl, tt)
expression_stays (array l) = list_stays (λ b. a_list array_kind b.0 b.1) bracket.Square [] array (λ z. refl) l
expression_stays (dictionary l) = list_stays (λ b. a_list dictionary_kind b.0 b.1) bracket.Curly [] dictionary (λ z. refl) l
expression_stays (call s x l) = list_stays (λ b. a_list (call_kind x.text) b.0 b.1) bracket.Round ((k.Identifier, x.text) ∷ []) (call s x) (λ z. refl) l
expression_stays (unary s o e) = (λ y. refl, tt)
expression_stays (row s e os) = (λ y. refl, around_stays operators expression_skeleton a_row (expression_words e) [] (row s e) (λ z. refl) os (operands_children os) (operands_stay os))
expression_stays (postfix s e ts) = (λ y. refl, around_stays blank_tails expression_skeleton a_postfix (expression_words e) [] (postfix s e) (λ z. refl) ts (tails_children ts) (tails_stay ts))
expression_stays (conditional s c y n) = (λ z. refl, (λ z. refl, (λ z. refl, tt)))
expression_stays _ = tt

branches_stay : (bs : Branches Nowhere) (word : Kind) → Every (Stays branch_count bs) (branches_children bs word)
branches_stay no_branches word = tt
branches_stay (branch e b more) word = (
  λ y. refl,
  (
    λ y. refl,
    around_stays branch_count branch_count suc (mark word ++ (expression_words e ++ (new_line ∷ block_words b))) [] (branch e b) (λ z. refl) more (branches_children more k.WordElif) (branches_stay more k.WordElif),
  ),
)

statement_stays : (s : Statement Nowhere) → Every (Stays statement_skeleton s) (statement_children s)
statement_stays (evaluate e) = (λ y. refl, tt)
statement_stays (assign s x a e) = (λ y. refl, tt)
statement_stays (selection s bs o) =
    let behind = otherwise_words o ++ mark k.WordEndif in
    every-append (Stays statement_skeleton (selection s bs o)) (all_around [] behind (λ x. selection s x o) (branches_children bs k.WordIf)) (all_around (branches_words bs k.WordIf) (mark k.WordEndif) (selection s bs) (otherwise_children o))
    (around_stays branch_count statement_skeleton a_selection [] behind (λ x. selection s x o) (λ z. refl) bs (branches_children bs k.WordIf) (branches_stay bs k.WordIf))
    (every-around (λ h. ⊤) (Stays statement_skeleton (selection s bs o)) (branches_words bs k.WordIf) (mark k.WordEndif) (selection s bs) (λ h any y. refl) (otherwise_children o) (all_of (otherwise_children o)))
statement_stays (iteration s xs e b) = (λ y. refl, (λ y. refl, tt))
statement_stays _ = tt

abbrev pub SkeletonStays : (sort : Sort) → Node sort Nowhere → Hole Nowhere (Node sort Nowhere) → Type 0
SkeletonStays sort x h = (y : Node h.sort Nowhere) → skeleton (any_of Nowhere sort (h.back y)) ≡ skeleton (any_of Nowhere sort x)

pub skeletons_stay : (sort : Sort) (x : Node sort Nowhere) → Every (SkeletonStays sort x) (children Nowhere sort x)
skeletons_stay of_expression e = expression_stays e
skeletons_stay of_statement s = statement_stays s
skeletons_stay of_block (block s list) = every-around (λ h. ⊤) (SkeletonStays of_block (block s list)) [] [] (block s) (λ h any y. refl) (statements_children list) (all_of (statements_children list))

-- ---- a node is its skeleton with its children

abbrev name : List ℕ → Name Nowhere
name x = record { place = tt; text = x }

abbrev pub fill_list : List (Argument Nowhere) → List (Any Nowhere) → List (Argument Nowhere)
fill_list [] xs = []
fill_list (plain b ∷ bs) (an_expression e ∷ xs) = plain e ∷ fill_list bs xs
fill_list (named s x b ∷ bs) (an_expression e ∷ xs) = named s x e ∷ fill_list bs xs
fill_list (pair s b d ∷ bs) (an_expression e ∷ an_expression f ∷ xs) = pair s e f ∷ fill_list bs xs
fill_list _ _ = []

abbrev pub fill_operands : List Operator → List (Any Nowhere) → Operands Nowhere
fill_operands (o ∷ os) (an_expression e ∷ xs) = operand o e (fill_operands os xs)
fill_operands _ _ = no_operands

-- how many children the arguments have
abbrev pub part_count : List (Argument Nowhere) → ℕ
part_count list = length (arguments_parts (arguments_of list))

abbrev pub fill_tails : List BlankTail → List (Any Nowhere) → Tails Nowhere
fill_tails (a_method f c bs ∷ ts) xs = tail (method tt (name f) (listing tt c (arguments_of (fill_list bs xs)))) (fill_tails ts (drop (part_count (fill_list bs xs)) xs))
fill_tails (an_index ∷ ts) (an_expression e ∷ xs) = tail (index tt e) (fill_tails ts xs)
fill_tails _ _ = no_tails

abbrev pub fill_branches : ℕ → List (Any Nowhere) → Branches Nowhere
fill_branches (suc n) (an_expression e ∷ a_block b ∷ xs) = branch e b (fill_branches n xs)
fill_branches _ _ = no_branches

abbrev pub fill_else : List (Any Nowhere) → Otherwise Nowhere
fill_else (a_block b ∷ xs) = otherwise b
fill_else _ = nothing_else

abbrev pub fill_statements : List (Any Nowhere) → Statements Nowhere
fill_statements (a_statement s ∷ xs) = statement s (fill_statements xs)
fill_statements _ = no_statements

abbrev pub of_kind : ListKind → Listing Nowhere → Expression Nowhere
of_kind array_kind l = array l
of_kind dictionary_kind l = dictionary l
of_kind (call_kind f) l = call tt (name f) l

abbrev pub fill_other : Skeleton → List (Any Nowhere) → Any Nowhere
fill_other (an_identifier x) xs = an_expression (identifier tt x)
fill_other (a_boolean x) xs = an_expression (boolean tt x)
fill_other (an_integer x) xs = an_expression (integer tt x)
fill_other (a_string q x) xs = an_expression (string tt q x)
fill_other a_paren (an_expression e ∷ xs) = an_expression (paren tt e)
fill_other (a_unary o) (an_expression e ∷ xs) = an_expression (unary tt o e)
fill_other (a_row os) (an_expression e ∷ xs) = an_expression (row tt e (fill_operands os xs))
fill_other (a_postfix ts) (an_expression e ∷ xs) = an_expression (postfix tt e (fill_tails ts xs))
fill_other a_conditional (an_expression c ∷ an_expression y ∷ an_expression n ∷ xs) = an_expression (conditional tt c y n)
fill_other an_evaluation (an_expression e ∷ xs) = a_statement (evaluate e)
fill_other (an_assignment x a) (an_expression e ∷ xs) = a_statement (assign tt (name x) a e)
fill_other (a_selection n) xs = a_statement (selection tt (fill_branches n xs) (fill_else (drop (length (branches_parts (fill_branches n xs))) xs)))
fill_other (a_loop names) (an_expression e ∷ a_block b ∷ xs) = a_statement (iteration tt names e b)
fill_other a_break xs = a_statement (breaks tt)
fill_other a_continue xs = a_statement (continues tt)
fill_other a_sequence xs = a_block (block tt (fill_statements xs))
fill_other _ _ = an_expression some_value

-- with lists that are made of a comma and elements
abbrev pub fill : (Bool → List (Argument Nowhere) → Listing Nowhere) → Skeleton → List (Any Nowhere) → Any Nowhere
fill make (a_list kind c bs) xs = an_expression (of_kind kind (make c (fill_list bs xs)))
fill make k xs = fill_other k xs

abbrev pub whole_list : Bool → List (Argument Nowhere) → Listing Nowhere
whole_list c list = listing tt c (arguments_of list)

arguments_filled : (list : Arguments Nowhere) (rest : List (Any Nowhere)) → arguments_of (fill_list (blanks list) (arguments_parts list ++ rest)) ≡ list
arguments_filled no_arguments rest = refl
arguments_filled (argument (plain e) more) rest = ap (argument (plain e)) (arguments_filled more rest)
arguments_filled (argument (named s x e) more) rest = ap (argument (named s x e)) (arguments_filled more rest)
arguments_filled (argument (pair s e f) more) rest = ap (argument (pair s e f)) (arguments_filled more rest)

pub list_filled : (list : Arguments Nowhere) → arguments_of (fill_list (blanks list) (arguments_parts list)) ≡ list
list_filled list = ap (λ ps. arguments_of (fill_list (blanks list) ps)) (sym (append-nil (arguments_parts list))) ∙ arguments_filled list []

operands_filled : (os : Operands Nowhere) → fill_operands (operators os) (operands_parts os) ≡ os
operands_filled no_operands = refl
operands_filled (operand o e more) = ap (operand o e) (operands_filled more)

tails_filled : (ts : Tails Nowhere) → fill_tails (blank_tails ts) (tails_parts ts) ≡ ts
tails_filled no_tails = refl
tails_filled (tail (method s x (listing r c list)) more) =
    let is = arguments_filled list (tails_parts more) in
    ap₂ (λ l k. tail (method s x (listing r c l)) k) is
    (ap (λ l. fill_tails (blank_tails more) (drop (length (arguments_parts l)) (arguments_parts list ++ tails_parts more))) is
    ∙ ap (fill_tails (blank_tails more)) (drop-append_seam (arguments_parts list) (tails_parts more)) ∙ tails_filled more)
tails_filled (tail (index s e) more) = ap (tail (index s e)) (tails_filled more)

branches_filled : (bs : Branches Nowhere) (rest : List (Any Nowhere)) → fill_branches (branch_count bs) (branches_parts bs ++ rest) ≡ bs
branches_filled no_branches rest = refl
branches_filled (branch e b more) rest = ap (branch e b) (branches_filled more rest)

else_filled : (o : Otherwise Nowhere) → fill_else (otherwise_parts o) ≡ o
else_filled nothing_else = refl
else_filled (otherwise b) = refl

statements_filled : (list : Statements Nowhere) → fill_statements (statements_parts list) ≡ list
statements_filled no_statements = refl
statements_filled (statement s more) = ap (statement s) (statements_filled more)

listing_filled : (make : Listing Nowhere → Any Nowhere) (l : Listing Nowhere) → make (whole_list (trailing_of l) (fill_list (list_blanks l) (listing_parts l))) ≡ make l
listing_filled make (listing s c list) = ap (λ xs. make (listing s c xs)) (list_filled list)

pub filled : (x : Any Nowhere) → fill whole_list (skeleton x) (child_nodes x) ≡ x
filled (an_expression (array l)) = listing_filled (λ m. an_expression (array m)) l
filled (an_expression (dictionary l)) = listing_filled (λ m. an_expression (dictionary m)) l
filled (an_expression (call s x l)) = listing_filled (λ m. an_expression (call s x m)) l
filled (an_expression (row s e os)) = ap (λ ps. an_expression (row s e ps)) (operands_filled os)
filled (an_expression (postfix s e ts)) = ap (λ us. an_expression (postfix s e us)) (tails_filled ts)
filled (an_expression _) = refl
filled (a_statement (selection s bs o)) =
    let is = branches_filled bs (otherwise_parts o) in
    ap₂ (λ cs p. a_statement (selection s cs p)) is
    (ap (λ cs. fill_else (drop (length (branches_parts cs)) (branches_parts bs ++ otherwise_parts o))) is ∙ ap fill_else (drop-append_seam (branches_parts bs) (otherwise_parts o)) ∙ else_filled o)
filled (a_statement _) = refl
filled (a_block (block s list)) = ap (λ xs. a_block (block s xs)) (statements_filled list)

-- with the same blanks and values
pub same_arguments : (xs ys : Arguments Nowhere) → blanks ys ≡ blanks xs → arguments_parts xs ≡ arguments_parts ys → ys ≡ xs
same_arguments xs ys bs parts = sym (list_filled ys) ∙ ap₂ (λ b ps. arguments_of (fill_list b ps)) bs (sym parts) ∙ list_filled xs

pub same_operands : (xs ys : Operands Nowhere) → operators ys ≡ operators xs → operands_parts xs ≡ operands_parts ys → ys ≡ xs
same_operands xs ys signs parts = sym (operands_filled ys) ∙ ap₂ fill_operands signs (sym parts) ∙ operands_filled xs
