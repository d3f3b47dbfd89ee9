-- A tree that is mapped has the same words as before: without what its nodes carry it is the same tree.
use Rattle.meson_edit.proofs.Words.{map, ◌≡◌, Bool, List, [], ◌∷◌, refl, sym, ap, ap₂, ◌∙◌, Kind, names_words, comma_words, expression_words, operands_words}
use Rattle.meson_edit.proofs.Words.{tails_words, tail_words, argument_words, arguments_words, statement_words, branches_words, otherwise_words}
use Rattle.meson_edit.proofs.Words.{statements_words, block_words, Name, Expression, identifier, boolean, integer, string, paren, array, dictionary, call}
use Rattle.meson_edit.proofs.Words.{unary, row, postfix, conditional, Operands, no_operands, operand, Tail, method, index, Tails, no_tails, tail, Listing}
use Rattle.meson_edit.proofs.Words.{listing, Argument, plain, named, pair, Arguments, no_arguments, argument, Statement, evaluate, assign, selection, iteration}
use Rattle.meson_edit.proofs.Words.{breaks, continues, Branches, no_branches, branch, Otherwise, nothing_else, otherwise, Statements, no_statements, statement}
use Rattle.meson_edit.proofs.Words.{Block, block, File, file, bare_name, erase, erase_name, erase_names, erase_expression, erase_operands, erase_tail}
use Rattle.meson_edit.proofs.Words.{erase_tails, erase_listing, erase_argument, erase_arguments, erase_statement, erase_branches, erase_otherwise}
use Rattle.meson_edit.proofs.Words.{erase_statements, erase_block, comma-erased, expression-words-erased, operands-words-erased, tail-words-erased}
use Rattle.meson_edit.proofs.Words.{tails-words-erased, argument-words-erased, arguments-words-erased, statement-words-erased, branches-words-erased}
use Rattle.meson_edit.proofs.Words.{otherwise-words-erased, statements-words-erased, block-words-erased, names-words-erased, each_name, each_expression}
use Rattle.meson_edit.proofs.Words.{each_operands, each_tail, each_tails, each_listing, each_argument, each_arguments, each_statement, each_branches}
use Rattle.meson_edit.proofs.Words.{each_otherwise, each_statements, each_block, each_file}

module _ {S T : Type 0} (h : S → T) where
  names-each : (xs : List (Name S)) → erase_names (map (each_name h) xs) ≡ erase_names xs
  names-each [] = refl
  names-each (x ∷ xs) = ap (λ l. bare_name x.text ∷ l) (names-each xs)

  mutual
    pub expression-each : (e : Expression S) → erase_expression (each_expression h e) ≡ erase_expression e
    expression-each (identifier s x) = refl
    expression-each (boolean s b) = refl
    expression-each (integer s x) = refl
    expression-each (string s q x) = refl
    expression-each (paren s e) = ap (paren tt) (expression-each e)
    expression-each (array l) = ap array (listing-each l)
    expression-each (dictionary l) = ap dictionary (listing-each l)
    expression-each (call s x l) = ap (call tt (erase_name x)) (listing-each l)
    expression-each (unary s o e) = ap (unary tt o) (expression-each e)
    expression-each (row s e os) = ap₂ (row tt) (expression-each e) (operands-each os)
    expression-each (postfix s e ts) = ap₂ (postfix tt) (expression-each e) (tails-each ts)
    expression-each (conditional s c y n) =
        ap₂ (λ c y. conditional tt c y (erase_expression (each_expression h n))) (expression-each c) (expression-each y)
        ∙ ap (conditional tt (erase_expression c) (erase_expression y)) (expression-each n)

    operands-each : (os : Operands S) → erase_operands (each_operands h os) ≡ erase_operands os
    operands-each no_operands = refl
    operands-each (operand o e more) = ap₂ (operand o) (expression-each e) (operands-each more)

    tail-each : (t : Tail S) → erase_tail (each_tail h t) ≡ erase_tail t
    tail-each (method s x l) = ap (method tt (erase_name x)) (listing-each l)
    tail-each (index s e) = ap (index tt) (expression-each e)

    tails-each : (ts : Tails S) → erase_tails (each_tails h ts) ≡ erase_tails ts
    tails-each no_tails = refl
    tails-each (tail t more) = ap₂ tail (tail-each t) (tails-each more)

    pub listing-each : (l : Listing S) → erase_listing (each_listing h l) ≡ erase_listing l
    listing-each (listing s trailing list) = ap (listing tt trailing) (arguments-each list)

    argument-each : (a : Argument S) → erase_argument (each_argument h a) ≡ erase_argument a
    argument-each (plain e) = ap plain (expression-each e)
    argument-each (named s x e) = ap (named tt (erase_name x)) (expression-each e)
    argument-each (pair s e f) = ap₂ (pair tt) (expression-each e) (expression-each f)

    arguments-each : (list : Arguments S) → erase_arguments (each_arguments h list) ≡ erase_arguments list
    arguments-each no_arguments = refl
    arguments-each (argument a more) = ap₂ argument (argument-each a) (arguments-each more)

  mutual
    statement-each : (s : Statement S) → erase_statement (each_statement h s) ≡ erase_statement s
    statement-each (evaluate e) = ap evaluate (expression-each e)
    statement-each (assign s x a e) = ap (assign tt (erase_name x) a) (expression-each e)
    statement-each (selection s bs o) = ap₂ (selection tt) (branches-each bs) (otherwise-each o)
    statement-each (iteration s xs e b) =
        ap₂ (λ x e. iteration tt x e (erase_block (each_block h b))) (names-each xs) (expression-each e)
        ∙ ap (iteration tt (erase_names xs) (erase_expression e)) (block-each b)
    statement-each (breaks s) = refl
    statement-each (continues s) = refl

    branches-each : (bs : Branches S) → erase_branches (each_branches h bs) ≡ erase_branches bs
    branches-each no_branches = refl
    branches-each (branch e b more) =
        ap₂ (λ e b. branch e b (erase_branches (each_branches h more))) (expression-each e) (block-each b)
        ∙ ap (branch (erase_expression e) (erase_block b)) (branches-each more)

    otherwise-each : (o : Otherwise S) → erase_otherwise (each_otherwise h o) ≡ erase_otherwise o
    otherwise-each nothing_else = refl
    otherwise-each (otherwise b) = ap otherwise (block-each b)

    statements-each : (list : Statements S) → erase_statements (each_statements h list) ≡ erase_statements list
    statements-each no_statements = refl
    statements-each (statement s more) = ap₂ statement (statement-each s) (statements-each more)

    pub block-each : (b : Block S) → erase_block (each_block h b) ≡ erase_block b
    block-each (block s list) = ap (block tt) (statements-each list)

  pub file-each : (f : File S) → erase (each_file h f) ≡ erase f
  file-each (file s b) = ap (file tt) (block-each b)

  -- ---- words

  pub names-words-each : (xs : List (Name S)) → names_words (map (each_name h) xs) ≡ names_words xs
  names-words-each xs = sym (names-words-erased (map (each_name h) xs)) ∙ ap names_words (names-each xs) ∙ names-words-erased xs

  pub comma-each : (list : Arguments S) (trailing : Bool) → comma_words (each_arguments h list) trailing ≡ comma_words list trailing
  comma-each list trailing =
      sym (comma-erased (each_arguments h list) trailing) ∙ ap (λ l. comma_words l trailing) (arguments-each list) ∙ comma-erased list trailing

  pub expression-words-each : (e : Expression S) → expression_words (each_expression h e) ≡ expression_words e
  expression-words-each e = sym (expression-words-erased (each_expression h e)) ∙ ap expression_words (expression-each e) ∙ expression-words-erased e

  pub operands-words-each : (os : Operands S) → operands_words (each_operands h os) ≡ operands_words os
  operands-words-each os = sym (operands-words-erased (each_operands h os)) ∙ ap operands_words (operands-each os) ∙ operands-words-erased os

  pub tail-words-each : (t : Tail S) → tail_words (each_tail h t) ≡ tail_words t
  tail-words-each t = sym (tail-words-erased (each_tail h t)) ∙ ap tail_words (tail-each t) ∙ tail-words-erased t

  pub tails-words-each : (ts : Tails S) → tails_words (each_tails h ts) ≡ tails_words ts
  tails-words-each ts = sym (tails-words-erased (each_tails h ts)) ∙ ap tails_words (tails-each ts) ∙ tails-words-erased ts

  pub argument-words-each : (a : Argument S) → argument_words (each_argument h a) ≡ argument_words a
  argument-words-each a = sym (argument-words-erased (each_argument h a)) ∙ ap argument_words (argument-each a) ∙ argument-words-erased a

  pub arguments-words-each : (list : Arguments S) (trailing : Bool) → arguments_words (each_arguments h list) trailing ≡ arguments_words list trailing
  arguments-words-each list trailing =
      sym (arguments-words-erased (each_arguments h list) trailing) ∙ ap (λ l. arguments_words l trailing) (arguments-each list)
      ∙ arguments-words-erased list trailing

  pub statement-words-each : (s : Statement S) → statement_words (each_statement h s) ≡ statement_words s
  statement-words-each s = sym (statement-words-erased (each_statement h s)) ∙ ap statement_words (statement-each s) ∙ statement-words-erased s

  pub branches-words-each : (bs : Branches S) (word : Kind) → branches_words (each_branches h bs) word ≡ branches_words bs word
  branches-words-each bs word =
      sym (branches-words-erased (each_branches h bs) word) ∙ ap (λ b. branches_words b word) (branches-each bs) ∙ branches-words-erased bs word

  pub otherwise-words-each : (o : Otherwise S) → otherwise_words (each_otherwise h o) ≡ otherwise_words o
  otherwise-words-each o = sym (otherwise-words-erased (each_otherwise h o)) ∙ ap otherwise_words (otherwise-each o) ∙ otherwise-words-erased o

  pub statements-words-each : (list : Statements S) → statements_words (each_statements h list) ≡ statements_words list
  statements-words-each list =
      sym (statements-words-erased (each_statements h list)) ∙ ap statements_words (statements-each list) ∙ statements-words-erased list

  pub block-words-each : (b : Block S) → block_words (each_block h b) ≡ block_words b
  block-words-each b = sym (block-words-erased (each_block h b)) ∙ ap block_words (block-each b) ∙ block-words-erased b
