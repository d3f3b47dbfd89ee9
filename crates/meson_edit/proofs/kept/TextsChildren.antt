-- The children of a node with the texts of a source are those of the node, each with its texts.
use Rattle.meson_edit.proofs.Words.{◌≡◌, ℕ, zero, suc, Bool, List, [], ◌∷◌, ◌++◌, refl, ap, ◌∙◌, Word, new_line, Kind, Span, mark, operator_words, comma_words}
use Rattle.meson_edit.proofs.Words.{argument_words, arguments_words, expression_words, tail_words, tails_words, statement_words, branches_words}
use Rattle.meson_edit.proofs.Words.{otherwise_words, block_words, opens, closes, Sort, of_expression, of_statement, of_block, Node, Hole, around, all_around}
use Rattle.meson_edit.proofs.Words.{nth, argument_children, arguments_children, listing_children, operands_children, tail_children, tails_children}
use Rattle.meson_edit.proofs.Words.{expression_children, branches_children, otherwise_children, statement_children, statements_children, block_children}
use Rattle.meson_edit.proofs.Words.{children, texts_of_name, texts_of_expression, texts_of_operands, texts_of_tail, texts_of_tails, texts_of_listing}
use Rattle.meson_edit.proofs.Words.{texts_of_argument, texts_of_arguments, texts_of_statement, texts_of_branches, texts_of_otherwise, texts_of_statements}
use Rattle.meson_edit.proofs.Words.{texts_of_block, Expression, identifier, boolean, integer, string, paren, array, dictionary, call, unary, row, postfix}
use Rattle.meson_edit.proofs.Words.{conditional, Operands, no_operands, operand, Tail, method, index, Tails, no_tails, tail, Listing, listing, Argument, plain}
use Rattle.meson_edit.proofs.Words.{named, pair, Arguments, no_arguments, argument, Statement, evaluate, assign, selection, iteration, breaks, continues}
use Rattle.meson_edit.proofs.Words.{Branches, no_branches, branch, Otherwise, nothing_else, otherwise, Statements, no_statements, statement, Block, block}
use Rattle.meson_edit.proofs.Words.{Bracket, InBoth, neither, both}
use Rattle.meson_lex.specs.declared.kinds.Kind.TheVariants as k
use Rattle.meson_syntax.specs.declared.operator.Bracket.TheVariants as bracket

module _ (source : List ℕ) where
  abbrev pub texts_of_node : (sort : Sort) → Node sort Span → Node sort Span
  texts_of_node of_expression e = texts_of_expression source e
  texts_of_node of_statement s = texts_of_statement source s
  texts_of_node of_block b = texts_of_block source b

  -- The same hole in both: to put another node there and give the whole its texts is the same as to put the node with its texts there.
  pub data TextsHole {A : Type 0} (texts : A → A) : Hole Span A → Hole Span A → Type 0 where
    texts : (sort : Sort) (x : Node sort Span) {before before' behind behind' : List Word} (back back' : Node sort Span → A)
        → ((y : Node sort Span) → back' (texts_of_node sort y) ≡ texts (back y))
        → TextsHole texts (record { sort = sort; inside = x; before = before; behind = behind; back = back })
        (record { sort = sort; inside = texts_of_node sort x; before = before'; behind = behind'; back = back' })

  pub data TextsHoles {A : Type 0} (texts : A → A) : List (Hole Span A) → List (Hole Span A) → Type 0 where
    none : TextsHoles texts [] []
    also : {x z : Hole Span A} {xs zs : List (Hole Span A)} → TextsHole texts x z → TextsHoles texts xs zs → TextsHoles texts (x ∷ xs) (z ∷ zs)

  -- a hole in a part, in the whole
  pub texts-around : {A B : Type 0} (of : A → A) (whole : B → B) (before before' behind behind' : List Word) (make make' : A → B)
      → ((y : A) → make' (of y) ≡ whole (make y)) → (x z : Hole Span A) → TextsHole of x z
      → TextsHole whole (around before behind make x) (around before' behind' make' z)
  texts-around of whole before before' behind behind' make make' same x z (texts sort inside back back' agree) =
      texts sort inside (λ y. make (back y)) (λ y. make' (back' y)) (λ y. ap make' (agree y) ∙ same (back y))

  within : {A B : Type 0} {of : A → A} {whole : B → B} {xs zs : List (Hole Span A)} (before before' behind behind' : List Word) (make make' : A → B)
      → ((y : A) → make' (of y) ≡ whole (make y)) → TextsHoles of xs zs
      → TextsHoles whole (all_around before behind make xs) (all_around before' behind' make' zs)
  within b b' c c' make make' same none = none
  within {of = of} {whole = whole} b b' c c' make make' same (also {x} {z} m ms) =
      also (texts-around of whole b b' c c' make make' same x z m) (within b b' c c' make make' same ms)

  then : {A : Type 0} {of : A → A} {xs ys zs ws : List (Hole Span A)} → TextsHoles of xs zs → TextsHoles of ys ws → TextsHoles of (xs ++ ys) (zs ++ ws)
  then none n = n
  then (also m ms) n = also m (then ms n)

  pub nth-texts : {A : Type 0} (of : A → A) (xs zs : List (Hole Span A)) → TextsHoles of xs zs → (n : ℕ) → InBoth (TextsHole of) (nth xs n) (nth zs n)
  nth-texts of xs zs none n = neither
  nth-texts of xs zs (also {x} {z} m ms) zero = both x z m
  nth-texts of xs zs (also {xs = more} {zs = rest} m ms) (suc n) = nth-texts of more rest ms n

  -- a child that is an expression, or a block, itself
  one : {A : Type 0} {of : A → A} {before before' behind behind' : List Word} (e : Expression Span) (back back' : Expression Span → A)
      → ((y : Expression Span) → back' (texts_of_expression source y) ≡ of (back y))
      → TextsHole of (record { sort = of_expression; inside = e; before = before; behind = behind; back = back })
      (record { sort = of_expression; inside = texts_of_expression source e; before = before'; behind = behind'; back = back' })
  one e back back' agree = texts of_expression e back back' agree

  -- ---- expressions

  argument-texts : (a : Argument Span) → TextsHoles (texts_of_argument source) (argument_children a) (argument_children (texts_of_argument source a))
  argument-texts (plain e) = also (one e _ _ (λ y. refl)) none
  argument-texts (named s x e) = also (one e _ _ (λ y. refl)) none
  argument-texts (pair s e f) = also (one e _ _ (λ y. refl)) (also (one f _ _ (λ y. refl)) none)

  arguments-texts : (list : Arguments Span) (trailing : Bool)
      → TextsHoles (texts_of_arguments source) (arguments_children list trailing) (arguments_children (texts_of_arguments source list) trailing)
  arguments-texts no_arguments trailing = none
  arguments-texts (argument a more) trailing =
      then
      (within [] [] (comma_words more trailing ++ arguments_words more trailing) (comma_words (texts_of_arguments source more) trailing ++ arguments_words (texts_of_arguments source more) trailing)
      (λ x. argument x more) (λ x. argument x (texts_of_arguments source more)) (λ y. refl) (argument-texts a))
      (within (argument_words a ++ comma_words more trailing) (argument_words (texts_of_argument source a) ++ comma_words (texts_of_arguments source more) trailing) [] [] (argument a) (argument (texts_of_argument source a)) (λ y. refl) (arguments-texts more trailing))

  listing-texts : (l : Listing Span) (b : Bracket) → TextsHoles (texts_of_listing source) (listing_children l b) (listing_children (texts_of_listing source l) b)
  listing-texts (listing s trailing list) b = within (mark (opens b)) (mark (opens b)) (mark (closes b)) (mark (closes b)) (listing s trailing) (listing s trailing) (λ y. refl) (arguments-texts list trailing)

  operands-texts : (os : Operands Span) → TextsHoles (texts_of_operands source) (operands_children os) (operands_children (texts_of_operands source os))
  operands-texts no_operands = none
  operands-texts (operand o e more) =
      also (one e _ _ (λ y. refl)) (within (operator_words o ++ expression_words e) (operator_words o ++ expression_words (texts_of_expression source e)) [] [] (operand o e) (operand o (texts_of_expression source e)) (λ y. refl) (operands-texts more))

  tail-texts : (t : Tail Span) → TextsHoles (texts_of_tail source) (tail_children t) (tail_children (texts_of_tail source t))
  tail-texts (method s x l) = within (mark k.Dot ++ (k.Identifier, x.text) ∷ []) (mark k.Dot ++ (k.Identifier, (texts_of_name source x).text) ∷ []) [] [] (method s x) (method s (texts_of_name source x)) (λ y. refl) (listing-texts l bracket.Round)
  tail-texts (index s e) = also (one e _ _ (λ y. refl)) none

  tails-texts : (ts : Tails Span) → TextsHoles (texts_of_tails source) (tails_children ts) (tails_children (texts_of_tails source ts))
  tails-texts no_tails = none
  tails-texts (tail t more) =
      then
      (within [] [] (tails_words more) (tails_words (texts_of_tails source more)) (λ x. tail x more) (λ x. tail x (texts_of_tails source more)) (λ y. refl) (tail-texts t))
      (within (tail_words t) (tail_words (texts_of_tail source t)) [] [] (tail t) (tail (texts_of_tail source t)) (λ y. refl) (tails-texts more))

  expression-texts : (e : Expression Span) → TextsHoles (texts_of_expression source) (expression_children e) (expression_children (texts_of_expression source e))
  expression-texts (identifier s x) = none
  expression-texts (boolean s b) = none
  expression-texts (integer s x) = none
  expression-texts (string s q x) = none
  expression-texts (paren s e) = also (one e _ _ (λ y. refl)) none
  expression-texts (array l) = within [] [] [] [] array array (λ y. refl) (listing-texts l bracket.Square)
  expression-texts (dictionary l) = within [] [] [] [] dictionary dictionary (λ y. refl) (listing-texts l bracket.Curly)
  expression-texts (call s x l) = within ((k.Identifier, x.text) ∷ []) ((k.Identifier, (texts_of_name source x).text) ∷ []) [] [] (call s x) (call s (texts_of_name source x)) (λ y. refl) (listing-texts l bracket.Round)
  expression-texts (unary s o e) = also (one e _ _ (λ y. refl)) none
  expression-texts (row s e os) =
      also (one e _ _ (λ y. refl)) (within (expression_words e) (expression_words (texts_of_expression source e)) [] [] (row s e) (row s (texts_of_expression source e)) (λ y. refl) (operands-texts os))
  expression-texts (postfix s e ts) =
      also (one e _ _ (λ y. refl)) (within (expression_words e) (expression_words (texts_of_expression source e)) [] [] (postfix s e) (postfix s (texts_of_expression source e)) (λ y. refl) (tails-texts ts))
  expression-texts (conditional s c y n) = also (one c _ _ (λ z. refl)) (also (one y _ _ (λ z. refl)) (also (one n _ _ (λ z. refl)) none))

  -- ---- statements

  branches-texts : (bs : Branches Span) (word : Kind)
      → TextsHoles (texts_of_branches source) (branches_children bs word) (branches_children (texts_of_branches source bs) word)
  branches-texts no_branches word = none
  branches-texts (branch e b more) word =
      also (one e _ _ (λ y. refl))
      (also (texts of_block b _ _ (λ y. refl))
      (within (mark word ++ (expression_words e ++ (new_line ∷ block_words b)))
      (mark word ++ (expression_words (texts_of_expression source e) ++ (new_line ∷ block_words (texts_of_block source b)))) [] [] (branch e b) (branch (texts_of_expression source e) (texts_of_block source b)) (λ y. refl) (branches-texts more k.WordElif)))

  otherwise-texts : (o : Otherwise Span) → TextsHoles (texts_of_otherwise source) (otherwise_children o) (otherwise_children (texts_of_otherwise source o))
  otherwise-texts nothing_else = none
  otherwise-texts (otherwise b) = also (texts of_block b _ _ (λ y. refl)) none

  statement-texts : (s : Statement Span) → TextsHoles (texts_of_statement source) (statement_children s) (statement_children (texts_of_statement source s))
  statement-texts (evaluate e) = also (one e _ _ (λ y. refl)) none
  statement-texts (assign s x a e) = also (one e _ _ (λ y. refl)) none
  statement-texts (selection s bs o) =
      then
      (within [] [] (otherwise_words o ++ mark k.WordEndif) (otherwise_words (texts_of_otherwise source o) ++ mark k.WordEndif) (λ x. selection s x o) (λ x. selection s x (texts_of_otherwise source o)) (λ y. refl) (branches-texts bs k.WordIf))
      (within (branches_words bs k.WordIf) (branches_words (texts_of_branches source bs) k.WordIf) (mark k.WordEndif) (mark k.WordEndif) (selection s bs) (selection s (texts_of_branches source bs)) (λ y. refl) (otherwise-texts o))
  statement-texts (iteration s xs e b) = also (one e _ _ (λ y. refl)) (also (texts of_block b _ _ (λ y. refl)) none)
  statement-texts (breaks s) = none
  statement-texts (continues s) = none

  statements-texts : (list : Statements Span) → TextsHoles (texts_of_statements source) (statements_children list) (statements_children (texts_of_statements source list))
  statements-texts no_statements = none
  statements-texts (statement s more) =
      also (texts of_statement s _ _ (λ y. refl))
      (within (statement_words s ++ new_line ∷ []) (statement_words (texts_of_statement source s) ++ new_line ∷ []) [] [] (statement s) (statement (texts_of_statement source s)) (λ y. refl) (statements-texts more))

  block-texts : (b : Block Span) → TextsHoles (texts_of_block source) (block_children b) (block_children (texts_of_block source b))
  block-texts (block s list) = within [] [] [] [] (block s) (block s) (λ y. refl) (statements-texts list)

  pub children-texts : (sort : Sort) (x : Node sort Span) → TextsHoles (texts_of_node sort) (children Span sort x) (children Span sort (texts_of_node sort x))
  children-texts of_expression e = expression-texts e
  children-texts of_statement s = statement-texts s
  children-texts of_block b = block-texts b
