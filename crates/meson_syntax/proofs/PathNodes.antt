-- The node that a path names is the one inside the hole that it reaches.
use Rattle.std.specs.Prelude.{option_map, option_and_then}
use Rattle.std.proofs.Common.{◌≡◌, ℕ, zero, suc, Bool, List, [], ◌∷◌, ◌++◌, length, map, Option, Some, None, refl, sym, ap, ap₂, ◌∙◌}
use Rattle.std.proofs.lemmas.List.{length-map}
use Rattle.meson_lex.specs.declared.kinds.Kind.{Kind}
use Rattle.meson_lex.specs.Significant.{Word, new_line}
use Rattle.meson_syntax.specs.Operators.{opens, closes}
use Rattle.meson_syntax.specs.Grammar.{mark, comma_words, operator_words, expression_words, tail_words, tails_words, argument_words, arguments_words, statement_words, branches_words, otherwise_words, block_words}
use Rattle.meson_syntax.specs.declared.operator.Bracket.{Bracket}
use Rattle.meson_syntax.specs.declared.operator.Bracket.TheVariants as bracket
use Rattle.meson_lex.specs.declared.kinds.Kind.TheVariants as k
use Rattle.meson_syntax.specs.Tree.{Expression, identifier, boolean, integer, string, paren, array, dictionary, call, unary, row, postfix, conditional, Operands, no_operands, operand, Tail, method, index, Tails, no_tails, tail, Listing, listing, Argument, plain, named, pair, Arguments, no_arguments, argument, Statement, evaluate, assign, selection, iteration, breaks, continues, Branches, no_branches, branch, Otherwise, nothing_else, otherwise, Statements, no_statements, statement, Block, block, File}
use Rattle.meson_syntax.specs.Paths.{Sort, of_expression, of_statement, of_block, Node, Hole, around, all_around, nth, children, nth_hole, reach, block_of, argument_children, arguments_children, listing_children, operands_children, tail_children, tails_children, expression_children, branches_children, otherwise_children, statement_children, statements_children, block_children, expression_of, expression_on_path, ListIn, list_in, ListAt, list_within, list_of_node, list_at}
use Rattle.meson_syntax.specs.Children.{Any, an_expression, a_statement, a_block, argument_parts, arguments_parts, listing_parts, tail_parts, branches_parts}
use Rattle.meson_syntax.specs.inside.Children.{any_of, operands_parts, tails_parts, expression_parts, otherwise_parts, statement_parts, statements_parts, block_parts, child_nodes, node_at, expression_any}

module _ (S : Type 0) where
  unfoldable pub inside_of : {T : Type 0} → Hole S T → Any S
  inside_of h = any_of S h.sort h.inside

  insides : {T : Type 0} → List (Hole S T) → List (Any S)
  unfolding inside_of
  insides hs = map inside_of hs

  insides-around : {T U : Type 0} (before behind : List Word) (make : T → U) (hs : List (Hole S T)) → insides (all_around before behind make hs) ≡ insides hs
  unfolding inside_of insides
  insides-around before behind make [] = refl
  insides-around before behind make (h ∷ hs) = ap (λ l. inside_of h ∷ l) (insides-around before behind make hs)

  insides-append : {T : Type 0} (hs gs : List (Hole S T)) → insides (hs ++ gs) ≡ insides hs ++ insides gs
  unfolding inside_of insides
  insides-append [] gs = refl
  insides-append (h ∷ hs) gs = ap (λ l. inside_of h ∷ l) (insides-append hs gs)

  -- ---- children

  argument-insides : (a : Argument S) → insides (argument_children a) ≡ argument_parts a
  unfolding inside_of insides
  argument-insides (plain e) = refl
  argument-insides (named s x e) = refl
  argument-insides (pair s e f) = refl

  arguments-insides : (list : Arguments S) (trailing : Bool) → insides (arguments_children list trailing) ≡ arguments_parts list
  unfolding inside_of insides
  arguments-insides no_arguments trailing = refl
  arguments-insides (argument a more) trailing =
      let behind = comma_words more trailing ++ arguments_words more trailing in
      let before = argument_words a ++ comma_words more trailing in
      insides-append (all_around [] behind (λ x. argument x more) (argument_children a)) (all_around before [] (argument a) (arguments_children more trailing))
      ∙ ap₂ (λ x y. x ++ y) (insides-around [] behind (λ x. argument x more) (argument_children a) ∙ argument-insides a) (insides-around before [] (argument a) (arguments_children more trailing) ∙ arguments-insides more trailing)

  listing-insides : (l : Listing S) (b : Bracket) → insides (listing_children l b) ≡ listing_parts l
  listing-insides (listing s trailing list) b = insides-around (mark (opens b)) (mark (closes b)) (listing s trailing) (arguments_children list trailing) ∙ arguments-insides list trailing

  operands-insides : (os : Operands S) → insides (operands_children os) ≡ operands_parts os
  unfolding inside_of insides
  operands-insides no_operands = refl
  operands-insides (operand o e more) = ap (λ l. an_expression e ∷ l) (insides-around (operator_words o ++ expression_words e) [] (operand o e) (operands_children more) ∙ operands-insides more)

  tail-insides : (t : Tail S) → insides (tail_children t) ≡ tail_parts t
  unfolding inside_of insides
  tail-insides (method s x l) = insides-around (mark k.Dot ++ (k.Identifier, x.text) ∷ []) [] (method s x) (listing_children l bracket.Round) ∙ listing-insides l bracket.Round
  tail-insides (index s e) = refl

  pub tail-count : (t : Tail S) → length (tail_children t) ≡ length (tail_parts t)
  unfolding inside_of insides
  tail-count t = sym (length-map (tail_children t) inside_of) ∙ ap length (tail-insides t)

  tails-insides : (ts : Tails S) → insides (tails_children ts) ≡ tails_parts ts
  unfolding inside_of insides
  tails-insides no_tails = refl
  tails-insides (tail t more) =
      insides-append (all_around [] (tails_words more) (λ x. tail x more) (tail_children t)) (all_around (tail_words t) [] (tail t) (tails_children more))
      ∙ ap₂ (λ x y. x ++ y) (insides-around [] (tails_words more) (λ x. tail x more) (tail_children t) ∙ tail-insides t) (insides-around (tail_words t) [] (tail t) (tails_children more) ∙ tails-insides more)

  expression-insides : (e : Expression S) → insides (expression_children e) ≡ expression_parts e
  unfolding inside_of insides
  expression-insides (identifier s x) = refl
  expression-insides (boolean s b) = refl
  expression-insides (integer s x) = refl
  expression-insides (string s q x) = refl
  expression-insides (paren s e) = refl
  expression-insides (array l) = insides-around [] [] array (listing_children l bracket.Square) ∙ listing-insides l bracket.Square
  expression-insides (dictionary l) = insides-around [] [] dictionary (listing_children l bracket.Curly) ∙ listing-insides l bracket.Curly
  expression-insides (call s x l) = insides-around ((k.Identifier, x.text) ∷ []) [] (call s x) (listing_children l bracket.Round) ∙ listing-insides l bracket.Round
  expression-insides (unary s o e) = refl
  expression-insides (row s e os) = ap (λ l. an_expression e ∷ l) (insides-around (expression_words e) [] (row s e) (operands_children os) ∙ operands-insides os)
  expression-insides (postfix s e ts) = ap (λ l. an_expression e ∷ l) (insides-around (expression_words e) [] (postfix s e) (tails_children ts) ∙ tails-insides ts)
  expression-insides (conditional s c y n) = refl

  branches-insides : (bs : Branches S) (word : Kind) → insides (branches_children bs word) ≡ branches_parts bs
  unfolding inside_of insides
  branches-insides no_branches word = refl
  branches-insides (branch e b more) word = ap (λ l. an_expression e ∷ a_block b ∷ l) (insides-around (mark word ++ (expression_words e ++ (new_line ∷ block_words b))) [] (branch e b) (branches_children more k.WordElif) ∙ branches-insides more k.WordElif)

  otherwise-insides : (o : Otherwise S) → insides (otherwise_children o) ≡ otherwise_parts o
  unfolding inside_of insides
  otherwise-insides nothing_else = refl
  otherwise-insides (otherwise b) = refl

  statement-insides : (s : Statement S) → insides (statement_children s) ≡ statement_parts s
  unfolding inside_of insides
  statement-insides (evaluate e) = refl
  statement-insides (assign s x a e) = refl
  statement-insides (selection s bs o) =
      let behind = otherwise_words o ++ mark k.WordEndif in
      insides-append (all_around [] behind (λ x. selection s x o) (branches_children bs k.WordIf)) (all_around (branches_words bs k.WordIf) (mark k.WordEndif) (selection s bs) (otherwise_children o))
      ∙ ap₂ (λ x y. x ++ y) (insides-around [] behind (λ x. selection s x o) (branches_children bs k.WordIf) ∙ branches-insides bs k.WordIf)
      (insides-around (branches_words bs k.WordIf) (mark k.WordEndif) (selection s bs) (otherwise_children o) ∙ otherwise-insides o)
  statement-insides (iteration s xs e b) = refl
  statement-insides (breaks s) = refl
  statement-insides (continues s) = refl

  statements-insides : (list : Statements S) → insides (statements_children list) ≡ statements_parts list
  unfolding inside_of insides
  statements-insides no_statements = refl
  statements-insides (statement s more) = ap (λ l. a_statement s ∷ l) (insides-around (statement_words s ++ new_line ∷ []) [] (statement s) (statements_children more) ∙ statements-insides more)

  block-insides : (b : Block S) → insides (block_children b) ≡ block_parts b
  block-insides (block s list) = insides-around [] [] (block s) (statements_children list) ∙ statements-insides list

  children-insides : (sort : Sort) (x : Node sort S) → insides (children S sort x) ≡ child_nodes (any_of S sort x)
  children-insides of_expression e = expression-insides e
  children-insides of_statement s = statement-insides s
  children-insides of_block b = block-insides b

  -- ---- paths

  nth-map : {A B : Type 0} (f : A → B) (xs : List A) (n : ℕ) → nth (map f xs) n ≡ option_map f (nth xs n)
  nth-map f [] n = refl
  nth-map f (x ∷ xs) zero = refl
  nth-map f (x ∷ xs) (suc n) = nth-map f xs n

  child-inside : (sort : Sort) (x : Node sort S) (n : ℕ) → nth (child_nodes (any_of S sort x)) n ≡ option_map inside_of (nth_hole S sort x n)
  unfolding insides
  child-inside sort x n = ap (λ l. nth l n) (sym (children-insides sort x)) ∙ nth-map inside_of (children S sort x) n

  through : {T : Type 0} (o : Option (Hole S T)) (path : List ℕ) → ((h : Hole S T) → node_at (any_of S h.sort h.inside) path ≡ option_map inside_of (reach S h.sort h.inside path))
      → option_and_then (λ y. node_at y path) (option_map inside_of o) ≡ option_map inside_of (option_and_then (λ h. option_map (around h.before h.behind h.back) (reach S h.sort h.inside path)) o)
  unfolding inside_of
  through None path f = refl
  through (Some h) path f = f h ∙ same (reach S h.sort h.inside path) where
    same : (r : Option (Hole S (Node h.sort S))) → option_map inside_of r ≡ option_map inside_of (option_map (around h.before h.behind h.back) r)
    same None = refl
    same (Some g) = refl

  pub reached : (sort : Sort) (x : Node sort S) (path : List ℕ) → node_at (any_of S sort x) path ≡ option_map inside_of (reach S sort x path)
  unfolding inside_of
  reached sort x [] = refl
  reached sort x (n ∷ path) =
      ap (λ o. option_and_then (λ y. node_at y path) o) (child-inside sort x n) ∙ through (nth_hole S sort x n) path (λ h. reached h.sort h.inside path)

  -- ---- expressions and lists

  of-any : (sort : Sort) (x : Node sort S) → expression_of S sort x ≡ expression_any (any_of S sort x)
  of-any of_expression e = refl
  of-any of_statement s = refl
  of-any of_block b = refl

  pub expression-reached : (f : File S) (path : List ℕ) → expression_on_path f path ≡ option_and_then expression_any (node_at (a_block (block_of f)) path)
  unfolding inside_of
  expression-reached f path = each (reach S of_block (block_of f) path) ∙ sym (ap (option_and_then expression_any) (reached of_block (block_of f) path)) where
    each : (r : Option (Hole S (Block S))) → option_and_then (λ h. expression_of S h.sort h.inside) r ≡ option_and_then expression_any (option_map inside_of r)
    each None = refl
    each (Some h) = of-any h.sort h.inside

  list-inside : (f : File S) (before behind : List Word) (back : Expression S → Block S) (o : Option (ListIn S)) → option_map (λ (p : ListAt S). p.list) (option_map (list_within f before behind back) o) ≡ option_map (λ (l : ListIn S). l.list) o
  list-inside f before behind back None = refl
  list-inside f before behind back (Some l) = refl

  of-node : (f : File S) (sort : Sort) (x : Node sort S) (before behind : List Word) (back : Node sort S → Block S)
      → option_map (λ (p : ListAt S). p.list) (list_of_node S sort x f before behind back) ≡ option_and_then (λ e. option_map (λ (l : ListIn S). l.list) (list_in e)) (expression_of S sort x)
  of-node f of_expression e before behind back = list-inside f before behind back (list_in e)
  of-node f of_statement s before behind back = refl
  of-node f of_block b before behind back = refl

  pub list-reached : (f : File S) (path : List ℕ) → option_map (λ (p : ListAt S). p.list) (list_at f path) ≡ option_and_then (λ e. option_map (λ (l : ListIn S). l.list) (list_in e)) (expression_on_path f path)
  list-reached f path = each (reach S of_block (block_of f) path) where
    each : (r : Option (Hole S (Block S))) → option_map (λ (p : ListAt S). p.list) (option_and_then (λ h. list_of_node S h.sort h.inside f h.before h.behind h.back) r)
        ≡ option_and_then (λ e. option_map (λ (l : ListIn S). l.list) (list_in e)) (option_and_then (λ h. expression_of S h.sort h.inside) r)
    each None = refl
    each (Some h) = of-node f h.sort h.inside h.before h.behind h.back
