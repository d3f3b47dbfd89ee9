-- The children of a mapped node are those of the node, each mapped.
use Rattle.meson_edit.proofs.Words.{◌≡◌, ℕ, zero, suc, Bool, List, [], ◌∷◌, ◌++◌, refl, ap, ap₂, ◌∙◌, Word, new_line, Kind, mark, operator_words, opens, closes}
use Rattle.meson_edit.proofs.Words.{Sort, of_expression, of_statement, of_block, Node, Hole, around, all_around, nth, argument_children, arguments_children}
use Rattle.meson_edit.proofs.Words.{listing_children, operands_children, tail_children, tails_children, expression_children, branches_children}
use Rattle.meson_edit.proofs.Words.{otherwise_children, statement_children, statements_children, block_children, children, Expression, identifier, boolean}
use Rattle.meson_edit.proofs.Words.{integer, string, paren, array, dictionary, call, unary, row, postfix, conditional, Operands, no_operands, operand, Tail}
use Rattle.meson_edit.proofs.Words.{method, index, Tails, no_tails, tail, Listing, listing, Argument, plain, named, pair, Arguments, no_arguments, argument}
use Rattle.meson_edit.proofs.Words.{Statement, evaluate, assign, selection, iteration, breaks, continues, Branches, no_branches, branch, Otherwise}
use Rattle.meson_edit.proofs.Words.{nothing_else, otherwise, Statements, no_statements, statement, Block, block, Bracket, each_node, MapsHole, maps, InBoth}
use Rattle.meson_edit.proofs.Words.{neither, both, each_name, each_expression, each_operands, each_tail, each_tails, each_listing, each_argument}
use Rattle.meson_edit.proofs.Words.{each_arguments, each_statement, each_branches, each_otherwise, each_statements, each_block}
use Rattle.meson_lex.specs.declared.kinds.Kind.TheVariants as k
use Rattle.meson_syntax.specs.declared.operator.Bracket.TheVariants as bracket
use Rattle.meson_edit.proofs.kept.EachErased.{comma-each, names-words-each, expression-words-each, operands-words-each, tail-words-each, tails-words-each}
use Rattle.meson_edit.proofs.kept.EachErased.{argument-words-each, arguments-words-each, statement-words-each, branches-words-each, otherwise-words-each}
use Rattle.meson_edit.proofs.kept.EachErased.{statements-words-each, block-words-each}

module _ {S T : Type 0} (h : S → T) where
  -- holes one after another, and each mapped
  pub data MapsHoles {A B : Type 0} (each : A → B) : List (Hole S A) → List (Hole T B) → Type 0 where
    none : MapsHoles each [] []
    also : {x : Hole S A} {z : Hole T B} {xs : List (Hole S A)} {zs : List (Hole T B)} → MapsHole h each x z → MapsHoles each xs zs
        → MapsHoles each (x ∷ xs) (z ∷ zs)

  -- a hole in a part, in the whole
  pub maps-around : {A B A' B' : Type 0} (each : A → B) (each' : A' → B') (before before' behind behind' : List Word) (make : A → A') (make' : B → B')
      → before' ≡ before → behind' ≡ behind
      → ((y : A) → make' (each y) ≡ each' (make y)) → (x : Hole S A) (z : Hole T B) → MapsHole h each x z
      → MapsHole h each' (around before behind make x) (around before' behind' make' z)
  maps-around each each' before before' behind behind' make make' p q same x z (maps sort inside b b' c c' back back' p' q' agree) =
      maps sort inside (before ++ b) (before' ++ b') (c ++ behind) (c' ++ behind') (λ y. make (back y)) (λ y. make' (back' y)) (ap₂ (λ u v. u ++ v) p p')
      (ap₂ (λ u v. u ++ v) q' q)
      (λ y. ap make' (agree y) ∙ same (back y))

  within : {A B A' B' : Type 0} {each : A → B} {each' : A' → B'} {xs : List (Hole S A)} {zs : List (Hole T B)}
      (before before' behind behind' : List Word) (make : A → A') (make' : B → B')
      → before' ≡ before → behind' ≡ behind → ((y : A) → make' (each y) ≡ each' (make y)) → MapsHoles each xs zs
      → MapsHoles each' (all_around before behind make xs) (all_around before' behind' make' zs)
  within before before' behind behind' make make' p q same none = none
  within {each} {each'} before before' behind behind' make make' p q same (also {x} {z} m ms) =
      also (maps-around each each' before before' behind behind' make make' p q same x z m) (within before before' behind behind' make make' p q same ms)

  then : {A B : Type 0} {each : A → B} {xs ys : List (Hole S A)} {zs ws : List (Hole T B)} → MapsHoles each xs zs → MapsHoles each ys ws
      → MapsHoles each (xs ++ ys) (zs ++ ws)
  then none n = n
  then (also m ms) n = also m (then ms n)

  pub nth-maps : {A B : Type 0} (each : A → B) (xs : List (Hole S A)) (zs : List (Hole T B)) → MapsHoles each xs zs → (n : ℕ)
      → InBoth (MapsHole h each) (nth xs n) (nth zs n)
  nth-maps each xs zs none n = neither
  nth-maps each xs zs (also {x} {z} m ms) zero = both x z m
  nth-maps each xs zs (also {xs = more} {zs = rest} m ms) (suc n) = nth-maps each more rest ms n

  -- ---- expressions

  argument-maps : (a : Argument S) → MapsHoles (each_argument h) (argument_children a) (argument_children (each_argument h a))
  argument-maps (plain e) = also (maps of_expression e _ _ _ _ _ _ refl refl (λ y. refl)) none
  argument-maps (named s x e) = also (maps of_expression e _ _ _ _ _ _ refl refl (λ y. refl)) none
  argument-maps (pair s e f) =
      also (maps of_expression e _ _ _ _ _ _ refl (ap (λ w. mark k.Colon ++ w) (expression-words-each h f)) (λ y. refl))
      (also (maps of_expression f _ _ _ _ _ _ (ap (λ w. w ++ mark k.Colon) (expression-words-each h e)) refl (λ y. refl)) none)

  arguments-maps : (list : Arguments S) (trailing : Bool)
      → MapsHoles (each_arguments h) (arguments_children list trailing) (arguments_children (each_arguments h list) trailing)
  arguments-maps no_arguments trailing = none
  arguments-maps (argument a more) trailing =
      then
      (within [] [] _ _ (λ x. argument x more) (λ x. argument x (each_arguments h more)) refl
      (ap₂ (λ u v. u ++ v) (comma-each h more trailing) (arguments-words-each h more trailing)) (λ y. refl) (argument-maps a))
      (within _ _ [] [] (argument a) (argument (each_argument h a)) (ap₂ (λ u v. u ++ v) (argument-words-each h a) (comma-each h more trailing)) refl
      (λ y. refl) (arguments-maps more trailing))

  listing-maps : (l : Listing S) (b : Bracket) → MapsHoles (each_listing h) (listing_children l b) (listing_children (each_listing h l) b)
  listing-maps (listing s trailing list) b =
      within (mark (opens b)) _ (mark (closes b)) _ (listing s trailing) (listing (h s) trailing) refl refl (λ y. refl) (arguments-maps list trailing)

  operands-maps : (os : Operands S) → MapsHoles (each_operands h) (operands_children os) (operands_children (each_operands h os))
  operands-maps no_operands = none
  operands-maps (operand o e more) =
      also (maps of_expression e _ _ _ _ _ _ refl (operands-words-each h more) (λ y. refl))
      (within _ _ [] [] (operand o e) (operand o (each_expression h e)) (ap (λ w. operator_words o ++ w) (expression-words-each h e)) refl (λ y. refl)
      (operands-maps more))

  tail-maps : (t : Tail S) → MapsHoles (each_tail h) (tail_children t) (tail_children (each_tail h t))
  tail-maps (method s x l) =
      within (mark k.Dot ++ (k.Identifier, x.text) ∷ []) _ [] [] (method s x) (method (h s) (each_name h x)) refl refl (λ y. refl)
      (listing-maps l bracket.Round)
  tail-maps (index s e) = also (maps of_expression e _ _ _ _ _ _ refl refl (λ y. refl)) none

  tails-maps : (ts : Tails S) → MapsHoles (each_tails h) (tails_children ts) (tails_children (each_tails h ts))
  tails-maps no_tails = none
  tails-maps (tail t more) =
      then
      (within [] [] _ _ (λ x. tail x more) (λ x. tail x (each_tails h more)) refl (tails-words-each h more) (λ y. refl) (tail-maps t))
      (within _ _ [] [] (tail t) (tail (each_tail h t)) (tail-words-each h t) refl (λ y. refl) (tails-maps more))

  expression-maps : (e : Expression S) → MapsHoles (each_expression h) (expression_children e) (expression_children (each_expression h e))
  expression-maps (identifier s x) = none
  expression-maps (boolean s b) = none
  expression-maps (integer s x) = none
  expression-maps (string s q x) = none
  expression-maps (paren s e) = also (maps of_expression e _ _ _ _ _ _ refl refl (λ y. refl)) none
  expression-maps (array l) = within [] [] [] [] array array refl refl (λ y. refl) (listing-maps l bracket.Square)
  expression-maps (dictionary l) = within [] [] [] [] dictionary dictionary refl refl (λ y. refl) (listing-maps l bracket.Curly)
  expression-maps (call s x l) =
      within ((k.Identifier, x.text) ∷ []) _ [] [] (call s x) (call (h s) (each_name h x)) refl refl (λ y. refl) (listing-maps l bracket.Round)
  expression-maps (unary s o e) = also (maps of_expression e _ _ _ _ _ _ refl refl (λ y. refl)) none
  expression-maps (row s e os) =
      also (maps of_expression e _ _ _ _ _ _ refl (operands-words-each h os) (λ y. refl))
      (within _ _ [] [] (row s e) (row (h s) (each_expression h e)) (expression-words-each h e) refl (λ y. refl) (operands-maps os))
  expression-maps (postfix s e ts) =
      also (maps of_expression e _ _ _ _ _ _ refl (tails-words-each h ts) (λ y. refl))
      (within _ _ [] [] (postfix s e) (postfix (h s) (each_expression h e)) (expression-words-each h e) refl (λ y. refl) (tails-maps ts))
  expression-maps (conditional s c y n) =
      also (maps of_expression c _ _ _ _ _ _ refl
      (ap₂ (λ u v. mark k.Question ++ (u ++ (mark k.Colon ++ v))) (expression-words-each h y) (expression-words-each h n)) (λ z. refl))
      (also (maps of_expression y _ _ _ _ _ _ (ap (λ w. w ++ mark k.Question) (expression-words-each h c))
      (ap (λ w. mark k.Colon ++ w) (expression-words-each h n)) (λ z. refl))
      (also (maps of_expression n _ _ _ _ _ _
      (ap₂ (λ u v. u ++ (mark k.Question ++ (v ++ mark k.Colon))) (expression-words-each h c) (expression-words-each h y)) refl (λ z. refl)) none))

  -- ---- statements

  branches-maps : (bs : Branches S) (word : Kind) → MapsHoles (each_branches h) (branches_children bs word) (branches_children (each_branches h bs) word)
  branches-maps no_branches word = none
  branches-maps (branch e b more) word =
      also (maps of_expression e _ _ _ _ _ _ refl (ap₂ (λ u v. (new_line ∷ u) ++ v) (block-words-each h b) (branches-words-each h more k.WordElif)) (λ y. refl))
      (also (maps of_block b _ _ _ _ _ _ (ap (λ w. mark word ++ (w ++ new_line ∷ [])) (expression-words-each h e)) (branches-words-each h more k.WordElif)
      (λ y. refl))
      (within _ _ [] [] (branch e b) (branch (each_expression h e) (each_block h b))
      (ap₂ (λ u v. mark word ++ (u ++ (new_line ∷ v))) (expression-words-each h e) (block-words-each h b)) refl (λ y. refl)
      (branches-maps more k.WordElif)))

  otherwise-maps : (o : Otherwise S) → MapsHoles (each_otherwise h) (otherwise_children o) (otherwise_children (each_otherwise h o))
  otherwise-maps nothing_else = none
  otherwise-maps (otherwise b) = also (maps of_block b _ _ _ _ _ _ refl refl (λ y. refl)) none

  statement-maps : (s : Statement S) → MapsHoles (each_statement h) (statement_children s) (statement_children (each_statement h s))
  statement-maps (evaluate e) = also (maps of_expression e _ _ _ _ _ _ refl refl (λ y. refl)) none
  statement-maps (assign s x a e) = also (maps of_expression e _ _ _ _ _ _ refl refl (λ y. refl)) none
  statement-maps (selection s bs o) =
      then
      (within [] [] _ _ (λ x. selection s x o) (λ x. selection (h s) x (each_otherwise h o)) refl
      (ap (λ w. w ++ mark k.WordEndif) (otherwise-words-each h o)) (λ y. refl) (branches-maps bs k.WordIf))
      (within _ _ (mark k.WordEndif) _ (selection s bs) (selection (h s) (each_branches h bs)) (branches-words-each h bs k.WordIf) refl (λ y. refl)
      (otherwise-maps o))
  statement-maps (iteration s xs e b) =
      also (maps of_expression e _ _ _ _ _ _ (ap (λ w. mark k.WordForeach ++ (w ++ mark k.Colon)) (names-words-each h xs))
      (ap (λ w. (new_line ∷ w) ++ mark k.WordEndforeach) (block-words-each h b)) (λ y. refl))
      (also (maps of_block b _ _ _ _ _ _
      (ap₂ (λ v w. mark k.WordForeach ++ (v ++ (mark k.Colon ++ (w ++ new_line ∷ [])))) (names-words-each h xs) (expression-words-each h e)) refl
      (λ y. refl)) none)
  statement-maps (breaks s) = none
  statement-maps (continues s) = none

  statements-maps : (list : Statements S) → MapsHoles (each_statements h) (statements_children list) (statements_children (each_statements h list))
  statements-maps no_statements = none
  statements-maps (statement s more) =
      also (maps of_statement s _ _ _ _ _ _ refl (ap (λ w. new_line ∷ w) (statements-words-each h more)) (λ y. refl))
      (within _ _ [] [] (statement s) (statement (each_statement h s)) (ap (λ w. w ++ new_line ∷ []) (statement-words-each h s)) refl (λ y. refl)
      (statements-maps more))

  block-maps : (b : Block S) → MapsHoles (each_block h) (block_children b) (block_children (each_block h b))
  block-maps (block s list) = within [] [] [] [] (block s) (block (h s)) refl refl (λ y. refl) (statements-maps list)

  pub children-map : (sort : Sort) (x : Node sort S) → MapsHoles (each_node h sort) (children S sort x) (children T sort (each_node h sort x))
  children-map of_expression e = expression-maps e
  children-map of_statement s = statement-maps s
  children-map of_block b = block-maps b
