-- A tree without its spans is the tree with each of them mapped to nothing.
use Rattle.meson_edit.proofs.Words.{map, ◌≡◌, ℕ, List, [], ◌∷◌, refl, sym, ap, ap₂, subst, ◌∙◌, Span, list_at, Name, Nowhere, Expression, identifier, boolean}
use Rattle.meson_edit.proofs.Words.{integer, string, paren, array, dictionary, call, unary, row, postfix, conditional, Operands, no_operands, operand, Tail}
use Rattle.meson_edit.proofs.Words.{method, index, Tails, no_tails, tail, Listing, listing, Argument, plain, named, pair, Arguments, no_arguments, argument}
use Rattle.meson_edit.proofs.Words.{Statement, evaluate, assign, selection, iteration, breaks, continues, Branches, no_branches, branch, Otherwise}
use Rattle.meson_edit.proofs.Words.{nothing_else, otherwise, Statements, no_statements, statement, Block, block, File, file, bare_name, erase, erase_name}
use Rattle.meson_edit.proofs.Words.{erase_names, erase_expression, erase_operands, erase_tail, erase_tails, erase_listing, erase_argument, erase_arguments}
use Rattle.meson_edit.proofs.Words.{erase_statement, erase_branches, erase_otherwise, erase_statements, erase_block, ListsPutErase, MapsList, InBoth, each_name}
use Rattle.meson_edit.proofs.Words.{each_expression, each_operands, each_tail, each_tails, each_listing, each_argument, each_arguments, each_statement}
use Rattle.meson_edit.proofs.Words.{each_branches, each_otherwise, each_statements, each_block, each_file}
use Rattle.meson_edit.proofs.kept.EachErased.{file-each}
use Rattle.meson_edit.proofs.kept.Each.{in-both, lists-map}

module _ {S : Type 0} where
  abbrev pub nothing : S → Nowhere
  nothing s = tt

  names-nothing : (xs : List (Name S)) → map (each_name nothing) xs ≡ erase_names xs
  names-nothing [] = refl
  names-nothing (x ∷ xs) = ap (λ l. bare_name x.text ∷ l) (names-nothing xs)

  mutual
    pub expression-nothing : (e : Expression S) → each_expression nothing e ≡ erase_expression e
    expression-nothing (identifier s x) = refl
    expression-nothing (boolean s b) = refl
    expression-nothing (integer s x) = refl
    expression-nothing (string s q x) = refl
    expression-nothing (paren s e) = ap (paren tt) (expression-nothing e)
    expression-nothing (array l) = ap array (listing-nothing l)
    expression-nothing (dictionary l) = ap dictionary (listing-nothing l)
    expression-nothing (call s x l) = ap (call tt (erase_name x)) (listing-nothing l)
    expression-nothing (unary s o e) = ap (unary tt o) (expression-nothing e)
    expression-nothing (row s e os) = ap₂ (row tt) (expression-nothing e) (operands-nothing os)
    expression-nothing (postfix s e ts) = ap₂ (postfix tt) (expression-nothing e) (tails-nothing ts)
    expression-nothing (conditional s c y n) =
        ap₂ (λ c y. conditional tt c y (each_expression nothing n)) (expression-nothing c) (expression-nothing y)
        ∙ ap (conditional tt (erase_expression c) (erase_expression y)) (expression-nothing n)

    operands-nothing : (os : Operands S) → each_operands nothing os ≡ erase_operands os
    operands-nothing no_operands = refl
    operands-nothing (operand o e more) = ap₂ (operand o) (expression-nothing e) (operands-nothing more)

    tail-nothing : (t : Tail S) → each_tail nothing t ≡ erase_tail t
    tail-nothing (method s x l) = ap (method tt (erase_name x)) (listing-nothing l)
    tail-nothing (index s e) = ap (index tt) (expression-nothing e)

    tails-nothing : (ts : Tails S) → each_tails nothing ts ≡ erase_tails ts
    tails-nothing no_tails = refl
    tails-nothing (tail t more) = ap₂ tail (tail-nothing t) (tails-nothing more)

    pub listing-nothing : (l : Listing S) → each_listing nothing l ≡ erase_listing l
    listing-nothing (listing s trailing list) = ap (listing tt trailing) (arguments-nothing list)

    argument-nothing : (a : Argument S) → each_argument nothing a ≡ erase_argument a
    argument-nothing (plain e) = ap plain (expression-nothing e)
    argument-nothing (named s x e) = ap (named tt (erase_name x)) (expression-nothing e)
    argument-nothing (pair s e f) = ap₂ (pair tt) (expression-nothing e) (expression-nothing f)

    arguments-nothing : (list : Arguments S) → each_arguments nothing list ≡ erase_arguments list
    arguments-nothing no_arguments = refl
    arguments-nothing (argument a more) = ap₂ argument (argument-nothing a) (arguments-nothing more)

  mutual
    pub statement-nothing : (s : Statement S) → each_statement nothing s ≡ erase_statement s
    statement-nothing (evaluate e) = ap evaluate (expression-nothing e)
    statement-nothing (assign s x a e) = ap (assign tt (erase_name x) a) (expression-nothing e)
    statement-nothing (selection s bs o) = ap₂ (selection tt) (branches-nothing bs) (otherwise-nothing o)
    statement-nothing (iteration s xs e b) =
        ap₂ (λ x e. iteration tt x e (each_block nothing b)) (names-nothing xs) (expression-nothing e)
        ∙ ap (iteration tt (erase_names xs) (erase_expression e)) (block-nothing b)
    statement-nothing (breaks s) = refl
    statement-nothing (continues s) = refl

    branches-nothing : (bs : Branches S) → each_branches nothing bs ≡ erase_branches bs
    branches-nothing no_branches = refl
    branches-nothing (branch e b more) =
        ap₂ (λ e b. branch e b (each_branches nothing more)) (expression-nothing e) (block-nothing b)
        ∙ ap (branch (erase_expression e) (erase_block b)) (branches-nothing more)

    otherwise-nothing : (o : Otherwise S) → each_otherwise nothing o ≡ erase_otherwise o
    otherwise-nothing nothing_else = refl
    otherwise-nothing (otherwise b) = ap otherwise (block-nothing b)

    statements-nothing : (list : Statements S) → each_statements nothing list ≡ erase_statements list
    statements-nothing no_statements = refl
    statements-nothing (statement s more) = ap₂ statement (statement-nothing s) (statements-nothing more)

    pub block-nothing : (b : Block S) → each_block nothing b ≡ erase_block b
    block-nothing (block s list) = ap (block tt) (statements-nothing list)

  pub file-nothing : (f : File S) → each_file nothing f ≡ erase f
  file-nothing (file s b) = ap (file tt) (block-nothing b)

-- a path names a list in a tree and in the tree without its spans
pub lists-without : {S : Type 0} (f : File S) (path : List ℕ) → InBoth (MapsList (nothing {S = S})) (list_at f path) (list_at (erase f) path)
lists-without {S} f path = subst (λ t. InBoth (MapsList (nothing {S = S})) (list_at f path) (list_at t path)) (file-nothing f) (lists-map nothing f path)

pub lists-put-erase : ListsPutErase
lists-put-erase h f path r is-r q is-q l =
    let g = each_file h f in
    let found = subst (λ t. InBoth (MapsList (nothing {S = Span})) (list_at g path) (list_at t path)) (file-nothing g ∙ file-each h f)
    (lists-map nothing g path) in
    let m = in-both (list_at g path) (list_at (erase f) path) found r q is-r is-q in
    sym (file-nothing (r.back l)) ∙ sym (m.back l) ∙ ap q.back (listing-nothing l)
