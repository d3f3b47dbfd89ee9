-- What a tree looks like over a source: its texts are read off that source.
use Rattle.meson_edit.proofs.Words.{◌≡◌, ℕ, List, [], ◌∷◌, map, refl, ap, ap₂, ◌∙◌, Span, places_of_names, code_expression, code_operands, code_tail}
use Rattle.meson_edit.proofs.Words.{code_tails, code_listing, code_argument, code_arguments, code_statement, code_branches, code_otherwise, code_statements}
use Rattle.meson_edit.proofs.Words.{code_block, code_file, texts_of_name, texts_of_expression, texts_of_operands, texts_of_tail, texts_of_tails}
use Rattle.meson_edit.proofs.Words.{texts_of_listing, texts_of_argument, texts_of_arguments, texts_of_statement, texts_of_branches, texts_of_statements}
use Rattle.meson_edit.proofs.Words.{texts_of_block, texts_of, Name, Expression, identifier, boolean, integer, string, paren, array, dictionary, call, unary}
use Rattle.meson_edit.proofs.Words.{row, postfix, conditional, Operands, no_operands, operand, operands_of, Tail, method, index, Tails, no_tails, tail}
use Rattle.meson_edit.proofs.Words.{tails_of, Listing, listing, Argument, plain, named, pair, Arguments, no_arguments, argument, arguments_of, Statement}
use Rattle.meson_edit.proofs.Words.{evaluate, assign, selection, iteration, breaks, continues, Branches, no_branches, branch, branches_of, nothing_else}
use Rattle.meson_edit.proofs.Words.{otherwise, Statements, no_statements, statement, statements_of, Block, block, File, file, expr_view, operand_view}
use Rattle.meson_edit.proofs.Words.{tail_view, list_view, arg_view, stmt_view, branch_view, block_view, view, names_at, Operator, fold-roll-Arg, fold-roll-Expr}
use Rattle.meson_edit.proofs.Words.{fold-roll-Tail, fold-roll-List, fold-roll-Operand, Arg-F, Expr-F, Tail-F, fold-roll-Stmt, fold-roll-Block, fold-roll-Branch}
use Rattle.meson_edit.proofs.Words.{Stmt-F}

module _ (source : List ℕ) where
  mutual
    expression : (e : Expression Span) → expr_view source (code_expression e) ≡ texts_of_expression source e
    expression (identifier s x) = fold-roll-Expr _ _ _ _ _ _ _ _ _ _ (Expr-F.Identifier s)
    expression (boolean s b) = fold-roll-Expr _ _ _ _ _ _ _ _ _ _ (Expr-F.Boolean s b)
    expression (integer s x) = fold-roll-Expr _ _ _ _ _ _ _ _ _ _ (Expr-F.Integer s)
    expression (string s q x) = fold-roll-Expr _ _ _ _ _ _ _ _ _ _ (Expr-F.String s q)
    expression (paren s e) = fold-roll-Expr _ _ _ _ _ _ _ _ _ _ (Expr-F.Paren s (code_expression e)) ∙ ap (paren s) (expression e)
    expression (array l) = fold-roll-Expr _ _ _ _ _ _ _ _ _ _ (Expr-F.Array (code_listing l)) ∙ ap array (list l)
    expression (dictionary l) = fold-roll-Expr _ _ _ _ _ _ _ _ _ _ (Expr-F.Dictionary (code_listing l)) ∙ ap dictionary (list l)
    expression (call s x l) = fold-roll-Expr _ _ _ _ _ _ _ _ _ _ (Expr-F.Call s x.place (code_listing l)) ∙ ap (call s (texts_of_name source x)) (list l)
    expression (unary s o e) = fold-roll-Expr _ _ _ _ _ _ _ _ _ _ (Expr-F.Unary s o (code_expression e)) ∙ ap (unary s o) (expression e)
    expression (row s e os) =
        fold-roll-Expr _ _ _ _ _ _ _ _ _ _ (Expr-F.Row s (code_expression e) (code_operands os)) ∙ ap₂ (row s) (expression e) (operands os)
    expression (postfix s e ts) =
        fold-roll-Expr _ _ _ _ _ _ _ _ _ _ (Expr-F.Postfix s (code_expression e) (code_tails ts)) ∙ ap₂ (postfix s) (expression e) (the_tails ts)
    expression (conditional s c y n) =
        fold-roll-Expr _ _ _ _ _ _ _ _ _ _ (Expr-F.Conditional s (code_expression c) (code_expression y) (code_expression n))
        ∙ ap₂ (λ d e. conditional s d e (expr_view source (code_expression n))) (expression c) (expression y)
        ∙ ap (conditional s (texts_of_expression source c) (texts_of_expression source y)) (expression n)

    operands : (os : Operands Span) → operands_of (map (operand_view source) (code_operands os)) ≡ texts_of_operands source os
    operands no_operands = refl
    operands (operand o e more) =
        ap (λ (x : Operator × Expression Span). operand x.0 x.1 (operands_of (map (operand_view source) (code_operands more))))
        (fold-roll-Operand _ _ _ _ _ _ _ _ _ _ (record { operator = o; value = code_expression e }))
        ∙ ap₂ (operand o) (expression e) (operands more)

    the_tail : (t : Tail Span) → tail_view source (code_tail t) ≡ texts_of_tail source t
    the_tail (method s x l) = fold-roll-Tail _ _ _ _ _ _ _ _ _ _ (Tail-F.Method s x.place (code_listing l)) ∙ ap (method s (texts_of_name source x)) (list l)
    the_tail (index s e) = fold-roll-Tail _ _ _ _ _ _ _ _ _ _ (Tail-F.Index s (code_expression e)) ∙ ap (index s) (expression e)

    the_tails : (ts : Tails Span) → tails_of (map (tail_view source) (code_tails ts)) ≡ texts_of_tails source ts
    the_tails no_tails = refl
    the_tails (tail t more) = ap₂ tail (the_tail t) (the_tails more)

    pub list : (l : Listing Span) → list_view source (code_listing l) ≡ texts_of_listing source l
    list (listing s trailing items) =
        fold-roll-List _ _ _ _ _ _ _ _ _ _ (record { items = code_arguments items; trailing = trailing; span = s })
        ∙ ap (listing s trailing) (arguments items)

    the_argument : (a : Argument Span) → arg_view source (code_argument a) ≡ texts_of_argument source a
    the_argument (plain e) = fold-roll-Arg _ _ _ _ _ _ _ _ _ _ (Arg-F.Plain (code_expression e)) ∙ ap plain (expression e)
    the_argument (named s x e) =
        fold-roll-Arg _ _ _ _ _ _ _ _ _ _ (Arg-F.Named s x.place (code_expression e)) ∙ ap (named s (texts_of_name source x)) (expression e)
    the_argument (pair s e f) =
        fold-roll-Arg _ _ _ _ _ _ _ _ _ _ (Arg-F.Pair s (code_expression e) (code_expression f)) ∙ ap₂ (pair s) (expression e) (expression f)

    arguments : (items : Arguments Span) → arguments_of (map (arg_view source) (code_arguments items)) ≡ texts_of_arguments source items
    arguments no_arguments = refl
    arguments (argument a more) = ap₂ argument (the_argument a) (arguments more)

  names : (xs : List (Name Span)) → names_at source (places_of_names xs) ≡ map (texts_of_name source) xs
  names [] = refl
  names (x ∷ xs) = ap (λ more. texts_of_name source x ∷ more) (names xs)

  mutual
    the_statement : (s : Statement Span) → stmt_view source (code_statement s) ≡ texts_of_statement source s
    the_statement (evaluate e) = fold-roll-Stmt _ _ _ _ _ _ (Stmt-F.Expr (code_expression e)) ∙ ap evaluate (expression e)
    the_statement (assign s x a e) =
        fold-roll-Stmt _ _ _ _ _ _ (Stmt-F.Assign s x.place a (code_expression e)) ∙ ap (assign s (texts_of_name source x) a) (expression e)
    the_statement (selection s bs nothing_else) =
        fold-roll-Stmt _ _ _ _ _ _ (Stmt-F.If s (code_branches bs) (code_otherwise nothing_else)) ∙ ap (λ list. selection s list nothing_else) (branches bs)
    the_statement (selection s bs (otherwise b)) =
        fold-roll-Stmt _ _ _ _ _ _ (Stmt-F.If s (code_branches bs) (code_otherwise (otherwise b)))
        ∙ ap₂ (λ list c. selection s list (otherwise c)) (branches bs) (the_block b)
    the_statement (iteration s xs e b) =
        fold-roll-Stmt _ _ _ _ _ _ (Stmt-F.Foreach s (places_of_names xs) (code_expression e) (code_block b))
        ∙ ap₂ (λ list d. iteration s list d (block_view source (code_block b))) (names xs) (expression e)
        ∙ ap (iteration s (map (texts_of_name source) xs) (texts_of_expression source e)) (the_block b)
    the_statement (breaks s) = fold-roll-Stmt _ _ _ _ _ _ (Stmt-F.Break s)
    the_statement (continues s) = fold-roll-Stmt _ _ _ _ _ _ (Stmt-F.Continue s)

    branches : (bs : Branches Span) → branches_of (map (branch_view source) (code_branches bs)) ≡ texts_of_branches source bs
    branches no_branches = refl
    branches (branch e b more) =
        ap (λ (x : Expression Span × Block Span). branch x.0 x.1 (branches_of (map (branch_view source) (code_branches more))))
        (fold-roll-Branch _ _ _ _ _ _ (record { condition = code_expression e; block = code_block b }))
        ∙ ap₂ (λ d c. branch d c (branches_of (map (branch_view source) (code_branches more)))) (expression e) (the_block b)
        ∙ ap (branch (texts_of_expression source e) (texts_of_block source b)) (branches more)

    statements : (list : Statements Span) → statements_of (map (stmt_view source) (code_statements list)) ≡ texts_of_statements source list
    statements no_statements = refl
    statements (statement s more) = ap₂ statement (the_statement s) (statements more)

    the_block : (b : Block Span) → block_view source (code_block b) ≡ texts_of_block source b
    the_block (block s list) = fold-roll-Block _ _ _ _ _ _ (record { statements = code_statements list; span = s }) ∙ ap (block s) (statements list)

  pub the_file : (f : File Span) → view source (code_file f) ≡ texts_of source f
  the_file (file s b) = ap (file s) (the_block b)
