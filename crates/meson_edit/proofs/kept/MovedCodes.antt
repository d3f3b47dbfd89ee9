-- The value of a tree with its borders moved is the tree's value with its borders moved.
use Rattle.meson_edit.proofs.Words.{◌≡◌, ℕ, Bool, List, [], ◌∷◌, map, Some, None, refl, sym, ap, ap₂, ◌∙◌, Span, places_of_names, code_expression}
use Rattle.meson_edit.proofs.Words.{code_operands, code_tail, code_tails, code_listing, code_argument, code_arguments, code_statement, code_branches}
use Rattle.meson_edit.proofs.Words.{code_statements, code_block, code_file, moved_expr, moved_operand, moved_tail, moved_list, moved_arg, moved_stmt}
use Rattle.meson_edit.proofs.Words.{moved_branch, moved_block, moved_parsed, span_by, Name, Expression, identifier, boolean, integer, string, paren, array}
use Rattle.meson_edit.proofs.Words.{dictionary, call, unary, row, postfix, conditional, Operands, no_operands, operand, Tail, method, index, Tails, no_tails}
use Rattle.meson_edit.proofs.Words.{tail, Listing, listing, Argument, plain, named, pair, Arguments, no_arguments, argument, Statement, evaluate, assign}
use Rattle.meson_edit.proofs.Words.{selection, iteration, breaks, continues, Branches, no_branches, branch, nothing_else, otherwise, Statements, no_statements}
use Rattle.meson_edit.proofs.Words.{statement, Block, block, File, file, Operator, Arg, fold-roll-Arg, fold-roll-Expr, fold-roll-Tail, fold-roll-List}
use Rattle.meson_edit.proofs.Words.{fold-roll-Operand, Arg-F, Expr-F, Tail-F, Expr, Stmt, fold-roll-Stmt, fold-roll-Block, fold-roll-Branch, Stmt-F, each_name}
use Rattle.meson_edit.proofs.Words.{each_expression, each_operands, each_tail, each_tails, each_listing, each_argument, each_arguments, each_statement}
use Rattle.meson_edit.proofs.Words.{each_branches, each_statements, each_block, each_file}
use Rattle.meson_syntax.specs.declared.tree.Arg.TheVariants as arg
use Rattle.meson_syntax.specs.declared.tree.Expr.TheVariants as expr
use Rattle.meson_syntax.specs.declared.tree.Tail.TheVariants as rust_tail
use Rattle.meson_syntax.specs.declared.tree.List as rust
use Rattle.meson_syntax.specs.declared.tree.Operand.{Operand}
use Rattle.meson_syntax.specs.declared.tree.Stmt.TheVariants as stmt
use Rattle.meson_syntax.specs.declared.tree.Branch.{Branch}
use Rattle.meson_syntax.specs.declared.tree.Block as rust_block

-- structs by their parts
abbrev with_operator : Operator → Expr → Operand
with_operator o e = record { operator = o; value = e }

abbrev with_items : Bool → Span → List Arg → rust.List
with_items trailing s items = record { items = items; trailing = trailing; span = s }

abbrev with_condition : Expr → rust_block.Block → Branch
with_condition e b = record { condition = e; block = b }

abbrev with_statements : Span → List Stmt → rust_block.Block
with_statements s list = record { statements = list; span = s }

module _ (g : ℕ → ℕ) where
  abbrev at : Span → Span
  at = span_by g

  mutual
    expression : (e : Expression Span) → moved_expr g (code_expression e) ≡ code_expression (each_expression (span_by g) e)
    expression (identifier s x) = fold-roll-Expr _ _ _ _ _ _ _ _ _ _ (Expr-F.Identifier s) ∙ sym (expr.rolls-Identifier _)
    expression (boolean s b) = fold-roll-Expr _ _ _ _ _ _ _ _ _ _ (Expr-F.Boolean s b) ∙ sym (expr.rolls-Boolean _ _)
    expression (integer s x) = fold-roll-Expr _ _ _ _ _ _ _ _ _ _ (Expr-F.Integer s) ∙ sym (expr.rolls-Integer _)
    expression (string s q x) = fold-roll-Expr _ _ _ _ _ _ _ _ _ _ (Expr-F.String s q) ∙ sym (expr.rolls-String _ _)
    expression (paren s e) =
        fold-roll-Expr _ _ _ _ _ _ _ _ _ _ (Expr-F.Paren s (code_expression e))
        ∙ ap (expr.Paren (at s)) (expression e)
        ∙ sym (expr.rolls-Paren _ _)
    expression (array l) = fold-roll-Expr _ _ _ _ _ _ _ _ _ _ (Expr-F.Array (code_listing l)) ∙ ap expr.Array (list l) ∙ sym (expr.rolls-Array _)
    expression (dictionary l) =
        fold-roll-Expr _ _ _ _ _ _ _ _ _ _ (Expr-F.Dictionary (code_listing l))
        ∙ ap expr.Dictionary (list l)
        ∙ sym (expr.rolls-Dictionary _)
    expression (call s x l) =
        fold-roll-Expr _ _ _ _ _ _ _ _ _ _ (Expr-F.Call s x.place (code_listing l))
        ∙ ap (expr.Call (at s) (at x.place)) (list l)
        ∙ sym (expr.rolls-Call _ _ _)
    expression (unary s o e) =
        fold-roll-Expr _ _ _ _ _ _ _ _ _ _ (Expr-F.Unary s o (code_expression e))
        ∙ ap (expr.Unary (at s) o) (expression e)
        ∙ sym (expr.rolls-Unary _ _ _)
    expression (row s e os) =
        fold-roll-Expr _ _ _ _ _ _ _ _ _ _ (Expr-F.Row s (code_expression e) (code_operands os))
        ∙ ap₂ (expr.Row (at s)) (expression e) (operands os)
        ∙ sym (expr.rolls-Row _ _ _)
    expression (postfix s e ts) =
        fold-roll-Expr _ _ _ _ _ _ _ _ _ _ (Expr-F.Postfix s (code_expression e) (code_tails ts))
        ∙ ap₂ (expr.Postfix (at s)) (expression e) (the_tails ts)
        ∙ sym (expr.rolls-Postfix _ _ _)
    expression (conditional s c y n) =
        fold-roll-Expr _ _ _ _ _ _ _ _ _ _ (Expr-F.Conditional s (code_expression c) (code_expression y) (code_expression n))
        ∙ ap₂ (λ d e. expr.Conditional (at s) d e (moved_expr g (code_expression n))) (expression c) (expression y)
        ∙ ap (expr.Conditional (at s) (code_expression (each_expression at c)) (code_expression (each_expression at y))) (expression n)
        ∙ sym (expr.rolls-Conditional _ _ _ _)

    operands : (os : Operands Span) → map (moved_operand g) (code_operands os) ≡ code_operands (each_operands (span_by g) os)
    operands no_operands = refl
    operands (operand o e more) =
        ap₂ (λ x xs. x ∷ xs)
        (fold-roll-Operand _ _ _ _ _ _ _ _ _ _ (record { operator = o; value = code_expression e }) ∙ ap (with_operator o) (expression e)) (operands more)

    the_tail : (t : Tail Span) → moved_tail g (code_tail t) ≡ code_tail (each_tail (span_by g) t)
    the_tail (method s x l) =
        fold-roll-Tail _ _ _ _ _ _ _ _ _ _ (Tail-F.Method s x.place (code_listing l))
        ∙ ap (rust_tail.Method (at s) (at x.place)) (list l)
        ∙ sym (rust_tail.rolls-Method _ _ _)
    the_tail (index s e) =
        fold-roll-Tail _ _ _ _ _ _ _ _ _ _ (Tail-F.Index s (code_expression e))
        ∙ ap (rust_tail.Index (at s)) (expression e)
        ∙ sym (rust_tail.rolls-Index _ _)

    the_tails : (ts : Tails Span) → map (moved_tail g) (code_tails ts) ≡ code_tails (each_tails (span_by g) ts)
    the_tails no_tails = refl
    the_tails (tail t more) = ap₂ (λ x xs. x ∷ xs) (the_tail t) (the_tails more)

    pub list : (l : Listing Span) → moved_list g (code_listing l) ≡ code_listing (each_listing (span_by g) l)
    list (listing s trailing items) =
        fold-roll-List _ _ _ _ _ _ _ _ _ _ (record { items = code_arguments items; trailing = trailing; span = s })
        ∙ ap (with_items trailing (at s)) (arguments items)

    the_argument : (a : Argument Span) → moved_arg g (code_argument a) ≡ code_argument (each_argument (span_by g) a)
    the_argument (plain e) =
        fold-roll-Arg _ _ _ _ _ _ _ _ _ _ (Arg-F.Plain (code_expression e))
        ∙ ap arg.Plain (expression e)
        ∙ sym (arg.rolls-Plain _)
    the_argument (named s x e) =
        fold-roll-Arg _ _ _ _ _ _ _ _ _ _ (Arg-F.Named s x.place (code_expression e))
        ∙ ap (arg.Named (at s) (at x.place)) (expression e)
        ∙ sym (arg.rolls-Named _ _ _)
    the_argument (pair s e f) =
        fold-roll-Arg _ _ _ _ _ _ _ _ _ _ (Arg-F.Pair s (code_expression e) (code_expression f))
        ∙ ap₂ (arg.Pair (at s)) (expression e) (expression f)
        ∙ sym (arg.rolls-Pair _ _ _)

    arguments : (items : Arguments Span) → map (moved_arg g) (code_arguments items) ≡ code_arguments (each_arguments (span_by g) items)
    arguments no_arguments = refl
    arguments (argument a more) = ap₂ (λ x xs. x ∷ xs) (the_argument a) (arguments more)

  names : (xs : List (Name Span)) → map (span_by g) (places_of_names xs) ≡ places_of_names (map (each_name (span_by g)) xs)
  names [] = refl
  names (x ∷ xs) = ap (λ more. at x.place ∷ more) (names xs)

  mutual
    the_statement : (s : Statement Span) → moved_stmt g (code_statement s) ≡ code_statement (each_statement (span_by g) s)
    the_statement (evaluate e) = fold-roll-Stmt _ _ _ _ _ _ (Stmt-F.Expr (code_expression e)) ∙ ap stmt.Expr (expression e) ∙ sym (stmt.rolls-Expr _)
    the_statement (assign s x a e) =
        fold-roll-Stmt _ _ _ _ _ _ (Stmt-F.Assign s x.place a (code_expression e))
        ∙ ap (stmt.Assign (at s) (at x.place) a) (expression e)
        ∙ sym (stmt.rolls-Assign _ _ _ _)
    the_statement (selection s bs nothing_else) =
        fold-roll-Stmt _ _ _ _ _ _ (Stmt-F.If s (code_branches bs) None)
        ∙ ap (λ list. stmt.If (at s) list None) (branches bs)
        ∙ sym (stmt.rolls-If _ _ _)
    the_statement (selection s bs (otherwise b)) =
        fold-roll-Stmt _ _ _ _ _ _ (Stmt-F.If s (code_branches bs) (Some (code_block b)))
        ∙ ap₂ (λ list c. stmt.If (at s) list (Some c)) (branches bs) (the_block b)
        ∙ sym (stmt.rolls-If _ _ _)
    the_statement (iteration s xs e b) =
        fold-roll-Stmt _ _ _ _ _ _ (Stmt-F.Foreach s (places_of_names xs) (code_expression e) (code_block b))
        ∙ ap₂ (λ list d. stmt.Foreach (at s) list d (moved_block g (code_block b))) (names xs) (expression e)
        ∙ ap (stmt.Foreach (at s) (places_of_names (map (each_name at) xs)) (code_expression (each_expression at e))) (the_block b)
        ∙ sym (stmt.rolls-Foreach _ _ _ _)
    the_statement (breaks s) = fold-roll-Stmt _ _ _ _ _ _ (Stmt-F.Break s) ∙ sym (stmt.rolls-Break _)
    the_statement (continues s) = fold-roll-Stmt _ _ _ _ _ _ (Stmt-F.Continue s) ∙ sym (stmt.rolls-Continue _)

    branches : (bs : Branches Span) → map (moved_branch g) (code_branches bs) ≡ code_branches (each_branches (span_by g) bs)
    branches no_branches = refl
    branches (branch e b more) =
        ap₂ (λ x xs. x ∷ xs)
        (fold-roll-Branch _ _ _ _ _ _ (record { condition = code_expression e; block = code_block b }) ∙ ap₂ with_condition (expression e) (the_block b))
        (branches more)

    statements : (list : Statements Span) → map (moved_stmt g) (code_statements list) ≡ code_statements (each_statements (span_by g) list)
    statements no_statements = refl
    statements (statement s more) = ap₂ (λ x xs. x ∷ xs) (the_statement s) (statements more)

    the_block : (b : Block Span) → moved_block g (code_block b) ≡ code_block (each_block (span_by g) b)
    the_block (block s list) =
        fold-roll-Block _ _ _ _ _ _ (record { statements = code_statements list; span = s }) ∙ ap (with_statements (at s)) (statements list)

  pub the_file : (f : File Span) → moved_parsed g (code_file f) ≡ code_file (each_file (span_by g) f)
  the_file (file s b) = ap (λ c. record { block = c; span = at s }) (the_block b)
