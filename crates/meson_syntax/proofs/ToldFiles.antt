-- So does the view of a statement, and of a file.
use Rattle.std.proofs.Common.{◌≡◌, ℕ, List, [], ◌∷◌, map, Some, None, refl, ap, ap₂, ◌∙◌, subst}
use Rattle.meson_lex.specs.declared.kinds.Span.{Span}
use Rattle.meson_syntax.specs.declared.tree.Stmt.{Stmt}
use Rattle.meson_syntax.specs.declared.tree.Stmt.TheOpen.{Stmt-F, Block-F, Branch-F}
use Rattle.meson_syntax.specs.declared.tree.Stmt.TheViews.{roll-Stmt, roll-Block, roll-Branch}
use Rattle.meson_syntax.specs.declared.tree.Stmt.TheFolds.{fold-roll-Stmt, fold-roll-Block, fold-roll-Branch, map-Stmt, map-Block, map-Branch, ind-Block}
use Rattle.meson_syntax.specs.declared.tree.Branch.{Branch}
use Rattle.meson_syntax.specs.declared.tree.Block as rust
use Rattle.meson_syntax.specs.declared.tree.Parsed.{Parsed}
use Rattle.meson_syntax.specs.Tree.{Expression, Block, branches_of, statements_of}
use Rattle.meson_syntax.specs.View.{stmt_view, block_view, branch_view, names_at, view}
use Rattle.meson_syntax.specs.Codes.{places_of_names, code_expression, code_statement, code_statements, code_branches, code_block, code_file}
use Rattle.meson_syntax.proofs.Told.{value, values, expr_told}

abbrev branch_code : Expression Span × Block Span → Branch
branch_code b = roll-Branch (record { condition = code_expression b.0; block = code_block b.1 })

module _ (source : List ℕ) where
  names : (spans : List Span) → places_of_names (names_at source spans) ≡ spans
  names [] = refl
  names (s ∷ spans) = ap (λ more. s ∷ more) (names spans)

  -- what is told of a value of each type
  abbrev OfStmt : Stmt → Type 0
  OfStmt s = code_statement (stmt_view source s) ≡ s

  abbrev OfBlock : rust.Block → Type 0
  OfBlock b = code_block (block_view source b) ≡ b

  abbrev OfBranch : Branch → Type 0
  OfBranch b = branch_code (branch_view source b) ≡ b

  -- the values of which it is told
  abbrev S : Type 0
  S = (s : Stmt) × OfStmt s

  abbrev B : Type 0
  B = (b : rust.Block) × OfBlock b

  abbrev C : Type 0
  C = (b : Branch) × OfBranch b

  stmts : (xs : List S) → code_statements (statements_of (map (stmt_view source) (values xs))) ≡ values xs
  stmts [] = refl
  stmts (x ∷ xs) = ap₂ (λ y ys. y ∷ ys) x.1 (stmts xs)

  branches : (xs : List C) → code_branches (branches_of (map (branch_view source) (values xs))) ≡ values xs
  branches [] = refl
  branches (x ∷ xs) = ap₂ (λ y ys. y ∷ ys) x.1 (branches xs)

  abbrev stmt_values : Stmt-F S B C → Stmt-F Stmt rust.Block Branch
  stmt_values = map-Stmt S B C Stmt rust.Block Branch value value value

  stmt_layer : (y : Stmt-F S B C) → OfStmt (roll-Stmt (stmt_values y))
  stmt_layer (Stmt-F.Expr e) = ap code_statement (fold-roll-Stmt _ _ _ _ _ _ (Stmt-F.Expr e)) ∙ ap (λ d. roll-Stmt (Stmt-F.Expr d)) (expr_told source e)
  stmt_layer (Stmt-F.Assign s n a e) =
      ap code_statement (fold-roll-Stmt _ _ _ _ _ _ (Stmt-F.Assign s n a e))
      ∙ ap (λ d. roll-Stmt (Stmt-F.Assign s n a d)) (expr_told source e)
  stmt_layer (Stmt-F.If s bs None) =
      ap code_statement (fold-roll-Stmt _ _ _ _ _ _ (Stmt-F.If s (values bs) None))
      ∙ ap (λ list. roll-Stmt (Stmt-F.If s list None)) (branches bs)
  stmt_layer (Stmt-F.If s bs (Some b)) =
      ap code_statement (fold-roll-Stmt _ _ _ _ _ _ (Stmt-F.If s (values bs) (Some b.0)))
      ∙ ap₂ (λ list d. roll-Stmt (Stmt-F.If s list (Some d))) (branches bs) b.1
  stmt_layer (Stmt-F.Foreach s xs e b) =
      ap code_statement (fold-roll-Stmt _ _ _ _ _ _ (Stmt-F.Foreach s xs e b.0))
      ∙ ap₂ (λ spans d. roll-Stmt (Stmt-F.Foreach s spans d (code_block (block_view source b.0)))) (names xs) (expr_told source e)
      ∙ ap (λ d. roll-Stmt (Stmt-F.Foreach s xs e d)) b.1
  stmt_layer (Stmt-F.Break s) = ap code_statement (fold-roll-Stmt _ _ _ _ _ _ (Stmt-F.Break s))
  stmt_layer (Stmt-F.Continue s) = ap code_statement (fold-roll-Stmt _ _ _ _ _ _ (Stmt-F.Continue s))

  stmt_case : (x : Stmt-F Stmt rust.Block Branch) (y : Stmt-F S B C) → stmt_values y ≡ x → OfStmt (roll-Stmt x)
  stmt_case x y is = subst (λ z. OfStmt (roll-Stmt z)) is (stmt_layer y)

  abbrev block_values : Block-F S B C → Block-F Stmt rust.Block Branch
  block_values = map-Block S B C Stmt rust.Block Branch value value value

  block_layer : (y : Block-F S B C) → OfBlock (roll-Block (block_values y))
  block_layer b =
      ap code_block (fold-roll-Block _ _ _ _ _ _ (record { statements = values b.statements; span = b.span }))
      ∙ ap (λ list. roll-Block (record { statements = list; span = b.span })) (stmts b.statements)

  block_case : (x : Block-F Stmt rust.Block Branch) (y : Block-F S B C) → block_values y ≡ x → OfBlock (roll-Block x)
  block_case x y is = subst (λ z. OfBlock (roll-Block z)) is (block_layer y)

  abbrev branch_values : Branch-F S B C → Branch-F Stmt rust.Block Branch
  branch_values = map-Branch S B C Stmt rust.Block Branch value value value

  branch_layer : (y : Branch-F S B C) → OfBranch (roll-Branch (branch_values y))
  branch_layer b =
      ap branch_code (fold-roll-Branch _ _ _ _ _ _ (record { condition = b.condition; block = b.block.0 }))
      ∙ ap₂ (λ d c. roll-Branch (record { condition = d; block = c })) (expr_told source b.condition) b.block.1

  branch_case : (x : Branch-F Stmt rust.Block Branch) (y : Branch-F S B C) → branch_values y ≡ x → OfBranch (roll-Branch x)
  branch_case x y is = subst (λ z. OfBranch (roll-Branch z)) is (branch_layer y)

  block_told : (b : rust.Block) → OfBlock b
  block_told = ind-Block OfStmt OfBlock OfBranch stmt_case block_case branch_case

  pub file_told : (t : Parsed) → code_file (view source t) ≡ t
  file_told t = ap (λ b. record { block = b; span = t.span }) (block_told t.block)
