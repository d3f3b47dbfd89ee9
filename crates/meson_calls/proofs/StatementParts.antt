-- The parts of a statement over a source; statements and branches.
use Rattle.meson_calls.proofs.Words.{rules, ◌≡◌, ℕ, ◌*◌, List, [], ◌∷◌, length, refl, arith, Option, Some, None, Span, selection, iteration, branches_of}
use Rattle.meson_calls.proofs.Words.{statements_of, names_at, expr_view, stmt_view, stmts_view, block_view, branch_view, branches_view, Branch, Expr, Stmt}
use Rattle.meson_calls.proofs.Words.{Part, parts_of_statement, parts_of_statements, parts_of_branches, branches_child_count, Placed, child, CallRef, else_view}
use Rattle.meson_calls.proofs.Words.{parts_of_branch}
use Rattle.meson_syntax.specs.declared.tree.Block as rust_block
use Rattle.meson_syntax.specs.declared.tree.Stmt.TheVariants as stmt
use Rattle.meson_syntax.specs.declared.tree.Stmt.TheFolds.{the_lemmas}

module _ (source : List ℕ) where
  pub if_view : (s : Span) (bs : List Branch) (o : Option rust_block.Block) → stmt_view source (stmt.If s bs o) ≡ selection s (branches_of (branches_view source bs)) (else_view source o)
  if_view s bs None = search (rules, the_lemmas)
  if_view s bs (Some b) = search (rules, the_lemmas)

  pub foreach_view : (s : Span) (names : List Span) (items : Expr) (body : rust_block.Block) →
      stmt_view source (stmt.Foreach s names items body) ≡ iteration s (names_at source names) (expr_view source items) (block_view source body)
  foreach_view s names items body = search (rules, the_lemmas)

  pub branch_condition : (b : Branch) → (branch_view source b).0 ≡ expr_view source b.condition
  branch_condition b = search (rules, the_lemmas)

  pub branch_block : (b : Branch) → (branch_view source b).1 ≡ block_view source b.block
  branch_block b = search (rules, the_lemmas)

  abbrev pub branches_count : List Branch → ℕ
  branches_count bs = branches_child_count (branches_of (branches_view source bs))

  pub two_each : (bs : List Branch) → 2 * length bs ≡ branches_count bs
  two_each [] = refl
  two_each (b ∷ bs) =
      let others = two_each bs in
      omega (arith, others)

  module _ (p : CallRef) where
    abbrev pub list_parts : ℕ → List Stmt → List (Placed (Part Span))
    list_parts n ss = parts_of_statements p n (statements_of (stmts_view source ss))

    abbrev pub list_part : ℕ → Stmt → List (Placed (Part Span))
    list_part n s = parts_of_statement (child p n) (stmt_view source s)

    abbrev pub conditions_parts : ℕ → List Branch → List (Placed (Part Span))
    conditions_parts n bs = parts_of_branches p n (branches_of (branches_view source bs))

    abbrev pub conditions_part : ℕ → Branch → List (Placed (Part Span))
    conditions_part n b = parts_of_branch p n (branch_view source b)
