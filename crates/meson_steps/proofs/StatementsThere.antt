-- The blocks of a selection over a source, and the statements of a block.
use Rattle.meson_steps.proofs.Words.{rules, ◌≡◌, ℕ, zero, suc, ◌+◌, ◌<◌, ◌≤◌, List, [], ◌∷◌, ◌++◌, drop, length, get_or, Option, Some, None, refl, sym, ap, ◌∙◌}
use Rattle.meson_steps.proofs.Words.{arith, option_map, option_and_then, at_drop_more, Span, Any, nth, Statement, evaluate, Block, statement_list}
use Rattle.meson_steps.proofs.Words.{statements_of, expr_view, stmt_view, stmts_view, block_view, Expr, rust_branches_parts, BlockAt, statement_in, block_any}
use Rattle.meson_syntax.specs.declared.tree.Block as rust_block
use Rattle.meson_syntax.specs.declared.tree.Branch.{Branch}
use Rattle.meson_syntax.specs.declared.tree.Stmt.{Stmt}
use Rattle.meson_syntax.specs.declared.tree.Stmt.TheVariants as stmt
use Rattle.meson_syntax.specs.declared.tree.Stmt.TheFolds.{the_lemmas}
use Rattle.meson_syntax.proofs.PartsOf.{view-block}
use Rattle.meson_calls.proofs.StatementParts.{branch_block}

-- ---- the blocks of a selection

module _ (source : List ℕ) (others : List (Any Span)) where
  abbrev pub look_block : List Branch → ℕ → Option (Block Span)
  look_block bs n = option_and_then block_any (nth (rust_branches_parts source bs ++ others) n)

  module _ (bs : List Branch) (i : ℕ) (d : Branch) (left : ℕ) (whole : Option (Block Span)) (within : i < length bs) (so_far : look_block (drop i bs) left ≡ whole) where
    turn : look_block (get_or bs i d ∷ drop (i + 1) bs) left ≡ whole
    turn = sym (at_drop_more (λ xs. look_block xs left) bs i d within) ∙ so_far

    none_here : left ≡ 0 → None ≡ whole
    none_here is = ap (look_block (get_or bs i d ∷ drop (i + 1) bs)) (sym is) ∙ turn

    pub block_here : left ≡ 1 → Some (block_view source (get_or bs i d).block) ≡ whole
    block_here is = ap Some (sym (branch_block source (get_or bs i d))) ∙ ap (look_block (get_or bs i d ∷ drop (i + 1) bs)) (sym is) ∙ turn

    later : (n : ℕ) → left ≡ n + 2 → look_block (drop (i + 1) bs) n ≡ whole
    later n is =
        let more : left ≡ suc (suc n) = omega (arith, is) in
        ap (look_block (get_or bs i d ∷ drop (i + 1) bs)) (sym more) ∙ turn

  pub condition_none : (bs : List Branch) (i left : ℕ) (whole : Option (Block Span)) → i < length bs → look_block (drop i bs) left ≡ whole → left ≡ 0 → None ≡ whole
  condition_none [] i left whole within so_far is = absurd (omega (arith, within))
  condition_none (b ∷ bs) i left whole within so_far is = none_here (b ∷ bs) i b left whole within so_far is

  pub block_later : (bs : List Branch) (i left : ℕ) (whole : Option (Block Span)) → i < length bs → look_block (drop i bs) left ≡ whole → (n : ℕ) → left ≡ n + 2 → look_block (drop (i + 1) bs) n ≡ whole
  block_later [] i left whole within so_far n is = absurd (omega (arith, within))
  block_later (b ∷ bs) i left whole within so_far n is = later (b ∷ bs) i b left whole within so_far n is

-- ---- the statements of a block

listed : (xs : List (Statement Span)) → statement_list (statements_of xs) ≡ xs
listed [] = refl
listed (x ∷ xs) = ap (λ l. x ∷ l) (listed xs)

module _ (source : List ℕ) where
  nth_stmt : (stmts : List Stmt) (n : ℕ) (d : Stmt) → n < length stmts → nth (stmts_view source stmts) n ≡ Some (stmt_view source (get_or stmts n d))
  nth_stmt [] n d within = absurd (omega (arith, within))
  nth_stmt (s ∷ stmts) zero d within = refl
  nth_stmt (s ∷ stmts) (suc n) d within = let below : n < length stmts = omega (arith, within) in nth_stmt stmts n d below

  no_stmt : (stmts : List Stmt) (n : ℕ) → length stmts ≤ n → nth (stmts_view source stmts) n ≡ None
  no_stmt [] n past = refl
  no_stmt (s ∷ stmts) zero past = absurd (omega (arith, past))
  no_stmt (s ∷ stmts) (suc n) past = let below : length stmts ≤ n = omega (arith, past) in no_stmt stmts n below

  module _ (b : rust_block.Block) (stmts : List Stmt) (same : stmts ≡ (rust_block.out-Block b).statements) (n : ℕ) where
    of_block : statement_in (block_view source b) n ≡ nth (stmts_view source stmts) n
    of_block =
        ap (λ x. statement_in x n) (view-block source b)
        ∙ ap (λ xs. nth xs n) (listed (stmts_view source (rust_block.out-Block b).statements))
        ∙ ap (λ xs. nth (stmts_view source xs) n) (sym same)

    pub statement_here : (d : Stmt) → n < length stmts → Some (stmt_view source (get_or stmts n d)) ≡ statement_in (block_view source b) n
    statement_here d within = sym (of_block ∙ nth_stmt stmts n d within)

    pub statement_past : length stmts ≤ n → None ≡ statement_in (block_view source b) n
    statement_past past = sym (of_block ∙ no_stmt stmts n past)

  pub evaluate_view : (e : Expr) → stmt_view source (stmt.Expr e) ≡ evaluate (expr_view source e)
  evaluate_view e = search (rules, the_lemmas)

-- ---- a statement at a path

pub in_inside : (o : Option (BlockAt Span)) (n : ℕ) → option_and_then (λ (b : BlockAt Span). statement_in b.inside n) o ≡ option_and_then (λ b. statement_in b n) (option_map (λ (b : BlockAt Span). b.inside) o)
in_inside None n = refl
in_inside (Some b) n = refl
