-- Statements with their borders moved, by their parts.
use Rattle.std.proofs.Common.{◌≡◌, ℕ, List, map, option_map, sym, ap, ◌∙◌}
use Rattle.std.specs.Prelude.{Option, None, Some}
use Rattle.meson_lex.specs.declared.kinds.Span.{Span}
use Rattle.meson_syntax.specs.declared.tree.Block.{Block}
use Rattle.meson_syntax.specs.declared.tree.Branch.{Branch}
use Rattle.meson_syntax.specs.declared.tree.Expr.{Expr}
use Rattle.meson_syntax.specs.declared.tree.Stmt.{Stmt}
use Rattle.meson_syntax.specs.declared.tree.Stmt.TheOpen.{Stmt-F}
use Rattle.meson_syntax.specs.declared.tree.Stmt.TheFolds.{fold-roll-Stmt}
use Rattle.meson_syntax.specs.declared.tree.Stmt.TheVariants as stmt
use Rattle.meson_syntax.specs.MovedCode.{moved_block, moved_branch, moved_expr, moved_stmt}
use Rattle.meson_syntax.specs.Moving.{span_by}

module _ (g : ℕ → ℕ) where
  if_moved : (s : Span) (bs : List Branch) (o : Option Block) →
      moved_stmt g (stmt.If s bs o) ≡ stmt.If (span_by g s) (map (moved_branch g) bs) (option_map (moved_block g) o)
  if_moved s bs None = ap (moved_stmt g) (sym (stmt.rolls-If s bs None)) ∙ fold-roll-Stmt _ _ _ _ _ _ (Stmt-F.If s bs None)
  if_moved s bs (Some b) = ap (moved_stmt g) (sym (stmt.rolls-If s bs (Some b))) ∙ fold-roll-Stmt _ _ _ _ _ _ (Stmt-F.If s bs (Some b))

  pub moved_if : (x : Stmt) (s s' : Span) (bs bs' : List Branch) (o o' : Option Block) → x ≡ stmt.If s bs o → s' ≡ span_by g s →
      bs' ≡ map (moved_branch g) bs → o' ≡ option_map (moved_block g) o → stmt.If s' bs' o' ≡ moved_stmt g x
  moved_if x s s' bs bs' o o' is same branches otherwise = cc (if_moved s bs o)

  foreach_moved : (s : Span) (names : List Span) (e : Expr) (b : Block) →
      moved_stmt g (stmt.Foreach s names e b) ≡ stmt.Foreach (span_by g s) (map (span_by g) names) (moved_expr g e) (moved_block g b)
  foreach_moved s names e b = ap (moved_stmt g) (sym (stmt.rolls-Foreach s names e b)) ∙ fold-roll-Stmt _ _ _ _ _ _ (Stmt-F.Foreach s names e b)

  pub moved_foreach : (x : Stmt) (s s' : Span) (names names' : List Span) (e e' : Expr) (b b' : Block) → x ≡ stmt.Foreach s names e b → s' ≡ span_by g s →
      names' ≡ map (span_by g) names → e' ≡ moved_expr g e → b' ≡ moved_block g b → stmt.Foreach s' names' e' b' ≡ moved_stmt g x
  moved_foreach x s s' names names' e e' b b' is same named items body = cc (foreach_moved s names e b)
