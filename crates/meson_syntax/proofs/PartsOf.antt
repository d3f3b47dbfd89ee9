-- The parts of a block of the code.
use Rattle.std.proofs.Common.{rules, ◌≡◌, ℕ, List, [], ◌∷◌, map, refl, ap}
use Rattle.meson_lex.specs.declared.kinds.Span.{Span}
use Rattle.meson_syntax.specs.declared.tree.Stmt.{Stmt}
use Rattle.meson_syntax.specs.declared.tree.Block as rust_block
use Rattle.meson_syntax.specs.declared.tree.Stmt.TheFolds.{the_lemmas}
use Rattle.meson_syntax.specs.Tree.{block, statements_of}
use Rattle.meson_syntax.specs.Children.{Any, a_statement}
use Rattle.meson_syntax.specs.inside.Children.{statements_parts}
use Rattle.meson_syntax.specs.View.{stmt_view, stmts_view, block_view}

abbrev pub stmt_part : List ℕ → Stmt → Any Span
stmt_part source s = a_statement (stmt_view source s)

pub stmts-parts : (source : List ℕ) (stmts : List Stmt) → statements_parts (statements_of (stmts_view source stmts)) ≡ map (stmt_part source) stmts
stmts-parts source [] = refl
stmts-parts source (s ∷ more) = ap (λ l. a_statement (stmt_view source s) ∷ l) (stmts-parts source more)

pub view-block : (source : List ℕ) (b : rust_block.Block) → block_view source b ≡ block (rust_block.out-Block b).span (statements_of (stmts_view source (rust_block.out-Block b).statements))
view-block source b = search (rules, the_lemmas)
