-- Whether a file that is parsed has a statement, by its tree and by the code's value of that.
use Rattle.std.proofs.Common.{◌≡◌, ◌==◌, rules, ℕ, Bool, true, false, not, List, [], ◌∷◌, length, refl, sym, ap, ◌∙◌, arith}
use Rattle.std.proofs.lemmas.Bool.{ne_eqb}
use Rattle.meson_lex.specs.declared.kinds.Span.{Span}
use Rattle.meson_syntax.specs.declared.tree.Block as rust_block
use Rattle.meson_syntax.specs.declared.tree.Parsed.{Parsed}
use Rattle.meson_syntax.specs.declared.tree.Stmt.{Stmt}
use Rattle.meson_syntax.specs.declared.tree.Stmt.TheFolds.{the_lemmas as statement_lemmas}
use Rattle.meson_syntax.specs.Tree.{block, erase, file, statements_of}
use Rattle.meson_syntax.specs.View.{block_view, stmts_view, view}
use Rattle.meson_edit.specs.Edits.{is_empty}
use Rattle.meson_edit.specs.ExchangedLines.{file_statements}

module _ (source : List ℕ) where
  block-is : (b : rust_block.Block) → block_view source b ≡ block (rust_block.out-Block b).span (statements_of (stmts_view source (rust_block.out-Block b).statements))
  block-is b = search (rules, statement_lemmas)

  none-of : (s t : Span) (list : List Stmt) → is_empty (file_statements (erase (file s (block t (statements_of (stmts_view source list)))))) ≡ (length list == 0)
  none-of s t [] = refl
  none-of s t (x ∷ xs) = sym (ne_eqb (length (x ∷ xs)) 0 (λ e. omega arith))

  pub none-there : (p : Parsed) → is_empty (file_statements (erase (view source p))) ≡ (length p.block.statements == 0)
  none-there p =
      ap (λ b. is_empty (file_statements (erase (file p.span b)))) (block-is p.block) ∙ none-of p.span (rust_block.out-Block p.block).span (rust_block.out-Block p.block).statements

pub not-true : (b : Bool) → not b ≡ true → b ≡ false
not-true true h = cc
not-true false h = refl
