-- How deep code nests, and how many constructs are around a block.
use Rattle.std.proofs.Common.{◌≡◌, ℕ, suc, List, [], ◌∷◌, length, refl, sym, ap, ◌∙◌, arith}
use Rattle.std.specs.Prelude.{◌/◌}
use Rattle.std.proofs.Common.{rules}
use Rattle.meson_syntax.specs.declared.tree.Block as rust_block
use Rattle.meson_syntax.specs.declared.tree.Parsed.{Parsed}
use Rattle.meson_syntax.specs.declared.tree.Stmt.{Stmt}
use Rattle.meson_syntax.specs.declared.tree.Stmt.TheFolds.{the_lemmas as statement_lemmas}
use Rattle.meson_syntax.specs.Grammar.{file_depth, statements_depth}
use Rattle.meson_syntax.specs.Reads.{Reads}
use Rattle.meson_syntax.specs.Tree.{block, file, Plain, Statement, statement_list, statements_of}
use Rattle.meson_syntax.specs.View.{block_view, stmts_view, view}
use Rattle.meson_syntax.proofs.parsing.CompleteFiles.{list-of-statements}
use Rattle.meson_edit.specs.ExchangedLines.{file_statements}
use Rattle.meson_statements.proofs.CodeTexts.{trees-are-read}
use Rattle.meson_places.specs.AssignedValues.{around}
use Rattle.meson_code.specs.Insertion.{code_statements, statements_in}

two-more : (n : ℕ) → suc (suc n) / 2 ≡ suc (n / 2)
two-more n = omega arith

pub around-half : (path : List ℕ) → around path ≡ length path / 2
around-half [] = refl
around-half (n ∷ []) = refl
around-half (n ∷ m ∷ path) = ap suc (around-half path) ∙ sym (two-more (length path))

pub code-read : (code : List ℕ) (t : Plain) → Reads code t → code_statements code ≡ file_statements t
code-read code t reads = ap statements_in ((trees-are-read code t).1 reads)

statements-deep : (t : Plain) → statements_depth (statements_of (file_statements t)) ≡ file_depth t
statements-deep (file s (block b list)) = ap statements_depth (list-of-statements list)

pub code-deep : (code : List ℕ) (t : Plain) → Reads code t → statements_depth (statements_of (code_statements code)) ≡ file_depth t
code-deep code t reads = ap (λ new. statements_depth (statements_of new)) (code-read code t reads) ∙ statements-deep t

-- ---- the statements of a file

listed : {S : Type 0} (xs : List (Statement S)) → length (statement_list (statements_of xs)) ≡ length xs
listed [] = refl
listed (x ∷ xs) = ap suc (listed xs)

module _ (source : List ℕ) where
  block-is : (b : rust_block.Block) → block_view source b ≡ block (rust_block.out-Block b).span (statements_of (stmts_view source (rust_block.out-Block b).statements))
  block-is b = search (rules, statement_lemmas)

  viewed : (xs : List Stmt) → length (stmts_view source xs) ≡ length xs
  viewed [] = refl
  viewed (x ∷ xs) = ap suc (viewed xs)

  pub count-is : (p : Parsed) → length (file_statements (view source p)) ≡ length p.block.statements
  count-is p =
      ap (λ b. length (file_statements (file p.span b))) (block-is p.block)
      ∙ listed (stmts_view source (rust_block.out-Block p.block).statements) ∙ viewed (rust_block.out-Block p.block).statements
