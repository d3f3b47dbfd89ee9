-- What holds of the words of a file, and of the first and the last of any words of which it holds, holds of the expressions in the file.
use Rattle.std.proofs.Common.{◌≡◌, ℕ, List, ◌++◌, sym, subst}
use Rattle.std.specs.Prelude.{Some}
use Rattle.meson_lex.specs.Significant.{Word}
use Rattle.meson_lex.specs.declared.kinds.Span.{Span}
use Rattle.meson_syntax.specs.declared.tree.Parsed.{Parsed}
use Rattle.meson_syntax.specs.Grammar.{expression_words, file_words}
use Rattle.meson_syntax.specs.Paths.{Node, Sort, block_of, expression_of, expression_on_path, node_words, of_block, of_expression, of_statement, reach}
use Rattle.meson_syntax.specs.Reads.{IsSpanned}
use Rattle.meson_syntax.specs.Tree.{Expression, erase}
use Rattle.meson_syntax.specs.Tree as tree
use Rattle.meson_syntax.specs.View.{view}
use Rattle.meson_syntax.proofs.parsing.FileErased.{file-words-erased}
use Rattle.meson_syntax.proofs.paths.Reaching.{and-then-some, reach-fits}
use Rattle.meson_calls.specs.Strings.{AreGood}
use Rattle.meson_calls.proofs.GoodParts.{good_left, good_right}
use Rattle.meson_calls.proofs.GoodTexts.{text_good}

module _ (P : List Word → Type 0) (left : (xs ys : List Word) → P (xs ++ ys) → P xs) (right : (xs ys : List Word) → P (xs ++ ys) → P ys) where
  node_read : (sort : Sort) (x : Node sort Span) (e : Expression Span) → expression_of Span sort x ≡ Some e → P (node_words Span sort x) → P (expression_words e)
  node_read of_expression x e is holds = let same : x ≡ e = cc in subst (λ y. P (expression_words y)) same holds
  node_read of_statement x e is holds = cc
  node_read of_block x e is holds = cc

  file_is : (f : tree.File Span) → P (file_words f) → P (node_words Span of_block (block_of f))
  file_is (tree.file s b) holds = holds

  pub among_words : (f : tree.File Span) (path : List ℕ) (e : Expression Span) → expression_on_path f path ≡ Some e → P (file_words f) → P (expression_words e)
  among_words f path e is holds =
      let found = and-then-some (λ h. expression_of Span h.sort h.inside) (reach Span of_block (block_of f) path) e is in
      let h = found.0 in
      let fits = reach-fits Span of_block (block_of f) path h found.1 in
      let whole = subst P (fits.put h.inside) (subst (λ b. P (node_words Span of_block b)) (sym fits.same) (file_is f holds)) in
      node_read h.sort h.inside e found.2 (left (node_words Span h.sort h.inside) h.behind (right h.before (node_words Span h.sort h.inside ++ h.behind) whole))

pub value_good : (bytes : List ℕ) (t : Parsed) (path : List ℕ) (e : Expression Span) → IsSpanned bytes (view bytes t) → expression_on_path (view bytes t) path ≡ Some e → AreGood (expression_words e)
value_good bytes t path e spanned is =
    let f = view bytes t in
    among_words AreGood good_left good_right f path e is (subst AreGood (file-words-erased f) (text_good bytes (erase f) spanned.reads.spells))
