-- The name of the function of a call in a file is an identifier.
use Rattle.std.proofs.Common.{◌≡◌, ℕ, ◌<◌, List, ◌++◌, Some, length, get_or, sym, subst}
use Rattle.meson_lex.specs.Kinds.{IsIdentifier}
use Rattle.meson_lex.specs.declared.kinds.Span.{Span}
use Rattle.meson_splice.specs.Files.{bytes_at}
use Rattle.meson_splice.specs.declared.file_set.File.{File}
use Rattle.meson_syntax.specs.declared.tree.Parsed.{Parsed}
use Rattle.meson_syntax.specs.Grammar.{expression_words, file_words}
use Rattle.meson_syntax.specs.Paths.{Sort, of_expression, of_statement, of_block, Node, node_words, expression_of, reach}
use Rattle.meson_syntax.specs.Paths as paths
use Rattle.meson_syntax.specs.Tree.{Name, Expression, call, Listing, erase}
use Rattle.meson_syntax.specs.Tree as tree
use Rattle.meson_syntax.specs.View.{view}
use Rattle.meson_syntax.proofs.parsing.FileErased.{file-words-erased}
use Rattle.meson_syntax.proofs.paths.Reaching.{and-then-some, reach-fits}
use Rattle.meson_calls.specs.Loading.{AreParsed}
use Rattle.meson_calls.specs.Strings.{AreGood}
use Rattle.meson_calls.proofs.CallsAt.{spanned_at}
use Rattle.meson_calls.proofs.GoodParts.{good_left, good_right}
use Rattle.meson_calls.proofs.GoodTexts.{text_good}

node_good : (sort : Sort) (x : Node sort Span) (e : Expression Span) → expression_of Span sort x ≡ Some e → AreGood (node_words Span sort x) → AreGood (expression_words e)
node_good of_expression x e is good = let same : x ≡ e = cc in subst (λ y. AreGood (expression_words y)) same good
node_good of_statement x e is good = cc
node_good of_block x e is good = cc

expression_good : (f : tree.File Span) (path : List ℕ) (e : Expression Span) → paths.expression_on_path f path ≡ Some e → AreGood (file_words f) → AreGood (expression_words e)
expression_good (tree.file s b) path e is good =
    let o = and-then-some (λ h. expression_of Span h.sort h.inside) (reach Span of_block b path) e is in
    let h = o.0 in
    let fits = reach-fits Span of_block b path h o.1 in
    let whole = subst AreGood (fits.put h.inside) (subst (λ y. AreGood (node_words Span of_block y)) (sym fits.same) good) in
    node_good h.sort h.inside e o.2 (good_left (node_words Span h.sort h.inside) h.behind (good_right h.before (node_words Span h.sort h.inside ++ h.behind) whole))

pub called_named : (files : List File) (trees : List Parsed) (n : ℕ) (path : List ℕ) (d : Parsed) → n < length trees → AreParsed files trees → (s : Span) (x : Name Span) (l : Listing Span)
    → Some (call s x l) ≡ paths.expression_on_path (view (bytes_at n files) (get_or trees n d)) path → IsIdentifier x.text
called_named files trees n path d within are s x l is =
    let the_tree = view (bytes_at n files) (get_or trees n d) in
    let spanned = spanned_at files trees n d within are in
    let good = subst AreGood (file-words-erased the_tree) (text_good (bytes_at n files) (erase the_tree) spanned.reads.spells) in
    (expression_good the_tree path (call s x l) (sym is) good).0
