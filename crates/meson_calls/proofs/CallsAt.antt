-- The call at a place, and the strings in it.
use Rattle.meson_calls.proofs.Words.{option_map, ◌≡◌, ℕ, zero, suc, ◌<◌, List, [], ◌∷◌, ◌++◌, length, get_or, sym, subst, arith, Some, None, bytes_at, File}
use Rattle.meson_calls.proofs.Words.{Span, expression_words, file_words, Sort, of_expression, of_statement, of_block, Node, node_words, expression_of, reach}
use Rattle.meson_calls.proofs.Words.{block_of, IsSpanned, Expression, call, Listing, erase, view, Parsed, file-words-erased, and-then-some, reach-fits, call_of}
use Rattle.meson_calls.proofs.Words.{GoodListing, AreParsed, named_trees, views, BuildFile, nth_file, AreGood, CallRef}
use Rattle.meson_syntax.specs.declared.operator.Bracket.TheVariants as bracket
use Rattle.meson_syntax.specs.Tree as tree
use Rattle.meson_syntax.specs.Paths as paths
use Rattle.meson_calls.proofs.GoodParts.{good_left, good_right}
use Rattle.meson_calls.proofs.GoodTexts.{text_good}
use Rattle.meson_calls.proofs.Nested.{good_listing}

-- ---- strings

node_good : (sort : Sort) (x : Node sort Span) (e : Expression Span) → AreGood (node_words Span sort x) → expression_of Span sort x ≡ Some e → AreGood (expression_words e)
node_good of_expression x e good is = let same : x ≡ e = cc in subst (λ y. AreGood (expression_words y)) same good
node_good of_statement x e good is = cc
node_good of_block x e good is = cc

expression_good : (f : tree.File Span) (path : List ℕ) (e : Expression Span) → paths.expression_on_path f path ≡ Some e → AreGood (node_words Span of_block (block_of f)) → AreGood (expression_words e)
expression_good f path e is good =
    let o = and-then-some (λ h. expression_of Span h.sort h.inside) (reach Span of_block (block_of f) path) e is in
    let h = o.0 in
    let fits = reach-fits Span of_block (block_of f) path h o.1 in
    let whole = subst AreGood (fits.put h.inside) (subst (λ b. AreGood (node_words Span of_block b)) (sym fits.same) good) in
    node_good h.sort h.inside e (good_left (node_words Span h.sort h.inside) h.behind (good_right h.before (node_words Span h.sort h.inside ++ h.behind) whole)) o.2

block_good : (f : tree.File Span) → AreGood (file_words f) → AreGood (node_words Span of_block (block_of f))
block_good (tree.file s b) good = good

pub spanned_at : (files : List File) (trees : List Parsed) (i : ℕ) (d : Parsed) → i < length trees → AreParsed files trees → IsSpanned (bytes_at i files) (view (bytes_at i files) (get_or trees i d))
spanned_at files [] i d within are = absurd (omega (arith, within))
spanned_at [] (t ∷ trees) i d within are = absurd are
spanned_at (f ∷ files) (t ∷ trees) zero d within are = are.0
spanned_at (f ∷ files) (t ∷ trees) (suc i) d within are = let below : i < length trees = omega (arith, within) in spanned_at files trees i d below are.1

pub some_within : (files : List File) (trees : List Parsed) (n : ℕ) (g : BuildFile Span) → nth_file (named_trees files (views files trees)) n ≡ Some g → n < length trees
some_within [] trees n g is = absurd cc
some_within (f ∷ files) [] n g is = absurd cc
some_within (f ∷ files) (t ∷ trees) zero g is = omega arith
some_within (f ∷ files) (t ∷ trees) (suc n) g is = let below = some_within files trees n g is in omega (arith, below)

call_good : (e : Expression Span) (l : Listing Span) → Some l ≡ option_map (λ k. k.arguments) (call_of e) → AreGood (expression_words e) → GoodListing l
call_good (call s x m) l is good = let same : m ≡ l = cc in subst GoodListing same (good_listing m bracket.Round good.1)
call_good _ l is good = absurd (none_some is)
  where
    none_some : Some l ≡ None → ⊥
    none_some h = cc

module _ (files : List File) (trees : List Parsed) (c : CallRef) (d : Parsed) (many : length trees ≡ length files) (within : c.file < length trees) where
  abbrev pub the_tree : tree.File Span
  the_tree = view (bytes_at c.file files) (get_or trees c.file d)

  pub listing_good : (e : Expression Span) (l : Listing Span) → AreParsed files trees → Some e ≡ paths.expression_on_path the_tree c.path.steps → Some l ≡ option_map (λ k. k.arguments) (call_of e) → GoodListing l
  listing_good e l are is is_call =
      let spanned = spanned_at files trees c.file d within are in
      let good = subst AreGood (file-words-erased the_tree) (text_good (bytes_at c.file files) (erase the_tree) spanned.reads.spells) in
      call_good e l is_call (expression_good the_tree c.path.steps e (sym is) (block_good the_tree good))
