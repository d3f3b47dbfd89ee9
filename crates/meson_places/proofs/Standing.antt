-- The expression at a place of a project: its strings, and what the slots of it are.
use Rattle.std.proofs.Common.{◌≡◌, ℕ, ◌<◌, ◌≤◌, List, ◌++◌, length, get_or, sym, ap, ◌∙◌, subst}
use Rattle.std.specs.Prelude.{Some, None, Err, option_and_then}
use Rattle.meson_lex.specs.declared.kinds.Span.{Span}
use Rattle.meson_splice.specs.declared.file_set.File.{File}
use Rattle.meson_splice.specs.Files.{bytes_at}
use Rattle.meson_syntax.specs.declared.tree.Parsed.{Parsed}
use Rattle.meson_syntax.specs.Tree.{Expression, erase}
use Rattle.meson_syntax.specs.Tree as tree
use Rattle.meson_syntax.specs.Grammar.{expression_words, file_words}
use Rattle.meson_syntax.specs.Paths.{Sort, of_expression, of_statement, of_block, Node, node_words, expression_of, reach, block_of}
use Rattle.meson_syntax.specs.Paths as paths
use Rattle.meson_syntax.specs.View.{view}
use Rattle.meson_syntax.proofs.parsing.FileErased.{file-words-erased}
use Rattle.meson_syntax.proofs.paths.Reaching.{and-then-some, reach-fits}
use Rattle.meson_calls.specs.declared.call.CallRef.{CallRef}
use Rattle.meson_calls.specs.declared.refusal.Refusal.TheVariants.{NotFound}
use Rattle.meson_calls.specs.Loading.{AreParsed, named_trees, views}
use Rattle.meson_calls.specs.Project.{Project, expression_at}
use Rattle.meson_calls.specs.Strings.{AreGood}
use Rattle.meson_calls.proofs.CallsAt.{spanned_at}
use Rattle.meson_calls.proofs.GoodParts.{good_left, good_right}
use Rattle.meson_calls.proofs.GoodTexts.{text_good}
use Rattle.meson_calls.proofs.Standing.{nth_past, nth_there}
use Rattle.meson_places.specs.declared.slots.Slot.TheVariants as slot
use Rattle.meson_places.specs.Slots.{slot_from, slot_in, the_slot}

-- ---- strings

node_good : (sort : Sort) (x : Node sort Span) (e : Expression Span) → AreGood (node_words Span sort x) → expression_of Span sort x ≡ Some e → AreGood (expression_words e)
node_good of_expression x e good is = let same : x ≡ e = cc in subst (λ y. AreGood (expression_words y)) same good
node_good of_statement x e good is = cc
node_good of_block x e good is = cc

pub expression_good : (f : tree.File Span) (path : List ℕ) (e : Expression Span) → paths.expression_on_path f path ≡ Some e → AreGood (node_words Span of_block (block_of f)) → AreGood (expression_words e)
expression_good f path e is good =
    let o = and-then-some (λ h. expression_of Span h.sort h.inside) (reach Span of_block (block_of f) path) e is in
    let h = o.0 in
    let fits = reach-fits Span of_block (block_of f) path h o.1 in
    let whole = subst AreGood (fits.put h.inside) (subst (λ b. AreGood (node_words Span of_block b)) (sym fits.same) good) in
    node_good h.sort h.inside e (good_left (node_words Span h.sort h.inside) h.behind (good_right h.before (node_words Span h.sort h.inside ++ h.behind) whole)) o.2

pub block_good : (f : tree.File Span) → AreGood (file_words f) → AreGood (node_words Span of_block (block_of f))
block_good (tree.file s b) good = good

module _ (files : List File) (trees : List Parsed) (c : CallRef) where
  abbrev p : Project Span
  p = named_trees files (views files trees)

  pub past_all : length trees ≤ c.file → expression_at p c ≡ None
  past_all past = ap (λ f. option_and_then (λ g. paths.expression_on_path g.tree c.path.steps) f) (nth_past files trees c.file past)

  pub past_files : (keys : List (List ℕ)) → length trees ≤ c.file → the_slot p c keys ≡ Err NotFound
  past_files keys past = ap (λ f. slot_from c keys (option_and_then (λ g. paths.expression_on_path g.tree c.path.steps) f)) (nth_past files trees c.file past)

  module _ (d : Parsed) (many : length trees ≡ length files) (within : c.file < length trees) where
    abbrev the_tree : tree.File Span
    the_tree = view (bytes_at c.file files) (get_or trees c.file d)

    pub stands : expression_at p c ≡ paths.expression_on_path the_tree c.path.steps
    stands = ap (λ f. option_and_then (λ g. paths.expression_on_path g.tree c.path.steps) f) (nth_there files trees c.file d many within)

    pub no_slot : (keys : List (List ℕ)) → None ≡ paths.expression_on_path the_tree c.path.steps → the_slot p c keys ≡ Err NotFound
    no_slot keys none = ap (slot_from c keys) (stands ∙ sym none)

    pub slot_there : (keys : List (List ℕ)) (e : Expression Span) → Some e ≡ paths.expression_on_path the_tree c.path.steps → the_slot p c keys ≡ slot_in c e (slot.Whole c) keys
    slot_there keys e is = ap (slot_from c keys) (stands ∙ sym is)

    pub value_good : (e : Expression Span) → AreParsed files trees → Some e ≡ paths.expression_on_path the_tree c.path.steps → AreGood (expression_words e)
    value_good e are is =
        let spanned = spanned_at files trees c.file d within are in
        let good = subst AreGood (file-words-erased the_tree) (text_good (bytes_at c.file files) (erase the_tree) spanned.reads.spells) in
        expression_good the_tree c.path.steps e (sym is) (block_good the_tree good)
