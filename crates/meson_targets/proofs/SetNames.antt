-- The variable that a statement of a file sets is an identifier.
use Rattle.meson_targets.proofs.Words.{◌≡◌, ℕ, zero, suc, List, [], ◌∷◌, ◌++◌, Some, sym, ap, ◌∙◌, subst, option_and_then, option_map, File, IsIdentifier}
use Rattle.meson_targets.proofs.Words.{new_line, Span, statement_words, statements_words, block_words, file_words, Sort, of_expression, of_statement, of_block}
use Rattle.meson_targets.proofs.Words.{Node, node_words, reach, nth, Statement, assign, Statements}
use Rattle.meson_targets.proofs.Words.{no_statements, statement, statement_list, Block, block, file, erase, view, Parsed, some-injective, and-then-some}
use Rattle.meson_targets.proofs.Words.{map-some, reach-fits, BlockAt, block_of_node, block_at, statement_in, AreParsed, named_trees, views, Project, BuildFile}
use Rattle.meson_targets.proofs.Words.{nth_file, AreGood, CallRef, StatementPlace, Held, Holder, set_to, held_by, holder, statement_of, statement_there}
use Rattle.meson_targets.proofs.Words.{held_view, holder_view, IsNamed}
use Rattle.meson_syntax.specs.declared.operator.Assignment.TheVariants as assignment
use Rattle.meson_syntax.specs.Tree as tree
use Rattle.meson_syntax.proofs.parsing.FileErased.{file-words-erased}
use Rattle.meson_calls.proofs.GoodParts.{good_left, good_right}
use Rattle.meson_calls.proofs.GoodTexts.{text_good}
use Rattle.meson_targets.specs.declared.holder.Held as code_held
use Rattle.meson_targets.specs.declared.holder.Held.TheVariants as code
use Rattle.meson_targets.specs.declared.holder.Holder as code_holder
use Rattle.meson_targets.proofs.StatementsRemoved.{in_build_file}

-- ---- words that are of their kinds

nth_good : (list : Statements Span) (n : ℕ) (s : Statement Span) → nth (statement_list list) n ≡ Some s → AreGood (statements_words list) → AreGood (statement_words s)
nth_good no_statements n s is good = absurd cc
nth_good (statement x more) zero s is good =
    let same : x ≡ s = cc in
    subst (λ y. AreGood (statement_words y)) same (good_left (statement_words x) (new_line ∷ statements_words more) good)
nth_good (statement x more) (suc n) s is good = nth_good more n s is (good_right (statement_words x) (new_line ∷ statements_words more) good).1

in_block : (b : Block Span) (n : ℕ) (s : Statement Span) → statement_in b n ≡ Some s → AreGood (block_words b) → AreGood (statement_words s)
in_block (block x list) n s is good = nth_good list n s is good

node_good : (sort : Sort) (x : Node sort Span) (f : tree.File Span) (back : Node sort Span → Block Span) (b : BlockAt Span) → block_of_node Span sort x f back ≡ Some b → AreGood (node_words Span sort x) → AreGood (block_words b.inside)
node_good of_expression x f back b is good = cc
node_good of_statement x f back b is good = cc
node_good of_block x f back b is good = subst (λ y. AreGood (block_words y)) (ap (λ (q : BlockAt Span). q.inside) (some-injective _ _ is)) good

block_good : (f : tree.File Span) (path : List ℕ) (b : BlockAt Span) → block_at f path ≡ Some b → AreGood (file_words f) → AreGood (block_words b.inside)
block_good (file s c) path b is good =
    let o = and-then-some (λ h. block_of_node Span h.sort h.inside (file s c) h.back) (reach Span of_block c path) b is in
    let h = o.0 in
    let fits = reach-fits Span of_block c path h o.1 in
    let whole = subst AreGood (fits.put h.inside) (subst (λ y. AreGood (node_words Span of_block y)) (sym fits.same) good) in
    node_good h.sort h.inside (file s c) h.back b o.2 (good_left (node_words Span h.sort h.inside) h.behind (good_right h.before (node_words Span h.sort h.inside ++ h.behind) whole))

-- ---- the variable that is set

set_good : (s : Statement Span) (x : List ℕ) → held_by s ≡ Some (set_to x) → AreGood (statement_words s) → IsIdentifier x
set_good (assign s name assignment.Set e) x is good = let same : name.text ≡ x = cc in subst IsIdentifier same good.0
set_good _ x is good = absurd cc

words_good : (files : List File) (trees : List Parsed) (i : ℕ) (f : BuildFile Span) → AreParsed files trees → nth_file (named_trees files (views files trees)) i ≡ Some f → AreGood (file_words f.tree)
words_good [] trees i f are is = absurd cc
words_good (g ∷ files) [] i f are is = absurd are
words_good (g ∷ files) (t ∷ trees) zero f are is =
    let here = view g.bytes t in
    subst (λ (h : BuildFile Span). AreGood (file_words h.tree)) (some-injective _ _ is) (subst AreGood (file-words-erased here) (text_good g.bytes (erase here) are.0.reads.spells))
words_good (g ∷ files) (t ∷ trees) (suc i) f are is = words_good files trees i f are.1 is

module _ (files : List File) (trees : List Parsed) (are : AreParsed files trees) where
  abbrev p : Project Span
  p = named_trees files (views files trees)

  set_name : (line : StatementPlace) (x : List ℕ) → option_and_then held_by (statement_there p line) ≡ Some (set_to x) → IsIdentifier x
  set_name line x is =
      let s = and-then-some held_by (statement_there p line) (set_to x) is in
      let f = and-then-some (in_build_file line) (nth_file p line.block.file) s.0 s.1 in
      let b = and-then-some (λ (b : BlockAt Span). statement_in b.inside line.number) (block_at f.0.tree line.block.path.steps) s.0 f.2 in
      set_good s.0 x s.2 (in_block b.0.inside line.number s.0 b.2 (block_good f.0.tree line.block.path.steps b.0 b.1 (words_good files trees line.block.file f.0 are f.1)))

  named_by : (line : StatementPlace) (held : code_held.Held) → option_and_then held_by (statement_there p line) ≡ Some (held_view held) → IsNamed held
  named_by line code.Alone is = tt
  named_by line (code.SetTo name) is = set_name line name.now is

  pub holder_named : (call : CallRef) (h : code_holder.Holder) → Some (holder_view h) ≡ holder p call → IsNamed h.held
  holder_named call h is =
      let l = and-then-some (λ (s : StatementPlace). option_map (λ held. record { statement = s; held = held }) (option_and_then held_by (statement_there p s))) (statement_of call) (holder_view h) (sym is) in
      let k = map-some (λ (held : Held). record { statement = l.0; held = held }) (option_and_then held_by (statement_there p l.0)) (holder_view h) l.2 in
      named_by l.0 h.held (k.1 ∙ ap Some (ap (λ (o : Holder). o.held) k.2))
