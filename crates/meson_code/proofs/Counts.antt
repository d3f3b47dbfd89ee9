-- A block has fewer statements than there are numbers.
use Rattle.std.proofs.Common.{◌≡◌, ℕ, zero, suc, ◌+◌, ◌<◌, ◌≤◌, List, [], ◌∷◌, ◌++◌, length, Some, sym, ap, ◌∙◌, subst, arith, length-append}
use Rattle.std.specs.Prelude.{◌^◌}
use Rattle.meson_lex.specs.declared.kinds.Span.{Span}
use Rattle.meson_splice.specs.declared.file_set.File.{File}
use Rattle.meson_syntax.specs.Grammar.{block_words, file_words, statement_words, statements_words}
use Rattle.meson_lex.specs.Significant.{new_line}
use Rattle.meson_syntax.specs.Paths.{Node, Sort, node_words, nth, of_block, of_expression, of_statement, reach}
use Rattle.meson_syntax.specs.Tree as tree
use Rattle.meson_syntax.specs.Tree.{Block, Statement, Statements, block, file, no_statements, statement, statement_list}
use Rattle.meson_syntax.specs.declared.tree.Parsed.{Parsed}
use Rattle.meson_syntax.proofs.parsing.Steps.{some-injective}
use Rattle.meson_syntax.proofs.paths.Reaching.{and-then-some, reach-fits}
use Rattle.meson_edit.specs.Blocks.{BlockAt, block_at, block_of_node, statement_in}
use Rattle.meson_calls.specs.Loading.{AreParsed, named_trees, views}
use Rattle.meson_calls.specs.Project.{BuildFile, nth_file}
use Rattle.meson_calls.proofs.WordCounts.{file_few}
use Rattle.meson_targets.specs.TargetEdits.{StatementPlace, statement_there}
use Rattle.meson_code.proofs.Placed.{at_file}

nth_few : (list : Statements Span) (n : ℕ) (s : Statement Span) → nth (statement_list list) n ≡ Some s → n + 1 ≤ length (statements_words list)
nth_few no_statements n s is = absurd cc
nth_few (statement x more) zero s is = omega (arith, length-append (statement_words x) (new_line ∷ statements_words more))
nth_few (statement x more) (suc n) s is =
    let later = nth_few more n s is in
    omega (arith, later, length-append (statement_words x) (new_line ∷ statements_words more))

in_block : (b : Block Span) (n : ℕ) (s : Statement Span) → statement_in b n ≡ Some s → n + 1 ≤ length (block_words b)
in_block (block x list) n s is = nth_few list n s is

node_few : (sort : Sort) (x : Node sort Span) (f : tree.File Span) (back : Node sort Span → Block Span) (b : BlockAt Span) → block_of_node Span sort x f back ≡ Some b
    → length (block_words b.inside) ≤ length (node_words Span sort x)
node_few of_expression x f back b is = absurd cc
node_few of_statement x f back b is = absurd cc
node_few of_block x f back b is =
    let same = ap (λ (q : BlockAt Span). length (block_words q.inside)) (some-injective _ _ is) in
    omega (arith, same)

block_few : (f : tree.File Span) (path : List ℕ) (b : BlockAt Span) → block_at f path ≡ Some b → length (block_words b.inside) ≤ length (file_words f)
block_few (file s c) path b is =
    let o = and-then-some (λ h. block_of_node Span h.sort h.inside (file s c) h.back) (reach Span of_block c path) b is in
    let h = o.0 in
    let fits = reach-fits Span of_block c path h o.1 in
    let inner = node_few h.sort h.inside (file s c) h.back b o.2 in
    let whole = ap length (sym (ap (node_words Span of_block) fits.same) ∙ fits.put h.inside) in
    let parts = length-append h.before (node_words Span h.sort h.inside ++ h.behind) in
    let two = length-append (node_words Span h.sort h.inside) h.behind in
    omega (arith, inner, whole, parts, two)

words_few : (files : List File) (trees : List Parsed) (i : ℕ) (f : BuildFile Span) → AreParsed files trees → nth_file (named_trees files (views files trees)) i ≡ Some f
    → length (file_words f.tree) < 2 ^ 64
words_few [] trees i f are is = absurd cc
words_few (g ∷ files) [] i f are is = absurd are
words_few (g ∷ files) (t ∷ trees) zero f are is = subst (λ (h : BuildFile Span). length (file_words h.tree) < 2 ^ 64) (some-injective _ _ is) (file_few g.bytes t are.0)
words_few (g ∷ files) (t ∷ trees) (suc i) f are is = words_few files trees i f are.1 is

pub number_few : (files : List File) (trees : List Parsed) → AreParsed files trees → (a : StatementPlace) (s : Statement Span) → statement_there (named_trees files (views files trees)) a ≡ Some s
    → a.number + 1 < 2 ^ 64
number_few files trees are a s is =
    let f = and-then-some (at_file a) (nth_file (named_trees files (views files trees)) a.block.file) s is in
    let b = and-then-some (λ (b : BlockAt Span). statement_in b.inside a.number) (block_at f.0.tree a.block.path.steps) s f.2 in
    let most = in_block b.0.inside a.number s b.2 in
    let inner = block_few f.0.tree a.block.path.steps b.0 b.1 in
    let few = words_few files trees a.block.file f.0 are f.1 in
    omega (arith, most, inner, few)
