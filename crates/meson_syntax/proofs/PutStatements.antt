-- Lists put among the children of the code's statements.
use Rattle.std.proofs.Common.{rules, ◌≡◌, ℕ, zero, suc, ◌+◌, ◌-◌, ◌*◌, ◌/◌, ◌%◌, ◌<◌, ◌≤◌, Bool, true, Option, Some, List, [], ◌∷◌, ◌++◌, length, get_or, slice_set, refl, sym, ap, ◌∙◌, arith}
use Rattle.std.proofs.lemmas.List.{length-map}
use Rattle.meson_lex.specs.Significant.{new_line}
use Rattle.meson_lex.specs.declared.kinds.Kind.{Kind}
use Rattle.meson_lex.specs.declared.kinds.Kind.TheVariants as k
use Rattle.meson_lex.specs.declared.kinds.Span.{Span}
use Rattle.meson_syntax.specs.declared.operator.Assignment.{Assignment}
use Rattle.meson_syntax.specs.declared.tree.Expr.{Expr}
use Rattle.meson_syntax.specs.declared.tree.Stmt.{Stmt}
use Rattle.meson_syntax.specs.declared.tree.Stmt.TheOpen.{Stmt-F}
use Rattle.meson_syntax.specs.declared.tree.Stmt.TheViews.{roll-Block, roll-Branch}
use Rattle.meson_syntax.specs.declared.tree.Stmt.TheFolds.{the_lemmas, fold-roll-Stmt, fold-roll-Block, fold-roll-Branch}
use Rattle.meson_syntax.specs.declared.tree.Stmt.TheVariants as stmt
use Rattle.meson_syntax.specs.declared.tree.Block as rust_block
use Rattle.meson_syntax.specs.declared.tree.Branch as rust_branch
use Rattle.meson_values.specs.LendsItems.{with_all}
use Rattle.meson_syntax.specs.Tree.{Expression, Listing, Statement, evaluate, assign, selection, iteration, Statements, statement, Branches, branch, Otherwise, otherwise, Block, block, branches_of, statements_of}
use Rattle.meson_syntax.specs.Grammar.{mark, expression_words, statement_words, block_words, branches_words, otherwise_words}
use Rattle.meson_syntax.specs.Paths.{of_expression, of_statement, of_block, all_around, around, branches_children, otherwise_children, statement_children, statements_children, block_children}
use Rattle.meson_syntax.specs.inside.Putting.{put_among, put_in, ahead, statement_child, branch_child}
use Rattle.meson_syntax.specs.View.{name_at, names_at, expr_view, stmt_view, stmts_view, block_view, branch_view, branches_view, otherwise_view}
use Rattle.meson_syntax.proofs.PartsOf.{view-block}
use Rattle.meson_syntax.proofs.Putting.{made, put-around, put-first, put-later, put-at, put-past, with-all}
use Rattle.meson_syntax.proofs.PutViews.{put-seen, put-head, put-second}

-- ---- views

module _ (source : List ℕ) where
  abbrev sv : Stmt → Statement Span
  sv = stmt_view source

  pub evaluate-view : (e : Expr) → sv (stmt.Expr e) ≡ evaluate (expr_view source e)
  evaluate-view e = ap sv (sym (stmt.rolls-Expr e)) ∙ fold-roll-Stmt _ _ _ _ _ _ (Stmt-F.Expr e)

  pub assign-view : (s n : Span) (a : Assignment) (e : Expr) → sv (stmt.Assign s n a e) ≡ assign s (name_at source n) a (expr_view source e)
  assign-view s n a e = ap sv (sym (stmt.rolls-Assign s n a e)) ∙ fold-roll-Stmt _ _ _ _ _ _ (Stmt-F.Assign s n a e)

  pub selection-view : (s : Span) (bs : List rust_branch.Branch) (o : Option rust_block.Block) → sv (stmt.If s bs o)
      ≡ selection s (branches_of (branches_view source bs)) (otherwise_view source o)
  selection-view s bs o = search (rules, the_lemmas)

  pub iteration-view : (s : Span) (ns : List Span) (e : Expr) (b : rust_block.Block) → sv (stmt.Foreach s ns e b)
      ≡ iteration s (names_at source ns) (expr_view source e) (block_view source b)
  iteration-view s ns e b = ap sv (sym (stmt.rolls-Foreach s ns e b)) ∙ fold-roll-Stmt _ _ _ _ _ _ (Stmt-F.Foreach s ns e b)

  pub branch-seen : (b : rust_branch.Branch) → branch_view source b
      ≡ (expr_view source (rust_branch.out-Branch b).condition, block_view source (rust_branch.out-Branch b).block)
  branch-seen b = search (rules, the_lemmas)

  pub branches-count : (bs : List rust_branch.Branch) (word : Kind) → length (branches_children (branches_of (branches_view source bs)) word) ≡ 2 * length bs
  branches-count [] word = refl
  branches-count (b ∷ bs) word =
      let more = branches_children (branches_of (branches_view source bs)) k.WordElif in
      let same = length-map more
      (around (mark word ++ (expression_words (branch_view source b).0 ++ (new_line ∷ block_words (branch_view source b).1))) []
      (branch (branch_view source b).0 (branch_view source b).1)) in
      let h = branches-count bs k.WordElif in
      omega (arith, same, h)

-- ---- the element and those behind it

module _ (path : List ℕ) (new : Listing Span) where
  statement-first : (p : Bool) (v : Statement Span) (t : Statements Span) (k : ℕ) → k < 1
      → put_among path new (statement v t) (statements_children (statement v t)) k ≡ made (λ x. statement x t) (put_among path new v (statement_child v) k)
  statement-first p v t zero small = refl
  statement-first p v t (suc k) small = absurd (omega arith)

  statement-later : (p : Bool) (v : Statement Span) (t : Statements Span) (n m : ℕ) → n ≡ 1 + m
      → put_among path new (statement v t) (statements_children (statement v t)) n ≡ made (statement v) (put_among path new t (statements_children t) m)
  statement-later p v t zero m is = absurd (omega arith)
  statement-later p v t (suc n) m is =
      let same : n ≡ m = omega arith in
      ap (put_among path new (statement v t) (all_around (statement_words v ++ new_line ∷ []) [] (statement v) (statements_children t))) same
      ∙ put-around path new (statement_words v ++ new_line ∷ []) [] (statement v) t (statements_children t) m

  abbrev before_branch : Expression Span × Block Span → Branches Span → Branches Span
  before_branch v t = branch v.0 v.1 t

  branch-first : (word : Kind) (v : Expression Span × Block Span) (t : Branches Span) (k : ℕ) → k < 2
      → put_among path new (before_branch v t) (branches_children (before_branch v t) word) k
      ≡ made (λ x. before_branch x t) (put_among path new v (branch_child v) k)
  branch-first word v t zero small = refl
  branch-first word v t (suc zero) small = refl
  branch-first word v t (suc (suc k)) small = absurd (omega arith)

  branch-later : (word : Kind) (v : Expression Span × Block Span) (t : Branches Span) (n m : ℕ) → n ≡ 2 + m
      → put_among path new (before_branch v t) (branches_children (before_branch v t) word) n
      ≡ made (before_branch v) (put_among path new t (branches_children t k.WordElif) m)
  branch-later word v t zero m is = absurd (omega arith)
  branch-later word v t (suc zero) m is = absurd (omega arith)
  branch-later word v t (suc (suc n)) m is =
      let same : n ≡ m = omega arith in
      let before = mark word ++ (expression_words v.0 ++ (new_line ∷ block_words v.1)) in
      ap (put_among path new (before_branch v t) (all_around before [] (before_branch v) (branches_children t k.WordElif))) same
      ∙ put-around path new before [] (before_branch v) t (branches_children t k.WordElif) m

-- as many parts each
multiple : {A : Type 0} (c : ℕ) (xs : List A) (n : ℕ) → n ≤ length xs → ahead (λ x. c) xs n ≡ c * n
multiple c xs zero small = omega arith
multiple c [] (suc n) small = absurd (omega arith)
multiple c (x ∷ xs) (suc n) small = let h = multiple c xs n (omega arith) in grind (arith, h)

module _ (source : List ℕ) (path : List ℕ) (new l : Listing Span) where
  -- ---- blocks

  in-block : (m : Listing Span) (n : ℕ) (b : rust_block.Block) (list : List Stmt)
      → (m, statements_of (stmts_view source list))
      ≡ put_among path new (statements_of (stmts_view source (rust_block.out-Block b).statements))
      (statements_children (statements_of (stmts_view source (rust_block.out-Block b).statements))) n
      → (m, block_view source (roll-Block (record { statements = list; span = (rust_block.out-Block b).span })))
      ≡ put_among path new (block_view source b) (block_children (block_view source b)) n
  in-block m n b list h =
      let s = (rust_block.out-Block b).span in
      let old = statements_of (stmts_view source (rust_block.out-Block b).statements) in
      put-seen (block_view source) block_children path new m n b (roll-Block (record { statements = list; span = s })) (block s old)
      (block s (statements_of (stmts_view source list)))
      (view-block source b) (fold-roll-Block _ _ _ _ _ _ (record { statements = list; span = s }))
      (ap (made (block s)) h ∙ sym (put-around path new [] [] (block s) old (statements_children old) n))

  pub put-in-block : (n : ℕ) (b : rust_block.Block) (xs : List Stmt) (d y : Stmt) → xs ≡ (rust_block.out-Block b).statements → n < length xs
      → (l, stmt_view source y) ≡ put_in Span of_statement (stmt_view source (get_or xs n d)) path new
      → (
        l,
        block_view source
            (roll-Block (record { statements = with_all (rust_block.out-Block b).statements (slice_set xs n y); span = (rust_block.out-Block b).span })),
      )
      ≡ put_among path new (block_view source b) (block_children (block_view source b)) n
  put-in-block n b xs d y is small h =
      let old = (rust_block.out-Block b).statements in
      let as_many : length (slice_set xs n y) ≡ length old = search rules in
      let count = multiple 1 xs n (omega (arith, small)) in
      let number : n ≡ ahead (λ x. 1) xs n + 0 = omega (arith, count) in
      rw (with-all old (slice_set xs n y) as_many)
      (in-block l n b (slice_set xs n y)
      (put-at (stmt_view source) (λ v. 1) statement_child (λ ys. statements_of (stmts_view source ys)) statement (λ (p : Bool) t. statements_children t)
      (λ p. p) path new
      (λ a more. refl) (statement-first path new) (statement-later path new) (λ p m. refl) true xs n 0 n d y l number small (omega arith) h
      ∙ ap (λ ys. put_among path new (statements_of (stmts_view source ys)) (statements_children (statements_of (stmts_view source ys))) n) is))

  pub none-in-block : (n : ℕ) (b : rust_block.Block) (xs : List Stmt) → xs ≡ (rust_block.out-Block b).statements → length xs ≤ n
      → (new, block_view source (roll-Block (record { statements = with_all (rust_block.out-Block b).statements xs; span = (rust_block.out-Block b).span })))
      ≡ put_among path new (block_view source b) (block_children (block_view source b)) n
  none-in-block n b xs is past =
      let old = (rust_block.out-Block b).statements in
      let count = multiple 1 xs (length xs) (omega arith) in
      let m = n - length xs in
      let number : n ≡ ahead (λ x. 1) xs (length xs) + m = omega (arith, count, past) in
      rw (with-all old xs (ap length is))
      (in-block new n b xs
      (put-past (stmt_view source) (λ v. 1) statement_child (λ ys. statements_of (stmts_view source ys)) statement (λ (p : Bool) t. statements_children t)
      (λ p. p) path new
      (λ a more. refl) (statement-first path new) (statement-later path new) (λ p m. refl) true xs m n number
      ∙ ap (λ ys. put_among path new (statements_of (stmts_view source ys)) (statements_children (statements_of (stmts_view source ys))) n) is))

  -- ---- branches

  pub put-branch : (word : Kind) (n : ℕ) (old xs : List rust_branch.Branch) (d y : rust_branch.Branch) → xs ≡ old → n / 2 < length xs
      → (l, branch_view source y)
      ≡ put_among path new (branch_view source (get_or xs (n / 2) d)) (branch_child (branch_view source (get_or xs (n / 2) d))) (n % 2)
      → (l, branches_of (branches_view source (with_all old (slice_set xs (n / 2) y))))
      ≡ put_among path new (branches_of (branches_view source old)) (branches_children (branches_of (branches_view source old)) word) n
  put-branch word n old xs d y is small h =
      let as_many : length (slice_set xs (n / 2) y) ≡ length old = search rules in
      let count = multiple 2 xs (n / 2) (omega (arith, small)) in
      let number : n ≡ ahead (λ x. 2) xs (n / 2) + n % 2 = omega (arith, count) in
      rw (with-all old (slice_set xs (n / 2) y) as_many) (
      put-at (branch_view source) (λ v. 2) branch_child (λ ys. branches_of (branches_view source ys)) (before_branch path new)
      (λ p t. branches_children t p) (λ p. k.WordElif) path new
      (λ a more. refl) (branch-first path new) (branch-later path new) (λ p m. refl) word xs (n / 2) (n % 2) n d y l number small (omega arith) h
      ∙ ap (λ ys. put_among path new (branches_of (branches_view source ys)) (branches_children (branches_of (branches_view source ys)) word) n) is)

  pub no-branch : (word : Kind) (n : ℕ) (old xs : List rust_branch.Branch) → xs ≡ old → length xs ≤ n / 2
      → (new, branches_of (branches_view source (with_all old xs)))
      ≡ put_among path new (branches_of (branches_view source old)) (branches_children (branches_of (branches_view source old)) word) n
  no-branch word n old xs is past =
      let count = multiple 2 xs (length xs) (omega arith) in
      let m = n - 2 * length xs in
      let number : n ≡ ahead (λ x. 2) xs (length xs) + m = omega (arith, count, past) in
      rw (with-all old xs (ap length is)) (
      put-past (branch_view source) (λ v. 2) branch_child (λ ys. branches_of (branches_view source ys)) (before_branch path new)
      (λ p t. branches_children t p) (λ p. k.WordElif) path new
      (λ a more. refl) (branch-first path new) (branch-later path new) (λ p m. refl) word xs m n number
      ∙ ap (λ ys. put_among path new (branches_of (branches_view source ys)) (branches_children (branches_of (branches_view source ys)) word) n) is)

  pub put-in-condition : (b : rust_branch.Branch) (e : Expr) (n : ℕ) → n ≡ 0 → (l, expr_view source e)
      ≡ put_in Span of_expression (expr_view source (rust_branch.out-Branch b).condition) path new
      → (l, branch_view source (roll-Branch (record { condition = e; block = (rust_branch.out-Branch b).block })))
      ≡ put_among path new (branch_view source b) (branch_child (branch_view source b)) n
  put-in-condition b e n is h =
      put-head (branch_view source) branch_child path new l n b _ [] [] (λ x. (x, block_view source (rust_branch.out-Branch b).block)) _ _ _ _ refl
      (branch-seen source b) (fold-roll-Branch _ _ _ _ _ _ (record { condition = e; block = (rust_branch.out-Branch b).block })) refl is h

  pub put-in-branch-block : (b : rust_branch.Branch) (c : rust_block.Block) (n : ℕ) → n ≡ 1 → (l, block_view source c)
      ≡ put_in Span of_block (block_view source (rust_branch.out-Branch b).block) path new
      → (l, branch_view source (roll-Branch (record { condition = (rust_branch.out-Branch b).condition; block = c })))
      ≡ put_among path new (branch_view source b) (branch_child (branch_view source b)) n
  put-in-branch-block b c n is h =
      put-second (branch_view source) branch_child path new l n b _ of_block [] [] (λ x. (expr_view source (rust_branch.out-Branch b).condition, x)) _ [] _
      _ _ refl
      (branch-seen source b) (fold-roll-Branch _ _ _ _ _ _ (record { condition = (rust_branch.out-Branch b).condition; block = c })) refl is h

  -- ---- a selection

  pub put-in-branches : (n : ℕ) (x x' : Stmt) (s : Span) (bs₀ bs : List rust_branch.Branch) (bs' : List rust_branch.Branch) (o : Otherwise Span) → bs₀ ≡ bs
      → stmt_view source x ≡ selection s (branches_of (branches_view source bs)) o → stmt_view source x'
      ≡ selection s (branches_of (branches_view source bs')) o → n / 2 < length bs₀
      → (l, branches_of (branches_view source bs'))
      ≡ put_among path new (branches_of (branches_view source bs₀)) (branches_children (branches_of (branches_view source bs₀)) k.WordIf) n
      → (l, stmt_view source x') ≡ put_among path new (stmt_view source x) (statement_children (stmt_view source x)) n
  put-in-branches n x x' s bs₀ bs bs' o same is is' small h =
      let old = branches_of (branches_view source bs) in
      let count = branches-count source bs k.WordIf in
      let as_many = ap length same in
      let within : n < length (branches_children old k.WordIf) = omega (arith, count, as_many, small) in
      put-seen (stmt_view source) statement_children path new l n x x' (selection s old o) (selection s (branches_of (branches_view source bs')) o) is is'
      (ap (made (λ z. selection s z o))
      (h ∙ ap (λ ys. put_among path new (branches_of (branches_view source ys)) (branches_children (branches_of (branches_view source ys)) k.WordIf) n)
      same)
      ∙ sym (put-first path new [] (otherwise_words o ++ mark k.WordEndif) (λ z. selection s z o) old (selection s old o) (branches_children old k.WordIf)
      (all_around (branches_words old k.WordIf) (mark k.WordEndif) (selection s old) (otherwise_children o)) n within))

  pub put-in-otherwise : (n m : ℕ) (x x' : Stmt) (s : Span) (bs : List rust_branch.Branch) (o₀ o o' : Otherwise Span) → o₀ ≡ o
      → stmt_view source x ≡ selection s (branches_of (branches_view source bs)) o → stmt_view source x'
      ≡ selection s (branches_of (branches_view source bs)) o' → n ≡ 2 * length bs + m
      → (l, o') ≡ put_among path new o₀ (otherwise_children o₀) m
      → (l, stmt_view source x') ≡ put_among path new (stmt_view source x) (statement_children (stmt_view source x)) n
  put-in-otherwise n m x x' s bs o₀ o o' same is is' past h =
      let old = branches_of (branches_view source bs) in
      let count = branches-count source bs k.WordIf in
      let number : n ≡ length (branches_children old k.WordIf) + m = omega (arith, count, past) in
      put-seen (stmt_view source) statement_children path new l n x x' (selection s old o) (selection s old o') is is'
      (ap (made (selection s old)) (h ∙ ap (λ z. put_among path new z (otherwise_children z) m) same)
      ∙ sym (put-later path new [] (otherwise_words o ++ mark k.WordEndif) (λ z. selection s z o) (selection s old o) (branches_children old k.WordIf)
      (all_around (branches_words old k.WordIf) (mark k.WordEndif) (selection s old) (otherwise_children o)) n m number
      ∙ put-around path new (branches_words old k.WordIf) (mark k.WordEndif) (selection s old) o (otherwise_children o) m))

  pub put-in-else : (n : ℕ) (o : Option rust_block.Block) (t' : Otherwise Span) (b₀ b b' : rust_block.Block) → o ≡ Some b → t'
      ≡ otherwise (block_view source b') → n ≡ 0 → b₀ ≡ b
      → (l, block_view source b') ≡ put_in Span of_block (block_view source b₀) path new
      → (l, t') ≡ put_among path new (otherwise_view source o) (otherwise_children (otherwise_view source o)) n
  put-in-else n o t' b₀ b b' is is' first same h =
      let t = otherwise (block_view source b) in
      ap (λ z. (l, z)) is' ∙ ap (made otherwise) (h ∙ ap (λ c. put_in Span of_block (block_view source c) path new) same)
      ∙ ap (put_among path new t (otherwise_children t)) (sym first)
      ∙ ap (λ z. put_among path new (otherwise_view source z) (otherwise_children (otherwise_view source z)) n) (sym is)
