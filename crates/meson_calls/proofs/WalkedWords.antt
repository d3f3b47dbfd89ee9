-- The words of what the walk goes through: those of a part are no more than those of the whole.
use Rattle.meson_calls.proofs.Words.{false, rules, ◌≡◌, ℕ, zero, suc, ◌+◌, ◌<◌, ◌≤◌, ◌^◌, List, [], ◌∷◌, ◌++◌, length, drop, get_or, Option, ap, ◌∙◌, arith}
use Rattle.meson_calls.proofs.Words.{length-append, at_drop_more, new_line, Span, mark, names_words, otherwise_words, operator_words, expression_words}
use Rattle.meson_calls.proofs.Words.{operands_words, tail_words, tails_words, listing_words, argument_words, arguments_words, comma_words, statement_words}
use Rattle.meson_calls.proofs.Words.{branches_words, statements_words, block_words, IsSpanned, paren, array, dictionary, unary, method, listing, evaluate}
use Rattle.meson_calls.proofs.Words.{assign, block, arguments_of, operands_of, tails_of, branches_of, statements_of, view, block_view, name_at, names_at}
use Rattle.meson_calls.proofs.Words.{expr_view, arg_view, args_view, tail_view, tails_view, list_view, operand_view, operands_view, stmt_view, stmts_view}
use Rattle.meson_calls.proofs.Words.{branch_view, branches_view, Assignment, Bracket, Arg, Branch, Expr, Operand, Parsed, Stmt, else_view}
use Rattle.meson_lex.specs.declared.kinds.Kind.TheVariants as k
use Rattle.meson_syntax.specs.declared.operator.Bracket.TheVariants as bracket
use Rattle.meson_syntax.specs.declared.operator.UnaryOperator.{UnaryOperator}
use Rattle.meson_syntax.specs.declared.tree.Arg.TheVariants as arg
use Rattle.meson_syntax.specs.declared.tree.Arg.TheFolds.{the_lemmas}
use Rattle.meson_syntax.specs.declared.tree.Block as rust_block
use Rattle.meson_syntax.specs.declared.tree.Expr.TheVariants as expr
use Rattle.meson_syntax.specs.declared.tree.List as rust
use Rattle.meson_syntax.specs.declared.tree.Stmt.TheFolds as stmts
use Rattle.meson_syntax.specs.declared.tree.Stmt.TheVariants as stmt
use Rattle.meson_syntax.specs.declared.tree.Tail as rust_tail
use Rattle.meson_syntax.specs.declared.tree.Tail.TheVariants as tail
use Rattle.meson_calls.proofs.GoodNotes.{call_view}
use Rattle.meson_calls.proofs.ListTurns.{args_size, tail_size}
use Rattle.meson_calls.proofs.StatementParts.{if_view, foreach_view}
use Rattle.meson_calls.proofs.Parted.{row_view, postfix_view, conditional_view, pair_view, operand_value}
use Rattle.meson_calls.proofs.WordCounts.{expression_some, argument_some, argument_enough, tail_enough, listing_holds, any_word, file_few}

-- ---- a list that is counted from the front

module _ {X : Type 0} (count : List X → ℕ) (width : X → ℕ) (more : (x : X) (xs : List X) → width x + count xs ≤ count (x ∷ xs)) where
  pub one_of : (xs : List X) (i : ℕ) (d : X) → i < length xs → width (get_or xs i d) ≤ count xs
  one_of [] i d within = absurd (omega arith)
  one_of (x ∷ xs) zero d within = omega (arith, more x xs)
  one_of (x ∷ xs) (suc i) d within = let below : i < length xs = omega arith in omega (arith, more x xs, one_of xs i d below)

  -- where each has no more children than words
  pub next_turn : (size : X → ℕ) → ((x : X) → size x ≤ width x) → (xs : List X) (i : ℕ) (d : X) (n m whole : ℕ) → i < length xs →
      m ≡ n + size (get_or xs i d) → n + count (drop i xs) ≤ whole → m + count (drop (i + 1) xs) ≤ whole
  next_turn size enough xs i d n m whole within next so_far =
      omega (arith, at_drop_more count xs i d within, more (get_or xs i d) (drop (i + 1) xs), enough (get_or xs i d), next, so_far)

module _ (source : List ℕ) where
  abbrev pub expr_count : Expr → ℕ
  expr_count x = length (expression_words (expr_view source x))

  abbrev pub arg_count : Arg → ℕ
  arg_count x = length (argument_words (arg_view source x))

  abbrev pub args_width : List Arg → ℕ
  args_width xs = length (arguments_words (arguments_of (args_view source xs)) false)

  abbrev pub row_width : List Operand → ℕ
  row_width xs = length (operands_words (operands_of (operands_view source xs)))

  abbrev pub tail_count : rust_tail.Tail → ℕ
  tail_count x = length (tail_words (tail_view source x))

  abbrev pub tails_width : List rust_tail.Tail → ℕ
  tails_width xs = length (tails_words (tails_of (tails_view source xs)))

  -- ---- lists, tails and operands

  list_is : (l : rust.List) → list_view source l ≡ listing l.span l.trailing (arguments_of (args_view source l.items))
  list_is l = search (rules, the_lemmas)

  pub list_fits : (x : Expr) (l : rust.List) (b : Bracket) (m : ℕ) → length (listing_words (list_view source l) b) ≤ expr_count x → expr_count x < m → args_width l.items < m
  list_fits x l b m less fits =
      omega (arith, listing_holds (list_view source l) b l.span l.trailing (arguments_of (args_view source l.items)) (list_is l), less, fits)

  array_is : (l : rust.List) → expr_view source (expr.Array l) ≡ array (list_view source l)
  array_is l = search (rules, the_lemmas)

  dictionary_is : (l : rust.List) → expr_view source (expr.Dictionary l) ≡ dictionary (list_view source l)
  dictionary_is l = search (rules, the_lemmas)

  pub array_fits : (x : Expr) (l : rust.List) (m : ℕ) → x ≡ expr.Array l → expr_count x < m → args_width l.items < m
  array_fits x l m is fits = let whole = ap expr_count is ∙ ap (λ v. length (expression_words v)) (array_is l) in list_fits x l bracket.Square m (omega (arith, whole)) fits

  pub dictionary_fits : (x : Expr) (l : rust.List) (m : ℕ) → x ≡ expr.Dictionary l → expr_count x < m → args_width l.items < m
  dictionary_fits x l m is fits =
      let whole = ap expr_count is ∙ ap (λ v. length (expression_words v)) (dictionary_is l) in list_fits x l bracket.Curly m (omega (arith, whole)) fits

  pub call_fits : (x : Expr) (s name : Span) (l : rust.List) (m : ℕ) → x ≡ expr.Call s name l → expr_count x < m → args_width l.items < m
  call_fits x s name l m is fits =
      let whole = ap expr_count is ∙ ap (λ v. length (expression_words v)) (call_view source s name l) in list_fits x l bracket.Round m (omega (arith, whole)) fits

  pub tails_fit : (x : Expr) (s : Span) (base : Expr) (ts us : List rust_tail.Tail) (m : ℕ) → x ≡ expr.Postfix s base ts → us ≡ ts → expr_count x < m → 1 + tails_width us < m
  tails_fit x s base ts us m is same fits =
      omega (
        arith,
        ap expr_count is ∙ ap (λ v. length (expression_words v)) (postfix_view source s base ts),
        ap tails_width same,
        expression_some (expr_view source base),
        length-append (expression_words (expr_view source base)) (tails_words (tails_of (tails_view source ts))),
        fits,
      )

  method_is : (s name : Span) (l : rust.List) → tail_view source (tail.Method s name l) ≡ method s (name_at source name) (list_view source l)
  method_is s name l = search (rules, the_lemmas)

  pub method_fits : (t : rust_tail.Tail) (s name : Span) (l : rust.List) (xs : List Arg) (n m : ℕ) → t ≡ tail.Method s name l → xs ≡ l.items → n + tail_count t < m → n + args_width xs < m
  method_fits t s name l xs n m is same fits =
      omega (
        arith,
        ap tail_count is ∙ ap (λ v. length (tail_words v)) (method_is s name l),
        ap args_width same,
        listing_holds (list_view source l) bracket.Round l.span l.trailing (arguments_of (args_view source l.items)) (list_is l),
        fits,
      )

  -- ---- expressions in expressions

  paren_is : (s : Span) (e : Expr) → expr_view source (expr.Paren s e) ≡ paren s (expr_view source e)
  paren_is s e = search (rules, the_lemmas)

  pub paren_fits : (x : Expr) (s : Span) (e y : Expr) (m : ℕ) → x ≡ expr.Paren s e → y ≡ e → expr_count x < m → expr_count y < m
  paren_fits x s e y m is same fits =
      omega (arith, ap expr_count is ∙ ap (λ v. length (expression_words v)) (paren_is s e), ap expr_count same, length-append (expression_words (expr_view source e)) (mark k.CloseRound), fits)

  unary_is : (s : Span) (o : UnaryOperator) (e : Expr) → expr_view source (expr.Unary s o e) ≡ unary s o (expr_view source e)
  unary_is s o e = search (rules, the_lemmas)

  pub unary_fits : (x : Expr) (s : Span) (o : UnaryOperator) (e y : Expr) (m : ℕ) → x ≡ expr.Unary s o e → y ≡ e → expr_count x < m → expr_count y < m
  unary_fits x s o e y m is same fits = omega (arith, ap expr_count is ∙ ap (λ v. length (expression_words v)) (unary_is s o e), ap expr_count same, fits)

  pub first_fits : (x : Expr) (s : Span) (e y : Expr) (os : List Operand) (m : ℕ) → x ≡ expr.Row s e os → y ≡ e → expr_count x < m → expr_count y < m
  first_fits x s e y os m is same fits =
      omega (
        arith,
        ap expr_count is ∙ ap (λ v. length (expression_words v)) (row_view source s e os),
        ap expr_count same,
        length-append (expression_words (expr_view source e)) (operands_words (operands_of (operands_view source os))),
        fits,
      )

  pub base_fits : (x : Expr) (s : Span) (e y : Expr) (ts : List rust_tail.Tail) (m : ℕ) → x ≡ expr.Postfix s e ts → y ≡ e → expr_count x < m → expr_count y < m
  base_fits x s e y ts m is same fits =
      omega (
        arith,
        ap expr_count is ∙ ap (λ v. length (expression_words v)) (postfix_view source s e ts),
        ap expr_count same,
        length-append (expression_words (expr_view source e)) (tails_words (tails_of (tails_view source ts))),
        fits,
      )

  pub condition_of_fits : (x : Expr) (s : Span) (c y n z : Expr) (m : ℕ) → x ≡ expr.Conditional s c y n → z ≡ c → expr_count x < m → expr_count z < m
  condition_of_fits x s c y n z m is same fits =
      let behind = mark k.Question ++ (expression_words (expr_view source y) ++ (mark k.Colon ++ expression_words (expr_view source n))) in
      omega (
        arith,
        ap expr_count is ∙ ap (λ v. length (expression_words v)) (conditional_view source s c y n),
        ap expr_count same,
        length-append (expression_words (expr_view source c)) behind,
        fits,
      )

  -- ---- elements

  pub arg_some : (x : Arg) → 1 ≤ arg_count x
  arg_some x = argument_some (arg_view source x)

  pub pair_some : (x : Arg) (s : Span) (key value : Expr) → x ≡ arg.Pair s key value → 2 ≤ arg_count x
  pair_some x s key value is =
      let own = expression_words (expr_view source key) in
      omega (
        arith,
        ap arg_count is ∙ ap (λ v. length (argument_words v)) (pair_view source s key value),
        expression_some (expr_view source key),
        expression_some (expr_view source value),
        length-append own (mark k.Colon ++ expression_words (expr_view source value)),
      )

  -- ---- one after another

  pub args_more : (x : Arg) (xs : List Arg) → arg_count x + args_width xs ≤ args_width (x ∷ xs)
  args_more x xs =
      let rest = arguments_of (args_view source xs) in
      omega (arith, length-append (argument_words (arg_view source x)) (comma_words rest false ++ arguments_words rest false), length-append (comma_words rest false) (arguments_words rest false))

  pub tails_more : (x : rust_tail.Tail) (xs : List rust_tail.Tail) → tail_count x + tails_width xs ≤ tails_width (x ∷ xs)
  tails_more x xs = omega (arith, length-append (tail_words (tail_view source x)) (tails_words (tails_of (tails_view source xs))))

  pub row_more : (x : Operand) (xs : List Operand) → expr_count x.value + row_width xs ≤ row_width (x ∷ xs)
  row_more x xs =
      let o = operand_view source x in
      let rest = operands_words (operands_of (operands_view source xs)) in
      omega (arith, ap (λ v. length (expression_words v)) (operand_value source x), length-append (operator_words o.0) (expression_words o.1 ++ rest), length-append (expression_words o.1) rest)

  pub operand_fits : (os : List Operand) (i : ℕ) (d : Operand) (m : ℕ) → i < length os → row_width os < m → expr_count (get_or os i d).value < m
  operand_fits os i d m within fits = omega (arith, one_of row_width (λ o. expr_count o.value) row_more os i d within, fits)

  pub arg_size_fits : (x : Arg) → args_size source x ≤ arg_count x
  arg_size_fits x = argument_enough (arg_view source x)

  pub tail_size_fits : (x : rust_tail.Tail) → tail_size source x ≤ tail_count x
  tail_size_fits x = tail_enough (tail_view source x)

  -- ---- statements

  abbrev pub stmts_width : List Stmt → ℕ
  stmts_width xs = length (statements_words (statements_of (stmts_view source xs)))

  abbrev pub branches_width : List Branch → ℕ
  branches_width bs = length (branches_words (branches_of (branches_view source bs)) k.WordIf)

  abbrev pub branch_count : Branch → ℕ
  branch_count b = length (expression_words (branch_view source b).0) + length (block_words (branch_view source b).1)

  -- ---- what stands in a statement

  abbrev pub stmt_count : Stmt → ℕ
  stmt_count x = length (statement_words (stmt_view source x))

  evaluate_is : (e : Expr) → stmt_view source (stmt.Expr e) ≡ evaluate (expr_view source e)
  evaluate_is e = search (rules, stmts.the_lemmas)

  pub value_fits : (x : Stmt) (e : Expr) (m : ℕ) → x ≡ stmt.Expr e → stmt_count x < m → expr_count e < m
  value_fits x e m is fits = omega (arith, ap stmt_count is ∙ ap (λ v. length (statement_words v)) (evaluate_is e), fits)

  assign_is : (s name : Span) (a : Assignment) (e : Expr) → stmt_view source (stmt.Assign s name a e) ≡ assign s (name_at source name) a (expr_view source e)
  assign_is s name a e = search (rules, stmts.the_lemmas)

  pub assigned_fits : (x : Stmt) (s name : Span) (a : Assignment) (e : Expr) (m : ℕ) → x ≡ stmt.Assign s name a e → stmt_count x < m → expr_count e < m
  assigned_fits x s name a e m is fits = omega (arith, ap stmt_count is ∙ ap (λ v. length (statement_words v)) (assign_is s name a e), fits)

  selection_count : (x : Stmt) (s : Span) (bs : List Branch) (o : Option rust_block.Block) → x ≡ stmt.If s bs o →
      branches_width bs + length (otherwise_words (else_view source o)) ≤ stmt_count x
  selection_count x s bs o is =
      let last = otherwise_words (else_view source o) in
      omega (
        arith,
        ap stmt_count is ∙ ap (λ v. length (statement_words v)) (if_view source s bs o),
        length-append (branches_words (branches_of (branches_view source bs)) k.WordIf) (last ++ mark k.WordEndif),
        length-append last (mark k.WordEndif),
      )

  pub branches_fit : (x : Stmt) (s : Span) (bs cs : List Branch) (o : Option rust_block.Block) (m : ℕ) → x ≡ stmt.If s bs o → cs ≡ bs → stmt_count x < m → branches_width cs < m
  branches_fit x s bs cs o m is same fits = omega (arith, selection_count x s bs o is, ap branches_width same, fits)

  pub otherwise_fits : (x : Stmt) (s : Span) (bs : List Branch) (o : Option rust_block.Block) (m : ℕ) → x ≡ stmt.If s bs o → stmt_count x < m →
      length (otherwise_words (else_view source o)) < m
  otherwise_fits x s bs o m is fits = omega (arith, selection_count x s bs o is, fits)

  iteration_count : (x : Stmt) (s : Span) (names : List Span) (e : Expr) (b : rust_block.Block) → x ≡ stmt.Foreach s names e b →
      expr_count e + length (block_words (block_view source b)) ≤ stmt_count x
  iteration_count x s names e b is =
      let items = expression_words (expr_view source e) in
      let body = block_words (block_view source b) in
      omega (
        arith,
        ap stmt_count is ∙ ap (λ v. length (statement_words v)) (foreach_view source s names e b),
        length-append (names_words (names_at source names)) (mark k.Colon ++ (items ++ ((new_line ∷ body) ++ mark k.WordEndforeach))),
        length-append items ((new_line ∷ body) ++ mark k.WordEndforeach),
        length-append body (mark k.WordEndforeach),
      )

  pub items_fit : (x : Stmt) (s : Span) (names : List Span) (e : Expr) (b : rust_block.Block) (m : ℕ) → x ≡ stmt.Foreach s names e b → stmt_count x < m → expr_count e < m
  items_fit x s names e b m is fits = omega (arith, iteration_count x s names e b is, fits)

  pub body_fits : (x : Stmt) (s : Span) (names : List Span) (e : Expr) (b : rust_block.Block) (m : ℕ) → x ≡ stmt.Foreach s names e b → stmt_count x < m →
      length (block_words (block_view source b)) < m
  body_fits x s names e b m is fits = omega (arith, iteration_count x s names e b is, fits)

  pub stmts_more : (x : Stmt) (xs : List Stmt) → length (statement_words (stmt_view source x)) + stmts_width xs ≤ stmts_width (x ∷ xs)
  stmts_more x xs = omega (arith, length-append (statement_words (stmt_view source x)) (new_line ∷ statements_words (statements_of (stmts_view source xs))))

  pub branches_more : (b : Branch) (bs : List Branch) → branch_count b + branches_width bs ≤ branches_width (b ∷ bs)
  branches_more b bs =
      let v = branch_view source b in
      let rest = branches_of (branches_view source bs) in
      omega (
        arith,
        length-append (expression_words v.0) ((new_line ∷ block_words v.1) ++ branches_words rest k.WordElif),
        length-append (block_words v.1) (branches_words rest k.WordElif),
        any_word rest k.WordIf k.WordElif,
      )

  pub stmt_fits : (ss : List Stmt) (i : ℕ) (d : Stmt) (m : ℕ) → i < length ss → stmts_width ss < m → length (statement_words (stmt_view source (get_or ss i d))) < m
  stmt_fits ss i d m within fits = omega (arith, one_of stmts_width (λ s. length (statement_words (stmt_view source s))) stmts_more ss i d within, fits)

  pub condition_fits : (bs : List Branch) (i : ℕ) (d : Branch) (m : ℕ) → i < length bs → branches_width bs < m → length (expression_words (branch_view source (get_or bs i d)).0) < m
  condition_fits bs i d m within fits = omega (arith, one_of branches_width branch_count branches_more bs i d within, fits)

  pub block_fits : (bs : List Branch) (i : ℕ) (d : Branch) (m : ℕ) → i < length bs → branches_width bs < m → length (block_words (branch_view source (get_or bs i d)).1) < m
  block_fits bs i d m within fits = omega (arith, one_of branches_width branch_count branches_more bs i d within, fits)

  block_is : (b : rust_block.Block) → block_view source b ≡ block b.span (statements_of (stmts_view source b.statements))
  block_is b = search (rules, stmts.the_lemmas)

  pub file_fits : (t : Parsed) (ss : List Stmt) → ss ≡ t.block.statements → IsSpanned source (view source t) → stmts_width ss < 2 ^ 64
  file_fits t ss same spanned = omega (arith, ap stmts_width same, ap (λ b. length (block_words b)) (block_is t.block), file_few source t spanned)
