-- The words of the parts of a block, which are read where those of the block are, and are no more.
use Rattle.std.proofs.Common.{rules, ◌≡◌, ℕ, zero, suc, ◌+◌, ◌<◌, ◌≤◌, ◌^◌, ◌*◌, List, [], ◌∷◌, ◌++◌, length, length-append, append_assoc, get_or, sym, ap, subst, ◌∙◌, arith}
use Rattle.std.specs.Prelude.{Option, Some}
use Rattle.meson_lex.specs.Significant.{Word, new_line}
use Rattle.meson_lex.specs.declared.kinds.Kind.{Kind}
use Rattle.meson_lex.specs.declared.kinds.Kind.TheVariants as k
use Rattle.meson_lex.specs.declared.kinds.Span.{Span}
use Rattle.meson_syntax.specs.declared.operator.Assignment.{Assignment}
use Rattle.meson_syntax.specs.declared.tree.Block as rust_block
use Rattle.meson_syntax.specs.declared.tree.Branch.{Branch}
use Rattle.meson_syntax.specs.declared.tree.Expr.{Expr}
use Rattle.meson_syntax.specs.declared.tree.Stmt.{Stmt}
use Rattle.meson_syntax.specs.declared.tree.Stmt.TheFolds as stmts
use Rattle.meson_syntax.specs.declared.tree.Stmt.TheVariants as stmt
use Rattle.meson_syntax.specs.Grammar.{block_words, branches_words, expression_words, mark, names_words, otherwise_words, statement_words, statements_words}
use Rattle.meson_syntax.specs.Tree.{assign, block, branches_of, evaluate, statements_of}
use Rattle.meson_syntax.specs.View.{block_view, branch_view, branches_view, expr_view, name_at, names_at, stmt_view, stmts_view}
use Rattle.meson_calls.specs.Strings.{AreGood}
use Rattle.meson_calls.specs.inside.Walks.{else_view}
use Rattle.meson_calls.proofs.GoodParts.{good_left, good_right}
use Rattle.meson_calls.proofs.StatementParts.{foreach_view, if_view}
use Rattle.meson_calls.proofs.WalkedWords.{stmt_fits}
use Rattle.meson_following.specs.Walks.{AreRead}

-- ---- words among others

pub within : (before words behind all : List Word) → all ≡ before ++ (words ++ behind) → AreRead all → AreRead words
within before words behind all is read =
    record {
      good = good_left words behind (good_right before (words ++ behind) (subst AreGood is read.good));
      fits = let long = ap length is in let fits = read.fits in omega (arith, long, fits, length-append before (words ++ behind), length-append words behind);
    }

module _ (source : List ℕ) where
  -- ---- a block

  pub block_is : (b : rust_block.Block) → block_view source b ≡ block b.span (statements_of (stmts_view source b.statements))
  block_is b = search (rules, stmts.the_lemmas)

  abbrev stmts_words : List Stmt → List Word
  stmts_words ss = statements_words (statements_of (stmts_view source ss))

  good_stmt : (ss : List Stmt) (i : ℕ) (d : Stmt) → i < length ss → AreGood (stmts_words ss) → AreGood (statement_words (stmt_view source (get_or ss i d)))
  good_stmt [] i d lt good = absurd (omega arith)
  good_stmt (s ∷ ss) zero d lt good = good_left (statement_words (stmt_view source s)) (new_line ∷ stmts_words ss) good
  good_stmt (s ∷ ss) (suc i) d lt good =
      let below : i < length ss = omega arith in
      good_stmt ss i d below (good_right (statement_words (stmt_view source s)) (new_line ∷ stmts_words ss) good).1

  module _ (b : rust_block.Block) (ss : List Stmt) (same : ss ≡ b.statements) where
    pub block_words_are : block_words (block_view source b) ≡ stmts_words ss
    block_words_are = ap block_words (block_is b) ∙ ap stmts_words (sym same)

    pub stmt_read : (i : ℕ) (d : Stmt) → i < length ss → AreRead (block_words (block_view source b)) → AreRead (statement_words (stmt_view source (get_or ss i d)))
    stmt_read i d lt read =
        let whole = subst AreRead block_words_are read in
        record {
          good = good_stmt ss i d lt whole.good;
          fits = stmt_fits source ss i d (2 ^ 64) lt whole.fits;
        }

    pub stmt_within : (i : ℕ) (d : Stmt) → i < length ss → length (statement_words (stmt_view source (get_or ss i d))) ≤ length (block_words (block_view source b))
    stmt_within i d lt =
        let long = ap length block_words_are in
        let more : length (stmts_words ss) < suc (length (stmts_words ss)) = omega arith in
        let fits = stmt_fits source ss i d (suc (length (stmts_words ss))) lt more in
        omega (arith, long, fits)

  -- ---- a selection

  module _ (x : Stmt) (s : Span) (bs : List Branch) (o : Option rust_block.Block) (is : x ≡ stmt.If s bs o) where
    abbrev branches_part : List Word
    branches_part = branches_words (branches_of (branches_view source bs)) k.WordIf

    abbrev last_part : List Word
    last_part = otherwise_words (else_view source o)

    selection_words : statement_words (stmt_view source x) ≡ branches_part ++ (last_part ++ mark k.WordEndif)
    selection_words = ap (λ y. statement_words (stmt_view source y)) is ∙ ap statement_words (if_view source s bs o)

    pub branches_read : AreRead (statement_words (stmt_view source x)) → AreRead branches_part
    branches_read = within [] branches_part (last_part ++ mark k.WordEndif) (statement_words (stmt_view source x)) selection_words

    pub last_read : AreRead (statement_words (stmt_view source x)) → AreRead last_part
    last_read = within branches_part last_part (mark k.WordEndif) (statement_words (stmt_view source x)) selection_words

    pub selection_within : length branches_part + length last_part ≤ length (statement_words (stmt_view source x))
    selection_within =
        omega (arith, ap length selection_words, length-append branches_part (last_part ++ mark k.WordEndif), length-append last_part (mark k.WordEndif))

  abbrev pub else_words : rust_block.Block → List Word
  else_words b = otherwise_words (else_view source (Some b))

  pub else_read : (b : rust_block.Block) → AreRead (else_words b) → AreRead (block_words (block_view source b))
  else_read b = within (mark k.WordElse ++ new_line ∷ []) (block_words (block_view source b)) [] (else_words b) (search rules)

  -- ---- the branches of a selection

  abbrev words_from : Kind → List Branch → List Word
  words_from word bs = branches_words (branches_of (branches_view source bs)) word

  module _ (d : Branch) where
    pub branch_good : (bs : List Branch) (word : Kind) (i : ℕ) → i < length bs → AreGood (words_from word bs)
        → AreGood (expression_words (branch_view source (get_or bs i d)).0) × AreGood (block_words (branch_view source (get_or bs i d)).1)
    branch_good [] word i lt good = absurd (omega arith)
    branch_good (b ∷ bs) word zero lt good =
        let v = branch_view source b in
        let behind = good_right (mark word) (expression_words v.0 ++ ((new_line ∷ block_words v.1) ++ words_from k.WordElif bs)) good in
        let rest = good_right (expression_words v.0) ((new_line ∷ block_words v.1) ++ words_from k.WordElif bs) behind in
        (good_left (expression_words v.0) ((new_line ∷ block_words v.1) ++ words_from k.WordElif bs) behind, (good_left (new_line ∷ block_words v.1) (words_from k.WordElif bs) rest).1)
    branch_good (b ∷ bs) word (suc i) lt good =
        let v = branch_view source b in
        let below : i < length bs = omega arith in
        let behind = good_right (mark word) (expression_words v.0 ++ ((new_line ∷ block_words v.1) ++ words_from k.WordElif bs)) good in
        let rest = good_right (expression_words v.0) ((new_line ∷ block_words v.1) ++ words_from k.WordElif bs) behind in
        branch_good bs k.WordElif i below (good_right (new_line ∷ block_words v.1) (words_from k.WordElif bs) rest)

    branch_long : (b : Branch) (bs : List Branch) (word : Kind)
        → length (words_from word (b ∷ bs)) ≡ 2 + (length (expression_words (branch_view source b).0) + (length (block_words (branch_view source b).1) + length (words_from k.WordElif bs)))
    branch_long b bs word =
        let v = branch_view source b in
        omega (arith, length-append (expression_words v.0) ((new_line ∷ block_words v.1) ++ words_from k.WordElif bs), length-append (block_words v.1) (words_from k.WordElif bs))

    pub branch_less : (bs : List Branch) (word : Kind) (i : ℕ) → i < length bs → suc (length (block_words (branch_view source (get_or bs i d)).1)) ≤ length (words_from word bs)
    branch_less [] word i lt = absurd (omega arith)
    branch_less (b ∷ bs) word zero lt = omega (arith, branch_long b bs word)
    branch_less (b ∷ bs) word (suc i) lt =
        let below : i < length bs = omega arith in
        omega (arith, branch_long b bs word, branch_less bs k.WordElif i below)

    pub branches_long : (bs : List Branch) (word : Kind) → 2 * length bs ≤ length (words_from word bs)
    branches_long [] word = omega arith
    branches_long (b ∷ bs) word = omega (arith, branch_long b bs word, branches_long bs k.WordElif)

  -- ---- a loop

  module _ (x : Stmt) (s : Span) (names : List Span) (e : Expr) (b : rust_block.Block) (is : x ≡ stmt.Foreach s names e b) where
    abbrev body_part : List Word
    body_part = block_words (block_view source b)

    abbrev items_part : List Word
    items_part = expression_words (expr_view source e)

    abbrev front_part : List Word
    front_part = mark k.WordForeach ++ (names_words (names_at source names) ++ mark k.Colon)

    iteration_words : statement_words (stmt_view source x) ≡ front_part ++ (items_part ++ ((new_line ∷ body_part) ++ mark k.WordEndforeach))
    iteration_words =
        ap (λ y. statement_words (stmt_view source y)) is ∙ ap statement_words (foreach_view source s names e b)
        ∙ ap (λ ws. mark k.WordForeach ++ ws) (sym (append_assoc (names_words (names_at source names)) (mark k.Colon) (items_part ++ ((new_line ∷ body_part) ++ mark k.WordEndforeach))))

    pub items_read : AreRead (statement_words (stmt_view source x)) → AreRead items_part
    items_read = within front_part items_part ((new_line ∷ body_part) ++ mark k.WordEndforeach) (statement_words (stmt_view source x)) iteration_words

    body_words : statement_words (stmt_view source x) ≡ ((front_part ++ items_part) ++ new_line ∷ []) ++ (body_part ++ mark k.WordEndforeach)
    body_words =
        iteration_words
        ∙ sym (append_assoc front_part items_part ((new_line ∷ body_part) ++ mark k.WordEndforeach))
        ∙ sym (append_assoc (front_part ++ items_part) (new_line ∷ []) (body_part ++ mark k.WordEndforeach))

    pub body_read : AreRead (statement_words (stmt_view source x)) → AreRead body_part
    body_read = within ((front_part ++ items_part) ++ new_line ∷ []) body_part (mark k.WordEndforeach) (statement_words (stmt_view source x)) body_words

    pub body_less : suc (length body_part) ≤ length (statement_words (stmt_view source x))
    body_less =
        omega (
          arith,
          ap length body_words,
          length-append ((front_part ++ items_part) ++ new_line ∷ []) (body_part ++ mark k.WordEndforeach),
          length-append (front_part ++ items_part) (new_line ∷ []),
          length-append body_part (mark k.WordEndforeach),
        )

  -- ---- other statements

  pub evaluated_is : (x : Stmt) (e : Expr) → x ≡ stmt.Expr e → stmt_view source x ≡ evaluate (expr_view source e)
  evaluated_is x e is = ap (stmt_view source) is ∙ search (rules, stmts.the_lemmas)

  pub assigned_is : (x : Stmt) (s name : Span) (a : Assignment) (e : Expr) → x ≡ stmt.Assign s name a e → stmt_view source x ≡ assign s (name_at source name) a (expr_view source e)
  assigned_is x s name a e is = ap (stmt_view source) is ∙ search (rules, stmts.the_lemmas)
