-- Reads that are taken one after another.
use Rattle.std.proofs.Common.{◌≡◌, ℕ, ◌+◌, ◌<◌, ◌≤◌, List, [], ◌∷◌, ◌++◌, length, drop, get_or, refl, sym, ap, ◌∙◌, append-nil, length-append, arith}
use Rattle.std.specs.Prelude.{Bool, true, false, if◌then◌else◌, Some, None}
use Rattle.std.specs.List.{cons_option}
use Rattle.std.proofs.lemmas.List.{at_drop_more}
use Rattle.std.proofs.lemmas.List.Elements.{filter_map-append}
use Rattle.meson_lex.specs.Significant.{Word}
use Rattle.meson_lex.specs.declared.kinds.Kind.TheVariants as k
use Rattle.meson_lex.specs.declared.kinds.Span.{Span}
use Rattle.meson_syntax.specs.declared.tree.Arg.TheVariants as arg
use Rattle.meson_syntax.specs.declared.tree.Arg.{Arg}
use Rattle.meson_syntax.specs.declared.tree.Expr.TheVariants as expr
use Rattle.meson_syntax.specs.declared.tree.Expr.{Expr}
use Rattle.meson_syntax.specs.declared.tree.Operand.{Operand}
use Rattle.meson_syntax.specs.declared.tree.Tail as rust_tail
use Rattle.meson_syntax.specs.declared.tree.Tail.TheVariants as tail
use Rattle.meson_syntax.specs.Grammar.{argument_words, expression_words, mark, operands_words, tail_words}
use Rattle.meson_syntax.specs.View.{expr_view, operands_view}
use Rattle.meson_syntax.specs.Tree.{operands_of, Expression, identifier, boolean, integer, string, paren, array, dictionary, call, unary, row, postfix, conditional}
use Rattle.meson_calls.specs.declared.call.CallRef.{CallRef}
use Rattle.meson_calls.specs.Parts.{Part, an_expression, parts_of_expression}
use Rattle.meson_calls.specs.Project.{Placed, child, placed}
use Rattle.meson_calls.specs.inside.Walks.{parts_within}
use Rattle.meson_calls.proofs.ListTurns.{row_parts, tail_list_parts}
use Rattle.meson_calls.proofs.Parted.{conditional_view, pair_view, row_is, row_view}
use Rattle.meson_calls.proofs.WalkedWords.{arg_count, args_more, args_width, expr_count, row_width, tail_count, tails_more, tails_width}
use Rattle.meson_following.proofs.GoodNodes.{index_is, postfix_is}
use Rattle.meson_following.specs.CodeReads.{Adds, reads_in}
use Rattle.meson_following.specs.Reads.{read_in_part, reads_variable}
use Rattle.meson_following.proofs.TakenTurns.{taken_turn, two_taken}

-- an expression comes before what is within it
parted : (q : CallRef) (e : Expression Span) → parts_of_expression q e ≡ placed q (an_expression e) ∷ parts_within q e
parted q (identifier s x) = refl
parted q (boolean s b) = refl
parted q (integer s x) = refl
parted q (string s k x) = refl
parted q (paren s e) = refl
parted q (array l) = refl
parted q (dictionary l) = refl
parted q (call s x l) = refl
parted q (unary s o e) = refl
parted q (row s e os) = refl
parted q (postfix s e ts) = refl
parted q (conditional s c y n) = refl

module _ (x : List ℕ) where
  module _ (q : CallRef) (e : Expression Span) (before after : List CallRef) (b : Bool) (is : b ≡ reads_variable x e) where
    abbrev there : Bool → List CallRef
    there c = before ++ cons_option (if c then Some q else None) []

    pub read_taken : b ≡ true → after ≡ before ++ q ∷ [] → Adds x before (placed q (an_expression e) ∷ []) after
    read_taken holds comes = comes ∙ ap there (sym holds ∙ is)

    pub read_passed : b ≡ false → after ≡ before → Adds x before (placed q (an_expression e) ∷ []) after
    read_passed fails same = same ∙ sym (append-nil before) ∙ ap there (sym fails ∙ is)

  pub none_read : (before : List CallRef) → Adds x before [] before
  none_read before = sym (append-nil before)

  pub two_read : (before middle after : List CallRef) (a b : List (Placed (Part Span))) → Adds x before a middle → Adds x middle b after → Adds x before (a ++ b) after
  two_read before middle after a b first second =
      two_taken before middle after (reads_in x a) (reads_in x b) first second ∙ ap (λ l. before ++ l) (sym (filter_map-append (read_in_part x) a b))

  pub whole_read : (q : CallRef) (e : Expression Span) (before middle after : List CallRef) → Adds x before (placed q (an_expression e) ∷ []) middle
      → Adds x middle (parts_within q e) after → Adds x before (parts_of_expression q e) after
  whole_read q e before middle after first second =
      two_read before middle after (placed q (an_expression e) ∷ []) (parts_within q e) first second
      ∙ ap (λ ps. before ++ reads_in x ps) (sym (parted q e))

  -- The parts of a list from its n-th child on are those of its first element, which has so many children, and then those of the others.
  module _ {X : Type 0} (parts : ℕ → List X → List (Placed (Part Span))) (part : ℕ → X → List (Placed (Part Span))) (size : X → ℕ)
      (more : (n : ℕ) (y : X) (ys : List X) → parts n (y ∷ ys) ≡ part n y ++ parts (n + size y) ys) where
    pub read_turn : (ys : List X) (i : ℕ) (d : X) (n k : ℕ) (before after whole : List CallRef) (here : List (Placed (Part Span))) → i < length ys
        → Adds x before here after → here ≡ part n (get_or ys i d) → k ≡ n + size (get_or ys i d)
        → before ++ reads_in x (parts n (drop i ys)) ≡ whole → after ++ reads_in x (parts k (drop (i + 1) ys)) ≡ whole
    read_turn ys i d n k before after whole here within first is_here next so_far =
        taken_turn (λ m ps. reads_in x (parts m ps)) (λ m y. reads_in x (part m y)) size
        (λ m y more_ys. ap (reads_in x) (more m y more_ys) ∙ filter_map-append (read_in_part x) (part m y) (parts (m + size y) more_ys))
        ys i d n k before after whole (reads_in x here) within first (ap (reads_in x) is_here) next so_far

-- ---- what is within an expression

module _ (x source : List ℕ) (q : CallRef) (e : Expr) (before middle after : List CallRef) where
  module _ (s : Span) (a b : Expr) (os ps : List Operand) (is : e ≡ expr.Row s a os) (same : b ≡ a) (rest : ps ≡ os) where
    pub row_read : Adds x before (parts_of_expression (child q 0) (expr_view source b)) middle → Adds x middle (row_parts source q 1 ps) after
        → Adds x before (parts_within q (expr_view source e)) after
    row_read first second =
        two_read x before middle after (parts_of_expression (child q 0) (expr_view source b)) (row_parts source q 1 ps) first second
        ∙ ap (λ v. before ++ reads_in x (parts_within q v)) (sym (row_is source e s a b os ps is same rest))

  module _ (s : Span) (a b : Expr) (ts us : List rust_tail.Tail) (is : e ≡ expr.Postfix s a ts) (same : b ≡ a) (rest : us ≡ ts) where
    pub postfix_read : Adds x before (parts_of_expression (child q 0) (expr_view source b)) middle → Adds x middle (tail_list_parts source q 1 us) after
        → Adds x before (parts_within q (expr_view source e)) after
    postfix_read first second =
        two_read x before middle after (parts_of_expression (child q 0) (expr_view source b)) (tail_list_parts source q 1 us) first second
        ∙ ap (λ v. before ++ reads_in x (parts_within q v)) (sym (postfix_is source e s a b ts us is same rest))

  module _ (s : Span) (c y n c2 y2 n2 : Expr) (is : e ≡ expr.Conditional s c y n) (one : c2 ≡ c) (two : y2 ≡ y) (three : n2 ≡ n) (between : List CallRef) where
    abbrev child_parts : ℕ → Expr → List (Placed (Part Span))
    child_parts k z = parts_of_expression (child q k) (expr_view source z)

    conditional_is : expr_view source e ≡ conditional s (expr_view source c2) (expr_view source y2) (expr_view source n2)
    conditional_is =
        ap (expr_view source) is ∙ conditional_view source s c y n
        ∙ ap (λ z. conditional s (expr_view source z) (expr_view source y) (expr_view source n)) (sym one)
        ∙ ap (λ z. conditional s (expr_view source c2) (expr_view source z) (expr_view source n)) (sym two)
        ∙ ap (λ z. conditional s (expr_view source c2) (expr_view source y2) (expr_view source z)) (sym three)

    pub conditional_read : Adds x before (child_parts 0 c2) middle → Adds x middle (child_parts 1 y2) between → Adds x between (child_parts 2 n2) after
        → Adds x before (parts_within q (expr_view source e)) after
    conditional_read first second third =
        two_read x before middle after (child_parts 0 c2) (child_parts 1 y2 ++ child_parts 2 n2) first
        (two_read x middle between after (child_parts 1 y2) (child_parts 2 n2) second third)
        ∙ ap (λ v. before ++ reads_in x (parts_within q v)) (sym conditional_is)

-- ---- the words of what is within

module _ (source : List ℕ) where
  pub key_fits : (a : Arg) (s : Span) (e f y : Expr) (n m : ℕ) → a ≡ arg.Pair s e f → y ≡ e → n + arg_count source a < m → expr_count source y < m
  key_fits a s e f y n m is same fits =
      omega (
        arith,
        ap (arg_count source) is ∙ ap (λ v. length (argument_words v)) (pair_view source s e f),
        ap (expr_count source) same,
        length-append (expression_words (expr_view source e)) (mark k.Colon ++ expression_words (expr_view source f)),
        fits,
      )

  pub value_fits : (a : Arg) (s : Span) (e f y : Expr) (n m : ℕ) → a ≡ arg.Pair s e f → y ≡ f → n + arg_count source a < m → expr_count source y < m
  value_fits a s e f y n m is same fits =
      omega (
        arith,
        ap (arg_count source) is ∙ ap (λ v. length (argument_words v)) (pair_view source s e f),
        ap (expr_count source) same,
        length-append (expression_words (expr_view source e)) (mark k.Colon ++ expression_words (expr_view source f)),
        length-append (mark k.Colon) (expression_words (expr_view source f)),
        fits,
      )

  pub rest_fits : (x : Expr) (s : Span) (e : Expr) (os ps : List Operand) (m : ℕ) → x ≡ expr.Row s e os → ps ≡ os → expr_count source x < m → row_width source ps < m
  rest_fits x s e os ps m is same fits =
      omega (
        arith,
        ap (expr_count source) is ∙ ap (λ v. length (expression_words v)) (row_view source s e os),
        ap (row_width source) same,
        length-append (expression_words (expr_view source e)) (operands_words (operands_of (operands_view source os))),
        fits,
      )

  module _ (x : Expr) (s : Span) (c y n : Expr) (m : ℕ) (is : x ≡ expr.Conditional s c y n) (fits : expr_count source x < m) where
    abbrev no_words : List Word
    no_words = mark k.Colon ++ expression_words (expr_view source n)

    abbrev answer_words : List Word
    answer_words = expression_words (expr_view source y) ++ no_words

    both_fit : expr_count source y + expr_count source n < m
    both_fit =
        omega (
          arith,
          ap (expr_count source) is ∙ ap (λ v. length (expression_words v)) (conditional_view source s c y n),
          length-append (expression_words (expr_view source c)) (mark k.Question ++ answer_words),
          length-append (mark k.Question) answer_words,
          length-append (expression_words (expr_view source y)) no_words,
          length-append (mark k.Colon) (expression_words (expr_view source n)),
          fits,
        )

    pub yes_fits : (z : Expr) → z ≡ y → expr_count source z < m
    yes_fits z same = omega (arith, ap (expr_count source) same, both_fit)

    pub no_fits : (z : Expr) → z ≡ n → expr_count source z < m
    no_fits z same = omega (arith, ap (expr_count source) same, both_fit)

  pub index_fits : (t : rust_tail.Tail) (s : Span) (e : Expr) (n m : ℕ) → t ≡ tail.Index s e → n + tail_count source t < m → expr_count source e < m
  index_fits t s e n m is fits =
      omega (
        arith,
        ap (tail_count source) is ∙ ap (λ v. length (tail_words v)) (index_is source s e),
        length-append (expression_words (expr_view source e)) (mark k.CloseSquare),
        fits,
      )

  pub arg_fits : (args : List Arg) (i : ℕ) (d : Arg) (n first m : ℕ) → i < length args → d ≡ get_or args i d
      → n + args_width source (drop i args) ≤ first + args_width source args → first + args_width source args < m → n + arg_count source d < m
  arg_fits args i d n first m within at_i so_far fits =
      omega (
        arith,
        at_drop_more (args_width source) args i d within,
        args_more source (get_or args i d) (drop (i + 1) args),
        ap (arg_count source) at_i,
        so_far,
        fits,
      )

  pub tail_fits : (ts : List rust_tail.Tail) (i : ℕ) (d : rust_tail.Tail) (n first m : ℕ) → i < length ts → d ≡ get_or ts i d
      → n + tails_width source (drop i ts) ≤ first + tails_width source ts → first + tails_width source ts < m → n + tail_count source d < m
  tail_fits ts i d n first m within at_i so_far fits =
      omega (
        arith,
        at_drop_more (tails_width source) ts i d within,
        tails_more source (get_or ts i d) (drop (i + 1) ts),
        ap (tail_count source) at_i,
        so_far,
        fits,
      )
