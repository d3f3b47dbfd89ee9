-- Where the strings of an expression are of their kinds, so are those of its children.
use Rattle.std.proofs.Common.{rules, ◌≡◌, ℕ, zero, suc, ◌<◌, List, [], ◌∷◌, ◌++◌, length, get_or, sym, ap, subst, ◌∙◌, arith}
use Rattle.meson_lex.specs.declared.kinds.Kind.TheVariants as k
use Rattle.meson_lex.specs.declared.kinds.Span.{Span}
use Rattle.meson_syntax.specs.declared.operator.Bracket.TheVariants as bracket
use Rattle.meson_syntax.specs.declared.operator.UnaryOperator.{UnaryOperator}
use Rattle.meson_syntax.specs.declared.tree.Arg.TheFolds.{the_lemmas}
use Rattle.meson_syntax.specs.declared.tree.Arg.TheVariants as arg
use Rattle.meson_syntax.specs.declared.tree.Arg.{Arg}
use Rattle.meson_syntax.specs.declared.tree.Expr.TheVariants as expr
use Rattle.meson_syntax.specs.declared.tree.Expr.{Expr}
use Rattle.meson_syntax.specs.declared.tree.List as rust
use Rattle.meson_syntax.specs.declared.tree.Operand.{Operand}
use Rattle.meson_syntax.specs.declared.tree.Tail as rust_tail
use Rattle.meson_syntax.specs.declared.tree.Tail.TheVariants as tail
use Rattle.meson_syntax.specs.Tree.{paren, dictionary, unary, postfix, named, method, index, operands_of, tails_of}
use Rattle.meson_syntax.specs.Grammar.{argument_words, expression_words, listing_words, mark, operands_words, tail_words, tails_words}
use Rattle.meson_syntax.specs.View.{arg_view, expr_view, list_view, name_at, operands_view, tail_view, tails_view}
use Rattle.meson_calls.specs.GoodLists.{GoodListing}
use Rattle.meson_calls.specs.Strings.{AreGood}
use Rattle.meson_calls.proofs.GoodParts.{good_left, good_right}
use Rattle.meson_calls.proofs.Nested.{array_view, call_view, good_listing, plain_view}
use Rattle.meson_calls.proofs.Parted.{conditional_view, pair_view, postfix_view, row_is}

module _ (source : List ℕ) where
  pub paren_is : (s : Span) (e : Expr) → expr_view source (expr.Paren s e) ≡ paren s (expr_view source e)
  paren_is s e = search (rules, the_lemmas)

  pub unary_is : (s : Span) (o : UnaryOperator) (e : Expr) → expr_view source (expr.Unary s o e) ≡ unary s o (expr_view source e)
  unary_is s o e = search (rules, the_lemmas)

  pub dictionary_is : (l : rust.List) → expr_view source (expr.Dictionary l) ≡ dictionary (list_view source l)
  dictionary_is l = search (rules, the_lemmas)

  pub named_is : (s x : Span) (e : Expr) → arg_view source (arg.Named s x e) ≡ named s (name_at source x) (expr_view source e)
  named_is s x e = search (rules, the_lemmas)

  pub method_is : (s x : Span) (l : rust.List) → tail_view source (tail.Method s x l) ≡ method s (name_at source x) (list_view source l)
  method_is s x l = search (rules, the_lemmas)

  pub index_is : (s : Span) (e : Expr) → tail_view source (tail.Index s e) ≡ index s (expr_view source e)
  index_is s e = search (rules, the_lemmas)

  -- ---- the children of an expression

  pub paren_good : (x : Expr) (s : Span) (e y : Expr) → x ≡ expr.Paren s e → y ≡ e → AreGood (expression_words (expr_view source x)) → AreGood (expression_words (expr_view source y))
  paren_good x s e y is same good =
      subst (λ v. AreGood (expression_words (expr_view source v))) (sym same)
      (good_left (expression_words (expr_view source e)) (mark k.CloseRound) (subst (λ v. AreGood (expression_words v)) (ap (expr_view source) is ∙ paren_is s e) good).1)

  pub unary_good : (x : Expr) (s : Span) (o : UnaryOperator) (e y : Expr) → x ≡ expr.Unary s o e → y ≡ e → AreGood (expression_words (expr_view source x)) → AreGood (expression_words (expr_view source y))
  unary_good x s o e y is same good =
      subst (λ v. AreGood (expression_words (expr_view source v))) (sym same) (subst (λ v. AreGood (expression_words v)) (ap (expr_view source) is ∙ unary_is s o e) good).1

  pub array_good : (x : Expr) (l : rust.List) → x ≡ expr.Array l → AreGood (expression_words (expr_view source x)) → GoodListing (list_view source l)
  array_good x l is good = good_listing (list_view source l) bracket.Square (subst (λ v. AreGood (expression_words v)) (ap (expr_view source) is ∙ array_view source l) good)

  pub dictionary_good : (x : Expr) (l : rust.List) → x ≡ expr.Dictionary l → AreGood (expression_words (expr_view source x)) → GoodListing (list_view source l)
  dictionary_good x l is good = good_listing (list_view source l) bracket.Curly (subst (λ v. AreGood (expression_words v)) (ap (expr_view source) is ∙ dictionary_is l) good)

  pub arguments_good : (x : Expr) (s name : Span) (l : rust.List) → x ≡ expr.Call s name l → AreGood (expression_words (expr_view source x)) → AreGood (listing_words (list_view source l) bracket.Round)
  arguments_good x s name l is good = (subst (λ v. AreGood (expression_words v)) (ap (expr_view source) is ∙ call_view source s name l) good).1

  pub call_good : (x : Expr) (s name : Span) (l : rust.List) → x ≡ expr.Call s name l → AreGood (expression_words (expr_view source x)) → GoodListing (list_view source l)
  call_good x s name l is good = good_listing (list_view source l) bracket.Round (arguments_good x s name l is good)

  module _ (x : Expr) (s : Span) (e f : Expr) (os ps : List Operand) (is : x ≡ expr.Row s e os) (same : f ≡ e) (rest : ps ≡ os) (good : AreGood (expression_words (expr_view source x))) where
    pub row_good : AreGood (expression_words (expr_view source f) ++ operands_words (operands_of (operands_view source ps)))
    row_good = subst (λ v. AreGood (expression_words v)) (row_is source x s e f os ps is same rest) good

    pub first_good : AreGood (expression_words (expr_view source f))
    first_good = good_left (expression_words (expr_view source f)) (operands_words (operands_of (operands_view source ps))) row_good

    pub operands_good : AreGood (operands_words (operands_of (operands_view source ps)))
    operands_good = good_right (expression_words (expr_view source f)) (operands_words (operands_of (operands_view source ps))) row_good

  pub postfix_is : (x : Expr) (s : Span) (e f : Expr) (ts us : List rust_tail.Tail) → x ≡ expr.Postfix s e ts → f ≡ e → us ≡ ts → expr_view source x ≡ postfix s (expr_view source f) (tails_of (tails_view source us))
  postfix_is x s e f ts us is same rest =
      ap (expr_view source) is ∙ postfix_view source s e ts
      ∙ ap (λ y. postfix s (expr_view source y) (tails_of (tails_view source ts))) (sym same)
      ∙ ap (λ ys. postfix s (expr_view source f) (tails_of (tails_view source ys))) (sym rest)

  module _ (x : Expr) (s : Span) (e f : Expr) (ts us : List rust_tail.Tail) (is : x ≡ expr.Postfix s e ts) (same : f ≡ e) (rest : us ≡ ts) (good : AreGood (expression_words (expr_view source x))) where
    postfix_good : AreGood (expression_words (expr_view source f) ++ tails_words (tails_of (tails_view source us)))
    postfix_good = subst (λ v. AreGood (expression_words v)) (postfix_is x s e f ts us is same rest) good

    pub base_good : AreGood (expression_words (expr_view source f))
    base_good = good_left (expression_words (expr_view source f)) (tails_words (tails_of (tails_view source us))) postfix_good

    pub tails_good : AreGood (tails_words (tails_of (tails_view source us)))
    tails_good = good_right (expression_words (expr_view source f)) (tails_words (tails_of (tails_view source us))) postfix_good

  module _ (x : Expr) (s : Span) (c y n : Expr) (is : x ≡ expr.Conditional s c y n) (good : AreGood (expression_words (expr_view source x))) where
    whole : AreGood (expression_words (expr_view source c) ++ (mark k.Question ++ (expression_words (expr_view source y) ++ (mark k.Colon ++ expression_words (expr_view source n)))))
    whole = subst (λ v. AreGood (expression_words v)) (ap (expr_view source) is ∙ conditional_view source s c y n) good

    answers : AreGood (expression_words (expr_view source y) ++ (mark k.Colon ++ expression_words (expr_view source n)))
    answers = (good_right (expression_words (expr_view source c)) (mark k.Question ++ (expression_words (expr_view source y) ++ (mark k.Colon ++ expression_words (expr_view source n)))) whole).1

    pub condition_good : (d : Expr) → d ≡ c → AreGood (expression_words (expr_view source d))
    condition_good d same =
        subst (λ v. AreGood (expression_words (expr_view source v))) (sym same)
        (good_left (expression_words (expr_view source c)) (mark k.Question ++ (expression_words (expr_view source y) ++ (mark k.Colon ++ expression_words (expr_view source n)))) whole)

    pub yes_good : (d : Expr) → d ≡ y → AreGood (expression_words (expr_view source d))
    yes_good d same =
        subst (λ v. AreGood (expression_words (expr_view source v))) (sym same) (good_left (expression_words (expr_view source y)) (mark k.Colon ++ expression_words (expr_view source n)) answers)

    pub no_good : (d : Expr) → d ≡ n → AreGood (expression_words (expr_view source d))
    no_good d same =
        subst (λ v. AreGood (expression_words (expr_view source v))) (sym same) (good_right (expression_words (expr_view source y)) (mark k.Colon ++ expression_words (expr_view source n)) answers).1

  -- ---- of an element

  pub plain_good : (x : Arg) (e : Expr) → x ≡ arg.Plain e → AreGood (argument_words (arg_view source x)) → AreGood (expression_words (expr_view source e))
  plain_good x e is good = subst (λ v. AreGood (argument_words v)) (ap (arg_view source) is ∙ plain_view source e) good

  pub named_good : (x : Arg) (s name : Span) (e : Expr) → x ≡ arg.Named s name e → AreGood (argument_words (arg_view source x)) → AreGood (expression_words (expr_view source e))
  named_good x s name e is good = (subst (λ v. AreGood (argument_words v)) (ap (arg_view source) is ∙ named_is s name e) good).1.1

  module _ (x : Arg) (s : Span) (e f : Expr) (is : x ≡ arg.Pair s e f) (good : AreGood (argument_words (arg_view source x))) where
    both : AreGood (expression_words (expr_view source e) ++ (mark k.Colon ++ expression_words (expr_view source f)))
    both = subst (λ v. AreGood (argument_words v)) (ap (arg_view source) is ∙ pair_view source s e f) good

    pub key_good : (d : Expr) → d ≡ e → AreGood (expression_words (expr_view source d))
    key_good d same =
        subst (λ v. AreGood (expression_words (expr_view source v))) (sym same) (good_left (expression_words (expr_view source e)) (mark k.Colon ++ expression_words (expr_view source f)) both)

    pub value_good : (d : Expr) → d ≡ f → AreGood (expression_words (expr_view source d))
    value_good d same =
        subst (λ v. AreGood (expression_words (expr_view source v))) (sym same) (good_right (expression_words (expr_view source e)) (mark k.Colon ++ expression_words (expr_view source f)) both).1

  -- ---- of what is behind an expression

  pub tail_good : (ts : List rust_tail.Tail) (i : ℕ) (d : rust_tail.Tail) → i < length ts → AreGood (tails_words (tails_of (tails_view source ts))) → AreGood (tail_words (tail_view source (get_or ts i d)))
  tail_good [] i d within good = absurd (omega arith)
  tail_good (t ∷ ts) zero d within good = good_left (tail_words (tail_view source t)) (tails_words (tails_of (tails_view source ts))) good
  tail_good (t ∷ ts) (suc i) d within good =
      let below : i < length ts = omega arith in
      tail_good ts i d below (good_right (tail_words (tail_view source t)) (tails_words (tails_of (tails_view source ts))) good)

  pub method_good : (t : rust_tail.Tail) (s name : Span) (l : rust.List) → t ≡ tail.Method s name l → AreGood (tail_words (tail_view source t)) → GoodListing (list_view source l)
  method_good t s name l is good = good_listing (list_view source l) bracket.Round (subst (λ v. AreGood (tail_words v)) (ap (tail_view source) is ∙ method_is s name l) good).1.1

  pub index_good : (t : rust_tail.Tail) (s : Span) (e : Expr) → t ≡ tail.Index s e → AreGood (tail_words (tail_view source t)) → AreGood (expression_words (expr_view source e))
  index_good t s e is good =
      good_left (expression_words (expr_view source e)) (mark k.CloseSquare) (subst (λ v. AreGood (tail_words v)) (ap (tail_view source) is ∙ index_is s e) good).1
