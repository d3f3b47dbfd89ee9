-- How many constructs are inside an expression, as far as it is followed.
use Rattle.std.proofs.Common.{◌≡◌, ℕ, zero, suc, ◌+◌, ◌<◌, ◌≤◌, List, [], ◌∷◌, length, get_or, refl, ap, ◌∙◌, arith}
use Rattle.std.specs.Prelude.{Some}
use Rattle.meson_lex.specs.declared.kinds.Span.{Span}
use Rattle.meson_syntax.specs.declared.tree.Arg.TheVariants as arg
use Rattle.meson_syntax.specs.declared.tree.Arg.{Arg}
use Rattle.meson_syntax.specs.declared.tree.Expr.TheVariants as expr
use Rattle.meson_syntax.specs.declared.tree.Expr.{Expr}
use Rattle.meson_syntax.specs.declared.tree.List as rust
use Rattle.meson_syntax.specs.declared.tree.Operand.{Operand}
use Rattle.meson_syntax.specs.Tree.{Expression, paren, array, call, row, conditional, Operands, no_operands, operand, Listing, listing, Argument, plain, Arguments, no_arguments, argument, arguments_of, operands_of}
use Rattle.meson_syntax.specs.View.{arg_view, args_view, expr_view, list_view, operands_view}
use Rattle.meson_calls.specs.declared.call.CallRef.{CallRef}
use Rattle.meson_calls.specs.Parts.{Part, an_expression, a_statement, parts}
use Rattle.meson_calls.specs.Project.{Placed, Project, expression_at, placed}
use Rattle.meson_calls.proofs.GoodNotes.{call_view}
use Rattle.meson_calls.proofs.Listed.{list_is}
use Rattle.meson_calls.proofs.Nested.{array_view, plain_view}
use Rattle.meson_calls.proofs.Parted.{conditional_view, operand_value, row_is}
use Rattle.meson_calls.proofs.PartsContained.{parts-are-all}
use Rattle.meson_following.proofs.GoodNodes.{paren_is}

abbrev mutual
  pub weight : {S : Type 0} → Expression S → ℕ
  weight (paren s e) = suc (weight e)
  weight (array l) = suc (listing_weight l)
  weight (call s f l) = suc (listing_weight l)
  weight (row s e os) = suc (weight e + operands_weight os)
  weight (conditional s c y n) = suc (weight y + weight n)
  weight _ = 0

  pub operands_weight : {S : Type 0} → Operands S → ℕ
  operands_weight no_operands = 0
  operands_weight (operand o e more) = weight e + operands_weight more

  pub listing_weight : {S : Type 0} → Listing S → ℕ
  listing_weight (listing s trailing list) = arguments_weight list

  pub argument_weight : {S : Type 0} → Argument S → ℕ
  argument_weight (plain e) = weight e
  argument_weight _ = 0

  pub arguments_weight : {S : Type 0} → Arguments S → ℕ
  arguments_weight no_arguments = 0
  arguments_weight (argument a more) = argument_weight a + arguments_weight more

module _ (source : List ℕ) where
  abbrev pub weight_of : Expr → ℕ
  weight_of x = weight (expr_view source x)

  abbrev pub rest_weight : List Operand → ℕ
  rest_weight os = operands_weight (operands_of (operands_view source os))

  abbrev pub args_weight : List Arg → ℕ
  args_weight args = arguments_weight (arguments_of (args_view source args))

  -- ---- the parts of an expression

  pub paren_less : (x : Expr) (s : Span) (e y : Expr) → x ≡ expr.Paren s e → y ≡ e → weight_of y < weight_of x
  paren_less x s e y is same =
      let whole = ap weight (ap (expr_view source) is ∙ paren_is source s e) in
      let inner = ap weight_of same in
      omega (arith, whole, inner)

  pub yes_less : (x : Expr) (s : Span) (c y n d : Expr) → x ≡ expr.Conditional s c y n → d ≡ y → weight_of d < weight_of x
  yes_less x s c y n d is same =
      let whole = ap weight (ap (expr_view source) is ∙ conditional_view source s c y n) in
      let inner = ap weight_of same in
      omega (arith, whole, inner)

  pub no_less : (x : Expr) (s : Span) (c y n d : Expr) → x ≡ expr.Conditional s c y n → d ≡ n → weight_of d < weight_of x
  no_less x s c y n d is same =
      let whole = ap weight (ap (expr_view source) is ∙ conditional_view source s c y n) in
      let inner = ap weight_of same in
      omega (arith, whole, inner)

  pub first_less : (x : Expr) (s : Span) (e f : Expr) (os : List Operand) → x ≡ expr.Row s e os → f ≡ e → weight_of f < weight_of x
  first_less x s e f os is same =
      let whole = ap weight (row_is source x s e f os os is same refl) in
      omega (arith, whole)

  pub rest_within : (x : Expr) (s : Span) (e : Expr) (os ps : List Operand) → x ≡ expr.Row s e os → ps ≡ os → suc (rest_weight ps) ≤ weight_of x
  rest_within x s e os ps is same =
      let whole = ap weight (row_is source x s e e os ps is refl same) in
      omega (arith, whole)

  pub answers_within : (x : Expr) (s : Span) (c y n d f : Expr) → x ≡ expr.Conditional s c y n → d ≡ y → f ≡ n → suc (weight_of d + weight_of f) ≤ weight_of x
  answers_within x s c y n d f is first second =
      let whole = ap weight (ap (expr_view source) is ∙ conditional_view source s c y n) in
      let one = ap weight_of first in
      let other = ap weight_of second in
      omega (arith, whole, one, other)

  pub sum_within : (x : Expr) (s : Span) (e f : Expr) (os ps : List Operand) → x ≡ expr.Row s e os → f ≡ e → ps ≡ os → suc (weight_of f + rest_weight ps) ≤ weight_of x
  sum_within x s e f os ps is first rest = let whole = ap weight (row_is source x s e f os ps is first rest) in omega (arith, whole)

  pub array_within : (x : Expr) (l : rust.List) → x ≡ expr.Array l → suc (listing_weight (list_view source l)) ≤ weight_of x
  array_within x l is = let whole = ap weight (ap (expr_view source) is ∙ array_view source l) in omega (arith, whole)

  pub call_within : (x : Expr) (s name : Span) (l : rust.List) → x ≡ expr.Call s name l → suc (listing_weight (list_view source l)) ≤ weight_of x
  call_within x s name l is = let whole = ap weight (ap (expr_view source) is ∙ call_view source s name l) in omega (arith, whole)

  pub items_within : (l : rust.List) (args : List Arg) → args ≡ (rust.out-List l).items → suc (args_weight args) ≤ suc (listing_weight (list_view source l))
  items_within l args same =
      let whole = ap listing_weight (list_is source l) in
      let inner = ap args_weight same in
      omega (arith, whole, inner)

  -- ---- elements and operands

  pub arg_less : (args : List Arg) (i : ℕ) (d : Arg) → i < length args → argument_weight (arg_view source (get_or args i d)) < suc (args_weight args)
  arg_less [] i d within = absurd (omega (arith, within))
  arg_less (a ∷ args) zero d within = omega arith
  arg_less (a ∷ args) (suc i) d within =
      let below : i < length args = omega (arith, within) in
      let more = arg_less args i d below in
      omega (arith, more)

  pub operand_less : (rest : List Operand) (i : ℕ) (d : Operand) → i < length rest → weight_of (get_or rest i d).value < suc (rest_weight rest)
  operand_less [] i d within = absurd (omega (arith, within))
  operand_less (o ∷ rest) zero d within =
      let same = ap weight (operand_value source o) in
      omega (arith, same)
  operand_less (o ∷ rest) (suc i) d within =
      let below : i < length rest = omega (arith, within) in
      let more = operand_less rest i d below in
      omega (arith, more)

  pub plain_within : (x : Arg) (e : Expr) → x ≡ arg.Plain e → weight_of e ≤ argument_weight (arg_view source x)
  plain_within x e is = let whole = ap argument_weight (ap (arg_view source) is ∙ plain_view source e) in omega (arith, whole)

-- ---- all expressions of a project together: no single one has more

abbrev pub part_weight : Part Span → ℕ
part_weight (an_expression e) = weight e
part_weight (a_statement s) = 0

abbrev pub parts_weight : List (Placed (Part Span)) → ℕ
parts_weight [] = 0
parts_weight (q ∷ qs) = part_weight q.it + parts_weight qs

abbrev pub all_weight : Project Span → ℕ
all_weight p = parts_weight (parts p)

among : (qs : List (Placed (Part Span))) (i : ℕ) (q d : Placed (Part Span)) → i < length qs → get_or qs i d ≡ q → part_weight q.it ≤ parts_weight qs
among [] i q d within is = absurd (omega (arith, within))
among (r ∷ qs) zero q d within is = let same = ap (λ t. part_weight t.it) is in omega (arith, same)
among (r ∷ qs) (suc i) q d within is =
    let below : i < length qs = omega (arith, within) in
    let more = among qs i q d below is in
    omega (arith, more)

pub value_within : (p : Project Span) (c : CallRef) (e : Expression Span) → expression_at p c ≡ Some e → weight e ≤ all_weight p
value_within p c e is =
    let there = (parts-are-all p c e).1 is in
    among (parts p) there.0 (placed c (an_expression e)) (placed c (an_expression e)) there.1 there.2
