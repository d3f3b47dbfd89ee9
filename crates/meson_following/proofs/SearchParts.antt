-- The calls in an expression are those in its parts.
use Rattle.std.proofs.Common.{◌≡◌, ℕ, List, ◌∷◌, ◌++◌, refl, sym, ap, ap₂, ◌∙◌}
use Rattle.meson_lex.specs.declared.kinds.Span.{Span}
use Rattle.meson_syntax.specs.declared.tree.Arg.TheVariants as arg
use Rattle.meson_syntax.specs.declared.tree.Arg.{Arg}
use Rattle.meson_syntax.specs.declared.tree.Expr.TheVariants as expr
use Rattle.meson_syntax.specs.declared.tree.Expr.{Expr}
use Rattle.meson_syntax.specs.declared.tree.List as rust
use Rattle.meson_syntax.specs.declared.tree.Operand.{Operand}
use Rattle.meson_syntax.specs.declared.tree.Tail as rust_tail
use Rattle.meson_syntax.specs.Tree.{arguments_of, operands_of, tails_of}
use Rattle.meson_syntax.specs.View.{arg_view, args_view, expr_view, list_view, operands_view, tail_view, tails_view}
use Rattle.meson_calls.specs.Calls.{Call}
use Rattle.meson_calls.proofs.Listed.{list_is}
use Rattle.meson_calls.proofs.Parted.{conditional_view, operand_value, pair_view, row_is}
use Rattle.meson_following.specs.Effects.{calls_of, calls_of_argument, calls_of_arguments, calls_of_listing, calls_of_operands, calls_of_tail, calls_of_tails}
use Rattle.meson_following.proofs.GoodNodes.{postfix_is}

module _ (source : List ℕ) where
  abbrev pub within : Expr → List (Call Span)
  within e = calls_of (expr_view source e)

  pub pair_calls : (x : Arg) (s : Span) (e f e2 f2 : Expr) → x ≡ arg.Pair s e f → e2 ≡ e → f2 ≡ f → calls_of_argument (arg_view source x) ≡ within e2 ++ within f2
  pair_calls x s e f e2 f2 is same other = ap calls_of_argument (ap (arg_view source) is ∙ pair_view source s e f) ∙ sym (ap₂ (λ a b. within a ++ within b) same other)

  pub row_calls : (x : Expr) (s : Span) (e f : Expr) (os ps : List Operand) → x ≡ expr.Row s e os → f ≡ e → ps ≡ os → within x ≡ within f ++ calls_of_operands (operands_of (operands_view source ps))
  row_calls x s e f os ps is same rest = ap calls_of (row_is source x s e f os ps is same rest)

  pub postfix_calls : (x : Expr) (s : Span) (e f : Expr) (ts us : List rust_tail.Tail) → x ≡ expr.Postfix s e ts → f ≡ e → us ≡ ts → within x ≡ within f ++ calls_of_tails (tails_of (tails_view source us))
  postfix_calls x s e f ts us is same rest = ap calls_of (postfix_is source x s e f ts us is same rest)

  pub conditional_calls : (x : Expr) (s : Span) (c y n c2 y2 n2 : Expr) → x ≡ expr.Conditional s c y n → c2 ≡ c → y2 ≡ y → n2 ≡ n → within x ≡ within c2 ++ (within y2 ++ within n2)
  conditional_calls x s c y n c2 y2 n2 is first second third =
      ap calls_of (ap (expr_view source) is ∙ conditional_view source s c y n)
      ∙ sym (ap₂ (λ a b. within a ++ (within b ++ within n)) first second)
      ∙ sym (ap (λ b. within c2 ++ (within y2 ++ within b)) third)

  -- ---- lists

  abbrev pub within_args : List Arg → List (Call Span)
  within_args args = calls_of_arguments (arguments_of (args_view source args))

  abbrev pub within_arg : Arg → List (Call Span)
  within_arg a = calls_of_argument (arg_view source a)

  abbrev pub within_operands : List Operand → List (Call Span)
  within_operands os = calls_of_operands (operands_of (operands_view source os))

  abbrev pub within_operand : Operand → List (Call Span)
  within_operand o = within o.value

  abbrev pub within_tails : List rust_tail.Tail → List (Call Span)
  within_tails ts = calls_of_tails (tails_of (tails_view source ts))

  abbrev pub within_tail : rust_tail.Tail → List (Call Span)
  within_tail t = calls_of_tail (tail_view source t)

  pub listing_calls : (l : rust.List) → calls_of_listing (list_view source l) ≡ within_args (rust.out-List l).items
  listing_calls l = ap calls_of_listing (list_is source l)

  pub args_more : (a : Arg) (args : List Arg) → within_args (a ∷ args) ≡ within_arg a ++ within_args args
  args_more a args = refl

  pub operands_more : (o : Operand) (os : List Operand) → within_operands (o ∷ os) ≡ within_operand o ++ within_operands os
  operands_more o os = ap (λ e. calls_of e ++ within_operands os) (operand_value source o)

  pub tails_more : (t : rust_tail.Tail) (ts : List rust_tail.Tail) → within_tails (t ∷ ts) ≡ within_tail t ++ within_tails ts
  tails_more t ts = refl
