-- A view of a value of the code tells the value: it is the one that the view is the tree of.
use Rattle.std.proofs.Common.{◌≡◌, ℕ, List, [], ◌∷◌, map, refl, ap, ap₂, ◌∙◌, subst}
use Rattle.meson_lex.specs.declared.kinds.Span.{Span}
use Rattle.meson_syntax.specs.declared.operator.Operator.{Operator}
use Rattle.meson_syntax.specs.declared.tree.Arg.{Arg}
use Rattle.meson_syntax.specs.declared.tree.Arg.TheOpen.{Arg-F, Expr-F, Tail-F, List-F, Operand-F}
use Rattle.meson_syntax.specs.declared.tree.Arg.TheViews.{roll-Arg, roll-Expr, roll-Tail, roll-List, roll-Operand}
use Rattle.meson_syntax.specs.declared.tree.Arg.TheFolds.{fold-roll-Arg, fold-roll-Expr, fold-roll-Tail, fold-roll-List, fold-roll-Operand, map-Arg, map-Expr, map-Tail, map-List, map-Operand, ind-Expr, ind-List}
use Rattle.meson_syntax.specs.declared.tree.Expr.{Expr}
use Rattle.meson_syntax.specs.declared.tree.Tail as rust_tail
use Rattle.meson_syntax.specs.declared.tree.List as rust
use Rattle.meson_syntax.specs.declared.tree.Operand.{Operand}
use Rattle.meson_syntax.specs.Tree.{Expression, arguments_of, operands_of, tails_of}
use Rattle.meson_syntax.specs.View.{expr_view, arg_view, tail_view, list_view, operand_view}
use Rattle.meson_syntax.specs.Codes.{code_expression, code_operands, code_tail, code_tails, code_listing, code_argument, code_arguments}

-- a value without what is told of it
abbrev pub value : {X : Type 0} {P : X → Type 0} → (x : X) × P x → X
value x = x.0

abbrev pub values : {X : Type 0} {P : X → Type 0} → List ((x : X) × P x) → List X
values = map value

abbrev operand_of : Operator × Expression Span → Operand
operand_of o = roll-Operand (record { operator = o.0; value = code_expression o.1 })

module _ (source : List ℕ) where
  -- what is told of a value of each type
  abbrev OfArg : Arg → Type 0
  OfArg a = code_argument (arg_view source a) ≡ a

  abbrev OfExpr : Expr → Type 0
  OfExpr e = code_expression (expr_view source e) ≡ e

  abbrev OfTail : rust_tail.Tail → Type 0
  OfTail t = code_tail (tail_view source t) ≡ t

  abbrev OfList : rust.List → Type 0
  OfList l = code_listing (list_view source l) ≡ l

  abbrev OfOperand : Operand → Type 0
  OfOperand o = operand_of (operand_view source o) ≡ o

  -- the values of which it is told
  abbrev A : Type 0
  A = (a : Arg) × OfArg a

  abbrev E : Type 0
  E = (e : Expr) × OfExpr e

  abbrev T : Type 0
  T = (t : rust_tail.Tail) × OfTail t

  abbrev L : Type 0
  L = (l : rust.List) × OfList l

  abbrev O : Type 0
  O = (o : Operand) × OfOperand o

  args : (xs : List A) → code_arguments (arguments_of (map (arg_view source) (values xs))) ≡ values xs
  args [] = refl
  args (x ∷ xs) = ap₂ (λ y ys. y ∷ ys) x.1 (args xs)

  tails : (xs : List T) → code_tails (tails_of (map (tail_view source) (values xs))) ≡ values xs
  tails [] = refl
  tails (x ∷ xs) = ap₂ (λ y ys. y ∷ ys) x.1 (tails xs)

  operands : (xs : List O) → code_operands (operands_of (map (operand_view source) (values xs))) ≡ values xs
  operands [] = refl
  operands (x ∷ xs) = ap₂ (λ y ys. y ∷ ys) x.1 (operands xs)

  abbrev arg_values : Arg-F A E T L O → Arg-F Arg Expr rust_tail.Tail rust.List Operand
  arg_values = map-Arg A E T L O Arg Expr rust_tail.Tail rust.List Operand value value value value value

  arg_layer : (y : Arg-F A E T L O) → OfArg (roll-Arg (arg_values y))
  arg_layer (Arg-F.Plain e) = ap code_argument (fold-roll-Arg _ _ _ _ _ _ _ _ _ _ (Arg-F.Plain e.0)) ∙ ap (λ d. roll-Arg (Arg-F.Plain d)) e.1
  arg_layer (Arg-F.Named s n e) = ap code_argument (fold-roll-Arg _ _ _ _ _ _ _ _ _ _ (Arg-F.Named s n e.0)) ∙ ap (λ d. roll-Arg (Arg-F.Named s n d)) e.1
  arg_layer (Arg-F.Pair s e f) =
      ap code_argument (fold-roll-Arg _ _ _ _ _ _ _ _ _ _ (Arg-F.Pair s e.0 f.0))
      ∙ ap₂ (λ c d. roll-Arg (Arg-F.Pair s c d)) e.1 f.1

  arg_case : (x : Arg-F Arg Expr rust_tail.Tail rust.List Operand) (y : Arg-F A E T L O) → arg_values y ≡ x → OfArg (roll-Arg x)
  arg_case x y is = subst (λ z. OfArg (roll-Arg z)) is (arg_layer y)

  abbrev expr_values : Expr-F A E T L O → Expr-F Arg Expr rust_tail.Tail rust.List Operand
  expr_values = map-Expr A E T L O Arg Expr rust_tail.Tail rust.List Operand value value value value value

  expr_layer : (y : Expr-F A E T L O) → OfExpr (roll-Expr (expr_values y))
  expr_layer (Expr-F.Identifier s) = ap code_expression (fold-roll-Expr _ _ _ _ _ _ _ _ _ _ (Expr-F.Identifier s))
  expr_layer (Expr-F.Boolean s b) = ap code_expression (fold-roll-Expr _ _ _ _ _ _ _ _ _ _ (Expr-F.Boolean s b))
  expr_layer (Expr-F.Integer s) = ap code_expression (fold-roll-Expr _ _ _ _ _ _ _ _ _ _ (Expr-F.Integer s))
  expr_layer (Expr-F.String s q) = ap code_expression (fold-roll-Expr _ _ _ _ _ _ _ _ _ _ (Expr-F.String s q))
  expr_layer (Expr-F.Paren s e) = ap code_expression (fold-roll-Expr _ _ _ _ _ _ _ _ _ _ (Expr-F.Paren s e.0)) ∙ ap (λ d. roll-Expr (Expr-F.Paren s d)) e.1
  expr_layer (Expr-F.Array l) = ap code_expression (fold-roll-Expr _ _ _ _ _ _ _ _ _ _ (Expr-F.Array l.0)) ∙ ap (λ m. roll-Expr (Expr-F.Array m)) l.1
  expr_layer (Expr-F.Dictionary l) =
      ap code_expression (fold-roll-Expr _ _ _ _ _ _ _ _ _ _ (Expr-F.Dictionary l.0))
      ∙ ap (λ m. roll-Expr (Expr-F.Dictionary m)) l.1
  expr_layer (Expr-F.Call s n l) =
      ap code_expression (fold-roll-Expr _ _ _ _ _ _ _ _ _ _ (Expr-F.Call s n l.0))
      ∙ ap (λ m. roll-Expr (Expr-F.Call s n m)) l.1
  expr_layer (Expr-F.Unary s o e) =
      ap code_expression (fold-roll-Expr _ _ _ _ _ _ _ _ _ _ (Expr-F.Unary s o e.0))
      ∙ ap (λ d. roll-Expr (Expr-F.Unary s o d)) e.1
  expr_layer (Expr-F.Row s e os) =
      ap code_expression (fold-roll-Expr _ _ _ _ _ _ _ _ _ _ (Expr-F.Row s e.0 (values os)))
      ∙ ap₂ (λ d more. roll-Expr (Expr-F.Row s d more)) e.1 (operands os)
  expr_layer (Expr-F.Postfix s e ts) =
      ap code_expression (fold-roll-Expr _ _ _ _ _ _ _ _ _ _ (Expr-F.Postfix s e.0 (values ts)))
      ∙ ap₂ (λ d more. roll-Expr (Expr-F.Postfix s d more)) e.1 (tails ts)
  expr_layer (Expr-F.Conditional s c y n) =
      ap code_expression (fold-roll-Expr _ _ _ _ _ _ _ _ _ _ (Expr-F.Conditional s c.0 y.0 n.0))
      ∙ ap₂ (λ d e. roll-Expr (Expr-F.Conditional s d e (code_expression (expr_view source n.0)))) c.1 y.1
      ∙ ap (λ d. roll-Expr (Expr-F.Conditional s c.0 y.0 d)) n.1

  expr_case : (x : Expr-F Arg Expr rust_tail.Tail rust.List Operand) (y : Expr-F A E T L O) → expr_values y ≡ x → OfExpr (roll-Expr x)
  expr_case x y is = subst (λ z. OfExpr (roll-Expr z)) is (expr_layer y)

  abbrev tail_values : Tail-F A E T L O → Tail-F Arg Expr rust_tail.Tail rust.List Operand
  tail_values = map-Tail A E T L O Arg Expr rust_tail.Tail rust.List Operand value value value value value

  tail_layer : (y : Tail-F A E T L O) → OfTail (roll-Tail (tail_values y))
  tail_layer (Tail-F.Method s n l) =
      ap code_tail (fold-roll-Tail _ _ _ _ _ _ _ _ _ _ (Tail-F.Method s n l.0))
      ∙ ap (λ m. roll-Tail (Tail-F.Method s n m)) l.1
  tail_layer (Tail-F.Index s e) = ap code_tail (fold-roll-Tail _ _ _ _ _ _ _ _ _ _ (Tail-F.Index s e.0)) ∙ ap (λ d. roll-Tail (Tail-F.Index s d)) e.1

  tail_case : (x : Tail-F Arg Expr rust_tail.Tail rust.List Operand) (y : Tail-F A E T L O) → tail_values y ≡ x → OfTail (roll-Tail x)
  tail_case x y is = subst (λ z. OfTail (roll-Tail z)) is (tail_layer y)

  abbrev list_values : List-F A E T L O → List-F Arg Expr rust_tail.Tail rust.List Operand
  list_values = map-List A E T L O Arg Expr rust_tail.Tail rust.List Operand value value value value value

  list_layer : (y : List-F A E T L O) → OfList (roll-List (list_values y))
  list_layer l =
      ap code_listing (fold-roll-List _ _ _ _ _ _ _ _ _ _ (record { items = values l.items; trailing = l.trailing; span = l.span }))
      ∙ ap (λ items. roll-List (record { items = items; trailing = l.trailing; span = l.span })) (args l.items)

  list_case : (x : List-F Arg Expr rust_tail.Tail rust.List Operand) (y : List-F A E T L O) → list_values y ≡ x → OfList (roll-List x)
  list_case x y is = subst (λ z. OfList (roll-List z)) is (list_layer y)

  abbrev operand_values : Operand-F A E T L O → Operand-F Arg Expr rust_tail.Tail rust.List Operand
  operand_values = map-Operand A E T L O Arg Expr rust_tail.Tail rust.List Operand value value value value value

  operand_layer : (y : Operand-F A E T L O) → OfOperand (roll-Operand (operand_values y))
  operand_layer o =
      ap operand_of (fold-roll-Operand _ _ _ _ _ _ _ _ _ _ (record { operator = o.operator; value = o.value.0 }))
      ∙ ap (λ d. roll-Operand (record { operator = o.operator; value = d })) o.value.1

  operand_case : (x : Operand-F Arg Expr rust_tail.Tail rust.List Operand) (y : Operand-F A E T L O) → operand_values y ≡ x → OfOperand (roll-Operand x)
  operand_case x y is = subst (λ z. OfOperand (roll-Operand z)) is (operand_layer y)

  pub expr_told : (e : Expr) → OfExpr e
  expr_told = ind-Expr OfArg OfExpr OfTail OfList OfOperand arg_case expr_case tail_case list_case operand_case

  pub list_told : (l : rust.List) → OfList l
  list_told = ind-List OfArg OfExpr OfTail OfList OfOperand arg_case expr_case tail_case list_case operand_case
