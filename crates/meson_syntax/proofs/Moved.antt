-- Expressions, elements and tails with their borders moved, by their parts.
use Rattle.std.proofs.Common.{◌≡◌, ℕ, List, [], ◌∷◌, ◌++◌, map, take, drop, length, refl, sym, ap, ◌∙◌}
use Rattle.meson_lex.specs.declared.kinds.Span.{Span}
use Rattle.meson_syntax.specs.declared.tree.Arg.{Arg}
use Rattle.meson_syntax.specs.declared.tree.Arg.TheVariants as arg
use Rattle.meson_syntax.specs.declared.tree.Arg.TheOpen.{Arg-F, Expr-F, Tail-F}
use Rattle.meson_syntax.specs.declared.tree.Arg.TheFolds.{fold-roll-Arg, fold-roll-Expr, fold-roll-Tail}
use Rattle.meson_syntax.specs.declared.tree.Expr.{Expr}
use Rattle.meson_syntax.specs.declared.tree.Expr.TheVariants as expr
use Rattle.meson_syntax.specs.declared.tree.List as rust
use Rattle.meson_syntax.specs.declared.tree.Operand.{Operand}
use Rattle.meson_syntax.specs.declared.tree.Tail as rust_tail
use Rattle.meson_syntax.specs.declared.tree.Tail.TheVariants as tail
use Rattle.meson_syntax.specs.MovedCode.{moved_arg, moved_expr, moved_list, moved_operand, moved_tail}
use Rattle.meson_syntax.specs.Moving.{span_by}

-- ---- a list that is written back where as many stood

written : {A : Type 0} (f : A → A) (xs : List A) → take (length xs) (map f xs ++ drop (length (map f xs)) xs) ≡ map f xs
written f [] = refl
written f (x ∷ xs) = ap (λ ys. f x ∷ ys) (written f xs)

pub written_back : {A : Type 0} (f : A → A) (xs ys : List A) → ys ≡ map f xs → take (length xs) (ys ++ drop (length ys) xs) ≡ map f xs
written_back f xs ys is = ap (λ zs. take (length xs) (zs ++ drop (length zs) xs)) is ∙ written f xs

-- ---- expressions

module _ (g : ℕ → ℕ) where
  abbrev moves : Expr → Expr
  moves = moved_expr g

  paren_moved : (s : Span) (e : Expr) → moves (expr.Paren s e) ≡ expr.Paren (span_by g s) (moves e)
  paren_moved s e = ap moves (sym (expr.rolls-Paren s e)) ∙ fold-roll-Expr _ _ _ _ _ _ _ _ _ _ (Expr-F.Paren s e)

  pub moved_paren : (x : Expr) (s s' : Span) (e e' : Expr) → x ≡ expr.Paren s e → s' ≡ span_by g s → e' ≡ moves e → expr.Paren s' e' ≡ moves x
  moved_paren x s s' e e' is same inside = cc (paren_moved s e)

  call_moved : (s n : Span) (l : rust.List) → moves (expr.Call s n l) ≡ expr.Call (span_by g s) (span_by g n) (moved_list g l)
  call_moved s n l = ap moves (sym (expr.rolls-Call s n l)) ∙ fold-roll-Expr _ _ _ _ _ _ _ _ _ _ (Expr-F.Call s n l)

  pub moved_call : (x : Expr) (s s' n n' : Span) (l l' : rust.List) → x ≡ expr.Call s n l → s' ≡ span_by g s → n' ≡ span_by g n → l' ≡ moved_list g l →
      expr.Call s' n' l' ≡ moves x
  moved_call x s s' n n' l l' is same name list = cc (call_moved s n l)

  row_moved : (s : Span) (e : Expr) (os : List Operand) → moves (expr.Row s e os) ≡ expr.Row (span_by g s) (moves e) (map (moved_operand g) os)
  row_moved s e os = ap moves (sym (expr.rolls-Row s e os)) ∙ fold-roll-Expr _ _ _ _ _ _ _ _ _ _ (Expr-F.Row s e os)

  pub moved_row : (x : Expr) (s s' : Span) (e e' : Expr) (os os' : List Operand) → x ≡ expr.Row s e os → s' ≡ span_by g s → e' ≡ moves e →
      os' ≡ map (moved_operand g) os → expr.Row s' e' os' ≡ moves x
  moved_row x s s' e e' os os' is same first rest = cc (row_moved s e os)

  postfix_moved : (s : Span) (e : Expr) (ts : List rust_tail.Tail) → moves (expr.Postfix s e ts) ≡ expr.Postfix (span_by g s) (moves e) (map (moved_tail g) ts)
  postfix_moved s e ts = ap moves (sym (expr.rolls-Postfix s e ts)) ∙ fold-roll-Expr _ _ _ _ _ _ _ _ _ _ (Expr-F.Postfix s e ts)

  pub moved_postfix : (x : Expr) (s s' : Span) (e e' : Expr) (ts ts' : List rust_tail.Tail) → x ≡ expr.Postfix s e ts → s' ≡ span_by g s → e' ≡ moves e →
      ts' ≡ map (moved_tail g) ts → expr.Postfix s' e' ts' ≡ moves x
  moved_postfix x s s' e e' ts ts' is same base tails = cc (postfix_moved s e ts)

  conditional_moved : (s : Span) (c y n : Expr) → moves (expr.Conditional s c y n) ≡ expr.Conditional (span_by g s) (moves c) (moves y) (moves n)
  conditional_moved s c y n = ap moves (sym (expr.rolls-Conditional s c y n)) ∙ fold-roll-Expr _ _ _ _ _ _ _ _ _ _ (Expr-F.Conditional s c y n)

  pub moved_conditional : (x : Expr) (s s' : Span) (c c' y y' n n' : Expr) → x ≡ expr.Conditional s c y n → s' ≡ span_by g s → c' ≡ moves c → y' ≡ moves y →
      n' ≡ moves n → expr.Conditional s' c' y' n' ≡ moves x
  moved_conditional x s s' c c' y y' n n' is same when first second = cc (conditional_moved s c y n)

-- ---- elements and tails

module _ (g : ℕ → ℕ) where
  named_moved : (s n : Span) (e : Expr) → moved_arg g (arg.Named s n e) ≡ arg.Named (span_by g s) (span_by g n) (moved_expr g e)
  named_moved s n e = ap (moved_arg g) (sym (arg.rolls-Named s n e)) ∙ fold-roll-Arg _ _ _ _ _ _ _ _ _ _ (Arg-F.Named s n e)

  pub moved_named : (x : Arg) (s s' n n' : Span) (e e' : Expr) → x ≡ arg.Named s n e → s' ≡ span_by g s → n' ≡ span_by g n → e' ≡ moved_expr g e →
      arg.Named s' n' e' ≡ moved_arg g x
  moved_named x s s' n n' e e' is same name value = cc (named_moved s n e)

  pair_moved : (s : Span) (k e : Expr) → moved_arg g (arg.Pair s k e) ≡ arg.Pair (span_by g s) (moved_expr g k) (moved_expr g e)
  pair_moved s k e = ap (moved_arg g) (sym (arg.rolls-Pair s k e)) ∙ fold-roll-Arg _ _ _ _ _ _ _ _ _ _ (Arg-F.Pair s k e)

  pub moved_pair : (x : Arg) (s s' : Span) (k k' e e' : Expr) → x ≡ arg.Pair s k e → s' ≡ span_by g s → k' ≡ moved_expr g k → e' ≡ moved_expr g e →
      arg.Pair s' k' e' ≡ moved_arg g x
  moved_pair x s s' k k' e e' is same key value = cc (pair_moved s k e)

  method_moved : (s n : Span) (l : rust.List) → moved_tail g (tail.Method s n l) ≡ tail.Method (span_by g s) (span_by g n) (moved_list g l)
  method_moved s n l = ap (moved_tail g) (sym (tail.rolls-Method s n l)) ∙ fold-roll-Tail _ _ _ _ _ _ _ _ _ _ (Tail-F.Method s n l)

  pub moved_method : (x : rust_tail.Tail) (s s' n n' : Span) (l l' : rust.List) → x ≡ tail.Method s n l → s' ≡ span_by g s → n' ≡ span_by g n → l' ≡ moved_list g l →
      tail.Method s' n' l' ≡ moved_tail g x
  moved_method x s s' n n' l l' is same name list = cc (method_moved s n l)

  index_moved : (s : Span) (e : Expr) → moved_tail g (tail.Index s e) ≡ tail.Index (span_by g s) (moved_expr g e)
  index_moved s e = ap (moved_tail g) (sym (tail.rolls-Index s e)) ∙ fold-roll-Tail _ _ _ _ _ _ _ _ _ _ (Tail-F.Index s e)

  pub moved_index : (x : rust_tail.Tail) (s s' : Span) (e e' : Expr) → x ≡ tail.Index s e → s' ≡ span_by g s → e' ≡ moved_expr g e → tail.Index s' e' ≡ moved_tail g x
  moved_index x s s' e e' is same inside = cc (index_moved s e)
