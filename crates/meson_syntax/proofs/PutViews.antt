-- Lists put among the children of the code's trees.
use Rattle.std.proofs.Common.{◌≡◌, ℕ, ◌-◌, ◌<◌, ◌≤◌, List, [], ◌∷◌, ◌++◌, length, take, drop, get_or, refl, sym, ap, ◌∙◌, arith}
use Rattle.std.proofs.lemmas.List.{take_all}
use Rattle.meson_lex.specs.declared.kinds.Span.{Span}
use Rattle.meson_lex.specs.Significant.{Word}
use Rattle.meson_syntax.specs.declared.operator.Bracket.{Bracket}
use Rattle.meson_syntax.specs.declared.tree.Expr.{Expr}
use Rattle.meson_syntax.specs.declared.tree.Arg.TheOpen.{Arg-F, Expr-F, Tail-F}
use Rattle.meson_syntax.specs.declared.tree.Arg.TheFolds.{fold-roll-Arg, fold-roll-Expr, fold-roll-Tail}
use Rattle.meson_syntax.specs.declared.tree.Arg.TheVariants as arg
use Rattle.meson_syntax.specs.declared.tree.Expr.TheVariants as expr
use Rattle.meson_syntax.specs.declared.tree.Tail.TheVariants as rust_tail
use Rattle.meson_syntax.specs.declared.tree.List as rust
use Rattle.meson_syntax.specs.declared.tree.Tail as rust_tails
use Rattle.meson_syntax.specs.declared.tree.Operand.{Operand}
use Rattle.meson_syntax.specs.declared.operator.UnaryOperator.{UnaryOperator}
use Rattle.meson_syntax.specs.Tree.{Expression, paren, array, dictionary, call, unary, row, postfix, conditional, operands_of, tails_of, Listing, plain, named, pair, method, index}
use Rattle.meson_syntax.specs.Paths.{Sort, of_expression, Node, Hole, children, all_around, expression_in, listing_children}
use Rattle.meson_syntax.specs.inside.Putting.{put_among, put_here, put_in, only_child}
use Rattle.meson_syntax.specs.View.{name_at, expr_view, arg_view, tail_view, list_view, operands_view, tails_view}
use Rattle.meson_syntax.proofs.Putting.{made, put-around, put-only, put-past-holes}

-- ---- views of nodes by their parts

module _ (source : List ℕ) where
  abbrev ev : Expr → Expression Span
  ev = expr_view source

  pub paren-view : (s : Span) (e : Expr) → ev (expr.Paren s e) ≡ paren s (ev e)
  paren-view s e = ap ev (sym (expr.rolls-Paren s e)) ∙ fold-roll-Expr _ _ _ _ _ _ _ _ _ _ (Expr-F.Paren s e)

  pub array-view : (l : rust.List) → ev (expr.Array l) ≡ array (list_view source l)
  array-view l = ap ev (sym (expr.rolls-Array l)) ∙ fold-roll-Expr _ _ _ _ _ _ _ _ _ _ (Expr-F.Array l)

  pub dictionary-view : (l : rust.List) → ev (expr.Dictionary l) ≡ dictionary (list_view source l)
  dictionary-view l = ap ev (sym (expr.rolls-Dictionary l)) ∙ fold-roll-Expr _ _ _ _ _ _ _ _ _ _ (Expr-F.Dictionary l)

  pub call-view : (s n : Span) (l : rust.List) → ev (expr.Call s n l) ≡ call s (name_at source n) (list_view source l)
  call-view s n l = ap ev (sym (expr.rolls-Call s n l)) ∙ fold-roll-Expr _ _ _ _ _ _ _ _ _ _ (Expr-F.Call s n l)

  pub unary-view : (s : Span) (o : UnaryOperator) (e : Expr) → ev (expr.Unary s o e) ≡ unary s o (ev e)
  unary-view s o e = ap ev (sym (expr.rolls-Unary s o e)) ∙ fold-roll-Expr _ _ _ _ _ _ _ _ _ _ (Expr-F.Unary s o e)

  pub row-view : (s : Span) (e : Expr) (os : List Operand) → ev (expr.Row s e os) ≡ row s (ev e) (operands_of (operands_view source os))
  row-view s e os = ap ev (sym (expr.rolls-Row s e os)) ∙ fold-roll-Expr _ _ _ _ _ _ _ _ _ _ (Expr-F.Row s e os)

  pub postfix-view : (s : Span) (e : Expr) (ts : List rust_tails.Tail) → ev (expr.Postfix s e ts) ≡ postfix s (ev e) (tails_of (tails_view source ts))
  postfix-view s e ts = ap ev (sym (expr.rolls-Postfix s e ts)) ∙ fold-roll-Expr _ _ _ _ _ _ _ _ _ _ (Expr-F.Postfix s e ts)

  pub conditional-view : (s : Span) (c y n : Expr) → ev (expr.Conditional s c y n) ≡ conditional s (ev c) (ev y) (ev n)
  conditional-view s c y n = ap ev (sym (expr.rolls-Conditional s c y n)) ∙ fold-roll-Expr _ _ _ _ _ _ _ _ _ _ (Expr-F.Conditional s c y n)

  pub plain-view : (e : Expr) → arg_view source (arg.Plain e) ≡ plain (ev e)
  plain-view e = ap (arg_view source) (sym (arg.rolls-Plain e)) ∙ fold-roll-Arg _ _ _ _ _ _ _ _ _ _ (Arg-F.Plain e)

  pub named-view : (s n : Span) (e : Expr) → arg_view source (arg.Named s n e) ≡ named s (name_at source n) (ev e)
  named-view s n e = ap (arg_view source) (sym (arg.rolls-Named s n e)) ∙ fold-roll-Arg _ _ _ _ _ _ _ _ _ _ (Arg-F.Named s n e)

  pub pair-view : (s : Span) (e f : Expr) → arg_view source (arg.Pair s e f) ≡ pair s (ev e) (ev f)
  pair-view s e f = ap (arg_view source) (sym (arg.rolls-Pair s e f)) ∙ fold-roll-Arg _ _ _ _ _ _ _ _ _ _ (Arg-F.Pair s e f)

  pub method-view : (s n : Span) (l : rust.List) → tail_view source (rust_tail.Method s n l) ≡ method s (name_at source n) (list_view source l)
  method-view s n l = ap (tail_view source) (sym (rust_tail.rolls-Method s n l)) ∙ fold-roll-Tail _ _ _ _ _ _ _ _ _ _ (Tail-F.Method s n l)

  pub index-view : (s : Span) (e : Expr) → tail_view source (rust_tail.Index s e) ≡ index s (ev e)
  index-view s e = ap (tail_view source) (sym (rust_tail.rolls-Index s e)) ∙ fold-roll-Tail _ _ _ _ _ _ _ _ _ _ (Tail-F.Index s e)

-- ---- a list put in a part of a node, seen in the node

module _ {X T : Type 0} (view : X → T) (children : T → List (Hole Span T)) (path : List ℕ) (new l : Listing Span) (n : ℕ) (x x' : X) where
  -- by the parts of its views
  pub put-seen : (t t' : T) → view x ≡ t → view x' ≡ t' → (l, t') ≡ put_among path new t (children t) n → (l, view x')
      ≡ put_among path new (view x) (children (view x)) n
  put-seen t t' is is' h = ap (λ z. (l, z)) is' ∙ h ∙ ap (λ z. put_among path new z (children z) n) (sym is)

  -- its one child
  pub put-one : (before behind : List Word) (make : Expression Span → T) (e₀ e e' : Expression Span) → e₀ ≡ e → view x ≡ make e → view x' ≡ make e'
      → children (make e) ≡ expression_in before e behind make ∷ []
      → (l, e') ≡ put_among path new e₀ (only_child e₀) n → (l, view x') ≡ put_among path new (view x) (children (view x)) n
  put-one before behind make e₀ e e' same is is' one h =
      put-seen (make e) (make e') is is'
      (ap (made make) (h ∙ ap (λ z. put_among path new z (only_child z) n) same) ∙ sym (put-only path new before behind make e n)
      ∙ ap (λ hs. put_among path new (make e) hs n) (sym one))

  -- its list
  pub put-list : (before behind : List Word) (make : Listing Span → T) (b : Bracket) (m₀ m m' : Listing Span) → m₀ ≡ m → view x ≡ make m → view x' ≡ make m'
      → children (make m) ≡ all_around before behind make (listing_children m b)
      → (l, m') ≡ put_among path new m₀ (listing_children m₀ b) n → (l, view x') ≡ put_among path new (view x) (children (view x)) n
  put-list before behind make b m₀ m m' same is is' listed h =
      put-seen (make m) (make m') is is'
      (ap (made make) (h ∙ ap (λ z. put_among path new z (listing_children z b) n) same)
      ∙ sym (put-around path new before behind make m (listing_children m b) n)
      ∙ ap (λ hs. put_among path new (make m) hs n) (sym listed))

  -- its first child
  pub put-head : (before behind : List Word) (make : Expression Span → T) (others : List (Hole Span T)) (e₀ e e' : Expression Span) → e₀ ≡ e → view x
      ≡ make e → view x' ≡ make e'
      → children (make e) ≡ expression_in before e behind make ∷ others → n ≡ 0
      → (l, e') ≡ put_in Span of_expression e₀ path new → (l, view x') ≡ put_among path new (view x) (children (view x)) n
  put-head before behind make others e₀ e e' same is is' parts first h =
      put-seen (make e) (make e') is is'
      (ap (made make) (h ∙ ap (λ z. put_in Span of_expression z path new) same)
      ∙ ap (λ hs. put_among path new (make e) hs 0) (sym parts) ∙ ap (put_among path new (make e) (children (make e))) (sym first))

  -- its second child
  pub put-second : (sort : Sort) (before behind : List Word) (make : Node sort Span → T) (one : Hole Span T) (others : List (Hole Span T))
      (e₀ e e' : Node sort Span) → e₀ ≡ e
      → view x ≡ make e → view x' ≡ make e'
      → children (make e) ≡ one ∷ record { sort = sort; inside = e; before = before; behind = behind; back = make } ∷ others → n ≡ 1
      → (l, e') ≡ put_in Span sort e₀ path new → (l, view x') ≡ put_among path new (view x) (children (view x)) n
  put-second sort before behind make one others e₀ e e' same is is' parts second h =
      put-seen (make e) (make e') is is'
      (ap (made make) (h ∙ ap (λ z. put_in Span sort z path new) same)
      ∙ ap (λ hs. put_among path new (make e) hs 1) (sym parts) ∙ ap (put_among path new (make e) (children (make e))) (sym second))

  -- its last child, behind so many others
  pub put-last : (before behind : List Word) (make : Expression Span → T) (first : List (Hole Span T)) (e₀ e e' : Expression Span) → e₀ ≡ e
      → view x ≡ make e → view x' ≡ make e'
      → children (make e) ≡ first ++ expression_in before e behind make ∷ [] → length first ≤ n
      → (l, e') ≡ put_among path new e₀ (only_child e₀) (n - length first) → (l, view x') ≡ put_among path new (view x) (children (view x)) n
  put-last before behind make first e₀ e e' same is is' parts past h =
      put-seen (make e) (make e') is is'
      (ap (made make) (h ∙ ap (λ z. put_among path new z (only_child z) (n - length first)) same)
      ∙ sym (put-only path new before behind make e (n - length first))
      ∙ sym (put-past-holes path new T (make e) first (expression_in before e behind make ∷ []) n past)
      ∙ ap (λ hs. put_among path new (make e) hs n) (sym parts))

  -- its other children
  pub put-behind : {R : Type 0} (before behind : List Word) (make : R → T) (one : Hole Span T) (others : R → List (Hole Span R)) (r₀ r r' : R) → r₀ ≡ r
      → view x ≡ make r → view x' ≡ make r'
      → children (make r) ≡ one ∷ all_around before behind make (others r) → 1 ≤ n
      → (l, r') ≡ put_among path new r₀ (others r₀) (n - 1) → (l, view x') ≡ put_among path new (view x) (children (view x)) n
  put-behind before behind make one others r₀ r r' same is is' parts past h =
      put-seen (make r) (make r') is is'
      (ap (made make) (h ∙ ap (λ z. put_among path new z (others z) (n - 1)) same) ∙ sym (put-around path new before behind make r (others r) (n - 1))
      ∙ sym (put-past-holes path new T (make r) (one ∷ []) (all_around before behind make (others r)) n past)
      ∙ ap (λ hs. put_among path new (make r) hs n) (sym parts))

-- ---- one step of a path

pub put-end : (S : Type 0) (sort : Sort) (x : Node sort S) (steps : List ℕ) (new : Listing S) → length steps < 1 → put_here sort x new
    ≡ put_in S sort x steps new
put-end S sort x [] new small = refl
put-end S sort x (n ∷ path) new small = absurd (omega arith)

pub put-step : (S : Type 0) (sort : Sort) (x : Node sort S) (steps : List ℕ) (new : Listing S) → 1 ≤ length steps
    → put_among (take (length steps - 1) (drop 1 steps)) new x (children S sort x) (get_or steps 0 0) ≡ put_in S sort x steps new
put-step S sort x [] new some = absurd (omega arith)
put-step S sort x (n ∷ path) new some =
    let all : length (n ∷ path) - 1 ≡ length path = omega arith in
    ap (λ p. put_among p new x (children S sort x) n) (ap (λ k. take k path) all ∙ take_all (length path) path (omega arith))
