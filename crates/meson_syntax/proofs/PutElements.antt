-- Lists put in one of several elements of the code's trees.
use Rattle.std.proofs.Common.{rules, ◌≡◌, ℕ, zero, suc, ◌+◌, ◌-◌, ◌<◌, ◌≤◌, Bool, true, List, [], ◌∷◌, ◌++◌, length, get_or, slice_set, refl, sym, ap, ◌∙◌, arith}
use Rattle.meson_lex.specs.declared.kinds.Span.{Span}
use Rattle.meson_syntax.specs.Operators.{opens, closes}
use Rattle.meson_syntax.specs.declared.operator.Bracket.{Bracket}
use Rattle.meson_syntax.specs.declared.operator.Operator.{Operator}
use Rattle.meson_syntax.specs.declared.tree.Arg.{Arg}
use Rattle.meson_syntax.specs.declared.tree.Arg.TheViews.{roll-List, roll-Operand}
use Rattle.meson_syntax.specs.declared.tree.Arg.TheFolds.{the_lemmas, fold-roll-List, fold-roll-Operand}
use Rattle.meson_syntax.specs.declared.tree.List as rust
use Rattle.meson_syntax.specs.declared.tree.Tail as rust_tail
use Rattle.meson_syntax.specs.declared.tree.Expr.{Expr}
use Rattle.meson_syntax.specs.declared.tree.Operand.{Operand}
use Rattle.meson_syntax.specs.declared.tree.Operand as rust_operand
use Rattle.meson_values.specs.LendsItems.{with_all}
use Rattle.meson_syntax.specs.Tree.{Expression, Listing, listing, Argument, plain, named, pair, Arguments, argument, Operands, operand, Tail, Tails, tail, arguments_of, operands_of, tails_of}
use Rattle.meson_syntax.specs.Grammar.{mark, comma_words, operator_words, expression_words, tail_words, tails_words, argument_words, arguments_words}
use Rattle.meson_syntax.specs.Paths.{of_expression, all_around, argument_children, arguments_children, listing_children, operands_children, tail_children, tails_children}
use Rattle.meson_syntax.specs.Children.{argument_parts, tail_parts}
use Rattle.meson_syntax.specs.inside.Putting.{put_among, put_in, ahead, IsSpot, operand_child}
use Rattle.meson_syntax.specs.View.{arg_view, args_view, tail_view, tails_view, operand_view, operands_view, expr_view, list_view}
use Rattle.meson_syntax.proofs.PathNodes.{tail-count}
use Rattle.meson_syntax.proofs.Putting.{made, put-around, put-first, put-later, put-at, put-past, with-all}
use Rattle.meson_syntax.proofs.PutViews.{put-seen}

-- ---- how many children there are

argument-count : (a : Argument Span) → length (argument_children a) ≡ length (argument_parts a)
argument-count (plain e) = refl
argument-count (named s x e) = refl
argument-count (pair s e f) = refl

-- ---- the element and those behind it

module _ (path : List ℕ) (new : Listing Span) where
  argument-first : (trailing : Bool) (v : Argument Span) (t : Arguments Span) (k : ℕ) → k < length (argument_parts v)
      → put_among path new (argument v t) (arguments_children (argument v t) trailing) k
      ≡ made (λ x. argument x t) (put_among path new v (argument_children v) k)
  argument-first trailing v t k small =
      let as_many = argument-count v in
      put-first path new [] (comma_words t trailing ++ arguments_words t trailing) (λ x. argument x t) v (argument v t) (argument_children v)
      (all_around (argument_words v ++ comma_words t trailing) [] (argument v) (arguments_children t trailing)) k (omega (arith, as_many, small))

  argument-later : (trailing : Bool) (v : Argument Span) (t : Arguments Span) (n m : ℕ) → n ≡ length (argument_parts v) + m
      → put_among path new (argument v t) (arguments_children (argument v t) trailing) n
      ≡ made (argument v) (put_among path new t (arguments_children t trailing) m)
  argument-later trailing v t n m is =
      let as_many = argument-count v in
      put-later path new [] (comma_words t trailing ++ arguments_words t trailing) (λ x. argument x t) (argument v t) (argument_children v)
      (all_around (argument_words v ++ comma_words t trailing) [] (argument v) (arguments_children t trailing)) n m (omega (arith, as_many, is))
      ∙ put-around path new (argument_words v ++ comma_words t trailing) [] (argument v) t (arguments_children t trailing) m

  tail-first : (p : Bool) (v : Tail Span) (t : Tails Span) (k : ℕ) → k < length (tail_parts v)
      → put_among path new (tail v t) (tails_children (tail v t)) k ≡ made (λ x. tail x t) (put_among path new v (tail_children v) k)
  tail-first p v t k small =
      let as_many = tail-count Span v in
      put-first path new [] (tails_words t) (λ x. tail x t) v (tail v t) (tail_children v) (all_around (tail_words v) [] (tail v) (tails_children t)) k
      (omega (arith, as_many, small))

  tail-later : (p : Bool) (v : Tail Span) (t : Tails Span) (n m : ℕ) → n ≡ length (tail_parts v) + m
      → put_among path new (tail v t) (tails_children (tail v t)) n ≡ made (tail v) (put_among path new t (tails_children t) m)
  tail-later p v t n m is =
      let as_many = tail-count Span v in
      put-later path new [] (tails_words t) (λ x. tail x t) (tail v t) (tail_children v) (all_around (tail_words v) [] (tail v) (tails_children t)) n m
      (omega (arith, as_many, is))
      ∙ put-around path new (tail_words v) [] (tail v) t (tails_children t) m

  abbrev before_operand : Operator × Expression Span → Operands Span → Operands Span
  before_operand v t = operand v.0 v.1 t

  operand-first : (p : Bool) (v : Operator × Expression Span) (t : Operands Span) (k : ℕ) → k < 1
      → put_among path new (before_operand v t) (operands_children (before_operand v t)) k
      ≡ made (λ x. before_operand x t) (put_among path new v (operand_child v) k)
  operand-first p v t zero small = refl
  operand-first p v t (suc k) small = absurd (omega arith)

  operand-later : (p : Bool) (v : Operator × Expression Span) (t : Operands Span) (n m : ℕ) → n ≡ 1 + m
      → put_among path new (before_operand v t) (operands_children (before_operand v t)) n
      ≡ made (before_operand v) (put_among path new t (operands_children t) m)
  operand-later p v t zero m is = absurd (omega arith)
  operand-later p v t (suc n) m is =
      let same : n ≡ m = omega arith in
      ap (put_among path new (before_operand v t) (all_around (operator_words v.0 ++ expression_words v.1) [] (before_operand v) (operands_children t))) same
      ∙ put-around path new (operator_words v.0 ++ expression_words v.1) [] (before_operand v) t (operands_children t) m

-- ---- elements of the code

module _ (source : List ℕ) (path : List ℕ) (new l : Listing Span) where
  put-argument : (trailing : Bool) (xs : List Arg) (n i k : ℕ) (d y : Arg) → IsSpot (λ a. length (argument_parts (arg_view source a))) xs n i k → i < length xs
      → (l, arg_view source y) ≡ put_among path new (arg_view source (get_or xs i d)) (argument_children (arg_view source (get_or xs i d))) k
      → (l, arguments_of (args_view source (slice_set xs i y)))
      ≡ put_among path new (arguments_of (args_view source xs)) (arguments_children (arguments_of (args_view source xs)) trailing) n
  put-argument trailing xs n i k d y spot small h =
      put-at (arg_view source) (λ v. length (argument_parts v)) argument_children (λ ys. arguments_of (args_view source ys)) argument
      (λ p t. arguments_children t p) (λ p. p) path new
      (λ a more. refl) (argument-first path new) (argument-later path new) (λ p m. refl) trailing xs i k n d y l spot.number small (spot.inside d small) h

  no-argument : (trailing : Bool) (xs : List Arg) (n i k : ℕ) → IsSpot (λ a. length (argument_parts (arg_view source a))) xs n i k → length xs ≤ i
      → (new, arguments_of (args_view source xs))
      ≡ put_among path new (arguments_of (args_view source xs)) (arguments_children (arguments_of (args_view source xs)) trailing) n
  no-argument trailing xs n i k spot past =
      let most = spot.most in
      let last : i ≡ length xs = omega (arith, most, past) in
      put-past (arg_view source) (λ v. length (argument_parts v)) argument_children (λ ys. arguments_of (args_view source ys)) argument
      (λ p t. arguments_children t p) (λ p. p) path new
      (λ a more. refl) (argument-first path new) (argument-later path new) (λ p m. refl) trailing xs k n
      (spot.number ∙ ap (λ j. ahead (λ a. length (argument_parts (arg_view source a))) xs j + k) last)

  -- ---- a list of the code

  own-view : (x : rust.List) → list_view source x
      ≡ listing (rust.out-List x).span (rust.out-List x).trailing (arguments_of (args_view source (rust.out-List x).items))
  own-view x = search (rules, the_lemmas)

  in-items : (m : Listing Span) (n : ℕ) (b : Bracket) (own : rust.List) (items : List Arg)
      → ((trailing : Bool) → (m, arguments_of (args_view source items))
      ≡ put_among path new (arguments_of (args_view source (rust.out-List own).items))
      (arguments_children (arguments_of (args_view source (rust.out-List own).items)) trailing) n)
      → (m, list_view source (roll-List (record { items = items; trailing = (rust.out-List own).trailing; span = (rust.out-List own).span })))
      ≡ put_among path new (list_view source own) (listing_children (list_view source own) b) n
  in-items m n b own items h =
      let s = (rust.out-List own).span in
      let trailing = (rust.out-List own).trailing in
      let old = arguments_of (args_view source (rust.out-List own).items) in
      put-seen (list_view source) (λ t. listing_children t b) path new m n own (roll-List (record { items = items; trailing = trailing; span = s }))
      (listing s trailing old) (listing s trailing (arguments_of (args_view source items))) (own-view own)
      (fold-roll-List _ _ _ _ _ _ _ _ _ _ (record { items = items; trailing = trailing; span = s }))
      (ap (made (listing s trailing)) (h trailing)
      ∙ sym (put-around path new (mark (opens b)) (mark (closes b)) (listing s trailing) old (arguments_children old trailing) n))

  pub put-in-list : (n : ℕ) (b : Bracket) (own : rust.List) (xs : List Arg) (i k : ℕ) (d y : Arg) → xs ≡ (rust.out-List own).items
      → IsSpot (λ a. length (argument_parts (arg_view source a))) xs n i k → i < length xs
      → (l, arg_view source y) ≡ put_among path new (arg_view source (get_or xs i d)) (argument_children (arg_view source (get_or xs i d))) k
      → (
        l,
        list_view source
            (roll-List (record {
              items = with_all (rust.out-List own).items (slice_set xs i y);
              trailing = (rust.out-List own).trailing;
              span =
                  (rust.out-List own).span;
            })),
      )
      ≡ put_among path new (list_view source own) (listing_children (list_view source own) b) n
  put-in-list n b own xs i k d y is spot small h =
      let items = (rust.out-List own).items in
      let as_many : length (slice_set xs i y) ≡ length items = search rules in
      rw (with-all items (slice_set xs i y) as_many)
      (in-items l n b own (slice_set xs i y)
      (λ trailing. put-argument trailing xs n i k d y spot small h
      ∙ ap (λ ys. put_among path new (arguments_of (args_view source ys)) (arguments_children (arguments_of (args_view source ys)) trailing) n) is))

  pub none-in-list : (n : ℕ) (b : Bracket) (own : rust.List) (xs : List Arg) (i k : ℕ) → xs ≡ (rust.out-List own).items
      → IsSpot (λ a. length (argument_parts (arg_view source a))) xs n i k → length xs ≤ i
      → (
        new,
        list_view source
            (roll-List (record { items = with_all (rust.out-List own).items xs; trailing = (rust.out-List own).trailing; span = (rust.out-List own).span })),
      )
      ≡ put_among path new (list_view source own) (listing_children (list_view source own) b) n
  none-in-list n b own xs i k is spot past =
      let items = (rust.out-List own).items in
      rw (with-all items xs (ap length is)) (
      in-items new n b own xs
      (λ trailing. no-argument trailing xs n i k spot past
      ∙ ap (λ ys. put_among path new (arguments_of (args_view source ys)) (arguments_children (arguments_of (args_view source ys)) trailing) n) is))

  -- ---- operands

  operand-seen : (o : Operand) → operand_view source o ≡ ((rust_operand.out-Operand o).operator, expr_view source (rust_operand.out-Operand o).value)
  operand-seen o = search (rules, the_lemmas)

  pub put-in-operand : (o : Operand) (e : Expr) → (l, expr_view source e)
      ≡ put_in Span of_expression (expr_view source (rust_operand.out-Operand o).value) path new
      → (l, operand_view source (roll-Operand (record { operator = (rust_operand.out-Operand o).operator; value = e })))
      ≡ put_among path new (operand_view source o) (operand_child (operand_view source o)) 0
  put-in-operand o e h =
      let sign = (rust_operand.out-Operand o).operator in
      put-seen (operand_view source) operand_child path new l 0 o (roll-Operand (record { operator = sign; value = e }))
      (sign, expr_view source (rust_operand.out-Operand o).value) (sign, expr_view source e)
      (operand-seen o) (fold-roll-Operand _ _ _ _ _ _ _ _ _ _ (record { operator = sign; value = e })) (ap (made (λ x. (sign, x))) h)

  ones : (xs : List Operand) (n : ℕ) → n ≤ length xs → ahead (λ o. 1) xs n ≡ n
  ones xs zero small = refl
  ones [] (suc n) small = absurd (omega arith)
  ones (x ∷ xs) (suc n) small = let h = ones xs n (omega arith) in omega (arith, h)

  operand-spot : (xs : List Operand) (n : ℕ) → n < length xs → n ≡ ahead (λ o. 1) xs n + 0
  operand-spot xs n small = let one = ones xs n (omega (arith, small)) in omega (arith, one)

  pub put-operand : (rest xs : List Operand) (n : ℕ) (d y : Operand) → xs ≡ rest → n < length xs
      → (l, operand_view source y) ≡ put_among path new (operand_view source (get_or xs n d)) (operand_child (operand_view source (get_or xs n d))) 0
      → (l, operands_of (operands_view source (with_all rest (slice_set xs n y))))
      ≡ put_among path new (operands_of (operands_view source rest)) (operands_children (operands_of (operands_view source rest))) n
  put-operand rest xs n d y is small h =
      let as_many : length (slice_set xs n y) ≡ length rest = search rules in
      rw (with-all rest (slice_set xs n y) as_many) (
      put-at (operand_view source) (λ v. 1) operand_child (λ ys. operands_of (operands_view source ys)) (before_operand path new)
      (λ (p : Bool) t. operands_children t) (λ p. p) path new
      (λ a more. refl) (operand-first path new) (operand-later path new) (λ p m. refl) true xs n 0 n d y l (operand-spot xs n small) small (omega arith) h
      ∙ ap (λ ys. put_among path new (operands_of (operands_view source ys)) (operands_children (operands_of (operands_view source ys))) n) is)

  pub no-operand : (rest xs : List Operand) (n : ℕ) → xs ≡ rest → length xs ≤ n
      → (new, operands_of (operands_view source (with_all rest xs)))
      ≡ put_among path new (operands_of (operands_view source rest)) (operands_children (operands_of (operands_view source rest))) n
  no-operand rest xs n is past =
      let k = n - length xs in
      let all = ones xs (length xs) (omega arith) in
      let number : n ≡ ahead (λ o. 1) xs (length xs) + k = omega (arith, all, past) in
      rw (with-all rest xs (ap length is)) (
      put-past (operand_view source) (λ v. 1) operand_child (λ ys. operands_of (operands_view source ys)) (before_operand path new)
      (λ (p : Bool) t. operands_children t) (λ p. p) path new
      (λ a more. refl) (operand-first path new) (operand-later path new) (λ p m. refl) true xs k n number
      ∙ ap (λ ys. put_among path new (operands_of (operands_view source ys)) (operands_children (operands_of (operands_view source ys))) n) is)

  -- ---- method calls and indexes

  pub put-tail : (rest xs : List rust_tail.Tail) (n i k : ℕ) (d y : rust_tail.Tail) → xs ≡ rest
      → IsSpot (λ a. length (tail_parts (tail_view source a))) xs n i k → i < length xs
      → (l, tail_view source y) ≡ put_among path new (tail_view source (get_or xs i d)) (tail_children (tail_view source (get_or xs i d))) k
      → (l, tails_of (tails_view source (with_all rest (slice_set xs i y))))
      ≡ put_among path new (tails_of (tails_view source rest)) (tails_children (tails_of (tails_view source rest))) n
  put-tail rest xs n i k d y is spot small h =
      let as_many : length (slice_set xs i y) ≡ length rest = search rules in
      rw (with-all rest (slice_set xs i y) as_many) (
      put-at (tail_view source) (λ v. length (tail_parts v)) tail_children (λ ys. tails_of (tails_view source ys)) tail (λ (p : Bool) t. tails_children t)
      (λ p. p) path new
      (λ a more. refl) (tail-first path new) (tail-later path new) (λ p m. refl) true xs i k n d y l spot.number small (spot.inside d small) h
      ∙ ap (λ ys. put_among path new (tails_of (tails_view source ys)) (tails_children (tails_of (tails_view source ys))) n) is)

  pub no-tail : (rest xs : List rust_tail.Tail) (n i k : ℕ) → xs ≡ rest → IsSpot (λ a. length (tail_parts (tail_view source a))) xs n i k → length xs ≤ i
      → (new, tails_of (tails_view source (with_all rest xs)))
      ≡ put_among path new (tails_of (tails_view source rest)) (tails_children (tails_of (tails_view source rest))) n
  no-tail rest xs n i k is spot past =
      let most = spot.most in
      let last : i ≡ length xs = omega (arith, most, past) in
      let number = spot.number ∙ ap (λ j. ahead (λ a. length (tail_parts (tail_view source a))) xs j + k) last in
      rw (with-all rest xs (ap length is)) (
      put-past (tail_view source) (λ v. length (tail_parts v)) tail_children (λ ys. tails_of (tails_view source ys)) tail (λ (p : Bool) t. tails_children t)
      (λ p. p) path new
      (λ a more. refl) (tail-first path new) (tail-later path new) (λ p m. refl) true xs k n number
      ∙ ap (λ ys. put_among path new (tails_of (tails_view source ys)) (tails_children (tails_of (tails_view source ys))) n) is)
