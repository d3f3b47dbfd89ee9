-- What a node passes to its children, and what follows of it for a part, holds of all parts of a node.
use Rattle.meson_calls.proofs.Words.{◌≡◌, ℕ, suc, ◌+◌, List, [], ◌∷◌, Some, refl, subst, sym, arith, Any, an_expression, a_statement, a_block, nth, Expression}
use Rattle.meson_calls.proofs.Words.{child_nodes, Every, every-append, every-nth, Part, parts_of_expression, Placed, child, placed, CallRef}
use Rattle.meson_calls.specs.Parts as part
use Rattle.meson_calls.proofs.nodes.Induction.{Each, by_children}
use Rattle.meson_calls.proofs.nodes.PartsBelow.{any, itself, parts_are, parts_below, parts_of}
use Rattle.meson_calls.proofs.nodes.Sorts.{IsExpression, within_expression}

module _ {S : Type 0} (Passes : CallRef → Any S → Type 0) (Holds : Placed (Part S) → Type 0)
    (down : (c : CallRef) (x : Any S) → Passes c x → (n : ℕ) (y : Any S) → nth (child_nodes x) n ≡ Some y → Passes (child c n) y)
    (own : (c : CallRef) (x : Part S) → Passes c (any x) → Holds (placed c x)) where
  abbrev All : CallRef → Any S → Type 0
  All c x = Passes c x → Every Holds (parts_of c x)

  in_itself : (c : CallRef) (x : Any S) → Passes c x → Every Holds (itself c x)
  in_itself c (an_expression e) passes = (own c (part.an_expression e) passes, tt)
  in_itself c (a_statement s) passes = (own c (part.a_statement s) passes, tt)
  in_itself c (a_block b) passes = tt

  in_children : (c : CallRef) (n : ℕ) (xs : List (Any S)) → ((k m : ℕ) (x : Any S) → m ≡ n + k → nth xs k ≡ Some x → Passes (child c m) x) → Each child All c n xs → Every Holds (parts_below c n xs)
  in_children c n [] passes each = tt
  in_children c n (x ∷ xs) passes each =
      every-append Holds (parts_of (child c n) x) (parts_below c (n + 1) xs) (each.0 (passes 0 n x (omega arith) refl))
      (in_children c (n + 1) xs (λ k m y number is. passes (suc k) m y (omega (arith, number)) is) each.1)

  pub each_part : (c : CallRef) (x : Any S) → Passes c x → Every Holds (parts_of c x)
  each_part = by_children child All
      (λ c x each passes.
      let below = in_children c 0 (child_nodes x) (λ k m y number is. let same : k ≡ m = omega (arith, number) in subst (λ i. Passes (child c i) y) same (down c x passes k y is)) each in
      subst (Every Holds) (sym (parts_are c x)) (every-append Holds (itself c x) (parts_below c 0 (child_nodes x)) (in_itself c x passes) below))

-- the parts of an expression are expressions
pub expressions_within : {S : Type 0} (c : CallRef) (e : Expression S) → Every (λ q. IsExpression (any q.it)) (parts_of_expression c e)
expressions_within c e =
    each_part (λ p x. IsExpression x) (λ q. IsExpression (any q.it)) (λ p x is n y at. every-nth IsExpression (child_nodes x) n y (within_expression x is) at) (λ p x is. is) c (an_expression e) tt
