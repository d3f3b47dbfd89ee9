-- What a tree becomes when a list is put where a path names one. Each answer has the list that was there, and the tree with the new one. If no list is named,
-- it has the new list, and the tree as it was. No public contract names it.
use Rattle.std.specs.Prelude.{ℕ, ◌+◌, ◌≡◌, ◌<◌, ◌≤◌, zero, suc, List, [], ◌∷◌, length, get_or, Option, Some, None}
use Rattle.meson_syntax.specs.declared.operator.Operator.{Operator}
use Rattle.meson_syntax.specs.Tree.{Expression, Listing, Statement, Block}
use Rattle.meson_syntax.specs.Paths.{Sort, of_expression, of_statement, of_block, Node, Hole, expression_in, block_in, nth, children, ListIn, list_in}

-- in an expression's own list
abbrev pub put_own : {S : Type 0} → Listing S → Expression S → Option (ListIn S) → Listing S × Expression S
put_own new e None = (new, e)
put_own new e (Some l) = (l.list, l.back new)

abbrev pub put_here : {S : Type 0} → (sort : Sort) → Node sort S → Listing S → Listing S × Node sort S
put_here of_expression e new = put_own new e (list_in e)
put_here of_statement s new = (new, s)
put_here of_block b new = (new, b)

-- in the node of a hole, and that node back in its place
abbrev pub in_hole : {S T : Type 0} → ((sort : Sort) → Node sort S → Listing S × Node sort S) → Listing S × T → Option (Hole S T) → Listing S × T
in_hole put other None = other
in_hole put other (Some h) = ((put h.sort h.inside).0, h.back (put h.sort h.inside).1)

abbrev pub put_in : (S : Type 0) (sort : Sort) → Node sort S → List ℕ → Listing S → Listing S × Node sort S
put_in S sort x [] new = put_here sort x new
put_in S sort x (n ∷ path) new = in_hole (λ s y. put_in S s y path new) (new, x) (nth (children S sort x) n)

-- in the n-th of some holes of a thing
abbrev pub put_among : {S T : Type 0} → List ℕ → Listing S → T → List (Hole S T) → ℕ → Listing S × T
put_among {S} path new x holes n = in_hole (λ s y. put_in S s y path new) (new, x) (nth holes n)

-- in the n-th child of a thing
abbrev pub put_child : {S T : Type 0} → List ℕ → Listing S → (T → List (Hole S T)) → T → ℕ → Listing S × T
put_child path new children x n = put_among path new x (children x) n

-- an expression that is the one child there is
abbrev pub only_child : {S : Type 0} → Expression S → List (Hole S (Expression S))
only_child e = expression_in [] e [] (λ x. x) ∷ []

-- the child of an operator and its operand
abbrev pub operand_child : {S : Type 0} → Operator × Expression S → List (Hole S (Operator × Expression S))
operand_child o = expression_in [] o.1 [] (λ x. (o.0, x)) ∷ []

abbrev pub statement_child : {S : Type 0} → Statement S → List (Hole S (Statement S))
statement_child s = record { sort = of_statement; inside = s; before = []; behind = []; back = λ x. x } ∷ []

-- the two children of a condition and its block
abbrev pub branch_child : {S : Type 0} → Expression S × Block S → List (Hole S (Expression S × Block S))
branch_child b = expression_in [] b.0 [] (λ x. (x, b.1)) ∷ block_in [] b.1 [] (λ x. (b.0, x)) ∷ []

-- ---- elements with several parts each

-- how many parts the first n elements have
abbrev pub ahead : {A : Type 0} → (A → ℕ) → List A → ℕ → ℕ
ahead count xs zero = 0
ahead count [] (suc i) = 0
ahead count (x ∷ xs) (suc i) = count x + ahead count xs i

-- The n-th part of all is the k-th of the i-th element, or there are no more parts, and no i-th element.
pub record IsSpot {A : Type 0} (count : A → ℕ) (xs : List A) (n i k : ℕ) : Type 0 where
  pub number : n ≡ ahead count xs i + k
  pub inside : (d : A) → i < length xs → k < count (get_or xs i d)
  pub most : i ≤ length xs
