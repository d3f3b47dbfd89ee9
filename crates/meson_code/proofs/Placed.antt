-- The statements of a file with their places are the statements that are at those places, and all of them.
use Rattle.std.proofs.Common.{◌≡◌, ℕ, zero, suc, ◌+◌, List, [], ◌∷◌, ◌++◌, Option, Some, None, append-nil, append_assoc, refl, sym, ap, ap₂, ◌∙◌, subst, inl, inr, arith}
use Rattle.std.specs.Prelude.{◌⊎◌, option_and_then, option_map}
use Rattle.meson_lex.specs.declared.kinds.Span.{Span}
use Rattle.meson_syntax.specs.Children.{Any, an_expression, a_statement, a_block, branches_parts}
use Rattle.meson_syntax.specs.inside.Children.{child_nodes, node_at, otherwise_parts, statements_parts}
use Rattle.meson_syntax.specs.Paths.{block_of, nth}
use Rattle.meson_syntax.specs.Tree.{Statement, evaluate, assign, selection, iteration, breaks, continues, Branches, no_branches, branch, Otherwise, nothing_else, otherwise, Statements, no_statements, statement, statement_list, Block, block, File, file}
use Rattle.meson_syntax.proofs.parsing.Steps.{some-injective}
use Rattle.meson_syntax.proofs.paths.Every.{every-nth}
use Rattle.meson_syntax.proofs.paths.Reaching.{and-then-some}
use Rattle.meson_edit.specs.Blocks.{BlockAt, block_at, statement_in}
use Rattle.meson_calls.specs.declared.call.CallRef.{CallRef}
use Rattle.meson_calls.specs.Parts.{branches_child_count}
use Rattle.meson_calls.specs.Project.{BuildFile, Project, child, nth_file, place}
use Rattle.meson_calls.proofs.nodes.Induction.{by_each_child}
use Rattle.meson_calls.proofs.nodes.Sorts.{IsExpression, may_stand}
use Rattle.meson_steps.specs.inside.Layers.{block_any}
use Rattle.meson_steps.proofs.BlockNodes.{block_reached}
use Rattle.meson_targets.specs.TargetEdits.{StatementPlace, statement_there}
use Rattle.meson_code.specs.Statements.{PlacedStatement, placed_in, statements_from, statements_of_block, statements_of_branches, statements_of_file, statements_of_otherwise, statements_within}

abbrev Q : Type 0
Q = PlacedStatement Span

abbrev N : Type 0
N = Any Span

-- ---- elements of lists

abbrev pub Among : {X : Type 0} → List X → X → Type 0
Among [] x = ⊥
Among (y ∷ ys) x = (y ≡ x) ⊎ Among ys x

among_left : {X : Type 0} (xs ys : List X) (x : X) → Among xs x → Among (xs ++ ys) x
among_left [] ys x m = absurd m
among_left (y ∷ xs) ys x (inl same) = inl same
among_left (y ∷ xs) ys x (inr m) = inr (among_left xs ys x m)

among_right : {X : Type 0} (xs ys : List X) (x : X) → Among ys x → Among (xs ++ ys) x
among_right [] ys x m = m
among_right (y ∷ xs) ys x m = inr (among_right xs ys x m)

among_either : {X : Type 0} (xs ys : List X) (x : X) → Among (xs ++ ys) x → Among xs x ⊎ Among ys x
among_either [] ys x m = inr m
among_either (y ∷ xs) ys x (inl same) = inl (inl same)
among_either {X} (y ∷ xs) ys x (inr m) = go (among_either xs ys x m)
  where
    go : Among xs x ⊎ Among ys x → Among (y ∷ xs) x ⊎ Among ys x
    go (inl l) = inl (inr l)
    go (inr r) = inr r

-- ---- the statements within a node of any sort

abbrev within : CallRef → N → List Q
within p (an_expression e) = []
within p (a_statement s) = statements_within p s
within p (a_block b) = statements_of_block p b

-- a statement is within a child
record InChild (p : CallRef) (n : ℕ) (xs : List N) (q : Q) : Type 0 where
  number : ℕ
  node : N
  is_child : nth xs number ≡ Some node
  inside : Among (within (child p (n + number)) node) q

next_child : (p : CallRef) (n m : ℕ) (x : N) (xs : List N) (q : Q) → m ≡ n + 1 → InChild p m xs q → InChild p n (x ∷ xs) q
next_child p n m x xs q next i =
    let same : m + i.number ≡ n + suc i.number = omega (arith, next) in
    record { number = suc i.number; node = i.node; is_child = i.is_child; inside = subst (λ k. Among (within (child p k) i.node) q) same i.inside }

this_child : (p : CallRef) (n : ℕ) (x : N) (xs : List N) (q : Q) → Among (within (child p n) x) q → InChild p n (x ∷ xs) q
this_child p n x xs q m =
    let same : n ≡ n + 0 = omega arith in
    record { number = 0; node = x; is_child = refl; inside = subst (λ k. Among (within (child p k) x) q) same m }

-- a statement of the block itself, from its n-th on
record InList (p : CallRef) (n : ℕ) (list : Statements Span) (q : Q) : Type 0 where
  number : ℕ
  is_there : nth (statement_list list) number ≡ Some q.it
  is_place : q.place ≡ record { block = p; number = n + number }

-- ---- from a list to a child

in_list : (p : CallRef) (n : ℕ) (list : Statements Span) (q : Q) → Among (statements_from p n list) q → InList p n list q ⊎ InChild p n (statements_parts list) q
in_list p n no_statements q m = absurd m
in_list p n (statement s more) q m = go m (in_list p (n + 1) more q)
  where
    later : InList p (n + 1) more q ⊎ InChild p (n + 1) (statements_parts more) q → InList p n (statement s more) q ⊎ InChild p n (statements_parts (statement s more)) q
    later (inl i) =
        let same : (n + 1) + i.number ≡ n + suc i.number = omega arith in
        inl (record { number = suc i.number; is_there = i.is_there; is_place = i.is_place ∙ ap (λ k. record { block = p; number = k }) same })
    later (inr i) = inr (next_child p n (n + 1) (a_statement s) (statements_parts more) q refl i)

    either : Among (statements_within (child p n) s) q ⊎ Among (statements_from p (n + 1) more) q → (Among (statements_from p (n + 1) more) q → InList p (n + 1) more q ⊎ InChild p (n + 1) (statements_parts more) q)
        → InList p n (statement s more) q ⊎ InChild p n (statements_parts (statement s more)) q
    either (inl l) rest = inr (this_child p n (a_statement s) (statements_parts more) q l)
    either (inr r) rest = later (rest r)

    go : Among (statements_from p n (statement s more)) q → (Among (statements_from p (n + 1) more) q → InList p (n + 1) more q ⊎ InChild p (n + 1) (statements_parts more) q)
        → InList p n (statement s more) q ⊎ InChild p n (statements_parts (statement s more)) q
    go (inl same) rest =
        let number : n ≡ n + 0 = omega arith in
        inl (record { number = 0; is_there = ap (λ (r : Q). Some r.it) same; is_place = ap (λ (r : Q). r.place) (sym same) ∙ ap (λ k. record { block = p; number = k }) number })
    go (inr r) rest = either (among_either (statements_within (child p n) s) (statements_from p (n + 1) more) q r) rest

in_selection : (p : CallRef) (n last : ℕ) (bs : Branches Span) (o : Otherwise Span) (q : Q) → last ≡ n + branches_child_count bs
    → Among (statements_of_branches p n bs ++ statements_of_otherwise p last o) q → InChild p n (branches_parts bs ++ otherwise_parts o) q
in_selection p n last no_branches nothing_else q is m = absurd m
in_selection p n last no_branches (otherwise b) q is m =
    let same : last ≡ n = omega (arith, is) in
    this_child p n (a_block b) [] q (subst (λ k. Among (statements_of_block (child p k) b) q) same m)
in_selection p n last (branch e b more) o q is m =
    go (among_either own rest q (subst (λ l. Among l q) (append_assoc own (statements_of_branches p (n + 2) more) (statements_of_otherwise p last o)) m)) (in_selection p (n + 2) last more o q (omega (arith, is)))
  where
    own : List Q
    own = statements_of_block (child p (n + 1)) b

    rest : List Q
    rest = statements_of_branches p (n + 2) more ++ statements_of_otherwise p last o

    others : List N
    others = branches_parts more ++ otherwise_parts o

    go : Among own q ⊎ Among rest q → (Among rest q → InChild p (n + 2) others q) → InChild p n (an_expression e ∷ (a_block b ∷ others)) q
    go (inl l) later = next_child p n (n + 1) (an_expression e) (a_block b ∷ others) q refl (this_child p (n + 1) (a_block b) others q l)
    go (inr r) later = next_child p n (n + 1) (an_expression e) (a_block b ∷ others) q refl (next_child p (n + 1) (n + 2) (a_block b) others q (omega arith) (later r))

-- ---- each is at its place

-- the statement is in a block within a node
record IsPlaced (p : CallRef) (z : N) (q : Q) : Type 0 where
  path : List ℕ
  is_place : q.place.block ≡ place p.file (p.path.steps ++ path)
  inside : Block Span
  is_block : node_at z path ≡ Some (a_block inside)
  is_there : statement_in inside q.place.number ≡ Some q.it

above : (p : CallRef) (z : N) (q : Q) (i : InChild p 0 (child_nodes z) q) → IsPlaced (child p i.number) i.node q → IsPlaced p z q
above p z q i s = record {
  path = i.number ∷ s.path;
  is_place = s.is_place ∙ ap (place p.file) (append_assoc p.path.steps (i.number ∷ []) s.path);
  inside = s.inside;
  is_block = ap (option_and_then (λ (y : N). node_at y s.path)) i.is_child ∙ s.is_block;
  is_there = s.is_there;
}

abbrev ArePlaced : CallRef → N → Type 0
ArePlaced p z = (q : Q) → Among (within p z) q → IsPlaced p z q

abbrev Children : CallRef → N → Type 0
Children p z = (n : ℕ) (y : N) → nth (child_nodes z) n ≡ Some y → ArePlaced (child p n) y

in_child : (p : CallRef) (z : N) → Children p z → (q : Q) → InChild p 0 (child_nodes z) q → IsPlaced p z q
in_child p z each q i =
    let number : 0 + i.number ≡ i.number = omega arith in
    above p z q i (each i.number i.node i.is_child q (subst (λ k. Among (within (child p k) i.node) q) number i.inside))

in_node : (p : CallRef) (z : N) → Children p z → ArePlaced p z
in_node p (an_expression e) each q m = absurd m
in_node p (a_statement (evaluate e)) each q m = absurd m
in_node p (a_statement (assign s x a e)) each q m = absurd m
in_node p (a_statement (selection s bs o)) each q m =
    in_child p (a_statement (selection s bs o)) each q (in_selection p 0 (branches_child_count bs) bs o q (omega arith) m)
in_node p (a_statement (iteration s xs e b)) each q m =
    in_child p (a_statement (iteration s xs e b)) each q (next_child p 0 1 (an_expression e) (a_block b ∷ []) q (omega arith) (this_child p 1 (a_block b) [] q m))
in_node p (a_statement (breaks s)) each q m = absurd m
in_node p (a_statement (continues s)) each q m = absurd m
in_node p (a_block (block s list)) each q m = go (in_list p 0 list q m)
  where
    go : InList p 0 list q ⊎ InChild p 0 (statements_parts list) q → IsPlaced p (a_block (block s list)) q
    go (inl i) =
        let number : 0 + i.number ≡ i.number = omega arith in
        let whole : p ≡ place p.file (p.path.steps ++ []) = ap (place p.file) (sym (append-nil p.path.steps)) in
        record {
          path = [];
          is_place = ap (λ (a : StatementPlace). a.block) i.is_place ∙ whole;
          inside = block s list;
          is_block = refl;
          is_there = ap (nth (statement_list list)) (ap (λ (a : StatementPlace). a.number) i.is_place ∙ number) ∙ i.is_there;
        }
    go (inr i) = in_child p (a_block (block s list)) each q i

are_placed : (p : CallRef) (z : N) → ArePlaced p z
are_placed = by_each_child child ArePlaced in_node

-- ---- and there is no other

from_child : (p : CallRef) (n k m : ℕ) (list : Statements Span) (y : N) (q : Q) → m ≡ n + k → nth (statements_parts list) k ≡ Some y → Among (within (child p m) y) q → Among (statements_from p n list) q
from_child p n k m no_statements y q number is a = absurd (let no : ⊥ = cc in no)
from_child p n zero m (statement s more) y q number is a =
    let node = some-injective (a_statement s) y is in
    let same : m ≡ n = omega (arith, number) in
    inr (among_left (statements_within (child p n) s) (statements_from p (n + 1) more) q (subst (λ z. Among (within (child p n) z) q) (sym node) (subst (λ i. Among (within (child p i) y) q) same a)))
from_child p n (suc k) m (statement s more) y q number is a =
    inr (among_right (statements_within (child p n) s) (statements_from p (n + 1) more) q (from_child p (n + 1) k m more y q (omega (arith, number)) is a))

from_branches : (p : CallRef) (n k m last : ℕ) (bs : Branches Span) (o : Otherwise Span) (y : N) (q : Q) → last ≡ n + branches_child_count bs → m ≡ n + k
    → nth (branches_parts bs ++ otherwise_parts o) k ≡ Some y → Among (within (child p m) y) q → Among (statements_of_branches p n bs ++ statements_of_otherwise p last o) q
from_branches p n k m last no_branches nothing_else y q end number is a = absurd (let no : ⊥ = cc in no)
from_branches p n zero m last no_branches (otherwise b) y q end number is a =
    let node = some-injective (a_block b) y is in
    let same : m ≡ last = omega (arith, number, end) in
    subst (λ z. Among (within (child p last) z) q) (sym node) (subst (λ i. Among (within (child p i) y) q) same a)
from_branches p n (suc k) m last no_branches (otherwise b) y q end number is a = absurd (let no : ⊥ = cc in no)
from_branches p n zero m last (branch e b more) o y q end number is a = absurd (subst (λ z. Among (within (child p m) z) q) (sym (some-injective (an_expression e) y is)) a)
from_branches p n (suc zero) m last (branch e b more) o y q end number is a =
    let node = some-injective (a_block b) y is in
    let same : m ≡ n + 1 = omega (arith, number) in
    let own = statements_of_block (child p (n + 1)) b in
    subst (λ l. Among l q) (sym (append_assoc own (statements_of_branches p (n + 2) more) (statements_of_otherwise p last o)))
    (among_left own (statements_of_branches p (n + 2) more ++ statements_of_otherwise p last o) q
    (subst (λ z. Among (within (child p (n + 1)) z) q) (sym node) (subst (λ i. Among (within (child p i) y) q) same a)))
from_branches p n (suc (suc k)) m last (branch e b more) o y q end number is a =
    let own = statements_of_block (child p (n + 1)) b in
    subst (λ l. Among l q) (sym (append_assoc own (statements_of_branches p (n + 2) more) (statements_of_otherwise p last o)))
    (among_right own (statements_of_branches p (n + 2) more ++ statements_of_otherwise p last o) q
    (from_branches p (n + 2) k m last more o y q (omega (arith, end)) (omega (arith, number)) is a))

no_statement_in : (p : CallRef) (y : N) (q : Q) → IsExpression y → Among (within p y) q → ⊥
no_statement_in p (an_expression e) q is a = a
no_statement_in p (a_statement s) q is a = is
no_statement_in p (a_block b) q is a = is

of_child : (p : CallRef) (z : N) (k : ℕ) (y : N) (q : Q) → nth (child_nodes z) k ≡ Some y → Among (within (child p k) y) q → Among (within p z) q
of_child p (an_expression e) k y q is a = no_statement_in (child p k) y q (every-nth IsExpression (child_nodes (an_expression e)) k y (may_stand (an_expression e)) is) a
of_child p (a_statement (evaluate e)) zero y q is a = subst (λ z. Among (within (child p 0) z) q) (sym (some-injective (an_expression e) y is)) a
of_child p (a_statement (evaluate e)) (suc k) y q is a = absurd (let no : ⊥ = cc in no)
of_child p (a_statement (assign s x o e)) zero y q is a = subst (λ z. Among (within (child p 0) z) q) (sym (some-injective (an_expression e) y is)) a
of_child p (a_statement (assign s x o e)) (suc k) y q is a = absurd (let no : ⊥ = cc in no)
of_child p (a_statement (selection s bs o)) k y q is a = from_branches p 0 k k (branches_child_count bs) bs o y q (omega arith) (omega arith) is a
of_child p (a_statement (iteration s xs e b)) zero y q is a = absurd (subst (λ z. Among (within (child p 0) z) q) (sym (some-injective (an_expression e) y is)) a)
of_child p (a_statement (iteration s xs e b)) (suc zero) y q is a = subst (λ z. Among (within (child p 1) z) q) (sym (some-injective (a_block b) y is)) a
of_child p (a_statement (iteration s xs e b)) (suc (suc k)) y q is a = absurd (let no : ⊥ = cc in no)
of_child p (a_statement (breaks s)) k y q is a = absurd (let no : ⊥ = cc in no)
of_child p (a_statement (continues s)) k y q is a = absurd (let no : ⊥ = cc in no)
of_child p (a_block (block s list)) k y q is a = from_child p 0 k k list y q (omega arith) is a

here : (p : CallRef) (n k m : ℕ) (list : Statements Span) (x : Statement Span) → m ≡ n + k → nth (statement_list list) k ≡ Some x → Among (statements_from p n list) (placed_in p m x)
here p n k m no_statements x number is = absurd (let no : ⊥ = cc in no)
here p n zero m (statement s more) x number is =
    let same : n ≡ m = omega (arith, number) in
    inl (ap₂ (placed_in p) same (some-injective s x is))
here p n (suc k) m (statement s more) x number is = inr (among_right (statements_within (child p n) s) (statements_from p (n + 1) more) (placed_in p m x) (here p (n + 1) k m more x (omega (arith, number)) is))

in_block : (p : CallRef) (b : Block Span) (n : ℕ) (x : Statement Span) → statement_in b n ≡ Some x → Among (statements_of_block p b) (placed_in p n x)
in_block p (block s list) n x is = here p 0 n n list x (omega arith) is

all_within : (p : CallRef) (z : N) (path : List ℕ) (b : Block Span) (n : ℕ) (x : Statement Span) → node_at z path ≡ Some (a_block b) → statement_in b n ≡ Some x
    → Among (within p z) (placed_in (place p.file (p.path.steps ++ path)) n x)
all_within p z [] b n x is there =
    let whole : p ≡ place p.file (p.path.steps ++ []) = ap (place p.file) (sym (append-nil p.path.steps)) in
    subst (λ c. Among (within p z) (placed_in c n x)) whole (subst (λ y. Among (within p y) (placed_in p n x)) (sym (some-injective z (a_block b) is)) (in_block p b n x there))
all_within p z (k ∷ path) b n x is there =
    let o = and-then-some (λ (y : N). node_at y path) (nth (child_nodes z) k) (a_block b) is in
    let q = placed_in (place p.file ((p.path.steps ++ k ∷ []) ++ path)) n x in
    subst (λ steps. Among (within p z) (placed_in (place p.file steps) n x)) (append_assoc p.path.steps (k ∷ []) path)
    (of_child p z k o.0 q o.1 (all_within (child p k) o.0 path b n x o.2 there))

-- ---- files

inside_of : (o : Option (BlockAt Span)) (n : ℕ) → option_and_then (λ (b : BlockAt Span). statement_in b.inside n) o ≡ option_and_then (λ b. statement_in b n) (option_map (λ (b : BlockAt Span). b.inside) o)
inside_of None n = refl
inside_of (Some b) n = refl

reached : (f : File Span) (path : List ℕ) (n : ℕ) → option_and_then (λ (b : BlockAt Span). statement_in b.inside n) (block_at f path)
    ≡ option_and_then (λ b. statement_in b n) (option_and_then block_any (node_at (a_block (block_of f)) path))
reached f path n = inside_of (block_at f path) n ∙ ap (option_and_then (λ b. statement_in b n)) (block_reached Span f path)

only_block : (z : N) (b : Block Span) → block_any z ≡ Some b → z ≡ a_block b
only_block (an_expression e) b is = absurd (let no : ⊥ = cc in no)
only_block (a_statement s) b is = absurd (let no : ⊥ = cc in no)
only_block (a_block c) b is = ap a_block (some-injective c b is)

of_file : (n : ℕ) (f : File Span) → statements_of_file n f ≡ within (place n []) (a_block (block_of f))
of_file n (file s b) = refl

-- the statement of a place in a file
abbrev pub at_file : StatementPlace → BuildFile Span → Option (Statement Span)
at_file a f = option_and_then (λ (b : BlockAt Span). statement_in b.inside a.number) (block_at f.tree a.block.path.steps)

module _ (p : Project Span) (n : ℕ) (f : BuildFile Span) (is : nth_file p n ≡ Some f) where
  abbrev root : N
  root = a_block (block_of f.tree)

  -- a statement of the file is in it, and is there
  pub each_there : (q : Q) → Among (statements_of_file n f.tree) q → (q.place.block.file ≡ n) × (statement_there p q.place ≡ Some q.it)
  each_there q m =
      let i = are_placed (place n []) root q (subst (λ l. Among l q) (of_file n f.tree) m) in
      let in_file : q.place.block.file ≡ n = ap (λ (c : CallRef). c.file) i.is_place in
      let path : q.place.block.path.steps ≡ i.path = ap (λ (c : CallRef). c.path.steps) i.is_place in (
        in_file,
        ap (option_and_then (at_file q.place)) (ap (nth_file p) in_file ∙ is)
            ∙ reached f.tree q.place.block.path.steps q.place.number
            ∙ ap (λ steps. option_and_then (λ b. statement_in b q.place.number) (option_and_then block_any (node_at root steps))) path
            ∙ ap (λ z. option_and_then (λ b. statement_in b q.place.number) (option_and_then block_any z)) i.is_block
            ∙ i.is_there,
      )

  -- what is there is a statement of the file
  pub each_listed : (a : StatementPlace) (x : Statement Span) → a.block.file ≡ n → statement_there p a ≡ Some x → Among (statements_of_file n f.tree) (record { place = a; it = x })
  each_listed a x in_file there =
      let given = ap (option_and_then (at_file a)) (sym (ap (nth_file p) in_file ∙ is)) ∙ there in
      let b = and-then-some (λ (b : Block Span). statement_in b a.number) (option_and_then block_any (node_at root a.block.path.steps)) x (sym (reached f.tree a.block.path.steps a.number) ∙ given) in
      let z = and-then-some block_any (node_at root a.block.path.steps) b.0 b.1 in
      let m = all_within (place n []) root a.block.path.steps b.0 a.number x (z.1 ∙ ap Some (only_block z.0 b.0 z.2)) b.2 in
      let same : place n a.block.path.steps ≡ a.block = ap (λ k. place k a.block.path.steps) (sym in_file) in
      subst (λ l. Among l (record { place = a; it = x })) (sym (of_file n f.tree)) (subst (λ c. Among (within (place n []) root) (placed_in c a.number x)) same m)
