-- A node that a path names is among the parts of a project.
use Rattle.meson_calls.proofs.Words.{Contains, slice_index_or, ◌≡◌, ℕ, zero, suc, ◌+◌, List, [], ◌∷◌, ◌++◌, length, Some, refl, sym, ap, ap₂, ◌∙◌, subst, arith}
use Rattle.meson_calls.proofs.Words.{◌<◌, Contains-append_left, Contains-append_right, Span, Any, an_expression, a_statement, a_block, nth, block_of}
use Rattle.meson_calls.proofs.Words.{Expression, Block, file, expression_any, child_nodes, node_at, expression-reached, some-injective, Every, and-then-some}
use Rattle.meson_calls.proofs.Words.{PartsAreAll, Part, parts_of_file, parts_from, BuildFile, Placed, Project, child, expression_at, nth_file, place, placed}
use Rattle.meson_calls.proofs.Words.{CallRef}
use Rattle.std.proofs.Common.{append_assoc, append-nil}
use Rattle.meson_syntax.specs.Tree.{File}
use Rattle.meson_calls.specs.Parts as part
use Rattle.meson_syntax.specs.Paths as paths
use Rattle.meson_calls.proofs.CallsReached.{InProject, every_part}
use Rattle.meson_calls.proofs.ExpressionsAt.{expression_stands}
use Rattle.meson_calls.proofs.nodes.Induction.{Each, by_children}
use Rattle.meson_calls.proofs.nodes.PartsBelow.{any, itself, parts_are, parts_below, parts_of}

-- ---- lists that are joined

head_there : {X : Type 0} (x : X) (xs : List X) → Contains (x ∷ xs) x
head_there x xs = (0, omega arith, refl)

behind : {X : Type 0} (y x : X) (xs : List X) → Contains xs x → Contains (y ∷ xs) x
behind y x xs c = Contains-append_right (y ∷ []) xs x c

-- ---- places below one another

abbrev pub below : CallRef → List ℕ → CallRef
below p path = place p.file (p.path.steps ++ path)

abbrev pub Names : Any Span → List ℕ → Part Span → Type 0
Names x path y = node_at x path ≡ Some (any y)

-- each part that a path names in the node at the place is among these
abbrev pub Has : CallRef → Any Span → List (Placed (Part Span)) → Type 0
Has p x list = (path : List ℕ) (y : Part Span) → Names x path y → Contains list (placed (below p path) y)

-- and in these children, the first of which has the number n
abbrev HasAll : CallRef → ℕ → List (Any Span) → List (Placed (Part Span)) → Type 0
HasAll p n xs list = (j : ℕ) (z : Any Span) (path : List ℕ) (y : Part Span) → nth xs j ≡ Some z → Names z path y → Contains list (placed (below p ((n + j) ∷ path)) y)

any_is : (x y : Part Span) → any x ≡ any y → x ≡ y
any_is (part.an_expression e) (part.an_expression f) same = cc
any_is (part.an_expression e) (part.a_statement s) same = absurd cc
any_is (part.a_statement s) (part.an_expression e) same = absurd cc
any_is (part.a_statement s) (part.a_statement t) same = cc

no_block : (b : Block Span) (y : Part Span) → a_block b ≡ any y → ⊥
no_block b (part.an_expression e) same = cc
no_block b (part.a_statement s) same = cc

place_same : (p : CallRef) → below p [] ≡ p
place_same p = ap (place p.file) (append-nil p.path.steps)

place_child : (p : CallRef) (n : ℕ) (path : List ℕ) → below (child p n) path ≡ below p (n ∷ path)
place_child p n path = ap (place p.file) (append_assoc p.path.steps (n ∷ []) path)

-- a path of one step more
deeper : (p : CallRef) (x : Any Span) (list : List (Placed (Part Span))) → HasAll p 0 (child_nodes x) list → (n : ℕ) (path : List ℕ) (y : Part Span) → Names x (n ∷ path) y → Contains list (placed (below p (n ∷ path)) y)
deeper p x list all n path y is_named =
    let o = and-then-some (λ z. node_at z path) (nth (child_nodes x) n) (any y) is_named in
    let e : 0 + n ≡ n = omega arith in
    subst (λ m. Contains list (placed (below p (m ∷ path)) y)) e (all n o.0 path y o.1 o.2)

-- a part and its children
with_children : (p : CallRef) (x : Part Span) (list : List (Placed (Part Span))) → HasAll p 0 (child_nodes (any x)) list → Has p (any x) (placed p x ∷ list)
with_children p x list all [] y is_named =
    let same : placed p x ≡ placed (below p []) y = ap₂ placed (sym (place_same p)) (any_is x y (some-injective _ _ is_named)) in
    subst (Contains (placed p x ∷ list)) same (head_there (placed p x) list)
with_children p x list all (n ∷ path) y is_named = behind (placed p x) (placed (below p (n ∷ path)) y) list (deeper p (any x) list all n path y is_named)

-- a block, which is no part, has those of its statements
of_block : (p : CallRef) (b : Block Span) (list : List (Placed (Part Span))) → HasAll p 0 (child_nodes (a_block b)) list → Has p (a_block b) list
of_block p b list all [] y is_named = absurd (no_block b y (some-injective _ _ is_named))
of_block p b list all (n ∷ path) y is_named = deeper p (a_block b) list all n path y is_named

no_more : (p : CallRef) (n : ℕ) (list : List (Placed (Part Span))) → HasAll p n [] list
no_more p n list j z path y is is_named = absurd cc

one_more : (p : CallRef) (n : ℕ) (x : Any Span) (xs : List (Any Span)) (here later : List (Placed (Part Span))) → Has (child p n) x here → HasAll p (n + 1) xs later → HasAll p n (x ∷ xs) (here ++ later)
one_more p n x xs here later first others zero z path y is is_named =
    let e : n ≡ n + 0 = omega arith in
    let same = place_child p n path ∙ ap (λ m. below p (m ∷ path)) e in
    let found = first path y (subst (λ w. Names w path y) (sym (some-injective x z is)) is_named) in
    Contains-append_left here later (placed (below p ((n + 0) ∷ path)) y) (subst (λ c. Contains here (placed c y)) same found)
one_more p n x xs here later first others (suc j) z path y is is_named =
    let e : (n + 1) + j ≡ n + suc j = omega arith in
    Contains-append_right here later (placed (below p ((n + suc j) ∷ path)) y) (subst (λ m. Contains later (placed (below p (m ∷ path)) y)) e (others j z path y is is_named))

-- ---- node by node

children_have : (p : CallRef) (n : ℕ) (xs : List (Any Span)) → Each child (λ c x. Has c x (parts_of c x)) p n xs → HasAll p n xs (parts_below p n xs)
children_have p n [] each = no_more p n []
children_have p n (x ∷ xs) each = one_more p n x xs (parts_of (child p n) x) (parts_below p (n + 1) xs) each.0 (children_have p (n + 1) xs each.1)

node_has : (p : CallRef) (x : Any Span) → Has p x (parts_of p x)
node_has = by_children child (λ p x. Has p x (parts_of p x)) (λ p x each. subst (Has p x) (sym (parts_are p x)) (with_itself p x (children_have p 0 (child_nodes x) each)))
  where
    with_itself : (p : CallRef) (x : Any Span) → HasAll p 0 (child_nodes x) (parts_below p 0 (child_nodes x)) → Has p x (itself p x ++ parts_below p 0 (child_nodes x))
    with_itself p (an_expression e) all = with_children p (part.an_expression e) (parts_below p 0 (child_nodes (an_expression e))) all
    with_itself p (a_statement s) all = with_children p (part.a_statement s) (parts_below p 0 (child_nodes (a_statement s))) all
    with_itself p (a_block b) all = of_block p b (parts_below p 0 (child_nodes (a_block b))) all

-- ---- files

file_has : (n : ℕ) (f : File Span) → Has (place n []) (a_block (block_of f)) (parts_of_file n f)
file_has n (file s b) = node_has (place n []) (a_block b)

pub all_has : (n i : ℕ) (p : Project Span) (g : BuildFile Span) (path : List ℕ) (y : Part Span) → nth_file p i ≡ Some g → Names (a_block (block_of g.tree)) path y → Contains (parts_from n p) (placed (place (n + i) path) y)
all_has n i [] g path y is is_named = absurd cc
all_has n zero (f ∷ files) g path y is is_named =
    let e : n ≡ n + 0 = omega arith in
    let found = file_has n f.tree path y (subst (λ (h : BuildFile Span). Names (a_block (block_of h.tree)) path y) (sym (some-injective f g is)) is_named) in
    Contains-append_left (parts_of_file n f.tree) (parts_from (n + 1) files) (placed (place (n + 0) path) y) (subst (λ m. Contains (parts_of_file n f.tree) (placed (place m path) y)) e found)
all_has n (suc i) (f ∷ files) g path y is is_named =
    let e : (n + 1) + i ≡ n + suc i = omega arith in
    Contains-append_right (parts_of_file n f.tree) (parts_from (n + 1) files) (placed (place (n + suc i) path) y)
    (subst (λ m. Contains (parts_from (n + 1) files) (placed (place m path) y)) e (all_has (n + 1) i files g path y is is_named))

-- an expression that stands at a place is among the parts
expression_there : (p : Project Span) (c : CallRef) (e : Expression Span) → expression_at p c ≡ Some e → Contains (part.parts p) (placed c (part.an_expression e))
expression_there p c e is =
    let o = and-then-some (λ (g : BuildFile Span). paths.expression_on_path g.tree c.path.steps) (nth_file p c.file) e is in
    let n = and-then-some expression_any (node_at (a_block (block_of o.0.tree)) c.path.steps) e (sym (expression-reached Span o.0.tree c.path.steps) ∙ o.2) in
    let is_named : Names (a_block (block_of o.0.tree)) c.path.steps (part.an_expression e) = n.1 ∙ ap Some (only_expression n.0 e n.2) in
    let z : 0 + c.file ≡ c.file = omega arith in
    subst (λ m. Contains (part.parts p) (placed (place m c.path.steps) (part.an_expression e))) z (all_has 0 c.file p o.0 c.path.steps (part.an_expression e) o.1 is_named)
  where
    only_expression : (x : Any Span) (f : Expression Span) → expression_any x ≡ Some f → x ≡ an_expression f
    only_expression (an_expression d) f same = ap an_expression (some-injective d f same)
    only_expression (a_statement s) f same = absurd cc
    only_expression (a_block b) f same = absurd cc

-- and where it is among them, it stands there
every_one : {X : Type 0} (P : X → Type 0) (xs : List X) (x : X) → Every P xs → Contains xs x → P x
every_one P [] x all c = let within = c.1 in absurd (omega (arith, within))
every_one P (y ∷ ys) x all c = go c.0 c.1 c.2 all (λ i within same. every_one P ys x all.1 (i, within, same))
  where
    go : (i : ℕ) → i < length (y ∷ ys) → slice_index_or (y ∷ ys) i x ≡ x → Every P (y ∷ ys) → ((j : ℕ) → j < length ys → slice_index_or ys j x ≡ x → P x) → P x
    go zero within same both later = subst P same both.0
    go (suc i) within same both later = later i (omega (arith, within)) same

pub parts-are-all : PartsAreAll
parts-are-all p c e =
    ((λ there. expression_stands p (placed c (part.an_expression e)) e (every_one (InProject 0 p) (part.parts p) (placed c (part.an_expression e)) (every_part 0 p) there) refl), expression_there p c e)
