-- A file with another assigned value, or with another block, nests no deeper than before, or no deeper than that with what is around it; and no less deep than
-- that.
use Rattle.std.proofs.Common.{◌≡◌, ℕ, suc, ◌+◌, ◌≤◌, List, [], ◌∷◌, ◌++◌, Some, refl, sym, ap, ◌∙◌, subst, arith}
use Rattle.std.specs.Prelude.{max, option_map}
use Rattle.meson_lex.specs.declared.kinds.Kind.{Kind}
use Rattle.meson_lex.specs.declared.kinds.Kind.TheVariants as k
use Rattle.meson_lex.specs.Significant.{Word, new_line}
use Rattle.meson_syntax.specs.Grammar.{mark, expression_words, block_words, statement_words, branches_words, otherwise_words, block_depth, branches_depth, expression_depth, file_depth, otherwise_depth, statement_depth, statements_depth}
use Rattle.meson_syntax.specs.Paths.{Sort, of_expression, of_statement, of_block, Node, Hole, around, all_around, nth_hole, reach, expression_children, branches_children, otherwise_children, statement_children, statements_children, block_children}
use Rattle.meson_syntax.specs.Tree.{Nowhere, Plain, Expression, Statement, evaluate, assign, selection, iteration, breaks, continues, Branches, no_branches, branch, Otherwise, nothing_else, otherwise, Statements, no_statements, statement, Block, block, file}
use Rattle.meson_syntax.proofs.parsing.Steps.{some-injective}
use Rattle.meson_syntax.proofs.paths.Every.{Every, every-append, every-around, every-nth}
use Rattle.meson_syntax.proofs.paths.Reaching.{and-then-some, map-some}
use Rattle.meson_edit.specs.Assigned.{AssignedAt, assigned_at}
use Rattle.meson_edit.specs.Blocks.{BlockAt, block_at, block_of_node}
use Rattle.meson_edit.proofs.exchange.LinedHoles.{expression-inner}
use Rattle.meson_edit.proofs.statements.Assigned.{named-at}
use Rattle.meson_places.specs.AssignedValues as places

abbrev S : Type 0
S = Nowhere

-- ---- the blocks of a statement, and the statements of a block

abbrev BlockIn : {T : Type 0} → (T → ℕ) → ℕ → T → (sort : Sort) → Node sort S → (Node sort S → T) → Type 0
BlockIn depth k x of_expression i back = Unit {0}
BlockIn depth k x of_statement i back = ⊥
BlockIn depth k x of_block i back = (k + block_depth i ≤ depth x) × ((y : Block S) → depth (back y) ≤ max (depth x) (k + block_depth y))

abbrev HasBlock : {T : Type 0} → (T → ℕ) → ℕ → T → Hole S T → Type 0
HasBlock depth k x h = BlockIn depth k x h.sort h.inside h.back

abbrev StatementIn : {T : Type 0} → (T → ℕ) → T → (sort : Sort) → Node sort S → (Node sort S → T) → Type 0
StatementIn depth x of_expression i back = ⊥
StatementIn depth x of_statement i back = (statement_depth i ≤ depth x) × ((y : Statement S) → depth (back y) ≤ max (depth x) (statement_depth y))
StatementIn depth x of_block i back = ⊥

abbrev HasStatement : {T : Type 0} → (T → ℕ) → T → Hole S T → Type 0
HasStatement depth x h = StatementIn depth x h.sort h.inside h.back

blocks-in : {T U : Type 0} (depth : T → ℕ) (whole : U → ℕ) (j : ℕ) (before behind : List Word) (make : T → U) (x : T)
    → j + depth x ≤ whole (make x) → ((z : T) (n : ℕ) → depth z ≤ max (depth x) n → whole (make z) ≤ max (whole (make x)) (j + n))
    → (hs : List (Hole S T)) → Every (HasBlock depth 0 x) hs → Every (HasBlock whole j (make x)) (all_around before behind make hs)
blocks-in {T} {U} depth whole j before behind make x low grows hs every = every-around (HasBlock depth 0 x) (HasBlock whole j (make x)) before behind make (λ h i. one h.sort h.inside h.back i) hs every
  where
    one : (sort : Sort) (i : Node sort S) (back : Node sort S → T) → BlockIn depth 0 x sort i back → BlockIn whole j (make x) sort i (λ y. make (back y))
    one of_expression i back b = tt
    one of_statement i back b = b
    one of_block i back b = let l = b.0 in (omega (arith, l, low), λ y. let d = b.1 y in grows (back y) (block_depth y) (omega (arith, d)))

statements-in : {T U : Type 0} (depth : T → ℕ) (whole : U → ℕ) (before behind : List Word) (make : T → U) (x : T)
    → depth x ≤ whole (make x) → ((z : T) (n : ℕ) → depth z ≤ max (depth x) n → whole (make z) ≤ max (whole (make x)) n)
    → (hs : List (Hole S T)) → Every (HasStatement depth x) hs → Every (HasStatement whole (make x)) (all_around before behind make hs)
statements-in {T} {U} depth whole before behind make x low grows hs every = every-around (HasStatement depth x) (HasStatement whole (make x)) before behind make (λ h i. one h.sort h.inside h.back i) hs every
  where
    one : (sort : Sort) (i : Node sort S) (back : Node sort S → T) → StatementIn depth x sort i back → StatementIn whole (make x) sort i (λ y. make (back y))
    one of_expression i back b = b
    one of_statement i back b = let l = b.0 in (omega (arith, l, low), λ y. grows (back y) (statement_depth y) (b.1 y))
    one of_block i back b = b

branches-deep : (bs : Branches S) (word : Kind) → Every (HasBlock branches_depth 0 bs) (branches_children bs word)
branches-deep no_branches word = tt
branches-deep (branch e b more) word = (
  tt,
  (
    (omega arith, λ y. omega arith),
    blocks-in branches_depth branches_depth 0 (mark word ++ (expression_words e ++ (new_line ∷ block_words b))) [] (branch e b) more (omega arith) (λ z n l. omega (arith, l)) (branches_children more k.WordElif) (branches-deep more k.WordElif),
  ),
)

otherwise-deep : (o : Otherwise S) → Every (HasBlock otherwise_depth 0 o) (otherwise_children o)
otherwise-deep nothing_else = tt
otherwise-deep (otherwise b) = ((omega arith, λ y. omega arith), tt)

statement-deep : (s : Statement S) → Every (HasBlock statement_depth 1 s) (statement_children s)
statement-deep (evaluate e) = (tt, tt)
statement-deep (assign s x a e) = (tt, tt)
statement-deep (selection s bs o) =
    every-append (HasBlock statement_depth 1 (selection s bs o)) _ _
    (blocks-in branches_depth statement_depth 1 [] (otherwise_words o ++ mark k.WordEndif) (λ x. selection s x o) bs (omega arith) (λ z n l. omega (arith, l)) (branches_children bs k.WordIf) (branches-deep bs k.WordIf))
    (blocks-in otherwise_depth statement_depth 1 (branches_words bs k.WordIf) (mark k.WordEndif) (selection s bs) o (omega arith) (λ z n l. omega (arith, l)) (otherwise_children o) (otherwise-deep o))
statement-deep (iteration s xs e b) = (tt, ((omega arith, λ y. omega arith), tt))
statement-deep (breaks s) = tt
statement-deep (continues s) = tt

statements-deep : (list : Statements S) → Every (HasStatement statements_depth list) (statements_children list)
statements-deep no_statements = tt
statements-deep (statement s more) = (
  (omega arith, λ y. omega arith),
  statements-in statements_depth statements_depth (statement_words s ++ new_line ∷ []) [] (statement s) more (omega arith) (λ z n l. omega (arith, l)) (statements_children more) (statements-deep more),
)

block-deep : (b : Block S) → Every (HasStatement block_depth b) (block_children b)
block-deep (block s list) = statements-in statements_depth block_depth [] [] (block s) list (omega arith) (λ z n l. l) (statements_children list) (statements-deep list)

-- ---- along a path

-- with the statement or the block in the hole, and with another one
abbrev DeepBy : {T : Type 0} → (T → ℕ) → ℕ → T → (sort : Sort) → Node sort S → (Node sort S → T) → Type 0
DeepBy depth n x of_expression i back = Unit {0}
DeepBy depth n x of_statement i back = (n + statement_depth i ≤ depth x) × ((y : Statement S) → depth (back y) ≤ max (depth x) (n + statement_depth y))
DeepBy depth n x of_block i back = (n + block_depth i ≤ depth x) × ((y : Block S) → depth (back y) ≤ max (depth x) (n + block_depth y))

abbrev DeepAt : {T : Type 0} → (T → ℕ) → ℕ → T → Hole S T → Type 0
DeepAt depth n x h = DeepBy depth n x h.sort h.inside h.back

any_first : (n m : ℕ) (path : List ℕ) → places.around (n ∷ path) ≡ places.around (m ∷ path)
any_first n m [] = refl
any_first n m (l ∷ path) = refl

of_statement_in : (b : Block S) (n : ℕ) (s : Statement S) (back : Statement S → Block S) → StatementIn block_depth b of_statement s back → (sort : Sort) (i : Node sort S) (inner : Node sort S → Statement S)
    → DeepBy statement_depth n s sort i inner → DeepBy block_depth n b sort i (λ y. back (inner y))
of_statement_in b n s back h of_expression i inner d = tt
of_statement_in b n s back h of_statement i inner d =
    let low = h.0 in (let two = d.0 in omega (arith, low, two), λ y. let one = h.1 (inner y) in let two = d.1 y in omega (arith, low, one, two))
of_statement_in b n s back h of_block i inner d =
    let low = h.0 in (let two = d.0 in omega (arith, low, two), λ y. let one = h.1 (inner y) in let two = d.1 y in omega (arith, low, one, two))

of_block_in : (s : Statement S) (n : ℕ) (b : Block S) (back : Block S → Statement S) → BlockIn statement_depth 1 s of_block b back → (sort : Sort) (i : Node sort S) (inner : Node sort S → Block S)
    → DeepBy block_depth n b sort i inner → DeepBy statement_depth (suc n) s sort i (λ y. back (inner y))
of_block_in s n b back h of_expression i inner d = tt
of_block_in s n b back h of_statement i inner d =
    let low = h.0 in (let two = d.0 in omega (arith, low, two), λ y. let one = h.1 (inner y) in let two = d.1 y in omega (arith, low, one, two))
of_block_in s n b back h of_block i inner d =
    let low = h.0 in (let two = d.0 in omega (arith, low, two), λ y. let one = h.1 (inner y) in let two = d.1 y in omega (arith, low, one, two))

-- no statement and no block is in an expression
none_in : {T : Type 0} (depth : T → ℕ) (n : ℕ) (x : T) (sort : Sort) (i : Node sort S) (back : Node sort S → T) → sort ≡ of_expression → DeepBy depth n x sort i back
none_in depth n x of_expression i back is = tt
none_in depth n x of_statement i back is = absurd cc
none_in depth n x of_block i back is = absurd cc

inner_below : (path : List ℕ) → ((y : Expression S) (j : Hole S (Expression S)) → reach S of_expression y path ≡ Some j → j.sort ≡ of_expression)
    → (sort : Sort) (x : Node sort S) (h : Hole S (Node sort S)) → reach S sort x path ≡ Some h → sort ≡ of_expression → h.sort ≡ of_expression
inner_below path rest of_expression x h is same = rest x h is
inner_below path rest of_statement x h is same = absurd cc
inner_below path rest of_block x h is same = absurd cc

expressions_below : (e : Expression S) (path : List ℕ) (h : Hole S (Expression S)) → reach S of_expression e path ≡ Some h → h.sort ≡ of_expression
expressions_below e [] h is = ap (λ (g : Hole S (Expression S)). g.sort) (sym (some-injective _ _ is))
expressions_below e (n ∷ path) h is =
    let o = and-then-some (λ g. option_map (around g.before g.behind g.back) (reach S g.sort g.inside path)) (nth_hole S of_expression e n) h is in
    let g = o.0 in
    let m = map-some (around g.before g.behind g.back) (reach S g.sort g.inside path) h o.2 in
    ap (λ (i : Hole S (Expression S)). i.sort) (sym m.2)
    ∙ inner_below path (λ y j q. expressions_below y path j q) g.sort g.inside m.0 m.1 (every-nth (λ i. i.sort ≡ of_expression) (expression_children e) n g (expression-inner S e) o.1)

below_block : (b : Block S) (n : ℕ) (path : List ℕ) → ((s : Statement S) (j : Hole S (Statement S)) → reach S of_statement s path ≡ Some j → DeepAt statement_depth (places.around (0 ∷ path)) s j)
    → (sort : Sort) (i : Node sort S) (before behind : List Word) (back : Node sort S → Block S) (j : Hole S (Node sort S)) → reach S sort i path ≡ Some j
    → StatementIn block_depth b sort i back → DeepAt block_depth (places.around (n ∷ path)) b (around before behind back j)
below_block b n path rest of_expression i before behind back j is h = absurd h
below_block b n path rest of_statement i before behind back j is h =
    of_statement_in b (places.around (n ∷ path)) i back h j.sort j.inside j.back (subst (λ c. DeepAt statement_depth c i j) (any_first 0 n path) (rest i j is))
below_block b n path rest of_block i before behind back j is h = absurd h

below_statement : (s : Statement S) (path : List ℕ) → ((b : Block S) (j : Hole S (Block S)) → reach S of_block b path ≡ Some j → DeepAt block_depth (places.around path) b j)
    → (sort : Sort) (i : Node sort S) (before behind : List Word) (back : Node sort S → Statement S) (j : Hole S (Node sort S)) → reach S sort i path ≡ Some j
    → BlockIn statement_depth 1 s sort i back → DeepAt statement_depth (suc (places.around path)) s (around before behind back j)
below_statement s path rest of_expression i before behind back j is h = none_in statement_depth (suc (places.around path)) s j.sort j.inside (λ y. back (j.back y)) (expressions_below i path j is)
below_statement s path rest of_statement i before behind back j is h = absurd h
below_statement s path rest of_block i before behind back j is h = of_block_in s (places.around path) i back h j.sort j.inside j.back (rest i j is)

mutual
  in_block : (b : Block S) (path : List ℕ) (h : Hole S (Block S)) → reach S of_block b path ≡ Some h → DeepAt block_depth (places.around path) b h
  in_block b [] h is = subst (DeepAt block_depth 0 b) (some-injective _ _ is) (omega arith, λ y. omega arith)
  in_block b (n ∷ path) h is =
      let o = and-then-some (λ g. option_map (around g.before g.behind g.back) (reach S g.sort g.inside path)) (nth_hole S of_block b n) h is in
      let g = o.0 in
      let m = map-some (around g.before g.behind g.back) (reach S g.sort g.inside path) h o.2 in
      subst (DeepAt block_depth (places.around (n ∷ path)) b) m.2
      (below_block b n path (λ s j q. in_statement s path j q) g.sort g.inside g.before g.behind g.back m.0 m.1 (every-nth (HasStatement block_depth b) (block_children b) n g (block-deep b) o.1))

  in_statement : (s : Statement S) (path : List ℕ) (h : Hole S (Statement S)) → reach S of_statement s path ≡ Some h → DeepAt statement_depth (places.around (0 ∷ path)) s h
  in_statement s [] h is = subst (DeepAt statement_depth 0 s) (some-injective _ _ is) (omega arith, λ y. omega arith)
  in_statement s (n ∷ path) h is =
      let o = and-then-some (λ g. option_map (around g.before g.behind g.back) (reach S g.sort g.inside path)) (nth_hole S of_statement s n) h is in
      let g = o.0 in
      let m = map-some (around g.before g.behind g.back) (reach S g.sort g.inside path) h o.2 in
      subst (DeepAt statement_depth (suc (places.around path)) s) m.2
      (below_statement s path (λ b j q. in_block b path j q) g.sort g.inside g.before g.behind g.back m.0 m.1 (every-nth (HasBlock statement_depth 1 s) (statement_children s) n g (statement-deep s) o.1))

-- ---- an assigned value

pub assigned_depth : (t : Plain) (path : List ℕ) (p : AssignedAt Nowhere) → assigned_at t path ≡ Some p → (v : Expression Nowhere) → file_depth (p.back v) ≤ max (file_depth t) (places.around path + expression_depth v)
assigned_depth (file s b) path p is v =
    let g = named-at Nowhere (file s b) path p is in
    let d = (in_block b path _ g.is_hole).1 (assign g.span g.name g.sign v) in
    subst (λ (q : AssignedAt Nowhere). file_depth (q.back v) ≤ max (block_depth b) (places.around path + expression_depth v)) g.is_place d

-- what is around a statement, and what it nests itself
pub statement_low : (b : Block S) (path : List ℕ) (s : Statement S) (before behind : List Word) (back : Statement S → Block S)
    → reach S of_block b path ≡ Some (record { sort = of_statement; inside = s; before = before; behind = behind; back = back }) → places.around path + statement_depth s ≤ block_depth b
statement_low b path s before behind back is = (in_block b path _ is).0

-- ---- a block

-- what is around a block, and what it nests itself; and the file with another one there
pub record BlockGrows (t : Plain) (path : List ℕ) (b : BlockAt Nowhere) : Type 0 where
  pub low : places.around path + block_depth b.inside ≤ file_depth t
  pub grows : (y : Block Nowhere) → file_depth (b.back y) ≤ max (file_depth t) (places.around path + block_depth y)

block_in : (s : Nowhere) (c : Block Nowhere) (path : List ℕ) (sort : Sort) (x : Node sort Nowhere) (back : Node sort Nowhere → Block Nowhere) (b : BlockAt Nowhere)
    → DeepBy block_depth (places.around path) c sort x back → block_of_node Nowhere sort x (file s c) back ≡ Some b → BlockGrows (file s c) path b
block_in s c path of_expression x back b d is = absurd cc
block_in s c path of_statement x back b d is = absurd cc
block_in s c path of_block x back b d is = subst (BlockGrows (file s c) path) (some-injective _ _ is) (record { low = d.0; grows = d.1 })

pub block_grows : (t : Plain) (path : List ℕ) (b : BlockAt Nowhere) → block_at t path ≡ Some b → BlockGrows t path b
block_grows (file s c) path b is =
    let o = and-then-some (λ h. block_of_node Nowhere h.sort h.inside (file s c) h.back) (reach Nowhere of_block c path) b is in
    block_in s c path o.0.sort o.0.inside o.0.back b (in_block c path o.0 o.1) o.2
