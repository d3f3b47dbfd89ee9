-- The variable of a value is that to which the statement assigns whose first child it is.
use Rattle.std.proofs.Common.{◌≡◌, ℕ, zero, suc, ◌+◌, ◌<◌, List, [], ◌∷◌, ◌++◌, length, take, get_or, length-append, refl, sym, ap, ◌∙◌, subst, arith}
use Rattle.std.specs.Prelude.{Bool, true, false, if◌then◌else◌, Option, Some, None, option_and_then, option_map}
use Rattle.std.specs.List.{All, Contains, filter_map}
use Rattle.std.proofs.lemmas.List.{append_cancel_right}
use Rattle.std.proofs.lemmas.List.Elements.{All-cons, All-nil, All-weaker}
use Rattle.meson_lex.specs.Kinds.{IsIdentifier}
use Rattle.meson_lex.specs.declared.kinds.Span.{Span}
use Rattle.meson_syntax.specs.Children.{Any, an_expression, a_statement, a_block}
use Rattle.meson_syntax.specs.inside.Children.{child_nodes, expression_parts, node_at, statement_parts, statements_parts}
use Rattle.meson_syntax.specs.Paths.{block_of, nth}
use Rattle.meson_syntax.specs.Tree.{File, Statement, evaluate, assign, selection, iteration, breaks, continues, Statements, no_statements, statement, statement_list, Block, block}
use Rattle.meson_syntax.proofs.parsing.Steps.{some-injective}
use Rattle.meson_syntax.proofs.paths.Every.{Every}
use Rattle.meson_syntax.proofs.paths.Reaching.{and-then-some}
use Rattle.meson_calls.specs.declared.call.CallRef.{CallRef}
use Rattle.meson_calls.specs.Parts.{Part, parts}
use Rattle.meson_calls.specs.Parts as part
use Rattle.meson_calls.specs.Project.{BuildFile, Placed, Project, child, nth_file, place, placed}
use Rattle.meson_calls.specs.Strings.{AreGood, PartsGood, part_words}
use Rattle.meson_calls.proofs.CallsReached.{InProject, every_part}
use Rattle.meson_calls.proofs.PartsContained.{Names, all_has}
use Rattle.meson_calls.proofs.nodes.PartsBelow.{any}
use Rattle.meson_calls.proofs.nodes.Sorts.{IsExpression, IsOther, may_stand}
use Rattle.meson_edit.specs.Blocks.{BlockAt, block_at, statement_in}
use Rattle.meson_steps.specs.inside.Layers.{block_any}
use Rattle.meson_steps.proofs.BlockNodes.{block_reached}
use Rattle.meson_following.specs.Makers.{is_same_place}
use Rattle.meson_sharing.specs.CodeOwning.{name_in, name_there}
use Rattle.meson_sharing.specs.Sharing.{assigned_name, name_of_part, variable_of}
use Rattle.meson_sharing.proofs.ChosenNames.{chosen_has, every_all, first_given, first_is}
use Rattle.meson_sharing.proofs.Sharing.{itself_same, same_place}

-- ---- the statement of a block is the node at its path

abbrev statement_any : Any Span → Option (Statement Span)
statement_any (an_expression e) = None
statement_any (a_statement s) = Some s
statement_any (a_block b) = None

only_statement : (x : Any Span) (s : Statement Span) → statement_any x ≡ Some s → x ≡ a_statement s
only_statement (an_expression e) s same = absurd (let no : ⊥ = cc in no)
only_statement (a_statement t) s same = ap a_statement (some-injective t s same)
only_statement (a_block b) s same = absurd (let no : ⊥ = cc in no)

one_step_more : (r : Any Span) (path : List ℕ) (n : ℕ) → node_at r (path ++ n ∷ []) ≡ option_and_then (λ x. nth (child_nodes x) n) (node_at r path)
one_step_more r [] n = whole (nth (child_nodes r) n)
  where
    whole : (o : Option (Any Span)) → option_and_then (λ y. Some y) o ≡ o
    whole None = refl
    whole (Some y) = refl
one_step_more r (m ∷ path) n = go (nth (child_nodes r) m) (λ y. one_step_more y path n)
  where
    go : (o : Option (Any Span)) → ((y : Any Span) → node_at y (path ++ n ∷ []) ≡ option_and_then (λ x. nth (child_nodes x) n) (node_at y path))
        → option_and_then (λ y. node_at y (path ++ n ∷ [])) o ≡ option_and_then (λ x. nth (child_nodes x) n) (option_and_then (λ y. node_at y path) o)
    go None each = refl
    go (Some y) each = each y

none_of_them : (P : Any Span → Type 0) → ((s : Statement Span) → P (a_statement s) → ⊥) → (xs : List (Any Span)) → Every P xs → (n : ℕ) → option_and_then statement_any (nth xs n) ≡ None
none_of_them P never [] all n = refl
none_of_them P never (an_expression e ∷ xs) all zero = refl
none_of_them P never (a_statement s ∷ xs) all zero = absurd (never s all.0)
none_of_them P never (a_block b ∷ xs) all zero = refl
none_of_them P never (x ∷ xs) all (suc n) = none_of_them P never xs all.1 n

among_statements : (list : Statements Span) (n : ℕ) → option_and_then statement_any (nth (statements_parts list) n) ≡ nth (statement_list list) n
among_statements no_statements n = refl
among_statements (statement s more) zero = refl
among_statements (statement s more) (suc n) = among_statements more n

-- a statement is a child of a block alone
child_statement : (x : Any Span) (n : ℕ) → option_and_then statement_any (nth (child_nodes x) n) ≡ option_and_then (λ b. statement_in b n) (block_any x)
child_statement (an_expression e) n = none_of_them IsExpression (λ s is. is) (expression_parts e) (may_stand (an_expression e)) n
child_statement (a_statement s) n = none_of_them IsOther (λ t is. is) (statement_parts s) (may_stand (a_statement s)) n
child_statement (a_block (block s list)) n = among_statements list n

statement_reached : (f : File Span) (path : List ℕ) (n : ℕ)
    → option_and_then (λ b. statement_in b.inside n) (block_at f path) ≡ option_and_then statement_any (node_at (a_block (block_of f)) (path ++ n ∷ []))
statement_reached f path n =
    inside (block_at f path)
    ∙ ap (option_and_then (λ b. statement_in b n)) (block_reached Span f path)
    ∙ children (node_at (a_block (block_of f)) path)
    ∙ sym (ap (option_and_then statement_any) (one_step_more (a_block (block_of f)) path n))
  where
    inside : (o : Option (BlockAt Span)) → option_and_then (λ b. statement_in b.inside n) o ≡ option_and_then (λ b. statement_in b n) (option_map (λ (b : BlockAt Span). b.inside) o)
    inside None = refl
    inside (Some b) = refl

    children : (o : Option (Any Span)) → option_and_then (λ b. statement_in b n) (option_and_then block_any o)
        ≡ option_and_then statement_any (option_and_then (λ x. nth (child_nodes x) n) o)
    children None = refl
    children (Some x) = sym (child_statement x n)

-- ---- parts that assign a value

if_so : {X : Type 0} (b : Bool) (o : Option X) (x : X) → (if b then o else None) ≡ Some x → (b ≡ true) × (o ≡ Some x)
if_so true o x is = (refl, is)
if_so false o x is = absurd (let no : ⊥ = cc in no)

part_assigns : (m : CallRef) (x : List ℕ) (at_ : CallRef) (it : Part Span) → name_of_part m (placed at_ it) ≡ Some x
    → (s : Statement Span) × (it ≡ part.a_statement s) × (child at_ 0 ≡ m) × (assigned_name s ≡ Some x)
part_assigns m x at_ (part.an_expression e) is = absurd (let no : ⊥ = cc in no)
part_assigns m x at_ (part.a_statement s) is =
    let both = if_so (is_same_place (child at_ 0) m) (assigned_name s) x is in
    (s, refl, same_place (child at_ 0) m both.0, both.1)

-- ---- the steps of a path

last_is : (path : List ℕ) (j : ℕ) → length path ≡ j → get_or (path ++ 0 ∷ []) j 0 ≡ 0
last_is [] zero is = refl
last_is [] (suc j) is = absurd (omega (arith, is))
last_is (n ∷ path) zero is = absurd (omega (arith, is))
last_is (n ∷ path) (suc j) is = last_is path j (omega (arith, is))

last_two : (path : List ℕ) (j : ℕ) → length path ≡ j + 2 → (take j path ++ get_or path j 0 ∷ []) ++ get_or path (suc j) 0 ∷ [] ≡ path
last_two [] j long = absurd (omega (arith, long))
last_two (n ∷ []) j long = absurd (omega (arith, long))
last_two (n ∷ m ∷ []) zero long = refl
last_two (n ∷ m ∷ []) (suc j) long = absurd (omega (arith, long))
last_two (n ∷ m ∷ k ∷ path) zero long = absurd (omega (arith, long))
last_two (n ∷ m ∷ k ∷ path) (suc j) long =
    let less : length (m ∷ k ∷ path) ≡ j + 2 = omega (arith, long) in
    ap (λ steps. n ∷ steps) (last_two (m ∷ k ∷ path) j less)

-- the first child of a statement is named by the block's path and the statement's number
pub first_child : (m : CallRef) (j : ℕ) → length m.path.steps ≡ j + 2 → get_or m.path.steps (j + 1) 0 ≡ 0
    → child (child (place m.file (take j m.path.steps)) (get_or m.path.steps j 0)) 0 ≡ m
first_child m j long is =
    let next : j + 1 ≡ suc j = omega arith in
    ap (place m.file) (ap (λ n. (take j m.path.steps ++ get_or m.path.steps j 0 ∷ []) ++ n ∷ []) (sym is ∙ ap (λ k. get_or m.path.steps k 0) next) ∙ last_two m.path.steps j long)

-- ---- the variable of a value

module _ (p : Project Span) where
  abbrev AreNamedSo : CallRef → Option (List ℕ) → Placed (Part Span) → Type 0
  AreNamedSo m o q = (x : List ℕ) → name_of_part m q ≡ Some x → o ≡ Some x

  from_parts : (m : CallRef) (o : Option (List ℕ)) → ((q : Placed (Part Span)) → InProject 0 p q → AreNamedSo m o q)
      → ((x : List ℕ) → o ≡ Some x → Contains (filter_map (name_of_part m) (parts p)) x) → o ≡ variable_of p m
  from_parts m o each has =
      first_is (name_of_part m) (parts p) o
      (All-weaker (InProject 0 p) (AreNamedSo m o) each (parts p) (every_all (InProject 0 p) (parts p) (every_part 0 p))) has

  part_file : (q : Placed (Part Span)) (i : InProject 0 p q) → nth_file p q.place.file ≡ Some i.file
  part_file q i = let z : 0 + i.number ≡ i.number = omega arith in ap (nth_file p) (i.is_number ∙ z) ∙ i.is_file

  below_block : (b : Block Span) (s : Statement Span) (path : List ℕ) → node_at (a_block b) path ≡ Some (a_statement s) → 0 < length path
  below_block b s [] is = absurd (let no : ⊥ = cc in no)
  below_block b s (n ∷ path) is = omega arith

  -- where it is no first child of anything below a block
  not_assigned : (m : CallRef) → ((path : List ℕ) → 0 < length path → m.path.steps ≡ path ++ 0 ∷ [] → ⊥) → None ≡ variable_of p m
  not_assigned m never =
      from_parts m None
      (λ q i x is. absurd (let a = part_assigns m x q.place q.it is in
      never q.place.path.steps (below_block (block_of i.file.tree) a.0 q.place.path.steps (i.is_node ∙ ap (λ y. Some (any y)) a.1)) (sym (ap (λ c. c.path.steps) a.2))))
      (λ x is. absurd (let no : ⊥ = cc in no))

  pub short_not_assigned : (m : CallRef) → length m.path.steps < 2 → None ≡ variable_of p m
  short_not_assigned m short =
      not_assigned m (λ path some is. let long = ap length is ∙ length-append path (0 ∷ []) in omega (arith, short, some, long))

  pub other_child_not_assigned : (m : CallRef) (j : ℕ) → length m.path.steps ≡ j + 2 → (get_or m.path.steps (j + 1) 0 ≡ 0 → ⊥) → None ≡ variable_of p m
  other_child_not_assigned m j long other =
      not_assigned m (λ path some is. other (ap (λ steps. get_or steps (j + 1) 0) is
      ∙ last_is path (j + 1) (let count = sym (length-append path (0 ∷ [])) ∙ sym (ap length is) ∙ long in omega (arith, count))))

  module _ (at_ : CallRef) (n : ℕ) where
    abbrev path : List ℕ
    path = at_.path.steps ++ n ∷ []

    part_there : (q : Placed (Part Span)) → InProject 0 p q → AreNamedSo (child (child at_ n) 0) (name_there p at_ n) q
    part_there q i x is =
        let a = part_assigns (child (child at_ n) 0) x q.place q.it is in
        let steps : q.place.path.steps ≡ path = append_cancel_right q.place.path.steps path (0 ∷ []) (ap (λ c. c.path.steps) a.2) in
        let is_file : nth_file p at_.file ≡ Some i.file = ap (nth_file p) (sym (ap (λ c. c.file) a.2)) ∙ part_file q i in
        let node : node_at (a_block (block_of i.file.tree)) path ≡ Some (a_statement a.0) = ap (node_at (a_block (block_of i.file.tree))) (sym steps) ∙ i.is_node ∙ ap (λ y. Some (any y)) a.1 in
        ap (option_and_then (λ (f : BuildFile Span). name_in f.tree at_.path.steps n)) is_file
        ∙ ap (option_and_then assigned_name) (statement_reached i.file.tree at_.path.steps n ∙ ap (option_and_then statement_any) node)
        ∙ a.3

    there_part : (x : List ℕ) → name_there p at_ n ≡ Some x → Contains (filter_map (name_of_part (child (child at_ n) 0)) (parts p)) x
    there_part x is =
        let o = and-then-some (λ (f : BuildFile Span). name_in f.tree at_.path.steps n) (nth_file p at_.file) x is in
        let root = a_block (block_of o.0.tree) in
        let s = and-then-some assigned_name (option_and_then (λ b. statement_in b.inside n) (block_at o.0.tree at_.path.steps)) x o.2 in
        let d = and-then-some statement_any (node_at root path) s.0 (sym (statement_reached o.0.tree at_.path.steps n) ∙ s.1) in
        let is_named : Names root path (part.a_statement s.0) = d.1 ∙ ap Some (only_statement d.0 s.0 d.2) in
        let z : 0 + at_.file ≡ at_.file = omega arith in
        let q : Placed (Part Span) = placed (child at_ n) (part.a_statement s.0) in
        let there : Contains (parts p) q =
        subst (λ k. Contains (parts p) (placed (place k path) (part.a_statement s.0))) z (all_has 0 at_.file p o.0 path (part.a_statement s.0) o.1 is_named) in
        chosen_has (name_of_part (child (child at_ n) 0)) (parts p) q x there
        (ap (λ b. if b then assigned_name s.0 else None) (itself_same (child (child at_ n) 0)) ∙ s.2)

    -- the first child of a statement
    pub name_there_is : (m : CallRef) → child (child at_ n) 0 ≡ m → name_there p at_ n ≡ variable_of p m
    name_there_is m is = from_parts (child (child at_ n) 0) (name_there p at_ n) part_there there_part ∙ ap (variable_of p) is

-- ---- its name is an identifier

identifier_in : (s : Statement Span) (x : List ℕ) → AreGood (part_words (part.a_statement s)) → assigned_name s ≡ Some x → IsIdentifier x
identifier_in (assign s y a e) x good is = subst IsIdentifier (some-injective y.text x is) good.0
identifier_in (evaluate e) x good is = absurd (let no : ⊥ = cc in no)
identifier_in (selection s bs o) x good is = absurd (let no : ⊥ = cc in no)
identifier_in (iteration s xs e b) x good is = absurd (let no : ⊥ = cc in no)
identifier_in (breaks s) x good is = absurd (let no : ⊥ = cc in no)
identifier_in (continues s) x good is = absurd (let no : ⊥ = cc in no)

module _ (m : CallRef) where
  abbrev IsNamedWell : Placed (Part Span) → Type 0
  IsNamedWell q = (x : List ℕ) → name_of_part m q ≡ Some x → IsIdentifier x

  parts_named : (qs : List (Placed (Part Span))) → PartsGood qs → All IsNamedWell qs
  parts_named [] good = All-nil IsNamedWell
  parts_named (q ∷ qs) good =
      All-cons IsNamedWell q qs
      (λ x is. let a = part_assigns m x q.place q.it is in identifier_in a.0 x (subst (λ y. AreGood (part_words y)) a.1 good.0) a.3)
      (parts_named qs good.1)

  pub variable_identifier : (p : Project Span) → PartsGood (parts p) → (x : List ℕ) → variable_of p m ≡ Some x → IsIdentifier x
  variable_identifier p good x is = first_given (name_of_part m) (parts p) IsIdentifier (parts_named (parts p) good) x is
