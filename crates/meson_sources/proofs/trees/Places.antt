-- Places below others, and the nodes at them.
use Rattle.meson_calls.specs.Parts as part
use Rattle.meson_calls.proofs.CallsReached.{InProject, every_chosen, every_part}
use Rattle.meson_calls.proofs.nodes.Sorts.{IsExpression, may_stand}
use Rattle.meson_syntax.specs.Tree.{File}
use Rattle.meson_edit.proofs.paths.Mapped.{nth_map}
use Rattle.meson_sources.proofs.Words.{bytes_eq, if◌then◌else◌, nat_eq, not, option_and_then, option_map, ◌&&◌, ◌⊎◌, [], ap, append-nil, append_assoc, ap₂}
use Rattle.meson_sources.proofs.Words.{arith, Bool, false, inl, inr, List, None, Option, refl, Some, subst, suc, sym, true, zero, ℕ, ◌++◌, ◌+◌, ◌∙◌, ◌∷◌, ◌≡◌}
use Rattle.meson_sources.proofs.Words.{eq-eqb, eqb-true, append_cancel_left, Span, a_block, a_statement, an_expression, Any, block_of, expression_on_path, nth}
use Rattle.meson_sources.proofs.Words.{assign, erase, erase_expression, Expression, file, Name, Nowhere, Statement, Assignment, child_nodes, expression_any}
use Rattle.meson_sources.proofs.Words.{node_at, expression-reached, some-injective, Every, every-nth, and-then-some, map-some, is_set, Part, parts, BuildFile}
use Rattle.meson_sources.proofs.Words.{child, expression_at, nth_file, place, Placed, placed, Project, CallRef, assigned_stands, children_erased, erase_any}
use Rattle.meson_sources.proofs.Words.{any, empty, known, Mark, opaque, list_of_slot, or_option, all_known, Assigned, assigned_by, assignments, is_outermost}
use Rattle.meson_sources.proofs.Words.{is_set_otherwise, only_value, part_assigned, single}

-- ==== The list in which a mark is met, and places below others.

abbrev pub list_of_mark : {S : Type 0} → Mark S → Option CallRef
list_of_mark (known i) = list_of_slot i.slot
list_of_mark opaque = None
list_of_mark (empty p) = Some p

-- a place further down
abbrev pub below : CallRef → List ℕ → CallRef
below p path = place p.file (p.path.steps ++ path)

pub below_child : (p : CallRef) (n : ℕ) (path : List ℕ) → below (child p n) path ≡ below p (n ∷ path)
below_child p n path = ap (place p.file) (append_assoc p.path.steps (n ∷ []) path)

pub below_itself : (p : CallRef) → below p [] ≡ p
below_itself p = ap (place p.file) (append-nil p.path.steps)

-- ==== Places below one another.

pub below_steps : (p : CallRef) (a b : List ℕ) → below p a ≡ below p b → a ≡ b
below_steps p a b is = append_cancel_left p.path.steps a b (ap (λ (q : CallRef). q.path.steps) is)

pub below_below : (p : CallRef) (a b : List ℕ) → below (below p a) b ≡ below p (a ++ b)
below_below p a b = ap (place p.file) (append_assoc p.path.steps a b)

-- ---- whether one stands at or below another

abbrev Behind : List ℕ → List ℕ → Type 0
Behind a b = ((rest : List ℕ) × (b ≡ a ++ rest)) ⊎ ((rest : List ℕ) → b ≡ a ++ rest → ⊥)

-- further down by one step that is the same
further : (n : ℕ) (a b : List ℕ) → Behind a b → Behind (n ∷ a) (n ∷ b)
further n a b (inl w) = inl (w.0, ap (λ l. n ∷ l) w.1)
further n a b (inr not) = inr (λ rest is. let tails : b ≡ a ++ rest = cc in not rest tails)

behind : (a b : List ℕ) → Behind a b
behind [] b = inl (b, refl)
behind (n ∷ a) [] = inr (λ rest is. absurd cc)
behind (n ∷ a) (m ∷ b) = go (nat_eq n m) refl (behind a b)
  where
    go : (z : Bool) → nat_eq n m ≡ z → Behind a b → Behind (n ∷ a) (m ∷ b)
    go true is w = let same : n ≡ m = eqb-true n m is in rw (sym same) (further n a b w)
    go false is w = inr (λ rest equal. let heads : n ≡ m = cc in let yea = eq-eqb n m heads in let both : true ≡ false = sym yea ∙ is in absurd cc)

abbrev pub Under : CallRef → CallRef → Type 0
Under p q = ((rest : List ℕ) × (q ≡ below p rest)) ⊎ ((rest : List ℕ) → q ≡ below p rest → ⊥)

pub under : (p q : CallRef) → Under p q
under p q = go (nat_eq p.file q.file) refl (behind p.path.steps q.path.steps)
  where
    go : (z : Bool) → nat_eq p.file q.file ≡ z → Behind p.path.steps q.path.steps → Under p q
    go true is (inl w) = let same : p.file ≡ q.file = eqb-true p.file q.file is in inl (w.0, ap₂ place (sym same) w.1)
    go true is (inr not) = inr (λ rest equal. not rest (ap (λ (r : CallRef). r.path.steps) equal))
    go false is w = inr (λ rest equal.
        let files : p.file ≡ q.file = sym (ap (λ (r : CallRef). r.file) equal) in
        let yea = eq-eqb p.file q.file files in let both : true ≡ false = sym yea ∙ is in absurd cc)

-- ---- two that lead to the same

-- one of two fronts goes on in the other
pub one_goes_on : (a b c d : List ℕ) → a ++ b ≡ c ++ d → ((rest : List ℕ) × (c ≡ a ++ rest)) ⊎ ((n : ℕ) × (rest : List ℕ) × (a ≡ c ++ n ∷ rest))
one_goes_on [] b c d is = inl (c, refl)
one_goes_on (n ∷ a) b [] d is = inr (n, a, refl)
one_goes_on (n ∷ a) b (m ∷ c) d is =
    let heads : n ≡ m = cc in
    let tails : a ++ b ≡ c ++ d = cc in
    go heads (one_goes_on a b c d tails)
  where
    go : n ≡ m → ((rest : List ℕ) × (c ≡ a ++ rest)) ⊎ ((k : ℕ) × (rest : List ℕ) × (a ≡ c ++ k ∷ rest)) → ((rest : List ℕ) × (m ∷ c ≡ (n ∷ a) ++ rest)) ⊎ ((k : ℕ) × (rest : List ℕ) × (n ∷ a ≡ (m ∷ c) ++ k ∷ rest))
    go same (inl w) = inl (w.0, ap₂ (λ h l. h ∷ l) (sym same) w.1)
    go same (inr w) = inr (w.0, w.1, ap₂ (λ h l. h ∷ l) same w.2)

-- what goes on in a front with one more step goes on in the front
pub without_last : (a b rest : List ℕ) (z n : ℕ) → a ++ z ∷ [] ≡ b ++ n ∷ rest → (more : List ℕ) × (a ≡ b ++ more)
without_last a [] rest z n is = (a, refl)
without_last [] (m ∷ b) rest z n is = let tails : [] ≡ b ++ n ∷ rest = cc in absurd (no_end b tails)
  where
    no_end : (l : List ℕ) → [] ≡ l ++ n ∷ rest → ⊥
    no_end [] h = cc
    no_end (k ∷ l) h = cc
without_last (k ∷ a) (m ∷ b) rest z n is =
    let heads : k ≡ m = cc in
    let tails : a ++ z ∷ [] ≡ b ++ n ∷ rest = cc in
    let w = without_last a b rest z n tails in
    (w.0, ap₂ (λ h l. h ∷ l) heads w.1)

-- ---- places that do not lead to a place

module _ (h : CallRef) where
  abbrev pub IsIt : CallRef → Type 0
  IsIt q = q ≡ h

  abbrev pub Far : CallRef → Type 0
  Far p = (rest : List ℕ) → h ≡ below p rest → ⊥

  pub far_deeper : (p : CallRef) (n : ℕ) → Far p → Far (child p n)
  far_deeper p n far rest is = far (n ∷ rest) (is ∙ below_child p n rest)

  pub far_apart : (p : CallRef) → Far p → IsIt p → ⊥
  far_apart p far is = far [] (sym is ∙ sym (below_itself p))

  -- where a place between leads to it
  module _ (t : CallRef) (extra : List ℕ) (leads : h ≡ below t extra) where
    onward : (p : CallRef) (n : ℕ) (path : List ℕ) → t ≡ below p (n ∷ path) → h ≡ below p (n ∷ (path ++ extra))
    onward p n path is = leads ∙ ap (λ q. below q extra) is ∙ below_below p (n ∷ path) extra

    pub aside_far : (p : CallRef) (n m : ℕ) (path : List ℕ) → t ≡ below p (n ∷ path) → (n ≡ m → ⊥) → Far (child p m)
    aside_far p n m path is other rest equal =
        let steps : n ∷ (path ++ extra) ≡ m ∷ rest = below_steps p _ _ (sym (onward p n path is) ∙ equal ∙ below_child p m rest) in
        let heads : n ≡ m = cc in
        other heads

    pub above_it : (p : CallRef) (n : ℕ) (path : List ℕ) → t ≡ below p (n ∷ path) → IsIt p → ⊥
    above_it p n path is it =
        let steps : [] ≡ n ∷ (path ++ extra) = below_steps p _ _ (below_itself p ∙ it ∙ onward p n path is) in cc

-- ==== The variable to whose value a path leads; no statement stands in an expression.

module _ {S : Type 0} where
  pub no_statement : (path : List ℕ) (e : Expression S) (s : Statement S) → node_at (an_expression e) path ≡ Some (a_statement s) → ⊥
  no_statement [] e s is = cc
  no_statement (n ∷ path) e s is =
      let o = and-then-some (λ y. node_at y path) (nth (child_nodes (an_expression e)) n) (a_statement s) is in
      below o.0 (every-nth IsExpression (child_nodes (an_expression e)) n o.0 (may_stand (an_expression e)) o.1) (λ d. no_statement path d s) o.2
    where
      below : (y : Any S) → IsExpression y → ((d : Expression S) → node_at (an_expression d) path ≡ Some (a_statement s) → ⊥) → node_at y path ≡ Some (a_statement s) → ⊥
      below (an_expression d) is_one deeper there = deeper d there
      below (a_statement t) is_one deeper there = is_one
      below (a_block b) is_one deeper there = is_one

  -- a node that stands on the way to another
  pub node_between : (path rest : List ℕ) (x y : Any S) → node_at x path ≡ Some y → node_at x (path ++ rest) ≡ node_at y rest
  node_between [] rest x y is = ap (λ z. node_at z rest) (some-injective x y is)
  node_between (n ∷ path) rest x y is =
      let o = and-then-some (λ z. node_at z path) (nth (child_nodes x) n) y is in
      ap (option_and_then (λ z. node_at z (path ++ rest))) o.1 ∙ node_between path rest o.0 y o.2

  -- ---- whose value a path leads to

  abbrev assigned_name : Any S → Option (List ℕ)
  assigned_name (a_statement (assign s x a e)) = Some x.text
  assigned_name _ = None

  abbrev pub owner : Any S → List ℕ → Option (List ℕ)
  owner x [] = None
  owner x (n ∷ path) = or_option (assigned_name x) (option_and_then (λ y. owner y path) (nth (child_nodes x) n))

  -- an assignment has no statement within it
  none_within : (x : Any S) (n : ℕ) (path : List ℕ) (s : Statement S) → node_at x (n ∷ path) ≡ Some (a_statement s) → assigned_name x ≡ None
  none_within (a_statement (assign r x a e)) zero path s is = absurd (no_statement path e s is)
  none_within (a_statement (assign r x a e)) (suc n) path s is = absurd cc
  none_within (a_statement _) n path s is = refl
  none_within (an_expression e) n path s is = refl
  none_within (a_block b) n path s is = refl

  pub owner_is : (path : List ℕ) (n : ℕ) (rest : List ℕ) (x : Any S) (s : S) (y : Name S) (a : Assignment) (e : Expression S) → node_at x path ≡ Some (a_statement (assign s y a e)) → owner x (path ++ n ∷ rest) ≡ Some y.text
  owner_is [] n rest x s y a e is =
      let same : x ≡ a_statement (assign s y a e) = some-injective x _ is in
      ap (λ z. or_option (assigned_name z) (option_and_then (λ w. owner w rest) (nth (child_nodes z) n))) same
  owner_is (m ∷ path) n rest x s y a e is =
      let o = and-then-some (λ z. node_at z path) (nth (child_nodes x) m) (a_statement (assign s y a e)) is in
      ap (λ z. or_option z (option_and_then (λ w. owner w (path ++ n ∷ rest)) (nth (child_nodes x) m))) (none_within x m path (assign s y a e) is)
      ∙ ap (option_and_then (λ w. owner w (path ++ n ∷ rest))) o.1 ∙ owner_is path n rest o.0 s y a e o.2

-- ---- the assignment of the only value

pub record NamedAt (p : Project Span) (x : List ℕ) (at : CallRef) (it : Expression Span) : Type 0 where
  pub file : BuildFile Span
  pub is_file : nth_file p at.file ≡ Some file
  pub span : Span
  pub name : Name Span
  pub how : Assignment
  pub value : Expression Span
  pub is_node : node_at (a_block (block_of file.tree)) at.path.steps ≡ Some (a_statement (assign span name how value))
  pub is_name : bytes_eq name.text x ≡ true
  pub stands : expression_at p (child at 0) ≡ Some it

file_of : (p : Project Span) (q : Placed (Part Span)) (i : InProject 0 p q) → nth_file p q.place.file ≡ Some i.file
file_of p q i =
    let z : 0 + i.number ≡ i.number = omega arith in
    ap (nth_file p) (i.is_number ∙ z) ∙ i.is_file

module _ (p : Project Span) (x : List ℕ) where
  abbrev AssignedAt : Placed (Assigned Span) → Type 0
  AssignedAt a = NamedAt p x a.place a.it.value

  assigned_at : (q : Placed (Part Span)) (v : Assigned Span) → InProject 0 p q → part_assigned x q.it ≡ Some v → AssignedAt (placed q.place v)
  assigned_at q v i is = go q.it refl is
    where
      given : (s : Span) (y : Name Span) (a : Assignment) (e : Expression Span) (b : Bool) → bytes_eq y.text x ≡ b → q.it ≡ part.a_statement (assign s y a e) → (if b then Some (record { value = e; sets = is_set a }) else None) ≡ Some v
          → AssignedAt (placed q.place v)
      given s y a e true named_so same k =
          let here : record { value = e; sets = is_set a } ≡ v = cc in
          record {
            file = i.file;
            is_file = file_of p q i;
            span = s;
            name = y;
            how = a;
            value = e;
            is_node = i.is_node ∙ ap (λ z. Some (any z)) same;
            is_name = named_so;
            stands = assigned_stands p q s y a e i same ∙ ap (λ (w : Assigned Span). Some w.value) here;
          }
      given s y a e false named_so same k = absurd cc

      stated : (s : Statement Span) → q.it ≡ part.a_statement s → assigned_by x s ≡ Some v → AssignedAt (placed q.place v)
      stated (assign s y a e) same k = given s y a e (bytes_eq y.text x) refl same k
      stated _ same k = absurd cc

      go : (y : Part Span) → q.it ≡ y → part_assigned x y ≡ Some v → AssignedAt (placed q.place v)
      go (part.an_expression f) same k = absurd cc
      go (part.a_statement s) same k = stated s same k

  only_named : (values : List (Placed (Assigned Span))) (v : Placed (Expression Span)) → Every AssignedAt values → only_value values ≡ Some v → (at : CallRef) × (v.place ≡ child at 0) × NamedAt p x at v.it
  only_named [] v all is = absurd cc
  only_named (a ∷ []) v all is = go (a.it.sets && is_outermost a.place.path.steps) is
    where
      go : (b : Bool) → (if b then Some (placed (child a.place 0) a.it.value) else None) ≡ Some v → (at : CallRef) × (v.place ≡ child at 0) × NamedAt p x at v.it
      go true k =
          let same = some-injective _ v k in
          (a.place, sym (ap (λ (w : Placed (Expression Span)). w.place) same), subst (λ (w : Placed (Expression Span)). NamedAt p x a.place w.it) same all.0)
      go false k = absurd cc
  only_named (a ∷ b ∷ more) v all is = absurd cc

  pub single_named : (v : Placed (Expression Span)) → single p x ≡ Some v → (at : CallRef) × (v.place ≡ child at 0) × NamedAt p x at v.it
  single_named v is = go (all_known p && not (is_set_otherwise p x)) is
    where
      go : (b : Bool) → (if b then only_value (assignments p x) else None) ≡ Some v → (at : CallRef) × (v.place ≡ child at 0) × NamedAt p x at v.it
      go true k = only_named (assignments p x) v (every_chosen (InProject 0 p) AssignedAt (part_assigned x) assigned_at (parts p) (every_part 0 p)) k
      go false k = absurd cc

  pub single_stands : (v : Placed (Expression Span)) → single p x ≡ Some v → expression_at p v.place ≡ Some v.it
  single_stands v is = let s = single_named v is in ap (expression_at p) s.1 ∙ s.2.stands

-- ==== A path names the same node in the tree without spans, without its own.

module _ {S : Type 0} where
  through : (path : List ℕ) (o : Option (Any S)) → ((x : Any S) → node_at (erase_any x) path ≡ option_map erase_any (node_at x path))
      → option_and_then (λ y. node_at y path) (option_map erase_any o) ≡ option_map erase_any (option_and_then (λ y. node_at y path) o)
  through path None each = refl
  through path (Some x) each = each x

  pub node_bare : (path : List ℕ) (x : Any S) → node_at (erase_any x) path ≡ option_map erase_any (node_at x path)
  node_bare [] x = refl
  node_bare (n ∷ path) x =
      ap (λ l. option_and_then (λ y. node_at y path) (nth l n)) (children_erased x) ∙ ap (option_and_then (λ y. node_at y path)) (nth_map erase_any (child_nodes x) n) ∙ through path (nth (child_nodes x) n) (node_bare path)

  pub root_bare : (f : File S) → a_block (block_of (erase f)) ≡ erase_any (a_block (block_of f))
  root_bare (file s b) = refl

  expression_bare : (o : Option (Any S)) → option_and_then expression_any (option_map erase_any o) ≡ option_map erase_expression (option_and_then expression_any o)
  expression_bare None = refl
  expression_bare (Some (an_expression e)) = refl
  expression_bare (Some _) = refl

  expression_erased : (f : File S) (path : List ℕ) → expression_on_path (erase f) path ≡ option_map erase_expression (expression_on_path f path)
  expression_erased f path =
      expression-reached Nowhere (erase f) path ∙ ap (λ r. option_and_then expression_any (node_at r path)) (root_bare f)
      ∙ ap (option_and_then expression_any) (node_bare path (a_block (block_of f))) ∙ expression_bare (node_at (a_block (block_of f)) path)
      ∙ ap (option_map erase_expression) (sym (expression-reached S f path))

only_expression : {S : Type 0} (x : Any S) (e : Expression S) → expression_any x ≡ Some e → x ≡ an_expression e
only_expression (an_expression y) e is = ap an_expression (some-injective y e is)
only_expression (a_statement s) e is = absurd cc
only_expression (a_block b) e is = absurd cc

-- the node that a path names, if that is an expression
pub expression_node : (S : Type 0) (f : File S) (path : List ℕ) (e : Expression S) → expression_on_path f path ≡ Some e → node_at (a_block (block_of f)) path ≡ Some (an_expression e)
expression_node S f path e is =
    let o = and-then-some expression_any (node_at (a_block (block_of f)) path) e (sym (expression-reached S f path) ∙ is) in
    o.1 ∙ ap Some (only_expression o.0 e o.2)

pub bare_node : (f : File Span) (path : List ℕ) (e : Expression Span) → expression_on_path f path ≡ Some e → node_at (a_block (block_of (erase f))) path ≡ Some (an_expression (erase_expression e))
bare_node f path e is = expression_node Nowhere (erase f) path (erase_expression e) (expression_erased f path ∙ ap (option_map erase_expression) is)

pub node_with_spans : (f : File Span) (path : List ℕ) (d : Expression Nowhere) → node_at (a_block (block_of (erase f))) path ≡ Some (an_expression d) → (e : Expression Span) × (expression_on_path f path ≡ Some e) × (erase_expression e ≡ d)
node_with_spans f path d is =
    map-some erase_expression (expression_on_path f path) d (sym (expression_erased f path) ∙ expression-reached Nowhere (erase f) path ∙ ap (option_and_then expression_any) is)
