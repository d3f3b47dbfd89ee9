-- What is told of the parts of a file, one after another: between what is told of all else stands what is told of a block in it, and of a statement of that.
use Rattle.meson_targets.proofs.Words.{Stay}
use Rattle.meson_targets.proofs.Words.{◌≡◌, ℕ, zero, suc, ◌+◌, List, [], ◌∷◌, ◌++◌, append-nil, append_assoc, Option, Some, None, refl, sym, ap, ap₂, ◌∙◌}
use Rattle.meson_targets.proofs.Words.{subst, arith, option_and_then, option_map, cons_option, File, Any, an_expression, a_statement, a_block, Sort}
use Rattle.meson_targets.proofs.Words.{of_expression, of_statement, of_block, Node, Hole, around, reach, Nowhere, Plain, Name, Expression, Statement, evaluate}
use Rattle.meson_targets.proofs.Words.{assign, selection, iteration, Branches, Otherwise, Statements, no_statements, statement, statement_list, Block, block}
use Rattle.meson_targets.proofs.Words.{file, any_of, block_parts, child_nodes, statements_parts, some-injective, every-nth, and-then-some, map-some, reach-fits}
use Rattle.meson_targets.proofs.Words.{BlockAt, all_but, block_at, block_of_node, block_without, statement_in, RemoveStatement, edited, named_trees, Part}
use Rattle.meson_targets.proofs.Words.{parts_of_file, parts_from, BuildFile, Placed, Project, child, nth_file, place, CallRef, itself, parts_are, parts_below}
use Rattle.meson_targets.proofs.Words.{parts_of, IsExpression, may_stand, changed_at, block_any, no_block_reached, StatementPlace}
use Rattle.meson_syntax.specs.Paths as paths
use Rattle.meson_edit.proofs.paths.Positions.{every-at-nth}
use Rattle.meson_calls.specs.Parts as part
use Rattle.meson_steps.proofs.ToldAlike as alike
use Rattle.meson_steps.proofs.ToldAlike.{anywhere}
use Rattle.meson_steps.proofs.PartsPut.{Differ, PutsAmong, children_put, differ_new, here, there}

module _ {Y : Type 0} (tell : Part Nowhere → Option Y) where
  abbrev pub told : List (Placed (Part Nowhere)) → List Y
  told = alike.told (λ q. tell q.it)

  both : (xs ys : List (Placed (Part Nowhere))) → told (xs ++ ys) ≡ told xs ++ told ys
  both = alike.told_both (λ q. tell q.it)

  -- ---- around a statement or a block

  -- a place, whichever it is
  abbrev nowhere : CallRef
  nowhere = place 0 []

  abbrev of_any : Any Nowhere → List Y
  of_any x = told (parts_of nowhere x)

  abbrev of_node : (sort : Sort) → Node sort Nowhere → List Y
  of_node sort x = of_any (any_of Nowhere sort x)

  abbrev of_nodes : List (Any Nowhere) → List Y
  of_nodes [] = []
  of_nodes (x ∷ xs) = of_any x ++ of_nodes xs

  below_told : (n : ℕ) (xs : List (Any Nowhere)) → told (parts_below nowhere n xs) ≡ of_nodes xs
  below_told n [] = refl
  below_told n (x ∷ xs) = both (parts_of (child nowhere n) x) (parts_below nowhere (n + 1) xs) ∙ ap₂ (λ l m. l ++ m) (anywhere tell (child nowhere n) nowhere x) (below_told (n + 1) xs)

  -- what is told before and behind a node that stands in something
  pub record Between {T : Type 0} (whole : T → List Y) (sort : Sort) (back : Node sort Nowhere → T) : Type 0 where
    pub front : List Y
    pub behind : List Y
    pub are : (y : Node sort Nowhere) → whole (back y) ≡ front ++ (of_node sort y ++ behind)

  abbrev AroundBy : {T : Type 0} (whole : T → List Y) (sort : Sort) → (Node sort Nowhere → T) → Type 0
  AroundBy whole of_expression back = Unit {0}
  AroundBy whole of_statement back = Between whole of_statement back
  AroundBy whole of_block back = Between whole of_block back

  abbrev Around : {T : Type 0} (whole : T → List Y) → Hole Nowhere T → Type 0
  Around whole h = AroundBy whole h.sort h.back

  regroup : (a b c d e : List Y) → a ++ ((b ++ (c ++ d)) ++ e) ≡ (a ++ b) ++ (c ++ (d ++ e))
  regroup a b c d e = simp append_assoc

  regroup_two : (a b c d : List Y) → a ++ ((b ++ c) ++ d) ≡ (a ++ b) ++ (c ++ d)
  regroup_two a b c d = simp append_assoc

  module _ {T U : Type 0} (whole : T → List Y) (other : U → List Y) (make : T → U) (ahead after : List Y) (told_of : (x : T) → other (make x) ≡ ahead ++ (whole x ++ after)) where
    wider : (sort : Sort) (back : Node sort Nowhere → T) → Between whole sort back → Between other sort (λ y. make (back y))
    wider sort back b = record {
      front = ahead ++ b.front;
      behind = b.behind ++ after;
      are = λ y. told_of (back y) ∙ ap (λ l. ahead ++ (l ++ after)) (b.are y) ∙ regroup ahead b.front (of_node sort y) b.behind after;
    }

  -- what is told before and behind the n-th of some nodes
  abbrev front_of : ℕ → List (Any Nowhere) → List Y
  front_of n [] = []
  front_of zero (x ∷ xs) = []
  front_of (suc n) (x ∷ xs) = of_any x ++ front_of n xs

  abbrev behind_of : ℕ → List (Any Nowhere) → List Y
  behind_of n [] = []
  behind_of zero (x ∷ xs) = of_nodes xs
  behind_of (suc n) (x ∷ xs) = behind_of n xs

  differ_told : {old new : Any Nowhere} {n : ℕ} {xs ys : List (Any Nowhere)} → Differ old new n xs ys → of_nodes ys ≡ front_of n xs ++ (of_any new ++ behind_of n xs)
  differ_told here = refl
  differ_told {old} {new} (there {x = x} {n = n} {xs = xs} {ys = ys} d) = ap (λ l. of_any x ++ l) (differ_told d) ∙ sym (append_assoc (of_any x) (front_of n xs) (of_any new ++ behind_of n xs))

  -- ---- a block without one of its statements

  -- what is told of a statement stands in one place of what is told before it goes
  pub record Cut (before gone after : List Y) : Type 0 where
    pub front : List Y
    pub behind : List Y
    pub had : before ≡ front ++ (gone ++ behind)
    pub has : after ≡ front ++ behind

  within : (ahead : List Y) (before gone after behind : List Y) → Cut before gone after → Cut (ahead ++ (before ++ behind)) gone (ahead ++ (after ++ behind))
  within ahead before gone after behind c = record {
    front = ahead ++ c.front;
    behind = c.behind ++ behind;
    had = ap (λ l. ahead ++ (l ++ behind)) c.had ∙ regroup ahead c.front gone c.behind behind;
    has = ap (λ l. ahead ++ (l ++ behind)) c.has ∙ regroup_two ahead c.front c.behind behind;
  }

  row_cut : (list : Statements Nowhere) (n : ℕ) (x : Statement Nowhere) → paths.nth (statement_list list) n ≡ Some x
      → Cut (of_nodes (statements_parts list)) (of_node of_statement x) (of_nodes (statements_parts (all_but list n)))
  row_cut no_statements n x is = absurd cc
  row_cut (statement s more) zero x is = record {
    front = [];
    behind = of_nodes (statements_parts more);
    had = ap (λ y. of_node of_statement y ++ of_nodes (statements_parts more)) (some-injective s x is);
    has = refl;
  }
  row_cut (statement s more) (suc n) x is =
      let c = row_cut more n x is in
      let own = of_node of_statement s in
      record {
        front = own ++ c.front;
        behind = c.behind;
        had = ap (λ l. own ++ l) c.had ∙ sym (append_assoc own c.front (of_node of_statement x ++ c.behind));
        has = ap (λ l. own ++ l) c.has ∙ sym (append_assoc own c.front c.behind);
      }

  block_told : (b : Block Nowhere) → of_node of_block b ≡ of_nodes (block_parts b)
  block_told b = ap told (parts_are nowhere (a_block b)) ∙ below_told 0 (block_parts b)

  block_cut : (b : Block Nowhere) (n : ℕ) (x : Statement Nowhere) → statement_in b n ≡ Some x → Cut (of_node of_block b) (of_node of_statement x) (of_node of_block (block_without b n))
  block_cut (block s list) n x is =
      let c = row_cut list n x is in
      record { front = c.front; behind = c.behind; had = block_told (block s list) ∙ c.had; has = block_told (block s (all_but list n)) ∙ c.has }

  -- of a statement that holds blocks itself nothing is told
  module _ (no_selection : (s : Nowhere) (bs : Branches Nowhere) (o : Otherwise Nowhere) → tell (part.a_statement (selection s bs o)) ≡ None)
      (no_iteration : (s : Nowhere) (xs : List (Name Nowhere)) (e : Expression Nowhere) (b : Block Nowhere) → tell (part.a_statement (iteration s xs e b)) ≡ None) where
    -- nor of a block, so of what has a child that is no expression nothing is told itself
    silent : (x : Any Nowhere) (n : ℕ) (y : Any Nowhere) → paths.nth (child_nodes x) n ≡ Some y → (IsExpression y → ⊥) → (qs : List (Placed (Part Nowhere))) → told (itself nowhere x ++ qs) ≡ told qs
    silent (an_expression e) n y is other qs = absurd (other (every-nth IsExpression (child_nodes (an_expression e)) n y (may_stand (an_expression e)) is))
    silent (a_statement (evaluate e)) zero y is other qs = absurd (other (subst IsExpression (some-injective (an_expression e) y is) tt))
    silent (a_statement (assign s x a e)) zero y is other qs = absurd (other (subst IsExpression (some-injective (an_expression e) y is) tt))
    silent (a_statement (selection s bs o)) n y is other qs = ap (λ v. cons_option v (told qs)) (no_selection s bs o)
    silent (a_statement (iteration s xs e b)) n y is other qs = ap (λ v. cons_option v (told qs)) (no_iteration s xs e b)
    silent (a_statement _) n y is other qs = absurd cc
    silent (a_block b) n y is other qs = refl

    abbrev PutsIn : (sort : Sort) (x : Node sort Nowhere) (n : ℕ) (middle : Sort) (inside : Node middle Nowhere) → (Node middle Nowhere → Node sort Nowhere) → Type 0
    PutsIn sort x n middle inside back =
        (y : Node middle Nowhere) → Differ (any_of Nowhere middle inside) (any_of Nowhere middle y) n (child_nodes (any_of Nowhere sort x)) (child_nodes (any_of Nowhere sort (back y)))

    between : (sort : Sort) (x : Node sort Nowhere) (n : ℕ) (middle : Sort) (inside : Node middle Nowhere) (back : Node middle Nowhere → Node sort Nowhere) → PutsIn sort x n middle inside back
        → ((y : Node middle Nowhere) → IsExpression (any_of Nowhere middle y) → ⊥) → Between (of_node sort) middle back
    between sort x n middle inside back puts other = record {
      front = front_of n (child_nodes (any_of Nowhere sort x));
      behind = behind_of n (child_nodes (any_of Nowhere sort x));
      are = λ y.
          let z = any_of Nowhere sort (back y) in
          ap told (parts_are nowhere z)
          ∙ silent z n (any_of Nowhere middle y) (differ_new (any_of Nowhere middle inside) (any_of Nowhere middle y) (puts y)) (other y) (parts_below nowhere 0 (child_nodes z))
          ∙ below_told 0 (child_nodes z) ∙ differ_told (puts y);
    }

    around_by : (sort : Sort) (x : Node sort Nowhere) (n : ℕ) (middle : Sort) (inside : Node middle Nowhere) (back : Node middle Nowhere → Node sort Nowhere) → PutsIn sort x n middle inside back
        → AroundBy (of_node sort) middle back
    around_by sort x n of_expression inside back puts = tt
    around_by sort x n of_statement inside back puts = between sort x n of_statement inside back puts (λ y is. is)
    around_by sort x n of_block inside back puts = between sort x n of_block inside back puts (λ y is. is)

    around_child : (sort : Sort) (x : Node sort Nowhere) (n : ℕ) (g : Hole Nowhere (Node sort Nowhere)) → paths.nth_hole Nowhere sort x n ≡ Some g → Around (of_node sort) g
    around_child sort x n g is =
        around_by sort x n g.sort g.inside g.back (every-at-nth (PutsAmong Nowhere sort x) 0 n n (paths.children Nowhere sort x) g (omega arith) (children_put Nowhere sort x) is)

    -- ---- along a path to a block

    abbrev ToBlock : {T : Type 0} (whole : T → List Y) (sort : Sort) → (Node sort Nowhere → T) → Type 0
    ToBlock whole of_expression back = Unit {0}
    ToBlock whole of_statement back = Unit {0}
    ToBlock whole of_block back = Between whole of_block back

    -- none stands in an expression
    none_in : {T : Type 0} (whole : T → List Y) (sort : Sort) (x : Node sort Nowhere) (back : Node sort Nowhere → T) → block_any (any_of Nowhere sort x) ≡ None → ToBlock whole sort back
    none_in whole of_expression x back none = tt
    none_in whole of_statement x back none = tt
    none_in whole of_block x back none = absurd cc

    module _ {T : Type 0} (whole : T → List Y) where
      further : (middle : Sort) (back : Node middle Nowhere → T) → Between whole middle back → (sort : Sort) (inner : Node sort Nowhere → Node middle Nowhere) → ToBlock (of_node middle) sort inner
          → ToBlock whole sort (λ y. back (inner y))
      further middle back b of_expression inner c = tt
      further middle back b of_statement inner c = tt
      further middle back b of_block inner c = wider (of_node middle) whole back b.front b.behind b.are of_block inner c

    abbrev Leads : (sort : Sort) → Hole Nowhere (Node sort Nowhere) → Type 0
    Leads sort h = ToBlock (of_node sort) h.sort h.back

    at_itself : (sort : Sort) → ToBlock (of_node sort) sort (λ (y : Node sort Nowhere). y)
    at_itself of_expression = tt
    at_itself of_statement = tt
    at_itself of_block = record { front = []; behind = []; are = λ y. sym (append-nil (of_node of_block y)) }

    -- the next child, and what it leads to
    onward : (sort : Sort) (g : Hole Nowhere (Node sort Nowhere)) (path : List ℕ) (i : Hole Nowhere (Node g.sort Nowhere)) → reach Nowhere g.sort g.inside path ≡ Some i → Around (of_node sort) g → Leads g.sort i
        → Leads sort (around g.before g.behind g.back i)
    onward sort g path i is about leads = by g.sort g.inside g.back i is about leads where
      by : (middle : Sort) (x : Node middle Nowhere) (back : Node middle Nowhere → Node sort Nowhere) (j : Hole Nowhere (Node middle Nowhere)) → reach Nowhere middle x path ≡ Some j → AroundBy (of_node sort) middle back
          → Leads middle j → ToBlock (of_node sort) j.sort (λ y. back (j.back y))
      by of_expression x back j found b l = none_in (of_node sort) j.sort j.inside (λ y. back (j.back y)) (no_block_reached x path j found)
      by of_statement x back j found b l = further (of_node sort) of_statement back b j.sort j.back l
      by of_block x back j found b l = further (of_node sort) of_block back b j.sort j.back l

    around_children : (sort : Sort) (x : Node sort Nowhere) (n : ℕ) (g : Hole Nowhere (Node sort Nowhere)) → paths.nth_hole Nowhere sort x n ≡ Some g → (path : List ℕ) (i : Hole Nowhere (Node g.sort Nowhere))
        → reach Nowhere g.sort g.inside path ≡ Some i → Leads g.sort i → Leads sort (around g.before g.behind g.back i)
    around_children of_expression x n g is path i found l =
        none_in (of_node of_expression) i.sort i.inside (λ y. g.back (i.back y)) (no_block_reached x (n ∷ path) (around g.before g.behind g.back i)
        (ap (option_and_then (λ h. option_map (around h.before h.behind h.back) (reach Nowhere h.sort h.inside path))) is ∙ ap (option_map (around g.before g.behind g.back)) found))
    around_children of_statement x n g is path i found l = onward of_statement g path i found (around_child of_statement x n g is) l
    around_children of_block x n g is path i found l = onward of_block g path i found (around_child of_block x n g is) l

    leads : (sort : Sort) (x : Node sort Nowhere) (path : List ℕ) (h : Hole Nowhere (Node sort Nowhere)) → reach Nowhere sort x path ≡ Some h → Leads sort h
    leads sort x [] h is = subst (Leads sort) (some-injective _ _ is) (at_itself sort)
    leads sort x (n ∷ path) h is =
        let o = and-then-some (λ g. option_map (around g.before g.behind g.back) (reach Nowhere g.sort g.inside path)) (paths.nth_hole Nowhere sort x n) h is in
        let g = o.0 in
        let m = map-some (around g.before g.behind g.back) (reach Nowhere g.sort g.inside path) h o.2 in
        subst (Leads sort) m.2 (around_children sort x n g o.1 path m.0 m.1 (leads g.sort g.inside path m.0 m.1))

    -- ---- a file without a statement

    abbrev of_file : ℕ → Plain → List Y
    of_file n t = told (parts_of_file n t)

    file_is : (n : ℕ) (s : Nowhere) (b : Block Nowhere) → of_file n (file s b) ≡ of_node of_block b
    file_is n s b = anywhere tell (place n []) nowhere (a_block b)

    file_by : (s : Nowhere) (whole : Block Nowhere) (sort : Sort) (x : Node sort Nowhere) (back : Node sort Nowhere → Block Nowhere) → ToBlock (of_node of_block) sort back → back x ≡ whole → (b : BlockAt Nowhere)
        → block_of_node Nowhere sort x (file s whole) back ≡ Some b → (n : ℕ) (it : Statement Nowhere) → statement_in b.inside n ≡ Some it
        → (m : ℕ) → Cut (of_file m (file s whole)) (of_node of_statement it) (of_file m (b.back (block_without b.inside n)))
    file_by s whole of_expression x back leads same b is n it is_it m = absurd cc
    file_by s whole of_statement x back leads same b is n it is_it m = absurd cc
    file_by s whole of_block x back leads same b is n it is_it m =
        let it_in = ap (λ (c : BlockAt Nowhere). statement_in c.inside n) (some-injective _ _ is) ∙ is_it in
        let inner = within leads.front (of_node of_block x) (of_node of_statement it) (of_node of_block (block_without x n)) leads.behind (block_cut x n it it_in) in
        let cut : Cut (of_file m (file s whole)) (of_node of_statement it) (of_file m (file s (back (block_without x n)))) = record {
          front = inner.front;
          behind = inner.behind;
          had = file_is m s whole ∙ ap (of_node of_block) (sym same) ∙ leads.are x ∙ inner.had;
          has = file_is m s (back (block_without x n)) ∙ leads.are (block_without x n) ∙ inner.has;
        } in
        subst (λ (c : BlockAt Nowhere). Cut (of_file m (file s whole)) (of_node of_statement it) (of_file m (c.back (block_without c.inside n)))) (some-injective _ _ is) cut

    pub file_cut : (t : Plain) (path : List ℕ) (b : BlockAt Nowhere) → block_at t path ≡ Some b → (n : ℕ) (it : Statement Nowhere) → statement_in b.inside n ≡ Some it
        → (m : ℕ) → Cut (of_file m t) (of_node of_statement it) (of_file m (b.back (block_without b.inside n)))
    file_cut (file s whole) path b is n it is_it m =
        let o = and-then-some (λ h. block_of_node Nowhere h.sort h.inside (file s whole) h.back) (reach Nowhere of_block whole path) b is in
        let h = o.0 in
        file_by s whole h.sort h.inside h.back (leads of_block whole path h o.1) (reach-fits Nowhere of_block whole path h o.1).same b o.2 n it is_it m

    -- ---- a project without a statement

    abbrev of_project : ℕ → Project Nowhere → List Y
    of_project n p = told (parts_from n p)

    pub project_cut : (line : StatementPlace) (it : Statement Nowhere) (files : List File) (before after : List Plain) (n i : ℕ) (f : BuildFile Nowhere) → nth_file (named_trees files before) i ≡ Some f
        → option_and_then (λ (b : BlockAt Nowhere). statement_in b.inside line.number) (block_at f.tree line.block.path.steps) ≡ Some it
        → changed_at i (edited (RemoveStatement Stay line.block.path.steps line.number)) before ≡ Some after
        → Cut (of_project n (named_trees files before)) (of_node of_statement it) (of_project n (named_trees files after))
    project_cut line it [] before after n i f is_file is_it made = absurd cc
    project_cut line it (g ∷ files) [] after n i f is_file is_it made = absurd cc
    project_cut line it (g ∷ files) (t ∷ ts) after n zero f is_file is_it made =
        let path = line.block.path.steps in
        let is_tree : t ≡ f.tree = ap (λ (h : BuildFile Nowhere). h.tree) (some-injective _ _ is_file) in
        let o = map-some (λ y. y ∷ ts) (edited (RemoveStatement Stay path line.number) t) after made in
        let b = and-then-some (λ (c : BlockAt Nowhere). option_map (λ s. c.back (block_without c.inside line.number)) (statement_in c.inside line.number)) (block_at t path) o.0 o.1 in
        let m = map-some (λ (s : Statement Nowhere). b.0.back (block_without b.0.inside line.number)) (statement_in b.0.inside line.number) o.0 b.2 in
        let here_it : statement_in b.0.inside line.number ≡ Some it =
        sym (ap (option_and_then (λ (c : BlockAt Nowhere). statement_in c.inside line.number)) b.1) ∙ ap (λ u. option_and_then (λ (c : BlockAt Nowhere). statement_in c.inside line.number) (block_at u path)) is_tree ∙ is_it in
        let c = file_cut t path b.0 b.1 line.number it here_it n in
        let rest = of_project (n + 1) (named_trees files ts) in
        let w = within [] (of_file n t) (of_node of_statement it) (of_file n (b.0.back (block_without b.0.inside line.number))) rest c in
        record {
          front = w.front;
          behind = w.behind;
          had = both (parts_of_file n t) (parts_from (n + 1) (named_trees files ts)) ∙ w.had;
          has =
              ap (λ us. of_project n (named_trees (g ∷ files) us)) (sym o.2) ∙ both (parts_of_file n o.0) (parts_from (n + 1) (named_trees files ts))
              ∙ ap (λ u. of_file n u ++ rest) (sym m.2) ∙ w.has;
        }
    project_cut line it (g ∷ files) (t ∷ ts) after n (suc i) f is_file is_it made =
        let o = map-some (λ l. t ∷ l) (changed_at i (edited (RemoveStatement Stay line.block.path.steps line.number)) ts) after made in
        let c = project_cut line it files ts o.0 (n + 1) i f is_file is_it o.1 in
        let own = of_file n t in
        record {
          front = own ++ c.front;
          behind = c.behind;
          had =
              both (parts_of_file n t) (parts_from (n + 1) (named_trees files ts)) ∙ ap (λ l. own ++ l) c.had ∙ sym (append_assoc own c.front (of_node of_statement it ++ c.behind));
          has =
              ap (λ us. of_project n (named_trees (g ∷ files) us)) (sym o.2) ∙ both (parts_of_file n t) (parts_from (n + 1) (named_trees files o.0))
              ∙ ap (λ l. own ++ l) c.has ∙ sym (append_assoc own c.front c.behind);
        }
