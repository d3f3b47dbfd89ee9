-- What every step of an evaluation keeps, every part of the files keeps.
use Rattle.std.proofs.Common.{◌≡◌, ℕ, zero, suc, ◌+◌, List, [], ◌∷◌, ◌++◌, length, refl, sym, ap₂, subst, arith}
use Rattle.std.specs.Prelude.{⊤, Bool, true, false, ◌||◌, bytes_eq, Option, Some, None}
use Rattle.std.specs.List.{Contains}
use Rattle.std.proofs.lemmas.List.Elements.{Contains-append_left, Contains-append_right}
use Rattle.std.proofs.lemmas.Bool.{or_parts, false≢true}
use Rattle.meson_lex.specs.declared.kinds.Span.{Span}
use Rattle.meson_syntax.specs.Tree.{Name, Expression, Statement, evaluate, assign, selection, iteration, breaks, continues, Branches, no_branches, branch, Otherwise, nothing_else, otherwise, Statements, no_statements, statement, Block, block, File, file}
use Rattle.meson_syntax.specs.declared.operator.Assignment.{Assignment}
use Rattle.meson_calls.specs.declared.call.CallRef.{CallRef}
use Rattle.meson_calls.specs.Calls.{Call, call_of}
use Rattle.meson_calls.specs.Parts.{Part, a_statement, branches_child_count, parts, parts_from, parts_of_block, parts_of_branches, parts_of_expression, parts_of_file, parts_of_otherwise, parts_of_statement, parts_of_statements}
use Rattle.meson_calls.specs.Project.{Project, BuildFile, Placed, child, nth_file, place, placed}
use Rattle.meson_variables.specs.Variables.{one_of_names}
use Rattle.meson_following.specs.declared.effects.Effect.{Effect}
use Rattle.meson_following.specs.declared.effects.Effect.TheVariants.{Nothing, Sets, MaySet, Unsets, Stops, Leaves, Enters, MayEnter}
use Rattle.meson_following.specs.Effects.{any_leaves_file, any_may_set, calls_of, calls_of_listing, effect_of}
use Rattle.meson_following.specs.Flows.{Arrival, Choice, Flow, around, assigned_if, begun, either_flow, entered, flow_block, flow_branches, flow_call, flow_calls, flow_each, flow_effect, flow_expression, flow_file, flow_found, flow_from, flow_loop, flow_otherwise, flow_statement, flow_statements, flow_tree, going_on, known_if, maker, no_branch, then_flow, touched_if, with_block, with_condition}
use Rattle.meson_following.specs.Makers.{Known, Maker, joined, made_unknown, touched}
use Rattle.meson_flow_order.specs.Order.{AreFlows, AreMet, IsKeptBySteps}

-- ---- makers of the variable in parts of the files

-- each assignment to it among these parts is such a maker
abbrev pub Makes : List ℕ → (Maker Span → Type 0) → List (Placed (Part Span)) → Type 0
Makes x P all =
    (q : CallRef) (s : Span) (y : Name Span) (a : Assignment) (e : Expression Span) → Contains all (placed q (a_statement (assign s y a e)))
    → bytes_eq y.text x ≡ true → P (maker q a e)

makes_left : (x : List ℕ) (P : Maker Span → Type 0) (some rest : List (Placed (Part Span))) → Makes x P (some ++ rest) → Makes x P some
makes_left x P some rest makes = λ q s y a e has. makes q s y a e (Contains-append_left some rest (placed q (a_statement (assign s y a e))) has)

makes_right : (x : List ℕ) (P : Maker Span → Type 0) (some rest : List (Placed (Part Span))) → Makes x P (some ++ rest) → Makes x P rest
makes_right x P some rest makes = λ q s y a e has. makes q s y a e (Contains-append_right some rest (placed q (a_statement (assign s y a e))) has)

makes_inside : (x : List ℕ) (P : Maker Span → Type 0) (c : Placed (Part Span)) (rest : List (Placed (Part Span))) → Makes x P (c ∷ rest) → Makes x P rest
makes_inside x P c rest makes = makes_right x P (c ∷ []) rest makes

makes_here : (x : List ℕ) (P : Maker Span → Type 0) (q : CallRef) (s : Span) (y : Name Span) (a : Assignment) (e : Expression Span) (rest : List (Placed (Part Span)))
    → Makes x P (placed q (a_statement (assign s y a e)) ∷ rest) → bytes_eq y.text x ≡ true → P (maker q a e)
makes_here x P q s y a e rest makes is =
    let c = placed q (a_statement (assign s y a e)) in
    makes q s y a e (Contains-append_left (c ∷ []) rest c (0, omega arith, refl)) is

in_project : (n i : ℕ) (p : Project Span) (g : BuildFile Span) (c : Placed (Part Span)) → nth_file p i ≡ Some g → Contains (parts_of_file (n + i) g.tree) c
    → Contains (parts_from n p) c
in_project n i [] g c is has = absurd (let no : ⊥ = cc in no)
in_project n zero (f ∷ files) g c is has =
    let first : n + 0 ≡ n = omega arith in
    let same : g ≡ f = cc in
    Contains-append_left (parts_of_file n f.tree) (parts_from (n + 1) files) c
    (subst (λ h. Contains (parts_of_file n h.tree) c) same (subst (λ m. Contains (parts_of_file m g.tree) c) first has))
in_project n (suc i) (f ∷ files) g c is has =
    let next : n + suc i ≡ (n + 1) + i = omega arith in
    Contains-append_right (parts_of_file n f.tree) (parts_from (n + 1) files) c
    (in_project (n + 1) i files g c is (subst (λ m. Contains (parts_of_file m g.tree) c) next has))

makes_in_file : (x : List ℕ) (P : Maker Span → Type 0) (p : Project Span) (n : ℕ) (g : BuildFile Span) → nth_file p n ≡ Some g → Makes x P (parts p)
    → Makes x P (parts_of_file n g.tree)
makes_in_file x P p n g is makes = λ q s y a e has.
    let first : n ≡ 0 + n = omega arith in
    makes q s y a e (in_project 0 n p g (placed q (a_statement (assign s y a e))) is (subst (λ m. Contains (parts_of_file m g.tree) (placed q (a_statement (assign s y a e)))) first has))

module _ (P : Maker Span → Type 0) (R : Known Span → Known Span → Type 0) (steps : IsKeptBySteps P R) where
  -- ---- flows one after another, or one of them

  met_append : (as_one as_two bs_one bs_two : List (Arrival Span)) → AreMet R as_one as_two → AreMet R bs_one bs_two → AreMet R (as_one ++ bs_one) (as_two ++ bs_two)
  met_append [] [] cs ds first second = second
  met_append [] (b ∷ later) cs ds first second = absurd first
  met_append (a ∷ more) [] cs ds first second = absurd first
  met_append (a ∷ more) (b ∷ later) cs ds first second = (first.0, first.1, met_append more later cs ds first.2 second)

  on_kept : (k l : Known Span) → R k l → AreFlows R (going_on k) (going_on l)
  on_kept k l under = record { now = under; turned = steps.none; ended = steps.none; leaves = refl; stays = λ off. refl; arrivals = tt }

  stays_both : (f g : Flow Span) → (f.leaves ≡ false → f.ended ≡ None) → (g.leaves ≡ false → g.ended ≡ None) → (f.leaves || g.leaves) ≡ false → joined f.ended g.ended ≡ None
  stays_both f g first second off = let both = or_parts f.leaves g.leaves off in ap₂ joined (first both.0) (second both.1)

  pub then_kept : (f g : Flow Span) (more : Known Span → Flow Span) → AreFlows R f g → ((k l : Known Span) → R k l → AreFlows R (more k) (more l))
      → AreFlows R (then_flow f more) (then_flow g more)
  then_kept f g more under keeps =
      let next = keeps f.now g.now under.now in
      record {
        now = next.now;
        turned = steps.joins f.turned (more f.now).turned g.turned (more g.now).turned under.turned next.turned;
        ended = steps.joins f.ended (more f.now).ended g.ended (more g.now).ended under.ended next.ended;
        leaves = ap₂ (λ a b. a || b) under.leaves next.leaves;
        stays = stays_both f (more f.now) under.stays next.stays;
        arrivals = met_append f.arrivals g.arrivals (more f.now).arrivals (more g.now).arrivals under.arrivals next.arrivals;
      }

  pub either_kept : (f g h i : Flow Span) → AreFlows R f g → AreFlows R h i → AreFlows R (either_flow f h) (either_flow g i)
  either_kept f g h i first second = record {
    now = steps.joins f.now h.now g.now i.now first.now second.now;
    turned = steps.joins f.turned h.turned g.turned i.turned first.turned second.turned;
    ended = steps.joins f.ended h.ended g.ended i.ended first.ended second.ended;
    leaves = ap₂ (λ a b. a || b) first.leaves second.leaves;
    stays = stays_both f h first.stays second.stays;
    arrivals = met_append f.arrivals g.arrivals h.arrivals i.arrivals first.arrivals second.arrivals;
  }

  known_if_kept : (b : Bool) (k l : Known Span) → R k l → R (known_if b k) (known_if b l)
  known_if_kept true k l under = under
  known_if_kept false k l under = steps.none

  none_if : (b : Bool) (k : Known Span) → b ≡ false → known_if b k ≡ None
  none_if true k off = absurd (false≢true (sym off))
  none_if false k off = refl

  -- ---- expressions

  touched_if_kept : (b : Bool) (k l : Known Span) → R k l → R (touched_if b k) (touched_if b l)
  touched_if_kept true k l under = steps.touches k l under
  touched_if_kept false k l under = under

  calls_kept : (x : List ℕ) (cs : List (Call Span)) (e : Placed (Expression Span)) (k l : Known Span) → R k l → AreFlows R (flow_calls x cs e k) (flow_calls x cs e l)
  calls_kept x cs e k l under =
      let now = touched_if_kept (any_may_set x cs) k l under in
      record {
        now = now;
        turned = steps.none;
        ended = known_if_kept (any_leaves_file cs) (touched_if (any_may_set x cs) k) (touched_if (any_may_set x cs) l) now;
        leaves = refl;
        stays = none_if (any_leaves_file cs) (touched_if (any_may_set x cs) k);
        arrivals = (refl, now, tt);
      }

  expression_kept : (x : List ℕ) (q : CallRef) (e : Expression Span) (k l : Known Span) → R k l → AreFlows R (flow_expression x q e k) (flow_expression x q e l)
  expression_kept x q e k l under = calls_kept x (calls_of e) (placed q e) k l under

  -- ---- the effect of a call

  entered_kept : (k l : Known Span) (f g : Flow Span) → R k l → AreFlows R f g → AreFlows R (entered k f) (entered l g)
  entered_kept k l f g skipped inside = record {
    now = steps.joins k (joined f.now f.ended) l (joined g.now g.ended) skipped (steps.joins f.now f.ended g.now g.ended inside.now inside.ended);
    turned = inside.turned;
    ended = steps.none;
    leaves = refl;
    stays = λ off. refl;
    arrivals = inside.arrivals;
  }

  -- a loop
  loop_kept : (turn : Known Span → Flow Span) → ((k l : Known Span) → R k l → AreFlows R (turn k) (turn l)) → (k l : Known Span) → R k l
      → AreFlows R (flow_loop turn k) (flow_loop turn l)
  loop_kept turn keeps k l under =
      let once = keeps k l under in
      let f = turn k in
      let g = turn l in
      let before : R (around k f) (around l g) = steps.joins k (joined f.now f.turned) l (joined g.now g.turned) under (steps.joins f.now f.turned g.now g.turned once.now once.turned) in
      record {
        now = before;
        turned = steps.none;
        ended = subst (λ b. R (known_if f.leaves (joined f.ended (around k f))) (known_if b (joined g.ended (around l g)))) once.leaves
            (known_if_kept f.leaves (joined f.ended (around k f)) (joined g.ended (around l g)) (steps.joins f.ended (around k f) g.ended (around l g) once.ended before));
        leaves = once.leaves;
        stays = none_if f.leaves (joined f.ended (around k f));
        arrivals = (keeps (around k f) (around l g) before).arrivals;
      }

  -- ---- statements

  assigned_if_kept : (b : Bool) (m : Maker Span) (k l : Known Span) → (b ≡ true → P m) → R k l → R (assigned_if b m k) (assigned_if b m l)
  assigned_if_kept true m k l makes under = steps.assigns m k l (makes refl) under
  assigned_if_kept false m k l makes under = under

  pub begun_kept : (b : Bool) (k l : Known Span) → R k l → R (begun b k) (begun b l)
  begun_kept true k l under = steps.unknown
  begun_kept false k l under = under

  record AreChoices (c d : Choice Span) : Type 0 where
    taken : AreFlows R c.taken d.taken
    left : R c.left d.left

  condition_kept : (f g h i : Flow Span) → AreFlows R f g → AreFlows R h i → AreChoices (with_condition f h) (with_condition g i)
  condition_kept f g h i first second = record {
    taken = record {
      now = first.now;
      turned = steps.joins f.turned h.turned g.turned i.turned first.turned second.turned;
      ended = steps.joins f.ended h.ended g.ended i.ended first.ended second.ended;
      leaves = ap₂ (λ a b. a || b) first.leaves second.leaves;
      stays = stays_both f h first.stays second.stays;
      arrivals = met_append f.arrivals g.arrivals h.arrivals i.arrivals first.arrivals second.arrivals;
    };
    left = second.now;
  }

  module _ (x : List ℕ) (effect : Placed (Call Span) → Effect) (enter : ℕ → Known Span → Flow Span)
      (enters : (n : ℕ) (k l : Known Span) → R k l → AreFlows R (enter n k) (enter n l)) where
    each_kept : (ns : List ℕ) (f g : Flow Span) → AreFlows R f g → AreFlows R (flow_each enter ns f) (flow_each enter ns g)
    each_kept [] f g under = under
    each_kept (n ∷ ns) f g under =
        let one : Known Span → Flow Span = λ k. entered k (enter n k) in
        each_kept ns (then_flow f one) (then_flow g one) (then_kept f g one under (λ k l now. entered_kept k l (enter n k) (enter n l) now (enters n k l now)))

    effect_kept : (e : Effect) (k l : Known Span) → R k l → AreFlows R (flow_effect enter e k) (flow_effect enter e l)
    effect_kept Nothing k l under = on_kept k l under
    effect_kept Sets k l under = on_kept (Some made_unknown) (Some made_unknown) steps.unknown
    effect_kept MaySet k l under = on_kept (touched k) (touched l) (steps.touches k l under)
    effect_kept Unsets k l under = on_kept None None steps.none
    effect_kept Stops k l under = on_kept None None steps.none
    effect_kept Leaves k l under = record { now = steps.none; turned = steps.none; ended = under; leaves = refl; stays = λ off. absurd (false≢true (sym off)); arrivals = tt }
    effect_kept (Enters n condition) k l under =
        entered_kept (known_if condition k) (known_if condition l) (enter n k) (enter n l) (known_if_kept condition k l under) (enters n k l under)
    effect_kept (MayEnter ns) k l under = each_kept ns (going_on (touched k)) (going_on (touched l)) (on_kept (touched k) (touched l) (steps.touches k l under))

    call_kept : (q : CallRef) (e : Expression Span) (c : Option (Call Span)) (k l : Known Span) → R k l → AreFlows R (flow_call x effect enter q e c k) (flow_call x effect enter q e c l)
    call_kept q e None k l under = expression_kept x q e k l under
    call_kept q e (Some c) k l under =
        let cs = calls_of_listing c.arguments in
        then_kept (flow_calls x cs (placed q e) k) (flow_calls x cs (placed q e) l) (flow_effect enter (effect (placed q c))) (calls_kept x cs (placed q e) k l under)
        (effect_kept (effect (placed q c)))

    mutual
      pub statement_kept : (q : CallRef) (s : Statement Span) → Makes x P (parts_of_statement q s) → (k l : Known Span) → R k l
          → AreFlows R (flow_statement x effect enter q s k) (flow_statement x effect enter q s l)
      statement_kept q (evaluate e) makes k l under = call_kept (child q 0) e (call_of e) k l under
      statement_kept q (assign s y a e) makes k l under =
          then_kept (flow_expression x (child q 0) e k) (flow_expression x (child q 0) e l) (λ now. going_on (assigned_if (bytes_eq y.text x) (maker q a e) now))
          (expression_kept x (child q 0) e k l under)
          (λ k l now. on_kept (assigned_if (bytes_eq y.text x) (maker q a e) k) (assigned_if (bytes_eq y.text x) (maker q a e) l)
          (assigned_if_kept (bytes_eq y.text x) (maker q a e) k l (makes_here x P q s y a e (parts_of_expression (child q 0) e) makes) now))
      statement_kept q (selection s bs o) makes k l under =
          let n = branches_child_count bs in
          let inside = makes_inside x P (placed q (a_statement (selection s bs o))) (parts_of_branches q 0 bs ++ parts_of_otherwise q n o) makes in
          let c = flow_branches x effect enter q 0 bs (no_branch k) in
          let d = flow_branches x effect enter q 0 bs (no_branch l) in
          let choices = branches_kept q 0 bs (makes_left x P (parts_of_branches q 0 bs) (parts_of_otherwise q n o) inside) (no_branch k) (no_branch l)
          record { taken = on_kept None None steps.none; left = under } in
          either_kept c.taken d.taken (flow_otherwise x effect enter q n o c.left) (flow_otherwise x effect enter q n o d.left) choices.taken
          (otherwise_kept q n o (makes_right x P (parts_of_branches q 0 bs) (parts_of_otherwise q n o) inside) c.left d.left choices.left)
      statement_kept q (iteration s xs e b) makes k l under =
          let inside = makes_inside x P (placed q (a_statement (iteration s xs e b))) (parts_of_expression (child q 0) e ++ parts_of_block (child q 1) b) makes in
          let body = makes_right x P (parts_of_expression (child q 0) e) (parts_of_block (child q 1) b) inside in
          let turn : Known Span → Flow Span = λ now. flow_block x effect enter (child q 1) b (begun (one_of_names xs x) now) in
          then_kept (flow_expression x (child q 0) e k) (flow_expression x (child q 0) e l) (flow_loop turn) (expression_kept x (child q 0) e k l under)
          (loop_kept turn
          (λ k l now. block_kept (child q 1) b body (begun (one_of_names xs x) k) (begun (one_of_names xs x) l) (begun_kept (one_of_names xs x) k l now)))
      statement_kept q (breaks s) makes k l under =
          record { now = steps.none; turned = under; ended = steps.none; leaves = refl; stays = λ off. refl; arrivals = tt }
      statement_kept q (continues s) makes k l under =
          record { now = steps.none; turned = under; ended = steps.none; leaves = refl; stays = λ off. refl; arrivals = tt }

      branches_kept : (q : CallRef) (n : ℕ) (bs : Branches Span) → Makes x P (parts_of_branches q n bs) → (c d : Choice Span) → AreChoices c d
          → AreChoices (flow_branches x effect enter q n bs c) (flow_branches x effect enter q n bs d)
      branches_kept q n no_branches makes c d under = under
      branches_kept q n (branch e b more) makes c d under =
          let rest = parts_of_block (child q (n + 1)) b ++ parts_of_branches q (n + 2) more in
          let after = makes_right x P (parts_of_expression (child q n) e) rest makes in
          let body = makes_left x P (parts_of_block (child q (n + 1)) b) (parts_of_branches q (n + 2) more) after in
          let after_c = with_condition c.taken (flow_expression x (child q n) e c.left) in
          let after_d = with_condition d.taken (flow_expression x (child q n) e d.left) in
          let conditions = condition_kept c.taken d.taken (flow_expression x (child q n) e c.left) (flow_expression x (child q n) e d.left) under.taken
          (expression_kept x (child q n) e c.left d.left under.left) in
          let inside_c = flow_block x effect enter (child q (n + 1)) b after_c.left in
          let inside_d = flow_block x effect enter (child q (n + 1)) b after_d.left in
          branches_kept q (n + 2) more (makes_right x P (parts_of_block (child q (n + 1)) b) (parts_of_branches q (n + 2) more) after) (with_block after_c inside_c)
          (with_block after_d inside_d) record {
            taken = either_kept after_c.taken after_d.taken inside_c inside_d conditions.taken (block_kept (child q (n + 1)) b body after_c.left after_d.left conditions.left);
            left = conditions.left;
          }

      otherwise_kept : (q : CallRef) (n : ℕ) (o : Otherwise Span) → Makes x P (parts_of_otherwise q n o) → (k l : Known Span) → R k l
          → AreFlows R (flow_otherwise x effect enter q n o k) (flow_otherwise x effect enter q n o l)
      otherwise_kept q n nothing_else makes k l under = on_kept k l under
      otherwise_kept q n (otherwise b) makes k l under = block_kept (child q n) b makes k l under

      statements_kept : (q : CallRef) (n : ℕ) (list : Statements Span) → Makes x P (parts_of_statements q n list) → (f g : Flow Span) → AreFlows R f g
          → AreFlows R (flow_statements x effect enter q n list f) (flow_statements x effect enter q n list g)
      statements_kept q n no_statements makes f g under = under
      statements_kept q n (statement s more) makes f g under =
          let one = flow_statement x effect enter (child q n) s in
          let first = parts_of_statement (child q n) s in
          let rest = parts_of_statements q (n + 1) more in
          statements_kept q (n + 1) more (makes_right x P first rest makes) (then_flow f one) (then_flow g one)
          (then_kept f g one under (statement_kept (child q n) s (makes_left x P first rest makes)))

      pub block_kept : (q : CallRef) (b : Block Span) → Makes x P (parts_of_block q b) → (k l : Known Span) → R k l
          → AreFlows R (flow_block x effect enter q b k) (flow_block x effect enter q b l)
      block_kept q (block s list) makes k l under = statements_kept q 0 list makes (going_on k) (going_on l) (on_kept k l under)

    tree_kept : (n : ℕ) (t : File Span) → Makes x P (parts_of_file n t) → (k l : Known Span) → R k l → AreFlows R (flow_tree x effect enter n t k) (flow_tree x effect enter n t l)
    tree_kept n (file s b) makes k l under = block_kept (place n []) b makes k l under

  -- ---- files

  found_kept : (flow : BuildFile Span → Known Span → Flow Span) (found : Option (BuildFile Span))
      → ((f : BuildFile Span) → found ≡ Some f → (k l : Known Span) → R k l → AreFlows R (flow f k) (flow f l))
      → (k l : Known Span) → R k l → AreFlows R (flow_found flow found k) (flow_found flow found l)
  found_kept flow None keeps k l under = on_kept (touched k) (touched l) (steps.touches k l under)
  found_kept flow (Some f) keeps k l under = keeps f refl k l under

  pub file_kept : (p : Project Span) (x : List ℕ) → Makes x P (parts p) → (left n : ℕ) (k l : Known Span) → R k l
      → AreFlows R (flow_file p x left n k) (flow_file p x left n l)
  file_kept p x makes zero n k l under = on_kept (touched k) (touched l) (steps.touches k l under)
  file_kept p x makes (suc left) n k l under =
      found_kept (λ f. flow_tree x (effect_of p x f) (flow_file p x left) n f.tree) (nth_file p n)
      (λ f is. tree_kept x (effect_of p x f) (flow_file p x left) (file_kept p x makes left) n f.tree (makes_in_file x P p n f is makes)) k l under

  pub project_kept : (p : Project Span) (x : List ℕ) → Makes x P (parts p) → (n : Option ℕ) → AreFlows R (flow_from p x n) (flow_from p x n)
  project_kept p x makes None = on_kept None None steps.none
  project_kept p x makes (Some n) = file_kept p x makes (length p) n None None steps.none

-- where any maker may be added
pub any_makes : (x : List ℕ) (all : List (Placed (Part Span))) → Makes x (λ m. ⊤) all
any_makes x all = λ q s y a e has is. tt
