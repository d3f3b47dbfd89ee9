-- Statements do what they did, without the literals that are left out of lists.
use Rattle.std.proofs.Common.{◌≡◌, ℕ, zero, suc, ◌+◌, List, [], ◌∷◌, Option, Some, None, refl, ap, ◌∙◌}
use Rattle.std.specs.Prelude.{Bool, true, false, map, flat_map, option_map, bytes_eq, ◌||◌}
use Rattle.std.proofs.Math.Path.{fun_ext}
use Rattle.meson_syntax.specs.declared.operator.Assignment.{Assignment}
use Rattle.meson_syntax.specs.declared.operator.Assignment.TheVariants as assigns
use Rattle.meson_syntax.specs.Paths.{nth}
use Rattle.meson_syntax.specs.Tree.{Name, Expression, Statement, evaluate, assign, selection, iteration, breaks, continues, Branches, no_branches, branch, Otherwise, nothing_else, otherwise, Statements, no_statements, statement, Block, block, File, file}
use Rattle.meson_calls.specs.declared.call.CallRef.{CallRef}
use Rattle.meson_calls.specs.Calls.{Call}
use Rattle.meson_calls.specs.Parts.{branches_child_count}
use Rattle.meson_calls.specs.Project.{Placed, child, placed}
use Rattle.meson_variables.specs.Variables.{one_of_names}
use Rattle.meson_following.specs.declared.effects.Effect.{Effect}
use Rattle.meson_following.specs.declared.effects.Effect.TheVariants.{Nothing, Sets, MaySet, Unsets, Stops, Leaves, Enters, MayEnter}
use Rattle.meson_meaning.specs.Expressions.{of_another, sort_of}
use Rattle.meson_meaning.specs.Running.{Entry, added_to, after_turn, assigned, done, enter_one, entering, entry_of, file_over, run_block, run_branches, run_evaluated, run_otherwise, run_statement, run_statements, run_tree, turns}
use Rattle.meson_meaning.specs.States.{Choices, Going, State, any_name, asks, chosen, on, out_of_file, out_of_turn, stops, touched, with_unknown, with_use, with_variable}
use Rattle.meson_meaning.specs.Subdirs.{BlockHolds, BranchesHold, EntryHolds, FileHolds, OtherwiseHolds, StatementHolds, StatementsHold}
use Rattle.meson_meaning.specs.Values.{Given, Value, values_of}
use Rattle.meson_meaning.specs.Without.{name_as, block_without, branches_without, call_without, expression_without, loses, otherwise_without, state_without, statement_without, statements_without, tree_without, value_without}
use Rattle.meson_meaning.proofs.Alongs.{Along, asks_along, chosen_along, going_without, if_along, on_along, same_along, step_along, then_along, touched_along, unknown_along, use_along, variable_along}
use Rattle.meson_meaning.proofs.ExpressionsAlong.{expression_along, listing_along, sum_along}
use Rattle.meson_meaning.proofs.GivenLists.{givens_without, values_kept}
use Rattle.meson_meaning.proofs.SubdirsAlong.{entry_sort, entry_stays, entry_without}

module _ {S T : Type 0} (to : S → T) (gone : S → Bool) (ch : Choices) where
  abbrev less : State S → State T
  less = state_without to gone

  abbrev vw : Value S → Value T
  vw = value_without to gone

  abbrev pub Does : (small : State T → Going T (Unit {0})) (large : State S → Going S (Unit {0})) → Type 0
  Does small large = Along to gone (λ x. x) small large

  pub ends : Does (on tt) (on tt)
  ends = on_along to gone (λ x. x) tt tt refl

  pub any_touched : Does (λ st. on tt (touched ch any_name st)) (λ st. on tt (touched ch any_name st))
  any_touched = record { at_state = λ st. ap (on tt) (touched_along to gone ch any_name st) }

  -- ---- assignments

  put_along : (x : List ℕ) (v : Value S) → Does (λ st. on tt (with_variable x (Some (vw v)) st)) (λ st. on tt (with_variable x (Some v) st))
  put_along x v = record { at_state = λ st. ap (on tt) (variable_along to gone x (Some v) st) }

  added_along : (n : ℕ) (x : List ℕ) (o : Option (Value S)) (v : Value S) (st : State S)
      → added_to ch x (option_map vw o) (vw v) (less st) ≡ going_without to gone (λ y. y) (added_to ch x o v st)
  added_along n x None v st = refl
  added_along n x (Some u) v st =
      (then_along to gone (λ w now. on tt (with_variable x (Some w) now)) (λ w now. on tt (with_variable x (Some w) now)) (sum_along to gone ch n u v) (λ w. put_along x w)).at_state st

  assigned_along : (n : ℕ) (a : Assignment) (x : List ℕ) (v : Value S) → Does (assigned ch a x (vw v)) (assigned ch a x v)
  assigned_along n assigns.Set x v = put_along x v
  assigned_along n assigns.Add x v = record { at_state = λ st. added_along n x (st.variables x) v st }

  -- ---- loops

  turn_along : (small : State T → Going T (Unit {0})) (large : State S → Going S (Unit {0})) → Does small large → (m : Going S (Unit {0}))
      → after_turn small (going_without to gone (λ x. x) m) ≡ going_without to gone (λ x. x) (after_turn large m)
  turn_along small large rest (on x st) = rest.at_state st
  turn_along small large rest (out_of_turn true st) = refl
  turn_along small large rest (out_of_turn false st) = rest.at_state st
  turn_along small large rest (out_of_file st) = refl
  turn_along small large rest (stops st) = refl

  turns_along : {small : State T → Going T (Unit {0})} {large : State S → Going S (Unit {0})} (n : ℕ) → Does small large → Does (turns n small) (turns n large)
  turns_along zero turn = ends
  turns_along {small} {large} (suc n) turn =
      record { at_state = λ st. ap (after_turn (turns n small)) (turn.at_state st) ∙ turn_along (turns n small) (turns n large) (turns_along n turn) (large st) }

  -- ---- files

  over_along : {small : State T → Going T (Unit {0})} {large : State S → Going S (Unit {0})} → Does small large → Does (λ st. file_over (small st)) (λ st. file_over (large st))
  over_along {small} {large} along = record { at_state = λ st. ap file_over (along.at_state st) ∙ go (large st) }
    where
      go : (m : Going S (Unit {0})) → file_over (going_without to gone (λ x. x) m) ≡ going_without to gone (λ x. x) (file_over m)
      go (on x st) = refl
      go (out_of_turn ended st) = refl
      go (out_of_file st) = refl
      go (stops st) = refl

  -- files that are entered do what they did
  module _ (enter' : ℕ → State T → Going T (Unit {0})) (enter : ℕ → State S → Going S (Unit {0})) (files_along : (k : ℕ) → Does (enter' k) (enter k)) where
    one_along : (o : Option ℕ) → Does (enter_one ch enter' o) (enter_one ch enter o)
    one_along None = any_touched
    one_along (Some k) = files_along k

    entering_along : (e : Effect) → Does (entering ch enter' e) (entering ch enter e)
    entering_along (Enters k condition) =
        if_along to gone condition condition refl
        (asks_along to gone ch (λ a. chosen a (enter' k) (on tt)) (λ a. chosen a (enter k) (on tt)) (λ a. chosen_along to gone a (files_along k) ends))
        (files_along k)
    entering_along (MayEnter ns) = asks_along to gone ch (λ a. enter_one ch enter' (nth ns a)) (λ a. enter_one ch enter (nth ns a)) (λ a. one_along (nth ns a))
    entering_along Nothing = any_touched
    entering_along Sets = any_touched
    entering_along MaySet = any_touched
    entering_along Unsets = any_touched
    entering_along Stops = any_touched
    entering_along Leaves = any_touched

    -- ---- statements, where each `subdir` has the effect that it had

    module _ (n : ℕ) (effect' : Placed (Call T) → Effect) (effect : Placed (Call S) → Effect) (Holds : Placed (Call S) → Type 0)
        (same_effect : (q : CallRef) (c : Call S) → sort_of c ≡ of_another → Holds (placed q c) → effect' (placed q (call_without to gone c)) ≡ effect (placed q c)) where
      entry_along : (q : CallRef) (e : Expression S) (o : Option (Entry S)) → entry_of e ≡ o → EntryHolds Holds q o
          → Does (run_evaluated ch n effect' enter' q (expression_without to gone e) (option_map (entry_without to gone) o)) (run_evaluated ch n effect enter q e o)
      entry_along q e None is holds = then_along to gone done done (expression_along to gone ch n e) (λ v. ends)
      entry_along q e (Some c) is holds =
          then_along to gone
          (λ gs now. entering ch enter' (effect' (placed q (call_without to gone c.call))) (with_use (to c.place) (flat_map values_of gs) now))
          (λ gs now. entering ch enter (effect (placed q c.call)) (with_use c.place (flat_map values_of gs) now))
          (listing_along to gone ch n (loses (sort_of c.call)) c.call.arguments)
          (λ gs. step_along to gone (with_use (to c.place) (flat_map values_of (givens_without to gone (loses (sort_of c.call)) gs))) (with_use c.place (flat_map values_of gs))
          (λ st. use_along to gone c.place (flat_map values_of gs) (flat_map values_of (givens_without to gone (loses (sort_of c.call)) gs)) st (all_kept gs))
          (same_along to gone (ap (entering ch enter') (same_effect q c.call another holds)) (entering_along (effect (placed q c.call)))))
        where
          another : sort_of c.call ≡ of_another
          another = entry_sort to gone e c is

          all_kept : (gs : List (Given S)) → flat_map values_of (givens_without to gone (loses (sort_of c.call)) gs) ≡ map vw (flat_map values_of gs)
          all_kept gs = ap (λ s. flat_map values_of (givens_without to gone (loses s) gs)) another ∙ values_kept to gone gs

      names_stay : (xs : List (Name S)) (y : List ℕ) → one_of_names (map (name_as to gone) xs) y ≡ one_of_names xs y
      names_stay [] y = refl
      names_stay (x ∷ xs) y = ap (λ b. bytes_eq x.text y || b) (names_stay xs y)

      count_stays : (bs : Branches S) → branches_child_count (branches_without to gone bs) ≡ branches_child_count bs
      count_stays no_branches = refl
      count_stays (branch e b more) = ap (λ k. 2 + k) (count_stays more)

      mutual
        statement_along : (q : CallRef) (s : Statement S) → StatementHolds Holds q s
            → Does (run_statement ch n effect' enter' q (statement_without to gone s)) (run_statement ch n effect enter q s)
        statement_along q (evaluate e) holds =
            same_along to gone (ap (run_evaluated ch n effect' enter' (child q 0) (expression_without to gone e)) (entry_stays to gone e)) (entry_along (child q 0) e (entry_of e) refl holds)
        statement_along q (assign s x a e) holds = then_along to gone (assigned ch a x.text) (assigned ch a x.text) (expression_along to gone ch n e) (λ v. assigned_along n a x.text v)
        statement_along q (selection s bs o) holds =
            same_along to gone (ap (λ k. run_branches ch n effect' enter' (to s) q 0 (branches_without to gone bs) (run_otherwise ch n effect' enter' q k (otherwise_without to gone o))) (count_stays bs))
            (branches_along s q 0 bs (run_otherwise ch n effect' enter' q (branches_child_count bs) (otherwise_without to gone o)) (run_otherwise ch n effect enter q (branches_child_count bs) o)
            holds.0 (otherwise_along q (branches_child_count bs) o holds.1))
        statement_along q (iteration s xs e b) holds =
            then_along to gone
            (λ v now. asks ch (λ a. turns a (λ each. run_block ch n effect' enter' (child q 1) (block_without to gone b) (with_unknown (one_of_names (map (name_as to gone) xs)) each))) (with_use (to s) (v ∷ []) now))
            (λ v now. asks ch (λ a. turns a (λ each. run_block ch n effect enter (child q 1) b (with_unknown (one_of_names xs) each))) (with_use s (v ∷ []) now))
            (expression_along to gone ch n e)
            (λ v. step_along to gone (with_use (to s) (vw v ∷ [])) (with_use s (v ∷ [])) (λ st. use_along to gone s (v ∷ []) (vw v ∷ []) st refl)
            (asks_along to gone ch
            (λ a. turns a (λ each. run_block ch n effect' enter' (child q 1) (block_without to gone b) (with_unknown (one_of_names (map (name_as to gone) xs)) each)))
            (λ a. turns a (λ each. run_block ch n effect enter (child q 1) b (with_unknown (one_of_names xs) each)))
            (λ a. turns_along a (step_along to gone (with_unknown (one_of_names (map (name_as to gone) xs))) (with_unknown (one_of_names xs)) (λ st. ap (λ names. with_unknown names (less st)) (fun_ext (names_stay xs)) ∙ unknown_along to gone (one_of_names xs) st) (block_along (child q 1) b holds)))))
        statement_along q (breaks s) holds = record { at_state = λ st. refl }
        statement_along q (continues s) holds = record { at_state = λ st. refl }

        branches_along : (s : S) (q : CallRef) (k : ℕ) (bs : Branches S) (last' : State T → Going T (Unit {0})) (last : State S → Going S (Unit {0})) → BranchesHold Holds q k bs → Does last' last
            → Does (run_branches ch n effect' enter' (to s) q k (branches_without to gone bs) last') (run_branches ch n effect enter s q k bs last)
        branches_along s q k no_branches last' last holds rest = rest
        branches_along s q k (branch e b more) last' last holds rest =
            then_along to gone
            (λ v now. asks ch (λ a. chosen a (run_block ch n effect' enter' (child q (k + 1)) (block_without to gone b)) (run_branches ch n effect' enter' (to s) q (k + 2) (branches_without to gone more) last')) (with_use (to s) (v ∷ []) now))
            (λ v now. asks ch (λ a. chosen a (run_block ch n effect enter (child q (k + 1)) b) (run_branches ch n effect enter s q (k + 2) more last)) (with_use s (v ∷ []) now))
            (expression_along to gone ch n e)
            (λ v. step_along to gone (with_use (to s) (vw v ∷ [])) (with_use s (v ∷ [])) (λ st. use_along to gone s (v ∷ []) (vw v ∷ []) st refl)
            (asks_along to gone ch
            (λ a. chosen a (run_block ch n effect' enter' (child q (k + 1)) (block_without to gone b)) (run_branches ch n effect' enter' (to s) q (k + 2) (branches_without to gone more) last'))
            (λ a. chosen a (run_block ch n effect enter (child q (k + 1)) b) (run_branches ch n effect enter s q (k + 2) more last))
            (λ a. chosen_along to gone a (block_along (child q (k + 1)) b holds.0) (branches_along s q (k + 2) more last' last holds.1 rest))))

        otherwise_along : (q : CallRef) (k : ℕ) (o : Otherwise S) → OtherwiseHolds Holds q k o
            → Does (run_otherwise ch n effect' enter' q k (otherwise_without to gone o)) (run_otherwise ch n effect enter q k o)
        otherwise_along q k nothing_else holds = ends
        otherwise_along q k (otherwise b) holds = block_along (child q k) b holds

        statements_along : (q : CallRef) (k : ℕ) (ss : Statements S) → StatementsHold Holds q k ss
            → Does (run_statements ch n effect' enter' q k (statements_without to gone ss)) (run_statements ch n effect enter q k ss)
        statements_along q k no_statements holds = ends
        statements_along q k (statement s more) holds =
            then_along to gone (λ x now. run_statements ch n effect' enter' q (k + 1) (statements_without to gone more) now) (λ x now. run_statements ch n effect enter q (k + 1) more now)
            (statement_along (child q k) s holds.0) (λ x. statements_along q (k + 1) more holds.1)

        block_along : (q : CallRef) (b : Block S) → BlockHolds Holds q b → Does (run_block ch n effect' enter' q (block_without to gone b)) (run_block ch n effect enter q b)
        block_along q (block s list) holds = statements_along q 0 list holds

      pub tree_along : (t : File S) → FileHolds Holds n t → Does (run_tree ch n effect' enter' (tree_without to gone t)) (run_tree ch n effect enter t)
      tree_along (file s b) holds = over_along (block_along (record { file = n; path = record { steps = [] } }) b holds)
