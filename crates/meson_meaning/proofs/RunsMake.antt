-- In each evaluation targets are made by calls, of the literals that stand in these.
use Rattle.std.proofs.Common.{◌≡◌, ℕ, zero, suc, ◌+◌, List, [], ◌∷◌, ◌++◌, length, Option, Some, None, refl, sym, ap, subst, ◌∙◌}
use Rattle.std.specs.Prelude.{Bool, true, false, map, flat_map, if◌then◌else◌, bytes_eq, codes, option_map}
use Rattle.std.specs.List.{All}
use Rattle.std.proofs.lemmas.List.Elements.{All-cons, All-nil}
use Rattle.meson_lex.specs.declared.kinds.Span.{Span}
use Rattle.meson_syntax.specs.declared.operator.Assignment.{Assignment}
use Rattle.meson_syntax.specs.declared.operator.Assignment.TheVariants as assigns
use Rattle.meson_syntax.specs.Paths.{nth}
use Rattle.meson_syntax.specs.Tree.{Expression, identifier, boolean, integer, string, paren, array, dictionary, call, unary, row, postfix, conditional, listing, Statement, evaluate, assign, selection, iteration, breaks, continues, Branches, no_branches, branch, Otherwise, nothing_else, otherwise, Statements, no_statements, statement, Block, block, File, file}
use Rattle.meson_syntax.proofs.paths.Every.{Every}
use Rattle.meson_calls.specs.declared.call.CallRef.{CallRef}
use Rattle.meson_calls.specs.Calls.{Call}
use Rattle.meson_calls.specs.Folders.{build_file}
use Rattle.meson_calls.specs.Parts.{Part, an_expression, a_statement, branches_child_count, parts, parts_from, parts_of_block, parts_of_branches, parts_of_expression, parts_of_file, parts_of_otherwise, parts_of_statement, parts_of_statements}
use Rattle.meson_calls.specs.Project.{BuildFile, Placed, Project, child, nth_file, place, placed}
use Rattle.meson_calls.proofs.CallsReached.{InProject, every_part}
use Rattle.meson_calls.proofs.ExpressionsAt.{expression_stands}
use Rattle.meson_variables.specs.Variables.{one_of_names}
use Rattle.meson_following.specs.declared.effects.Effect.{Effect}
use Rattle.meson_following.specs.declared.effects.Effect.TheVariants.{Nothing, Sets, MaySet, Unsets, Stops, Leaves, Enters, MayEnter}
use Rattle.meson_following.specs.Effects.{number_of}
use Rattle.meson_meaning.specs.Expressions.{call_with}
use Rattle.meson_meaning.specs.Placing.{block_placed, branches_placed, expression_placed, listing_placed, name_placed, otherwise_placed, placed_from, statement_placed, statements_placed, tree_placed, with_places}
use Rattle.meson_meaning.specs.Running.{added_to, after_turn, assigned, done, enter_one, entered_by, entering, entry_of, file_over, run, run_block, run_branches, run_evaluated, run_file, run_found, run_from, run_otherwise, run_statement, run_statements, run_tree, turns}
use Rattle.meson_meaning.specs.States.{Choices, Going, State, any_name, asks, beginning, chosen, on, out_of_file, out_of_turn, state_after, stops, touched, with_unknown, with_use, with_variable}
use Rattle.meson_meaning.specs.Values.{Value, values_of}
use Rattle.meson_meaning.specs.Written.{CallsMakeTargets, IsMadeByCall}
use Rattle.meson_meaning.proofs.CallsMake.{PartStands, StandsThere, arguments_keep, expression_keeps}
use Rattle.meson_meaning.proofs.Keeping.{Any, Good, GoodAfter, Keeps, keeps_asks, keeps_chosen, keeps_if, keeps_on, keeps_step, keeps_then, sum_keeps, touched_good, unknown_good, variable_good}
use Rattle.meson_meaning.proofs.RealValues.{Real, RealIf}
use Rattle.meson_meaning.proofs.SpotsLost.{left, more_by_one, more_by_two, next_step, plus_zero, right, zero_plus}

module _ (p : Project Span) (ch : Choices) where
  abbrev Does : (State CallRef → Going CallRef (Unit {0})) → Type 0
  Does m = Keeps p (Any p) m

  ends : Does (on tt)
  ends = keeps_on p (Any p) tt tt

  any_touched : Does (λ st. on tt (touched ch any_name st))
  any_touched = record { at_state = λ st good. (tt, touched_good p ch any_name st good) }

  -- ---- assignments, loops and files

  added_keeps : (x : List ℕ) (o : Option (Value CallRef)) (v : Value CallRef) (st : State CallRef) → RealIf p o → Real p v → Good p st → GoodAfter p (Any p) (added_to ch x o v st)
  added_keeps x None v st old new good = good
  added_keeps x (Some u) v st old new good =
      (keeps_then p (λ w now. on tt (with_variable x (Some w) now)) (sum_keeps p ch u v old new) (λ w real. record { at_state = λ now fine. (tt, variable_good p x (Some w) now real fine) })).at_state st good

  assigned_keeps : (a : Assignment) (x : List ℕ) (v : Value CallRef) → Real p v → Does (assigned ch a x v)
  assigned_keeps assigns.Set x v real = record { at_state = λ st good. (tt, variable_good p x (Some v) st real good) }
  assigned_keeps assigns.Add x v real = record { at_state = λ st good. added_keeps x (st.variables x) v st (good.1 x) real good }

  turn_keeps : (more : State CallRef → Going CallRef (Unit {0})) → Does more → (m : Going CallRef (Unit {0})) → GoodAfter p (Any p) m → GoodAfter p (Any p) (after_turn more m)
  turn_keeps more rest (on x st) good = rest.at_state st good.1
  turn_keeps more rest (out_of_turn true st) good = (tt, good)
  turn_keeps more rest (out_of_turn false st) good = rest.at_state st good
  turn_keeps more rest (out_of_file st) good = good
  turn_keeps more rest (stops st) good = good

  turns_keep : (turn : State CallRef → Going CallRef (Unit {0})) (n : ℕ) → Does turn → Does (turns n turn)
  turns_keep turn zero keeps = ends
  turns_keep turn (suc n) keeps = record { at_state = λ st good. turn_keeps (turns n turn) (turns_keep turn n keeps) (turn st) (keeps.at_state st good) }

  over_keeps : (m : Going CallRef (Unit {0})) → GoodAfter p (Any p) m → GoodAfter p (Any p) (file_over m)
  over_keeps (on x st) good = (tt, good.1)
  over_keeps (out_of_turn ended st) good = good
  over_keeps (out_of_file st) good = (tt, good)
  over_keeps (stops st) good = good

  module _ (enter : ℕ → State CallRef → Going CallRef (Unit {0})) (enter_keeps : (k : ℕ) → Does (enter k)) where
    one_keeps : (o : Option ℕ) → Does (enter_one ch enter o)
    one_keeps None = any_touched
    one_keeps (Some k) = enter_keeps k

    entering_keeps : (e : Effect) → Does (entering ch enter e)
    entering_keeps (Enters k condition) =
        keeps_if p condition (keeps_asks p ch (λ a. chosen a (enter k) (on tt)) (λ a. keeps_chosen p a (enter_keeps k) ends)) (enter_keeps k)
    entering_keeps (MayEnter ns) = keeps_asks p ch (λ a. enter_one ch enter (nth ns a)) (λ a. one_keeps (nth ns a))
    entering_keeps Nothing = any_touched
    entering_keeps Sets = any_touched
    entering_keeps MaySet = any_touched
    entering_keeps Unsets = any_touched
    entering_keeps Stops = any_touched
    entering_keeps Leaves = any_touched

    -- ---- statements

    module _ (n : ℕ) (effect : Placed (Call CallRef) → Effect) where
      abbrev Stand : List (Placed (Part Span)) → Type 0
      Stand qs = Every (PartStands p ch n) qs

      stand_left : (xs ys : List (Placed (Part Span))) → Stand (xs ++ ys) → Stand xs
      stand_left xs ys stand = left (PartStands p ch n) xs ys stand

      stand_right : (xs ys : List (Placed (Part Span))) → Stand (xs ++ ys) → Stand ys
      stand_right xs ys stand = right (PartStands p ch n) xs ys stand

      stand_next : (of : ℕ → List (Placed (Part Span))) (m k : ℕ) → m ≡ k → Stand (of m) → Stand (of k)
      stand_next of m k is stand = subst (λ i. Stand (of i)) is stand

      -- the paths by which files are entered do not matter here
      no_entry : (e : Expression Span) (q r : CallRef) → n ≡ q.file → Stand (parts_of_expression q e) → Does (run_evaluated ch n effect enter r (expression_placed q e) None)
      no_entry e q r here stand = keeps_then p done (expression_keeps p ch n e q here stand) (λ v any. ends)

      evaluated_keeps : (e : Expression Span) (q r : CallRef) → n ≡ q.file → Stand (parts_of_expression q e)
          → Does (run_evaluated ch n effect enter r (expression_placed q e) (entry_of (expression_placed q e)))
      evaluated_keeps (call s f (listing t trailing list)) q r here stand = go (bytes_eq f.text (codes "subdir"))
        where
          go : (b : Bool)
              → Does (run_evaluated ch n effect enter r (expression_placed q (call s f (listing t trailing list)))
              (if b then Some (record { place = q; call = call_with f.text (listing_placed q (listing t trailing list)) }) else None))
          go true =
              keeps_then p (λ gs now. entering ch enter (effect (placed r (call_with f.text (listing_placed q (listing t trailing list))))) (with_use q (flat_map values_of gs) now))
              (arguments_keep p ch n list 0 q here stand.1)
              (λ gs are. keeps_step p (with_use q (flat_map values_of gs)) (λ st good. good) (entering_keeps (effect (placed r (call_with f.text (listing_placed q (listing t trailing list)))))))
          go false = no_entry (call s f (listing t trailing list)) q r here stand
      evaluated_keeps (identifier s x) q r here stand = no_entry (identifier s x) q r here stand
      evaluated_keeps (boolean s b) q r here stand = no_entry (boolean s b) q r here stand
      evaluated_keeps (integer s x) q r here stand = no_entry (integer s x) q r here stand
      evaluated_keeps (string s k x) q r here stand = no_entry (string s k x) q r here stand
      evaluated_keeps (paren s e) q r here stand = no_entry (paren s e) q r here stand
      evaluated_keeps (array l) q r here stand = no_entry (array l) q r here stand
      evaluated_keeps (dictionary l) q r here stand = no_entry (dictionary l) q r here stand
      evaluated_keeps (unary s o e) q r here stand = no_entry (unary s o e) q r here stand
      evaluated_keeps (row s e os) q r here stand = no_entry (row s e os) q r here stand
      evaluated_keeps (postfix s e ts) q r here stand = no_entry (postfix s e ts) q r here stand
      evaluated_keeps (conditional s c y m) q r here stand = no_entry (conditional s c y m) q r here stand

      mutual
        statement_keeps : (s : Statement Span) (q r : CallRef) → n ≡ q.file → Stand (parts_of_statement q s) → Does (run_statement ch n effect enter r (statement_placed q s))
        statement_keeps (evaluate e) q r here stand = evaluated_keeps e (child q 0) (child r 0) here stand.1
        statement_keeps (assign s x a e) q r here stand =
            keeps_then p (assigned ch a x.text) (expression_keeps p ch n e (child q 0) here stand.1) (λ v real. assigned_keeps a x.text v real)
        statement_keeps (selection s bs o) q r here stand =
            branches_keep bs 0 q r 0 (run_otherwise ch n effect enter r (branches_child_count (branches_placed q 0 bs)) (otherwise_placed q (branches_child_count bs) o)) here
            (stand_left (parts_of_branches q 0 bs) (parts_of_otherwise q (branches_child_count bs) o) stand.1)
            (otherwise_keeps o (branches_child_count bs) q r (branches_child_count (branches_placed q 0 bs)) here (stand_right (parts_of_branches q 0 bs) (parts_of_otherwise q (branches_child_count bs) o) stand.1))
        statement_keeps (iteration s xs e b) q r here stand =
            keeps_then p
            (λ v now. asks ch (λ a. turns a (λ each. run_block ch n effect enter (child r 1) (block_placed (child q 1) b) (with_unknown (one_of_names (map (name_placed q) xs)) each))) (with_use q (v ∷ []) now))
            (expression_keeps p ch n e (child q 0) here (stand_left (parts_of_expression (child q 0) e) (parts_of_block (child q 1) b) stand.1))
            (λ v any. keeps_step p (with_use q (v ∷ [])) (λ st good. good)
            (keeps_asks p ch (λ a. turns a (λ each. run_block ch n effect enter (child r 1) (block_placed (child q 1) b) (with_unknown (one_of_names (map (name_placed q) xs)) each)))
            (λ a. turns_keep (λ each. run_block ch n effect enter (child r 1) (block_placed (child q 1) b) (with_unknown (one_of_names (map (name_placed q) xs)) each)) a
            (keeps_step p (with_unknown (one_of_names (map (name_placed q) xs))) (λ st good. unknown_good p (one_of_names (map (name_placed q) xs)) st good)
            (block_keeps b (child q 1) (child r 1) here (stand_right (parts_of_expression (child q 0) e) (parts_of_block (child q 1) b) stand.1))))))
        statement_keeps (breaks s) q r here stand = record { at_state = λ st good. good }
        statement_keeps (continues s) q r here stand = record { at_state = λ st good. good }

        branches_keep : (bs : Branches Span) (k : ℕ) (q r : CallRef) (j : ℕ) (last : State CallRef → Going CallRef (Unit {0})) → n ≡ q.file → Stand (parts_of_branches q k bs) → Does last
            → Does (run_branches ch n effect enter q r j (branches_placed q k bs) last)
        branches_keep no_branches k q r j last here stand keeps = keeps
        branches_keep (branch e b more) k q r j last here stand keeps =
            let later = stand_right (parts_of_expression (child q k) e) (parts_of_block (child q (k + 1)) b ++ parts_of_branches q (k + 2) more) stand in
            let inner = stand_next (λ i. parts_of_block (child q i) b) (k + 1) (suc k) (more_by_one k) (stand_left (parts_of_block (child q (k + 1)) b) (parts_of_branches q (k + 2) more) later) in
            let others = stand_next (λ i. parts_of_branches q i more) (k + 2) (suc (suc k)) (more_by_two k) (stand_right (parts_of_block (child q (k + 1)) b) (parts_of_branches q (k + 2) more) later) in
            keeps_then p
            (λ v now. asks ch (λ a. chosen a (run_block ch n effect enter (child r (j + 1)) (block_placed (child q (suc k)) b)) (run_branches ch n effect enter q r (j + 2) (branches_placed q (suc (suc k)) more) last)) (with_use q (v ∷ []) now))
            (expression_keeps p ch n e (child q k) here (stand_left (parts_of_expression (child q k) e) (parts_of_block (child q (k + 1)) b ++ parts_of_branches q (k + 2) more) stand))
            (λ v any. keeps_step p (with_use q (v ∷ [])) (λ st good. good)
            (keeps_asks p ch (λ a. chosen a (run_block ch n effect enter (child r (j + 1)) (block_placed (child q (suc k)) b)) (run_branches ch n effect enter q r (j + 2) (branches_placed q (suc (suc k)) more) last))
            (λ a. keeps_chosen p a (block_keeps b (child q (suc k)) (child r (j + 1)) here inner) (branches_keep more (suc (suc k)) q r (j + 2) last here others keeps))))

        otherwise_keeps : (o : Otherwise Span) (k : ℕ) (q r : CallRef) (j : ℕ) → n ≡ q.file → Stand (parts_of_otherwise q k o)
            → Does (run_otherwise ch n effect enter r j (otherwise_placed q k o))
        otherwise_keeps nothing_else k q r j here stand = ends
        otherwise_keeps (otherwise b) k q r j here stand = block_keeps b (child q k) (child r j) here stand

        statements_keep : (ss : Statements Span) (k : ℕ) (q r : CallRef) (j : ℕ) → n ≡ q.file → Stand (parts_of_statements q k ss)
            → Does (run_statements ch n effect enter r j (statements_placed q k ss))
        statements_keep no_statements k q r j here stand = ends
        statements_keep (statement s more) k q r j here stand =
            keeps_then p (λ x now. run_statements ch n effect enter r (j + 1) (statements_placed q (suc k) more) now)
            (statement_keeps s (child q k) (child r j) here (stand_left (parts_of_statement (child q k) s) (parts_of_statements q (k + 1) more) stand))
            (λ x any. statements_keep more (suc k) q r (j + 1) here
            (stand_next (λ i. parts_of_statements q i more) (k + 1) (suc k) (more_by_one k) (stand_right (parts_of_statement (child q k) s) (parts_of_statements q (k + 1) more) stand)))

        block_keeps : (b : Block Span) (q r : CallRef) → n ≡ q.file → Stand (parts_of_block q b) → Does (run_block ch n effect enter r (block_placed q b))
        block_keeps (block s list) q r here stand = statements_keep list 0 q r 0 here stand

      tree_keeps : (t : File Span) → Stand (parts_of_file n t) → Does (run_tree ch n effect enter (tree_placed n t))
      tree_keeps (file s b) stand = record {
        at_state = λ st good. over_keeps (run_block ch n effect enter (place n []) (block_placed (place n []) b) st) ((block_keeps b (place n []) (place n []) refl stand).at_state st good);
      }

  -- ---- files

  abbrev placed_file : ℕ → BuildFile Span → BuildFile CallRef
  placed_file n f = record { name = f.name; tree = tree_placed n f.tree }

  nth_placed : (files : Project Span) (k m : ℕ) → nth_file (placed_from k files) m ≡ option_map (placed_file (k + m)) (nth_file files m)
  nth_placed [] k m = refl
  nth_placed (f ∷ files) k zero = ap (λ i. Some (placed_file i f)) (sym (plus_zero k))
  nth_placed (f ∷ files) k (suc m) = nth_placed files (suc k) m ∙ ap (λ i. option_map (placed_file i) (nth_file files m)) (sym (next_step k m))

  nth_stands : (n : ℕ) (files : Project Span) (k m : ℕ) (f : BuildFile Span) → Every (PartStands p ch n) (parts_from k files) → nth_file files m ≡ Some f
      → Every (PartStands p ch n) (parts_of_file (k + m) f.tree)
  nth_stands n [] k m f stand is = absurd cc
  nth_stands n (g ∷ files) k zero f stand is =
      let same : g ≡ f = cc in
      subst (λ (h : BuildFile Span). Every (PartStands p ch n) (parts_of_file (k + 0) h.tree)) same
      (subst (λ i. Every (PartStands p ch n) (parts_of_file i g.tree)) (sym (plus_zero k)) (left (PartStands p ch n) (parts_of_file k g.tree) (parts_from (k + 1) files) stand))
  nth_stands n (g ∷ files) k (suc m) f stand is =
      subst (λ i. Every (PartStands p ch n) (parts_of_file i f.tree)) (sym (next_step k m ∙ sym (ap (λ i. i + m) (more_by_one k))))
      (nth_stands n files (k + 1) m f (right (PartStands p ch n) (parts_of_file k g.tree) (parts_from (k + 1) files) stand) is)

  part_stands : (n : ℕ) (q : Placed (Part Span)) → InProject 0 p q → PartStands p ch n q
  part_stands n q i = go q.it refl
    where
      go : (x : Part Span) → q.it ≡ x → StandsThere p ch n q.place x
      go (an_expression e) is = expression_stands p q e i is
      go (a_statement s) is = tt

  all_stand : (n : ℕ) (qs : List (Placed (Part Span))) → Every (InProject 0 p) qs → Every (PartStands p ch n) qs
  all_stand n [] all = tt
  all_stand n (q ∷ qs) all = (part_stands n q all.0, all_stand n qs all.1)

  -- ---- the project

  found_keeps : (n left : ℕ) → ((k : ℕ) → Does (run_file ch (with_places p) left k)) → (o : Option (BuildFile Span)) → nth_file p n ≡ o
      → Does (run_found ch (λ f. run_tree ch n (entered_by (with_places p) f) (run_file ch (with_places p) left) f.tree) (option_map (placed_file n) o))
  found_keeps n left below None is = any_touched
  found_keeps n left below (Some f) is =
      tree_keeps (run_file ch (with_places p) left) below n (entered_by (with_places p) (placed_file n f)) f.tree
      (subst (λ i. Every (PartStands p ch n) (parts_of_file i f.tree)) (sym (zero_plus n)) (nth_stands n p 0 n f (all_stand n (parts p) (every_part 0 p)) is))

  file_keeps : (left n : ℕ) → Does (run_file ch (with_places p) left n)
  file_keeps zero n = any_touched
  file_keeps (suc left) n =
      subst (λ o. Does (run_found ch (λ f. run_tree ch n (entered_by (with_places p) f) (run_file ch (with_places p) left) f.tree) o))
      (sym (nth_placed p 0 n ∙ ap (λ i. option_map (placed_file i) (nth_file p n)) (sym (zero_plus n)))) (found_keeps n left (λ k. file_keeps left k) (nth_file p n) refl)

  from_good : (o : Option ℕ) → GoodAfter p (Any p) (run_from ch (with_places p) o)
  from_good None = (tt, (tt, λ x. tt))
  from_good (Some n) = (file_keeps (length (with_places p)) n).at_state beginning (tt, λ x. tt)

  after_good : (m : Going CallRef (Unit {0})) → GoodAfter p (Any p) m → Good p (state_after m)
  after_good (on x st) good = good.1
  after_good (out_of_turn ended st) good = good
  after_good (out_of_file st) good = good
  after_good (stops st) good = good

all_of : {X : Type 0} (P : X → Type 0) (xs : List X) → Every P xs → All P xs
all_of P [] all = All-nil P
all_of P (x ∷ xs) all = All-cons P x xs all.0 (all_of P xs all.1)

pub calls_make_targets : CallsMakeTargets
calls_make_targets p ch =
    all_of (IsMadeByCall p) (run ch (with_places p)).made
    (after_good p ch (run_from ch (with_places p) (number_of (with_places p) build_file)) (from_good p ch (number_of (with_places p) build_file))).0
