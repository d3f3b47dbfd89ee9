-- An evaluation of the build files of a project, as Meson runs them. What it depends on apart from them is chosen. That every run of Meson that ends well is
-- one of these evaluations, as far as the sources of targets are concerned, is what a reader has to believe.
use Rattle.std.specs.Prelude.{ℕ, zero, suc, ◌+◌, true, false, List, [], ◌∷◌, length, flat_map, if◌then◌else◌, bytes_eq, codes, Option, Some, None}
use Rattle.meson_syntax.specs.declared.operator.Assignment.{Assignment}
use Rattle.meson_syntax.specs.declared.operator.Assignment.TheVariants as assigns
use Rattle.meson_syntax.specs.Paths.{nth}
use Rattle.meson_syntax.specs.Tree.{Expression, call, Statement, evaluate, assign, selection, iteration, breaks, continues, Branches, no_branches, branch, Otherwise, nothing_else, otherwise, Statements, no_statements, statement, Block, block, File, file}
use Rattle.meson_calls.specs.declared.call.CallRef.{CallRef}
use Rattle.meson_calls.specs.Calls.{Call, first_argument}
use Rattle.meson_calls.specs.Folders.{build_file}
use Rattle.meson_calls.specs.Parts.{branches_child_count}
use Rattle.meson_calls.specs.Project.{BuildFile, Placed, Project, child, nth_file, place, placed}
use Rattle.meson_variables.specs.Variables.{one_of_names}
use Rattle.meson_following.specs.declared.effects.Effect.{Effect}
use Rattle.meson_following.specs.declared.effects.Effect.TheVariants.{Enters, MayEnter}
use Rattle.meson_following.specs.Effects.{entering_by, number_of}
use Rattle.meson_meaning.specs.Expressions.{call_with, eval, eval_listing, sum}
use Rattle.meson_meaning.specs.States.{Choices, Going, State, and_then, any_name, asks, beginning, chosen, on, out_of_file, out_of_turn, state_after, stops, touched, with_unknown, with_use, with_variable}
use Rattle.meson_meaning.specs.Values.{Value, values_of}

-- on to the next statement
abbrev pub done : {S X : Type 0} → X → State S → Going S (Unit {0})
done x st = on tt st

-- ---- what is assigned. Meson manual, Syntax, "Variables": `+=` gives the variable a new value; other variables that had the old one keep it.

abbrev pub added_to : {S : Type 0} → Choices → List ℕ → Option (Value S) → Value S → State S → Going S (Unit {0})
added_to ch x None v st = stops st
added_to ch x (Some u) v st = and_then (sum ch u v st) (λ w now. on tt (with_variable x (Some w) now))

abbrev pub assigned : {S : Type 0} → Choices → Assignment → List ℕ → Value S → State S → Going S (Unit {0})
assigned ch assigns.Set x v st = on tt (with_variable x (Some v) st)
assigned ch assigns.Add x v st = added_to ch x (st.variables x) v st

-- ---- loops

-- a turn is over. Meson manual, Syntax, "Foreach statements": `break` ends the loop, `continue` this turn.
abbrev pub after_turn : {S : Type 0} → (State S → Going S (Unit {0})) → Going S (Unit {0}) → Going S (Unit {0})
after_turn more (on x st) = more st
after_turn more (out_of_turn true st) = on tt st
after_turn more (out_of_turn false st) = more st
after_turn more (out_of_file st) = out_of_file st
after_turn more (stops st) = stops st

-- this many turns
abbrev pub turns : {S : Type 0} → ℕ → (State S → Going S (Unit {0})) → State S → Going S (Unit {0})
turns zero turn st = on tt st
turns (suc n) turn st = after_turn (turns n turn) (turn st)

-- ---- files that are entered. Meson manual, Reference manual, `subdir`: the file is evaluated in its place. `subdir_done`: the file that it is in is over.

abbrev pub file_over : {S : Type 0} → Going S (Unit {0}) → Going S (Unit {0})
file_over (on x st) = on tt st
file_over (out_of_turn ended st) = out_of_turn ended st
file_over (out_of_file st) = on tt st
file_over (stops st) = stops st

-- of these files the one of this number, or one that is not known
abbrev pub enter_one : {S : Type 0} → Choices → (ℕ → State S → Going S (Unit {0})) → Option ℕ → State S → Going S (Unit {0})
enter_one ch enter None st = on tt (touched ch any_name st)
enter_one ch enter (Some n) st = enter n st

-- By what a `subdir` enters. Meson manual, Reference manual, `subdir`: with `if_found:` it is entered or not.
abbrev pub entering : {S : Type 0} → Choices → (ℕ → State S → Going S (Unit {0})) → Effect → State S → Going S (Unit {0})
entering ch enter (Enters n condition) st = if condition then asks ch (λ a. chosen a (enter n) (on tt)) st else enter n st
entering ch enter (MayEnter ns) st = asks ch (λ a. enter_one ch enter (nth ns a)) st
entering ch enter _ st = on tt (touched ch any_name st)

-- a call of `subdir` that is a statement: what it carries, and its arguments
pub record Entry (S : Type 0) : Type 0 where
  pub place : S
  pub call : Call S

abbrev pub entry_of : {S : Type 0} → Expression S → Option (Entry S)
entry_of (call s f l) = if bytes_eq f.text (codes "subdir") then Some (record { place = s; call = call_with f.text l }) else None
entry_of _ = None

-- ---- statements of a file, with the effect of each `subdir` and what entering a file does

module _ {S : Type 0} (ch : Choices) (n : ℕ) (effect : Placed (Call S) → Effect) (enter : ℕ → State S → Going S (Unit {0})) where
  abbrev pub run_evaluated : CallRef → Expression S → Option (Entry S) → State S → Going S (Unit {0})
  run_evaluated q e None st = and_then (eval ch n e st) done
  run_evaluated q e (Some c) st =
      and_then (eval_listing ch n c.call.arguments st) (λ gs now. entering ch enter (effect (placed q c.call)) (with_use c.place (flat_map values_of gs) now))

  abbrev mutual
    pub run_statement : CallRef → Statement S → State S → Going S (Unit {0})
    run_statement q (evaluate e) st = run_evaluated (child q 0) e (entry_of e) st
    run_statement q (assign s x a e) st = and_then (eval ch n e st) (assigned ch a x.text)
    run_statement q (selection s bs o) st = run_branches s q 0 bs (run_otherwise q (branches_child_count bs) o) st
    -- the names of a loop are set to something in each turn
    run_statement q (iteration s xs e b) st =
        and_then (eval ch n e st) (λ v now.
        asks ch (λ a. turns a (λ each. run_block (child q 1) b (with_unknown (one_of_names xs) each))) (with_use s (v ∷ []) now))
    run_statement q (breaks s) st = out_of_turn true st
    run_statement q (continues s) st = out_of_turn false st

    -- from the n-th child on, and what comes where no condition holds
    pub run_branches : S → CallRef → ℕ → Branches S → (State S → Going S (Unit {0})) → State S → Going S (Unit {0})
    run_branches s q k no_branches last st = last st
    run_branches s q k (branch e b more) last st =
        and_then (eval ch n e st) (λ v now.
        asks ch (λ a. chosen a (run_block (child q (k + 1)) b) (run_branches s q (k + 2) more last)) (with_use s (v ∷ []) now))

    pub run_otherwise : CallRef → ℕ → Otherwise S → State S → Going S (Unit {0})
    run_otherwise q k nothing_else st = on tt st
    run_otherwise q k (otherwise b) st = run_block (child q k) b st

    -- from the n-th child on
    pub run_statements : CallRef → ℕ → Statements S → State S → Going S (Unit {0})
    run_statements q k no_statements st = on tt st
    run_statements q k (statement s more) st = and_then (run_statement (child q k) s st) (λ x now. run_statements q (k + 1) more now)

    pub run_block : CallRef → Block S → State S → Going S (Unit {0})
    run_block q (block s list) st = run_statements q 0 list st

-- ---- files

abbrev pub run_tree : {S : Type 0} → Choices → ℕ → (Placed (Call S) → Effect) → (ℕ → State S → Going S (Unit {0})) → File S → State S → Going S (Unit {0})
run_tree ch n effect enter (file s b) st = file_over (run_block ch n effect enter (place n []) b st)

-- what a `subdir` in a file enters
abbrev pub entered_by : {S : Type 0} → Project S → BuildFile S → Placed (Call S) → Effect
entered_by p f c = entering_by p f c (first_argument c.it)

abbrev pub run_found : {S : Type 0} → Choices → (BuildFile S → State S → Going S (Unit {0})) → Option (BuildFile S) → State S → Going S (Unit {0})
run_found ch run None st = on tt (touched ch any_name st)
run_found ch run (Some f) st = run f st

-- The file of a number, where this many files may be inside one another. A file enters files in folders below its own alone. So as many as there are files are
-- enough.
abbrev pub run_file : {S : Type 0} → Choices → Project S → ℕ → ℕ → State S → Going S (Unit {0})
run_file ch p zero n st = on tt (touched ch any_name st)
run_file ch p (suc left) n st = run_found ch (λ f. run_tree ch n (entered_by p f) (run_file ch p left) f.tree) (nth_file p n) st

abbrev pub run_from : {S : Type 0} → Choices → Project S → Option ℕ → Going S (Unit {0})
run_from ch p None = on tt beginning
run_from ch p (Some n) = run_file ch p (length p) n beginning

-- the state at the end: the targets that were made and what got values, in order
abbrev pub run : {S : Type 0} → Choices → Project S → State S
run ch p = state_after (run_from ch p (number_of p build_file))
