-- What is known of a variable at each point of a project, as its files are evaluated: a pass in the order of evaluation, `if` either way, and `foreach` with
-- any number of turns. Meson manual, Syntax: variables are global, and `subdir` evaluates the file that it enters in its place.
use Rattle.std.specs.Prelude.{ℕ, zero, suc, ◌+◌, ◌==◌, nat_eq, Bool, true, false, ◌&&◌, ◌||◌, List, [], ◌∷◌, ◌++◌, length, bytes_eq, if◌then◌else◌, Option, Some, None}
use Rattle.std.specs.List.{fold, starts_with}
use Rattle.meson_syntax.specs.Tree.{Expression, Statement, evaluate, assign, selection, iteration, breaks, continues, Branches, no_branches, branch, Otherwise, nothing_else, otherwise, Statements, no_statements, statement, Block, block, File, file}
use Rattle.meson_syntax.specs.declared.operator.Assignment.{Assignment}
use Rattle.meson_calls.specs.declared.call.CallRef.{CallRef}
use Rattle.meson_calls.specs.Folders.{build_file}
use Rattle.meson_calls.specs.Project.{Project, BuildFile, Placed, child, nth_file, place, placed}
use Rattle.meson_calls.specs.Calls.{Call, call_of}
use Rattle.meson_calls.specs.Notes.{is_set}
use Rattle.meson_calls.specs.Parts.{branches_child_count}
use Rattle.meson_variables.specs.Variables.{one_of_names}
use Rattle.meson_following.specs.declared.effects.Effect.{Effect}
use Rattle.meson_following.specs.declared.effects.Effect.TheVariants.{Nothing, Sets, MaySet, Unsets, Stops, Leaves, Enters, MayEnter}
use Rattle.meson_following.specs.Effects.{any_leaves_file, any_may_set, calls_of, calls_of_listing, effect_of, number_of}
use Rattle.meson_following.specs.Makers.{Known, Maker, assigned, joined, made_unknown, touched}

-- an expression of a statement, with what is known where it is evaluated
pub record Arrival (S : Type 0) : Type 0 where
  pub at_expression : Placed (Expression S)
  pub known : Known S

-- What is known after a part of a file, where a turn of the loop around it ends early, and where it leaves the file; whether there is a place in it at which
-- the file is left; and the expressions that are evaluated in it, in order.
pub record Flow (S : Type 0) : Type 0 where
  pub now : Known S
  pub turned : Known S
  pub ended : Known S
  pub leaves : Bool
  pub arrivals : List (Arrival S)

-- ---- parts of a file one after another, or one of them

abbrev pub going_on : {S : Type 0} → Known S → Flow S
going_on k = record { now = k; turned = None; ended = None; leaves = false; arrivals = [] }

-- one and then what is begun with what is known after it
abbrev pub both_flow : {S : Type 0} → Flow S → Flow S → Flow S
both_flow f g = record {
  now = g.now;
  turned = joined f.turned g.turned;
  ended = joined f.ended g.ended;
  leaves = f.leaves || g.leaves;
  arrivals = f.arrivals ++ g.arrivals;
}

abbrev pub then_flow : {S : Type 0} → Flow S → (Known S → Flow S) → Flow S
then_flow f more = both_flow f (more f.now)

abbrev pub either_flow : {S : Type 0} → Flow S → Flow S → Flow S
either_flow f g = record {
  now = joined f.now g.now;
  turned = joined f.turned g.turned;
  ended = joined f.ended g.ended;
  leaves = f.leaves || g.leaves;
  arrivals = f.arrivals ++ g.arrivals;
}

abbrev pub known_if : {S : Type 0} → Bool → Known S → Known S
known_if b k = if b then k else None

-- A loop. Before a turn, and after the loop, is known what was known before the loop or is known after a turn that begins so. One turn says all: what it adds,
-- it adds whatever it begins with. So the file is left with what is known where a first turn leaves it, or before a later one.
abbrev pub around : {S : Type 0} → Known S → Flow S → Known S
around k once = joined k (joined once.now once.turned)

abbrev pub looped : {S : Type 0} → Known S → Flow S → List (Arrival S) → Flow S
looped before once arrivals = record {
  now = before;
  turned = None;
  ended = known_if once.leaves (joined once.ended before);
  leaves = once.leaves;
  arrivals = arrivals;
}

abbrev pub flow_loop : {S : Type 0} → (Known S → Flow S) → Known S → Flow S
flow_loop turn k = let once = turn k in let before = around k once in looped before once (turn before).arrivals

-- ---- expressions

abbrev pub touched_if : {S : Type 0} → Bool → Known S → Known S
touched_if b k = if b then touched k else k

-- with calls that may set the variable or leave the file, if there are such. They may be made before anything else in the expression is evaluated.
abbrev pub passed : {S : Type 0} → Bool → Bool → Known S → Flow S
passed sets leaves k =
    record { now = touched_if sets k; turned = None; ended = known_if leaves (touched_if sets k); leaves = leaves; arrivals = [] }

abbrev pub arriving : {S : Type 0} → Placed (Expression S) → Flow S → Flow S
arriving e f = record {
  now = f.now;
  turned = f.turned;
  ended = f.ended;
  leaves = f.leaves;
  arrivals = record { at_expression = e; known = f.now } ∷ f.arrivals;
}

-- with these calls in it, of which each may be made or not
abbrev pub flow_calls : {S : Type 0} → List ℕ → List (Call S) → Placed (Expression S) → Known S → Flow S
flow_calls x cs e k = arriving e (passed (any_may_set x cs) (any_leaves_file cs) k)

abbrev pub flow_expression : {S : Type 0} → List ℕ → CallRef → Expression S → Known S → Flow S
flow_expression x q e k = flow_calls x (calls_of e) (placed q e) k

-- ---- the effect of a call

-- at the end of the file, however it is reached; or before it, where it is skipped, as a call with a condition may do
abbrev pub entered : {S : Type 0} → Known S → Flow S → Flow S
entered skipped f =
    record { now = joined skipped (joined f.now f.ended); turned = f.turned; ended = None; leaves = false; arrivals = f.arrivals }

abbrev pub left_file : {S : Type 0} → Known S → Flow S
left_file k = record { now = None; turned = None; ended = k; leaves = true; arrivals = [] }

abbrev pub left_turn : {S : Type 0} → Known S → Flow S
left_turn k = record { now = None; turned = k; ended = None; leaves = false; arrivals = [] }

-- each of these files may be entered, one after another
abbrev pub flow_each : {S : Type 0} → (ℕ → Known S → Flow S) → List ℕ → Flow S → Flow S
flow_each enter [] f = f
flow_each enter (n ∷ ns) f = flow_each enter ns (then_flow f (λ k. entered k (enter n k)))

abbrev pub flow_effect : {S : Type 0} → (ℕ → Known S → Flow S) → Effect → Known S → Flow S
flow_effect enter Nothing k = going_on k
flow_effect enter Sets k = going_on (Some made_unknown)
flow_effect enter MaySet k = going_on (touched k)
flow_effect enter Unsets k = going_on None
flow_effect enter Stops k = going_on None
flow_effect enter Leaves k = left_file k
flow_effect enter (Enters n condition) k = entered (known_if condition k) (enter n k)
flow_effect enter (MayEnter ns) k = flow_each enter ns (going_on (touched k))

-- ---- statements of a file

-- the value of an assignment at a place
abbrev pub maker : {S : Type 0} → CallRef → Assignment → Expression S → Maker S
maker q a e = record { value = placed (child q 0) e; adds = if is_set a then false else true; sure = true }

abbrev pub assigned_if : {S : Type 0} → Bool → Maker S → Known S → Known S
assigned_if b m k = if b then assigned m k else k

-- where a name of the loop is the variable, each turn sets it to something that is not known
abbrev pub begun : {S : Type 0} → Bool → Known S → Known S
begun b k = if b then Some made_unknown else k

-- The branches so far: the flow through those that were taken and through all conditions, and what is known where none of these holds.
pub record Choice (S : Type 0) : Type 0 where
  pub taken : Flow S
  pub left : Known S

abbrev pub no_branch : {S : Type 0} → Known S → Choice S
no_branch k = record { taken = going_on None; left = k }

-- or the last one, to which no condition leads
abbrev pub all_branches : {S : Type 0} → Choice S → (Known S → Flow S) → Flow S
all_branches c last = either_flow c.taken (last c.left)

-- after a further condition
abbrev pub with_condition : {S : Type 0} → Flow S → Flow S → Choice S
with_condition f g =
    record {
      taken = record {
        now = f.now;
        turned = joined f.turned g.turned;
        ended = joined f.ended g.ended;
        leaves = f.leaves || g.leaves;
        arrivals = f.arrivals ++ g.arrivals;
      };
      left = g.now;
    }

-- after the block that it leads to
abbrev pub with_block : {S : Type 0} → Choice S → Flow S → Choice S
with_block c g = record { taken = either_flow c.taken g; left = c.left }

module _ {S : Type 0} (x : List ℕ) (effect : Placed (Call S) → Effect) (enter : ℕ → Known S → Flow S) where
  -- an expression that is a statement
  abbrev pub flow_call : CallRef → Expression S → Option (Call S) → Known S → Flow S
  flow_call q e None k = flow_expression x q e k
  flow_call q e (Some c) k = then_flow (flow_calls x (calls_of_listing c.arguments) (placed q e) k) (flow_effect enter (effect (placed q c)))

  abbrev mutual
    pub flow_statement : CallRef → Statement S → Known S → Flow S
    flow_statement q (evaluate e) k = flow_call (child q 0) e (call_of e) k
    flow_statement q (assign s y a e) k =
        then_flow (flow_expression x (child q 0) e k) (λ now. going_on (assigned_if (bytes_eq y.text x) (maker q a e) now))
    flow_statement q (selection s bs o) k = all_branches (flow_branches q 0 bs (no_branch k)) (flow_otherwise q (branches_child_count bs) o)
    flow_statement q (iteration s xs e b) k =
        then_flow (flow_expression x (child q 0) e k) (flow_loop (λ now. flow_block (child q 1) b (begun (one_of_names xs x) now)))
    flow_statement q (breaks s) k = left_turn k
    flow_statement q (continues s) k = left_turn k

    -- from the n-th child on, after the branches before
    pub flow_branches : CallRef → ℕ → Branches S → Choice S → Choice S
    flow_branches q n no_branches c = c
    flow_branches q n (branch e b more) c =
        let d = with_condition c.taken (flow_expression x (child q n) e c.left) in
        flow_branches q (n + 2) more (with_block d (flow_block (child q (n + 1)) b d.left))

    -- without `else` it goes on where no condition holds
    pub flow_otherwise : CallRef → ℕ → Otherwise S → Known S → Flow S
    flow_otherwise q n nothing_else k = going_on k
    flow_otherwise q n (otherwise b) k = flow_block (child q n) b k

    -- from the n-th child on, after those before it
    pub flow_statements : CallRef → ℕ → Statements S → Flow S → Flow S
    flow_statements q n no_statements f = f
    flow_statements q n (statement s more) f = flow_statements q (n + 1) more (then_flow f (flow_statement (child q n) s))

    pub flow_block : CallRef → Block S → Known S → Flow S
    flow_block q (block s list) k = flow_statements q 0 list (going_on k)

-- ---- files

abbrev pub flow_tree : {S : Type 0} → List ℕ → (Placed (Call S) → Effect) → (ℕ → Known S → Flow S) → ℕ → File S → Known S → Flow S
flow_tree x effect enter n (file s b) k = flow_block x effect enter (place n []) b k

abbrev pub flow_found : {S : Type 0} → (BuildFile S → Known S → Flow S) → Option (BuildFile S) → Known S → Flow S
flow_found flow None k = going_on (touched k)
flow_found flow (Some f) k = flow f k

-- The file of a number, where this many files may be inside one another. A file enters files in folders below its own alone. So as many as there are files are
-- enough.
abbrev pub flow_file : {S : Type 0} → Project S → List ℕ → ℕ → ℕ → Known S → Flow S
flow_file p x zero n k = going_on (touched k)
flow_file p x (suc left) n k = flow_found (λ f. flow_tree x (effect_of p x f) (flow_file p x left) n f.tree) (nth_file p n) k

-- the whole project, from its root file on
abbrev pub flow_from : {S : Type 0} → Project S → List ℕ → Option ℕ → Flow S
flow_from p x None = going_on None
flow_from p x (Some n) = flow_file p x (length p) n None

abbrev pub flow_project : {S : Type 0} → Project S → List ℕ → Flow S
flow_project p x = flow_from p x (number_of p build_file)

-- ---- what is known at a place

-- whether the one place is in what is at the other, or is the same
abbrev pub is_in : CallRef → CallRef → Bool
is_in c q = c.file == q.file && starts_with nat_eq c.path.steps q.path.steps

abbrev pub joined_if : {S : Type 0} → Bool → Known S → Known S → Known S
joined_if b k l = if b then joined k l else k

abbrev pub met_at : {S : Type 0} → CallRef → Known S → Arrival S → Known S
met_at c k a = joined_if (is_in c a.at_expression.place) k a.known

abbrev pub known_among : {S : Type 0} → CallRef → Known S → List (Arrival S) → Known S
known_among c k arrivals = fold (met_at c) k arrivals

-- What is known of a variable where the expression at a place is evaluated, in whichever of the ways it is reached. A file may be entered by two calls.
abbrev pub known_at : {S : Type 0} → Project S → List ℕ → CallRef → Known S
known_at p x c = known_among c None (flow_project p x).arrivals
