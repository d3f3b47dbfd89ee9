-- Each maker of a variable is the value of an assignment of it.
use Rattle.std.proofs.Common.{◌≡◌, ℕ, zero, suc, ◌+◌, List, [], ◌∷◌, ◌++◌, length, take, map, Option, Some, None, refl, sym, ap, subst, inl, inr, arith}
use Rattle.std.specs.Prelude.{Bool, true, false, nat_lt, not, bytes_eq, filter, if◌then◌else◌}
use Rattle.std.specs.List.{fold}
use Rattle.meson_lex.specs.declared.kinds.Span.{Span}
use Rattle.meson_syntax.specs.Tree.{Expression, Statement, evaluate, assign, selection, iteration, breaks, continues, Branches, no_branches, branch, Otherwise, nothing_else, otherwise, Statements, no_statements, statement, Block, block, File, file}
use Rattle.meson_syntax.proofs.paths.Every.{Every, every-append}
use Rattle.meson_calls.specs.declared.call.CallRef.{CallRef}
use Rattle.meson_calls.specs.Calls.{Call, call_of, chosen}
use Rattle.meson_calls.specs.Folders.{build_file}
use Rattle.meson_calls.specs.Notes.{an_assignment, is_set, note_of, notes}
use Rattle.meson_calls.specs.Parts.{Part, a_statement, branches_child_count, parts, parts_from, parts_of_block, parts_of_branches, parts_of_expression, parts_of_file, parts_of_otherwise, parts_of_statement, parts_of_statements}
use Rattle.meson_calls.specs.Project.{BuildFile, Placed, Project, child, nth_file, place, placed}
use Rattle.meson_variables.specs.Variables.{one_of_names}
use Rattle.meson_following.specs.declared.effects.Effect.{Effect}
use Rattle.meson_following.specs.declared.effects.Effect.TheVariants.{Nothing, Sets, MaySet, Unsets, Stops, Leaves, Enters, MayEnter}
use Rattle.meson_following.specs.Effects.{any_leaves_file, any_may_set, calls_of, calls_of_listing, effect_of, number_of}
use Rattle.meson_following.specs.Flows.{Arrival, Choice, Flow, around, assigned_if, begun, both_flow, either_flow, entered, flow_block, flow_branches, flow_call, flow_calls, flow_each, flow_effect, flow_expression, flow_file, flow_found, flow_from, flow_loop, flow_otherwise, flow_project, flow_statement, flow_statements, flow_tree, going_on, is_in, joined_if, known_at, known_if, maker, met_at, no_branch, then_flow, touched_if, with_block, with_condition}
use Rattle.meson_following.specs.Makers.{Known, Made, Maker, added, assigned, is_among, joined, limited, made_by, made_unknown, max_makers, of_both, renewed, sure_as_among, touched, unsure, with_maker, are_same}
use Rattle.meson_places.proofs.Found.{Among, every_among, given}
use Rattle.meson_followed_values.specs.Makers.{assigned_value, assigned_values}
use Rattle.meson_followed_values.proofs.Places.{among_left, among_right}

module _ (p : Project Span) (x : List ℕ) where
  abbrev IsAssigned : Maker Span → Type 0
  IsAssigned m = Among (assigned_values x (notes p)) m.value.place

  abbrev All : List (Maker Span) → Type 0
  All ms = Every IsAssigned ms

  abbrev OfKnown : Known Span → Type 0
  OfKnown None = Unit {0}
  OfKnown (Some k) = All k.makers

  -- ---- lists of makers

  all_map : (f : Maker Span → Maker Span) → ((m : Maker Span) → IsAssigned m → IsAssigned (f m)) → (ms : List (Maker Span)) → All ms → All (map f ms)
  all_map f keeps [] all = tt
  all_map f keeps (m ∷ ms) all = (keeps m all.0, all_map f keeps ms all.1)

  all_filter : (test : Maker Span → Bool) (ms : List (Maker Span)) → All ms → All (filter test ms)
  all_filter test [] all = tt
  all_filter test (m ∷ ms) all = go (test m) (all_filter test ms all.1)
    where
      go : (b : Bool) → All (filter test ms) → All (if b then m ∷ filter test ms else filter test ms)
      go true rest = (all.0, rest)
      go false rest = rest

  all_take : (n : ℕ) (ms : List (Maker Span)) → All ms → All (take n ms)
  all_take zero ms all = tt
  all_take (suc n) [] all = tt
  all_take (suc n) (m ∷ ms) all = (all.0, all_take n ms all.1)

  of_limited : (m : Made Span) → All m.makers → All (limited m).makers
  of_limited m all = go (nat_lt max_makers (length m.makers))
    where
      go : (b : Bool) → All (if b then record { makers = take max_makers m.makers; unknown = true } else m).makers
      go true = all_take max_makers m.makers all
      go false = all

  of_joined : (k l : Known Span) → OfKnown k → OfKnown l → OfKnown (joined k l)
  of_joined None l one other = other
  of_joined (Some m) None one other = one
  of_joined (Some m) (Some n) one other =
      of_limited (record { makers = of_both m.makers n.makers; unknown = _ })
      (every-append IsAssigned (map (sure_as_among n.makers) m.makers) (map unsure (filter (λ o. not (is_among m.makers o)) n.makers))
      (all_map (sure_as_among n.makers) (λ o h. h) m.makers one)
      (all_map unsure (λ o h. h) (filter (λ o. not (is_among m.makers o)) n.makers) (all_filter (λ o. not (is_among m.makers o)) n.makers other)))

  of_renewed : (new m : Maker Span) → IsAssigned new → IsAssigned m → IsAssigned (renewed new m)
  of_renewed new m one other = go (are_same m new)
    where
      go : (b : Bool) → IsAssigned (if b then new else m)
      go true = one
      go false = other

  of_with : (ms : List (Maker Span)) (new : Maker Span) → All ms → IsAssigned new → All (with_maker ms new)
  of_with ms new all one = go (is_among ms new)
    where
      go : (b : Bool) → All (if b then map (renewed new) ms else ms ++ new ∷ [])
      go true = all_map (renewed new) (λ m h. of_renewed new m one h) ms all
      go false = every-append IsAssigned ms (new ∷ []) all (one, tt)

  of_added : (m : Maker Span) (k : Known Span) → IsAssigned m → OfKnown k → All (added m k).makers
  of_added m None one all = (one, tt)
  of_added m (Some k) one all = of_limited (record { makers = with_maker k.makers m; unknown = k.unknown }) (of_with k.makers m all one)

  of_assigned : (m : Maker Span) (k : Known Span) → IsAssigned m → OfKnown k → OfKnown (assigned m k)
  of_assigned m k one all = go m.adds
    where
      go : (b : Bool) → OfKnown (if b then Some (added m k) else Some (made_by m))
      go true = of_added m k one all
      go false = (one, tt)

  of_touched : (k : Known Span) → OfKnown k → OfKnown (touched k)
  of_touched None all = tt
  of_touched (Some k) all = all_map unsure (λ o h. h) k.makers all

  -- ---- flows

  abbrev OfArrival : Arrival Span → Type 0
  OfArrival a = OfKnown a.known

  record OfFlow (f : Flow Span) : Type 0 where
    now : OfKnown f.now
    turned : OfKnown f.turned
    ended : OfKnown f.ended
    arrivals : Every OfArrival f.arrivals

  of_going : (k : Known Span) → OfKnown k → OfFlow (going_on k)
  of_going k all = record { now = all; turned = tt; ended = tt; arrivals = tt }

  of_both_flow : (f g : Flow Span) → OfFlow f → OfFlow g → OfFlow (both_flow f g)
  of_both_flow f g one other = record {
    now = other.now;
    turned = of_joined f.turned g.turned one.turned other.turned;
    ended = of_joined f.ended g.ended one.ended other.ended;
    arrivals = every-append OfArrival f.arrivals g.arrivals one.arrivals other.arrivals;
  }

  abbrev Keeps : (Known Span → Flow Span) → Type 0
  Keeps more = (k : Known Span) → OfKnown k → OfFlow (more k)

  of_then : (f : Flow Span) (more : Known Span → Flow Span) → OfFlow f → Keeps more → OfFlow (then_flow f more)
  of_then f more one keeps = of_both_flow f (more f.now) one (keeps f.now one.now)

  of_either : (f g : Flow Span) → OfFlow f → OfFlow g → OfFlow (either_flow f g)
  of_either f g one other = record {
    now = of_joined f.now g.now one.now other.now;
    turned = of_joined f.turned g.turned one.turned other.turned;
    ended = of_joined f.ended g.ended one.ended other.ended;
    arrivals = every-append OfArrival f.arrivals g.arrivals one.arrivals other.arrivals;
  }

  of_known_if : (b : Bool) (k : Known Span) → OfKnown k → OfKnown (known_if b k)
  of_known_if true k all = all
  of_known_if false k all = tt

  of_loop : (turn : Known Span → Flow Span) → Keeps turn → Keeps (flow_loop turn)
  of_loop turn keeps k all =
      let once = keeps k all in
      let before = of_joined k (joined (turn k).now (turn k).turned) all (of_joined (turn k).now (turn k).turned once.now once.turned) in
      record {
        now = before;
        turned = tt;
        ended = of_known_if (turn k).leaves (joined (turn k).ended (around k (turn k))) (of_joined (turn k).ended (around k (turn k)) once.ended before);
        arrivals = (keeps (around k (turn k)) before).arrivals;
      }

  of_touched_if : (b : Bool) (k : Known Span) → OfKnown k → OfKnown (touched_if b k)
  of_touched_if true k all = of_touched k all
  of_touched_if false k all = all

  of_calls : (cs : List (Call Span)) (e : Placed (Expression Span)) → Keeps (flow_calls x cs e)
  of_calls cs e k all =
      let now = of_touched_if (any_may_set x cs) k all in
      record {
        now = now;
        turned = tt;
        ended = of_known_if (any_leaves_file cs) (touched_if (any_may_set x cs) k) now;
        arrivals = (now, tt);
      }

  of_entered : (skipped : Known Span) (f : Flow Span) → OfKnown skipped → OfFlow f → OfFlow (entered skipped f)
  of_entered skipped f one other = record {
    now = of_joined skipped (joined f.now f.ended) one (of_joined f.now f.ended other.now other.ended);
    turned = other.turned;
    ended = tt;
    arrivals = other.arrivals;
  }

  abbrev EachKeeps : (ℕ → Known Span → Flow Span) → Type 0
  EachKeeps enter = (n : ℕ) → Keeps (enter n)

  of_each : (enter : ℕ → Known Span → Flow Span) → EachKeeps enter → (ns : List ℕ) (f : Flow Span) → OfFlow f → OfFlow (flow_each enter ns f)
  of_each enter keeps [] f one = one
  of_each enter keeps (n ∷ ns) f one =
      of_each enter keeps ns (then_flow f (λ k. entered k (enter n k))) (of_then f (λ k. entered k (enter n k)) one (λ k all. of_entered k (enter n k) all (keeps n k all)))

  of_effect : (enter : ℕ → Known Span → Flow Span) → EachKeeps enter → (e : Effect) → Keeps (flow_effect enter e)
  of_effect enter keeps Nothing k all = of_going k all
  of_effect enter keeps Sets k all = of_going (Some made_unknown) tt
  of_effect enter keeps MaySet k all = of_going (touched k) (of_touched k all)
  of_effect enter keeps Unsets k all = of_going None tt
  of_effect enter keeps Stops k all = of_going None tt
  of_effect enter keeps Leaves k all = record { now = tt; turned = tt; ended = all; arrivals = tt }
  of_effect enter keeps (Enters n condition) k all = of_entered (known_if condition k) (enter n k) (of_known_if condition k all) (keeps n k all)
  of_effect enter keeps (MayEnter ns) k all = of_each enter keeps ns (going_on (touched k)) (of_going (touched k) (of_touched k all))

  -- ---- statements

  abbrev AreParts : List (Placed (Part Span)) → Type 0
  AreParts qs = (q : Placed (Part Span)) → Among qs q → Among (parts p) q

  of_begun : (b : Bool) (k : Known Span) → OfKnown k → OfKnown (begun b k)
  of_begun true k all = tt
  of_begun false k all = all

  -- what an assignment puts there
  value_of : (q : CallRef) (s : Span) (y : _) (a : _) (e : Expression Span) → Among (parts p) (placed q (a_statement (assign s y a e))) → bytes_eq y.text x ≡ true → IsAssigned (maker q a e)
  value_of q s y a e there same =
      let n = given (chosen note_of) (parts p) (placed q (a_statement (assign s y a e))) (placed q (an_assignment y.text (is_set a) e)) there refl in
      given (assigned_value x) (notes p) (placed q (an_assignment y.text (is_set a) e)) (child q 0) n (ap (λ b. if b then Some (child q 0) else None) same)

  of_set : (q : CallRef) (s : Span) (y : _) (a : _) (e : Expression Span) → Among (parts p) (placed q (a_statement (assign s y a e)))
      → Keeps (λ now. going_on (assigned_if (bytes_eq y.text x) (maker q a e) now))
  of_set q s y a e there k all = go (bytes_eq y.text x) refl
    where
      go : (b : Bool) → bytes_eq y.text x ≡ b → OfFlow (going_on (assigned_if b (maker q a e) k))
      go true same = of_going (assigned (maker q a e) k) (of_assigned (maker q a e) k (value_of q s y a e there same) all)
      go false other = of_going k all

  record OfChoice (c : Choice Span) : Type 0 where
    taken : OfFlow c.taken
    left : OfKnown c.left

  module _ (effect : Placed (Call Span) → Effect) (enter : ℕ → Known Span → Flow Span) (keeps : EachKeeps enter) where
    of_call : (q : CallRef) (e : Expression Span) (o : Option (Call Span)) → Keeps (flow_call x effect enter q e o)
    of_call q e None k all = of_calls (calls_of e) (placed q e) k all
    of_call q e (Some c) k all =
        of_then (flow_calls x (calls_of_listing c.arguments) (placed q e) k) (flow_effect enter (effect (placed q c))) (of_calls (calls_of_listing c.arguments) (placed q e) k all)
        (of_effect enter keeps (effect (placed q c)))

    mutual
      of_statement : (q : CallRef) (s : Statement Span) → AreParts (parts_of_statement q s) → Keeps (flow_statement x effect enter q s)
      of_statement q (evaluate e) among k all = of_call (child q 0) e (call_of e) k all
      of_statement q (assign s y a e) among k all =
          of_then (flow_expression x (child q 0) e k) (λ now. going_on (assigned_if (bytes_eq y.text x) (maker q a e) now)) (of_calls (calls_of e) (placed (child q 0) e) k all)
          (of_set q s y a e (among (placed q (a_statement (assign s y a e))) (inl refl)))
      of_statement q (selection s bs o) among k all =
          let c = of_branches q 0 bs (λ r m. among r (inr (among_left (parts_of_branches q 0 bs) (parts_of_otherwise q (branches_child_count bs) o) r m))) (no_branch k)
          (record { taken = of_going None tt; left = all }) in
          of_either (flow_branches x effect enter q 0 bs (no_branch k)).taken (flow_otherwise x effect enter q (branches_child_count bs) o (flow_branches x effect enter q 0 bs (no_branch k)).left) c.taken
          (of_otherwise q (branches_child_count bs) o (λ r m. among r (inr (among_right (parts_of_branches q 0 bs) (parts_of_otherwise q (branches_child_count bs) o) r m)))
          (flow_branches x effect enter q 0 bs (no_branch k)).left c.left)
      of_statement q (iteration s xs e b) among k all =
          of_then (flow_expression x (child q 0) e k) (flow_loop (λ now. flow_block x effect enter (child q 1) b (begun (one_of_names xs x) now))) (of_calls (calls_of e) (placed (child q 0) e) k all)
          (of_loop (λ now. flow_block x effect enter (child q 1) b (begun (one_of_names xs x) now))
          (λ now h. of_block (child q 1) b (λ r m. among r (inr (among_right (parts_of_expression (child q 0) e) (parts_of_block (child q 1) b) r m))) (begun (one_of_names xs x) now)
          (of_begun (one_of_names xs x) now h)))
      of_statement q (breaks s) among k all = record { now = tt; turned = all; ended = tt; arrivals = tt }
      of_statement q (continues s) among k all = record { now = tt; turned = all; ended = tt; arrivals = tt }

      of_branches : (q : CallRef) (n : ℕ) (bs : Branches Span) → AreParts (parts_of_branches q n bs) → (c : Choice Span) → OfChoice c → OfChoice (flow_branches x effect enter q n bs c)
      of_branches q n no_branches among c all = all
      of_branches q n (branch e b more) among c all =
          let f = flow_expression x (child q n) e c.left in
          let of_f = of_calls (calls_of e) (placed (child q n) e) c.left all.left in
          let d = with_condition c.taken f in
          let g = flow_block x effect enter (child q (n + 1)) b d.left in
          let of_g = of_block (child q (n + 1)) b
          (λ r m. among r (among_right (parts_of_expression (child q n) e) (parts_of_block (child q (n + 1)) b ++ parts_of_branches q (n + 2) more) r
          (among_left (parts_of_block (child q (n + 1)) b) (parts_of_branches q (n + 2) more) r m))) d.left of_f.now in
          of_branches q (n + 2) more
          (λ r m. among r (among_right (parts_of_expression (child q n) e) (parts_of_block (child q (n + 1)) b ++ parts_of_branches q (n + 2) more) r
          (among_right (parts_of_block (child q (n + 1)) b) (parts_of_branches q (n + 2) more) r m)))
          (with_block d g)
          (record {
            taken = of_either d.taken g
                (record {
                  now = all.taken.now;
                  turned = of_joined c.taken.turned f.turned all.taken.turned of_f.turned;
                  ended = of_joined c.taken.ended f.ended all.taken.ended of_f.ended;
                  arrivals = every-append OfArrival c.taken.arrivals f.arrivals all.taken.arrivals of_f.arrivals;
                }) of_g;
            left = of_f.now;
          })

      of_otherwise : (q : CallRef) (n : ℕ) (o : Otherwise Span) → AreParts (parts_of_otherwise q n o) → Keeps (flow_otherwise x effect enter q n o)
      of_otherwise q n nothing_else among k all = of_going k all
      of_otherwise q n (otherwise b) among k all = of_block (child q n) b among k all

      of_statements : (q : CallRef) (n : ℕ) (list : Statements Span) → AreParts (parts_of_statements q n list) → (f : Flow Span) → OfFlow f → OfFlow (flow_statements x effect enter q n list f)
      of_statements q n no_statements among f one = one
      of_statements q n (statement s more) among f one =
          of_statements q (n + 1) more (λ r m. among r (among_right (parts_of_statement (child q n) s) (parts_of_statements q (n + 1) more) r m))
          (then_flow f (flow_statement x effect enter (child q n) s))
          (of_then f (flow_statement x effect enter (child q n) s) one
          (of_statement (child q n) s (λ r m. among r (among_left (parts_of_statement (child q n) s) (parts_of_statements q (n + 1) more) r m))))

      of_block : (q : CallRef) (b : Block Span) → AreParts (parts_of_block q b) → Keeps (flow_block x effect enter q b)
      of_block q (block s list) among k all = of_statements q 0 list among (going_on k) (of_going k all)

  -- ---- files

  file_parts : (from : ℕ) (files : Project Span) (n : ℕ) (f : BuildFile Span) → nth_file files n ≡ Some f → (q : Placed (Part Span)) → Among (parts_of_file (from + n) f.tree) q
      → Among (parts_from from files) q
  file_parts from [] n f is q m = absurd (let no : ⊥ = cc in no)
  file_parts from (g ∷ files) zero f is q m =
      let same : g ≡ f = cc in
      let here : from + 0 ≡ from = omega arith in
      among_left (parts_of_file from g.tree) (parts_from (from + 1) files) q
      (subst (λ k. Among (parts_of_file k g.tree) q) here (subst (λ (h : BuildFile Span). Among (parts_of_file (from + 0) h.tree) q) (sym same) m))
  file_parts from (g ∷ files) (suc n) f is q m =
      let next : from + suc n ≡ (from + 1) + n = omega arith in
      among_right (parts_of_file from g.tree) (parts_from (from + 1) files) q (file_parts (from + 1) files n f is q (subst (λ k. Among (parts_of_file k f.tree) q) next m))

  of_file : (left n : ℕ) → Keeps (flow_file p x left n)
  of_file zero n k all = of_going (touched k) (of_touched k all)
  of_file (suc left) n k all = go (nth_file p n) refl (of_file left)
    where
      flow : BuildFile Span → Known Span → Flow Span
      flow f = flow_tree x (effect_of p x f) (flow_file p x left) n f.tree

      in_tree : (effect : Placed (Call Span) → Effect) (t : File Span) → EachKeeps (flow_file p x left) → AreParts (parts_of_file n t) → OfFlow (flow_tree x effect (flow_file p x left) n t k)
      in_tree effect (file s b) keeps among = of_block effect (flow_file p x left) keeps (place n []) b among k all

      here : (f : BuildFile Span) → nth_file p n ≡ Some f → AreParts (parts_of_file n f.tree)
      here f is q m = let z : n ≡ 0 + n = omega arith in file_parts 0 p n f is q (subst (λ i. Among (parts_of_file i f.tree) q) z m)

      go : (o : Option (BuildFile Span)) → nth_file p n ≡ o → EachKeeps (flow_file p x left) → OfFlow (flow_found flow o k)
      go None is keeps = of_going (touched k) (of_touched k all)
      go (Some f) is keeps = in_tree (effect_of p x f) f.tree keeps (here f is)

  of_project : (o : Option ℕ) → OfFlow (flow_from p x o)
  of_project None = of_going None tt
  of_project (Some n) = of_file (length p) n None tt

  -- ---- what is known at a place

  of_met : (c : CallRef) (arrivals : List (Arrival Span)) → Every OfArrival arrivals → (k : Known Span) → OfKnown k → OfKnown (fold (met_at c) k arrivals)
  of_met c [] all k one = one
  of_met c (a ∷ more) all k one = of_met c more all.1 (met_at c k a) (go (is_in c a.at_expression.place))
    where
      go : (b : Bool) → OfKnown (joined_if b k a.known)
      go true = of_joined k a.known one all.0
      go false = one

  of_known : (c : CallRef) → OfKnown (known_at p x c)
  of_known c = of_met c (flow_project p x).arrivals (of_project (number_of p build_file)).arrivals None tt

  -- each maker that is known is an assigned value
  pub maker_among : (c : CallRef) (k : Made Span) → known_at p x c ≡ Some k → (m : Maker Span) → Among k.makers m → IsAssigned m
  maker_among c k is m among = every_among IsAssigned k.makers m (subst OfKnown is (of_known c)) among
