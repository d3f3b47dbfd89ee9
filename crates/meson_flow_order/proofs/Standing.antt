-- Makers that are known are such ones as are added.
use Rattle.std.proofs.Common.{ℕ, zero, suc, List, [], ◌∷◌, ◌++◌, length, map, take, refl}
use Rattle.std.specs.Prelude.{⊤, Bool, true, false, not, filter, nat_lt, if◌then◌else◌, None, Some}
use Rattle.std.specs.List.{AllByRecursion}
use Rattle.meson_lex.specs.declared.kinds.Span.{Span}
use Rattle.meson_calls.specs.declared.call.CallRef.{CallRef}
use Rattle.meson_calls.specs.Folders.{build_file}
use Rattle.meson_calls.specs.Parts.{parts}
use Rattle.meson_calls.specs.Project.{Project}
use Rattle.meson_following.specs.Effects.{number_of}
use Rattle.meson_following.specs.Flows.{Arrival, flow_from, is_in, joined_if, known_among, met_at}
use Rattle.meson_following.specs.Makers.{Known, Made, Maker, added, are_same, assigned, is_among, joined, limited, made_by, max_makers, of_both, renewed, sure_as_among, touched, unsure, with_maker}
use Rattle.meson_flow_order.specs.Order.{AreMet, IsKeptBySteps}
use Rattle.meson_flow_order.specs.Standing.{AllStand, MakersStand, Stands}
use Rattle.meson_flow_order.proofs.Among.{news}
use Rattle.meson_flow_order.proofs.KeptFlows.{Makes, project_kept}

module _ (Q : Maker Span → Type 0) (whether_sure : (m : Maker Span) (b : Bool) → Q m → (let other : Maker Span = record { value = m.value; adds = m.adds; sure = b } in Q other)) where
  abbrev OnAll : Known Span → Type 0
  OnAll None = ⊤
  OnAll (Some m) = AllByRecursion Q m.makers

  all_append : (ms ns : List (Maker Span)) → AllByRecursion Q ms → AllByRecursion Q ns → AllByRecursion Q (ms ++ ns)
  all_append [] ns first second = second
  all_append (m ∷ ms) ns first second = (first.0, all_append ms ns first.1 second)

  all_map : (f : Maker Span → Maker Span) → ((m : Maker Span) → Q m → Q (f m)) → (ms : List (Maker Span)) → AllByRecursion Q ms → AllByRecursion Q (map f ms)
  all_map f keeps [] all = tt
  all_map f keeps (m ∷ ms) all = (keeps m all.0, all_map f keeps ms all.1)

  all_filter : (p : Maker Span → Bool) (ms : List (Maker Span)) → AllByRecursion Q ms → AllByRecursion Q (filter p ms)
  all_filter p [] all = tt
  all_filter p (m ∷ ms) all = go (p m) (all_filter p ms all.1)
    where
      go : (b : Bool) → AllByRecursion Q (filter p ms) → AllByRecursion Q (if b then m ∷ filter p ms else filter p ms)
      go true more = (all.0, more)
      go false more = more

  all_taken : (n : ℕ) (ms : List (Maker Span)) → AllByRecursion Q ms → AllByRecursion Q (take n ms)
  all_taken zero ms all = tt
  all_taken (suc n) [] all = tt
  all_taken (suc n) (m ∷ ms) all = (all.0, all_taken n ms all.1)

  on_limited : (m : Made Span) → AllByRecursion Q m.makers → OnAll (Some (limited m))
  on_limited m all = go (nat_lt max_makers (length m.makers))
    where
      go : (b : Bool) → OnAll (Some (if b then record { makers = take max_makers m.makers; unknown = true } else m))
      go true = all_taken max_makers m.makers all
      go false = all

  on_joined : (k l : Known Span) → OnAll k → OnAll l → OnAll (joined k l)
  on_joined None l first second = second
  on_joined (Some m) None first second = first
  on_joined (Some m) (Some n) first second =
      on_limited (record { makers = of_both m.makers n.makers; unknown = _ })
      (all_append (map (sure_as_among n.makers) m.makers) (map unsure (news m.makers n.makers))
      (all_map (sure_as_among n.makers) (λ m has. whether_sure m _ has) m.makers first)
      (all_map unsure (λ m has. whether_sure m false has) (news m.makers n.makers) (all_filter (λ n. not (is_among m.makers n)) n.makers second)))

  on_touched : (k : Known Span) → OnAll k → OnAll (touched k)
  on_touched None all = tt
  on_touched (Some m) all = all_map unsure (λ m has. whether_sure m false has) m.makers all

  all_with : (ms : List (Maker Span)) (new : Maker Span) → AllByRecursion Q ms → Q new → AllByRecursion Q (with_maker ms new)
  all_with ms new all one = go (is_among ms new)
    where
      either : (m : Maker Span) → Q m → Q (renewed new m)
      either m has = by (are_same m new)
        where
          by : (b : Bool) → Q (if b then new else m)
          by true = one
          by false = has

      go : (b : Bool) → AllByRecursion Q (if b then map (renewed new) ms else ms ++ new ∷ [])
      go true = all_map (renewed new) either ms all
      go false = all_append ms (new ∷ []) all (one, tt)

  on_added : (m : Maker Span) (k : Known Span) → Q m → OnAll k → OnAll (Some (added m k))
  on_added m None one all = (one, tt)
  on_added m (Some k) one all = on_limited (record { makers = with_maker k.makers m; unknown = k.unknown }) (all_with k.makers m all one)

  on_assigned : (m : Maker Span) (k : Known Span) → Q m → OnAll k → OnAll (assigned m k)
  on_assigned m k one all = go m.adds
    where
      go : (b : Bool) → OnAll (if b then Some (added m k) else Some (made_by m))
      go true = on_added m k one all
      go false = (one, tt)

  all_kept : IsKeptBySteps Q (λ k l. OnAll k)
  all_kept = record {
    none = tt;
    unknown = tt;
    joins = λ k l f g first second. on_joined k l first second;
    touches = λ k f all. on_touched k all;
    assigns = λ m k f one all. on_assigned m k one all;
  }

  on_known : (c : CallRef) (k : Known Span) (met : List (Arrival Span)) → OnAll k → AreMet (λ k l. OnAll k) met met → OnAll (known_among c k met)
  on_known c k [] all each = all
  on_known c k (a ∷ met) all each = on_known c (met_at c k a) met (go (is_in c a.at_expression.place)) each.2
    where
      go : (b : Bool) → OnAll (joined_if b k a.known)
      go true = on_joined k a.known all each.1
      go false = all

  all_known : (p : Project Span) (x : List ℕ) (c : CallRef) → Makes x Q (parts p)
      → (let n = number_of p build_file in OnAll (known_among c None (flow_from p x n).arrivals))
  all_known p x c makes =
      let n = number_of p build_file in
      on_known c None (flow_from p x n).arrivals tt (project_kept Q (λ k l. OnAll k) all_kept p x makes n).arrivals

same_stands : (p : Project Span) (x : List ℕ) (m : Maker Span) (b : Bool) → Stands p x m → (let other : Maker Span = record { value = m.value; adds = m.adds; sure = b } in Stands p x other)
same_stands p x m b s = record {
  statement = s.statement;
  span = s.span;
  name = s.name;
  operator = s.operator;
  expression = s.expression;
  part = s.part;
  variable = s.variable;
  value = s.value;
  adds = s.adds;
}

stands : (p : Project Span) (x : List ℕ) → Makes x (Stands p x) (parts p)
stands p x = λ q s y a e has is.
    record { statement = q; span = s; name = y; operator = a; expression = e; part = has; variable = is; value = refl; adds = refl }

pub makers_stand : MakersStand
makers_stand p x c = by_stand (known_among c None (flow_from p x (number_of p build_file)).arrivals) (all_known (Stands p x) (same_stands p x) p x c (stands p x))
  where
    by_stand : (k : Known Span) → OnAll (Stands p x) (same_stands p x) k → AllStand p x k
    by_stand None all = tt
    by_stand (Some m) all = all
