-- What is read at a place is above what is known wherever an expression there is evaluated.
use Rattle.std.proofs.Common.{◌≡◌, List, [], ◌∷◌, subst}
use Rattle.std.specs.Prelude.{⊤, Bool, true, false, None}
use Rattle.std.specs.List.{AllByRecursion}
use Rattle.std.proofs.lemmas.Bool.{false≢true}
use Rattle.meson_lex.specs.declared.kinds.Span.{Span}
use Rattle.meson_calls.specs.declared.call.CallRef.{CallRef}
use Rattle.meson_calls.specs.Parts.{parts}
use Rattle.meson_calls.specs.Folders.{build_file}
use Rattle.meson_following.specs.Effects.{number_of}
use Rattle.meson_following.specs.Flows.{Arrival, flow_from, is_in, joined_if, known_among, met_at}
use Rattle.meson_following.specs.Makers.{Known}
use Rattle.meson_flow_order.specs.Laws.{ReadsAreAbove, ReadsAreGood, ReadsKeep}
use Rattle.meson_flow_order.specs.Order.{AreMet, IsBelow, IsBelowAsSet, IsGoodKnown}
use Rattle.meson_flow_order.proofs.Below.{below_in_turn, below_itself, first_below, good_joined, second_below}
use Rattle.meson_flow_order.proofs.KeptFlows.{any_makes, project_kept}
use Rattle.meson_flow_order.proofs.Turns.{as_set_kept, set_itself}

-- ---- where more is known

reads_kept : (c : CallRef) (k l : Known Span) (met more : List (Arrival Span)) → IsBelowAsSet k l → AreMet IsBelowAsSet met more → IsBelowAsSet (known_among c k met) (known_among c l more)
reads_kept c k l [] [] under alike = under
reads_kept c k l [] (b ∷ later) under alike = absurd alike
reads_kept c k l (a ∷ met) [] under alike = absurd alike
reads_kept c k l (a ∷ met) (b ∷ more) under alike =
    reads_kept c (met_at c k a) (met_at c l b) met more
    (subst (λ e. IsBelowAsSet (met_at c k a) (joined_if (is_in c e.place) l b.known)) alike.0 (go (is_in c a.at_expression.place))) alike.2
  where
    go : (here : Bool) → IsBelowAsSet (joined_if here k a.known) (joined_if here l b.known)
    go true = as_set_kept.joins k a.known l b.known under alike.1
    go false = under

pub reads_keep : ReadsKeep
reads_keep c met more alike = reads_kept c None None met more (set_itself None tt) alike

-- ---- above each

joined_if_good : (b : Bool) (k l : Known Span) → IsGoodKnown k → IsGoodKnown l → IsGoodKnown (joined_if b k l)
joined_if_good true k l good_k good_l = good_joined k l good_k good_l
joined_if_good false k l good_k good_l = good_k

joined_if_above : (b : Bool) (k l : Known Span) → IsBelow k (joined_if b k l)
joined_if_above true k l = first_below k l
joined_if_above false k l = below_itself k

here_above : (b : Bool) (k l : Known Span) → b ≡ true → IsBelow l (joined_if b k l)
here_above true k l is = second_below k l
here_above false k l is = absurd (false≢true is)

begun_above : (c : CallRef) (k : Known Span) (met : List (Arrival Span)) → IsGoodKnown k → AreMet IsBelowAsSet met met → IsBelow k (known_among c k met)
begun_above c k [] good alike = below_itself k
begun_above c k (a ∷ met) good alike =
    let here = is_in c a.at_expression.place in
    let good_here = joined_if_good here k a.known good alike.1.lower in
    below_in_turn k (met_at c k a) (known_among c (met_at c k a) met) good_here (joined_if_above here k a.known) (begun_above c (met_at c k a) met good_here alike.2)

each_above : (c : CallRef) (k : Known Span) (met : List (Arrival Span)) → IsGoodKnown k → AreMet IsBelowAsSet met met
    → AllByRecursion (λ a. is_in c a.at_expression.place ≡ true → IsBelow a.known (known_among c k met)) met
each_above c k [] good alike = tt
each_above c k (a ∷ met) good alike =
    let here = is_in c a.at_expression.place in
    let good_here = joined_if_good here k a.known good alike.1.lower in
    let all = known_among c (met_at c k a) met in (
      λ is. below_in_turn a.known (met_at c k a) all good_here (here_above here k a.known is) (begun_above c (met_at c k a) met good_here alike.2),
      each_above c (met_at c k a) met good_here alike.2,
    )

among_good : (c : CallRef) (k : Known Span) (met : List (Arrival Span)) → IsGoodKnown k → AreMet IsBelowAsSet met met → IsGoodKnown (known_among c k met)
among_good c k [] good alike = good
among_good c k (a ∷ met) good alike = among_good c (met_at c k a) met (joined_if_good (is_in c a.at_expression.place) k a.known good alike.1.lower) alike.2

pub reads_are_good : ReadsAreGood
reads_are_good p x c =
    let n = number_of p build_file in
    among_good c None (flow_from p x n).arrivals tt (project_kept (λ m. ⊤) IsBelowAsSet as_set_kept p x (any_makes x (parts p)) n).arrivals

pub reads_are_above : ReadsAreAbove
reads_are_above p x c =
    let n = number_of p build_file in
    each_above c None (flow_from p x n).arrivals tt (project_kept (λ m. ⊤) IsBelowAsSet as_set_kept p x (any_makes x (parts p)) n).arrivals
