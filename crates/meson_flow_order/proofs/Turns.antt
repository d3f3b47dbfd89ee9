-- What a loop has around holds in each of its turns.
use Rattle.std.proofs.Common.{◌≡◌, sym, subst, refl}
use Rattle.std.specs.Prelude.{⊤, Bool, true, false, None, Some}
use Rattle.meson_lex.specs.declared.kinds.Span.{Span}
use Rattle.meson_following.specs.Flows.{Flow, around, known_if}
use Rattle.meson_following.specs.Makers.{Known, assigned, joined, made_unknown, touched}
use Rattle.meson_flow_order.specs.Order.{AreFlows, HoldsInTurns, IsBelow, IsBelowAsSet, IsBelowWith, IsGoodKnown, IsKeptBySteps}
use Rattle.meson_flow_order.proofs.Below.{below_in_turn, below_itself, first_below, good_joined, joined_least, second_below}
use Rattle.meson_flow_order.proofs.Steps.{with_kept}

-- ---- with nothing more

joined_none : (l : Known Span) → joined l None ≡ l
joined_none None = refl
joined_none (Some l) = refl

with_nothing : (k l : Known Span) → IsBelowAsSet k l → IsBelowWith None k l
with_nothing k l under = record { below = subst (IsBelow k) (sym (joined_none l)) under.below; unset = under.unset; lower = under.lower; upper = under.upper }

as_set : (k l : Known Span) → IsBelowWith None k l → IsBelowAsSet k l
as_set k l under = record { below = subst (IsBelow k) (joined_none l) under.below; unset = under.unset; lower = under.lower; upper = under.upper }

pub as_set_kept : IsKeptBySteps (λ m. ⊤) IsBelowAsSet
as_set_kept =
    let kept = with_kept None tt in
    record {
      none = as_set None None kept.none;
      unknown = as_set (Some made_unknown) (Some made_unknown) kept.unknown;
      joins = λ k l f g first second. as_set (joined k l) (joined f g) (kept.joins k l f g (with_nothing k f first) (with_nothing l g second));
      touches = λ k f under. as_set (touched k) (touched f) (kept.touches k f (with_nothing k f under));
      assigns = λ m k f any under. as_set (assigned m k) (assigned m f) (kept.assigns m k f any (with_nothing k f under));
    }

pub set_itself : (k : Known Span) → IsGoodKnown k → IsBelowAsSet k k
set_itself k good = record { below = below_itself k; unset = λ is. is; lower = good; upper = good }

-- ---- what is joined with more

pub with_more : (d e : Known Span) → IsGoodKnown d → IsGoodKnown e → IsBelowWith e (joined d e) d
with_more d e good more = record { below = below_itself (joined d e); unset = left d e; lower = good_joined d e good more; upper = good }
  where
    left : (d e : Known Span) → joined d e ≡ None → d ≡ None
    left None e is = refl
    left (Some d) None is = absurd (let no : ⊥ = cc in no)
    left (Some d) (Some e) is = absurd (let no : ⊥ = cc in no)

-- ---- turns

module _ (turn : Known Span → Flow Span)
    (keeps : (e k l : Known Span) → IsGoodKnown e → IsBelowWith e k l → AreFlows (IsBelowWith e) (turn k) (turn l)) (k : Known Span) (good : IsGoodKnown k) where
  pub turns_hold : HoldsInTurns turn k
  turns_hold =
      let once = turn k in
      let alone = keeps None k k tt (with_nothing k k (set_itself k good)) in
      let e = joined once.now once.turned in
      let good_e : IsGoodKnown e = good_joined once.now once.turned alone.now.lower alone.turned.lower in
      let before = around k once in
      let good_before : IsGoodKnown before = good_joined k e good good_e in
      let later = keeps e before k good_e (with_more k e good good_e) in
      let inside : IsBelow e before = second_below k e in
      let under : (h : Known Span) → IsGoodKnown h → IsBelow h e → IsBelow (joined h e) before =
      λ h good_h below. joined_least h e before good_h good_e good_before (below_in_turn h e before good_e below inside) inside in
      record {
        first = first_below k e;
        now = below_in_turn (turn before).now (joined once.now e) before (good_joined once.now e alone.now.lower good_e) later.now.below
            (under once.now alone.now.lower (first_below once.now once.turned));
        turned = below_in_turn (turn before).turned (joined once.turned e) before (good_joined once.turned e alone.turned.lower good_e) later.turned.below
            (under once.turned alone.turned.lower (second_below once.now once.turned));
        ended = at_end once.leaves later.leaves later.stays
            (below_in_turn (turn before).ended (joined once.ended e) (joined once.ended before) (good_joined once.ended e alone.ended.lower good_e) later.ended.below
            (joined_least once.ended e (joined once.ended before) alone.ended.lower good_e (good_joined once.ended before alone.ended.lower good_before)
            (first_below once.ended before)
            (below_in_turn e before (joined once.ended before) good_before inside (second_below once.ended before))));
        leaves = later.leaves;
      }
    where
      at_end : (b : Bool) → (let before = around k (turn k) in (turn before).leaves ≡ b) → (let f = turn (around k (turn k)) in f.leaves ≡ false → f.ended ≡ None)
          → (let before = around k (turn k) in IsBelow (turn before).ended (joined (turn k).ended before))
          → (let before = around k (turn k) in IsBelow (turn before).ended (known_if b (joined (turn k).ended before)))
      at_end true is stays below = below
      at_end false is stays below = subst (λ h. IsBelow h None) (sym (stays is)) tt
