-- What each step of an evaluation keeps of the order.
use Rattle.std.proofs.Common.{◌≡◌, ◌≤◌, ◌⊎◌, inl, inr, List, [], ◌∷◌, length, map, refl, sym, ap, ap₂, subst, ◌∙◌, arith}
use Rattle.std.specs.Prelude.{⊤, Bool, true, false, ◌&&◌, ◌||◌, if◌then◌else◌, Some, None}
use Rattle.std.proofs.lemmas.Bool.{and_from, and_parts, and_right, or_cases, or_left, or_right, false≢true}
use Rattle.std.proofs.lemmas.List.{append-nil, length-map}
use Rattle.meson_lex.specs.declared.kinds.Span.{Span}
use Rattle.meson_following.specs.Makers.{Known, Made, Maker, added, are_same, assigned, is_among, is_sure_among, joined, limited, made_by, made_unknown, max_makers, of_both, sure_as_among, touched, unsure, with_maker}
use Rattle.meson_flow_order.specs.Order.{IsBelow, IsBelowWith, IsGood, IsGoodKnown, IsKeptBySteps, IsWithin, says_nothing, stand_once}
use Rattle.meson_flow_order.proofs.Among.{among_both, among_with, sure_both, sure_new, sure_others, sure_there}
use Rattle.meson_flow_order.proofs.Once.{no_longer, once_both, once_with}
use Rattle.meson_flow_order.proofs.Below.{all_of_both, below_in_turn, first_below, good_joined, good_limited, joined_least, not_cut, not_cut_if_told, second_below, told_below}

-- ---- values as they are kept

pub good_alone : (m : Maker Span) → IsGood (made_by m)
good_alone m = record { once = refl; few = omega arith }

pub good_unknown : IsGoodKnown (Some made_unknown)
good_unknown = record { once = refl; few = omega arith }

abbrev with_one : Maker Span → Made Span → Made Span
with_one m k = record { makers = with_maker k.makers m; unknown = k.unknown }

pub good_added : (m : Maker Span) (k : Known Span) → IsGoodKnown k → IsGood (added m k)
good_added m None good = good_alone m
good_added m (Some k) good = good_limited (with_one m k) (once_with k.makers m good.once)

-- ---- one more maker

-- the one has this maker and what the other one has
record HasOneMore (m : Maker Span) (n u : Made Span) : Type 0 where
  here : (x : Maker Span) → are_same m x ≡ true → is_among u.makers x ≡ true
  makers : (x : Maker Span) → is_among n.makers x ≡ true → is_among u.makers x ≡ true
  sure_here : (x : Maker Span) → are_same m x ≡ true → is_sure_among u.makers x ≡ true → m.sure ≡ true
  sure : (x : Maker Span) → are_same m x ≡ false → is_sure_among u.makers x ≡ true → is_sure_among n.makers x ≡ true
  unknown : n.unknown ≡ true → u.unknown ≡ true

added_within : (m : Maker Span) (k n u : Made Span) → IsGood k → IsGood n → IsGood u → HasOneMore m n u → IsBelow (Some k) (Some n) → says_nothing u ≡ false
    → IsWithin (added m (Some k)) u
added_within m k n u good_k good_n good_u more below told = subst (λ w. IsWithin w u) (sym (not_cut (with_one m k) few)) all
  where
    under : IsWithin k n
    under = below (told_below n u good_n.once more.makers more.unknown told)

    one : (x : Maker Span) → (are_same m x ≡ true) ⊎ (is_among k.makers x ≡ true) → is_among u.makers x ≡ true
    one x (inl same) = more.here x same
    one x (inr is) = more.makers x (under.makers x is)

    for_sure : (x : Maker Span) (b : Bool) → are_same m x ≡ b → is_sure_among u.makers x ≡ true → is_sure_among (with_maker k.makers m) x ≡ true
    for_sure x true same is = sure_there k.makers m x same (more.sure_here x same is)
    for_sure x false off is = sure_others k.makers m x off ∙ under.sure x (more.sure x off is)

    all : IsWithin (with_one m k) u
    all = record {
      makers = λ x is. one x (or_cases (are_same m x) (is_among k.makers x) (sym (among_with k.makers m x) ∙ is));
      sure = λ x is. for_sure x (are_same m x) refl is;
      unknown = λ is. more.unknown (under.unknown is);
    }

    few : length (with_maker k.makers m) ≤ max_makers
    few =
        let longer : length (with_maker k.makers m) ≤ length u.makers = no_longer (with_maker k.makers m) u.makers (once_with k.makers m good_k.once) all.makers in
        let most : length u.makers ≤ max_makers = good_u.few in
        omega (arith, longer, most)

alone_sure : (a b : Bool) → ((a && b) || false) ≡ true → b ≡ true
alone_sure true true is = refl
alone_sure true false is = is
alone_sure false b is = absurd (false≢true is)

-- joined with one that it makes alone
more_alone : (m : Maker Span) (e : Made Span) → HasOneMore m e (all_of_both (made_by m) e)
more_alone m e = record {
  here = λ x same. among_both (m ∷ []) e.makers x ∙ or_left (are_same m x || false) (is_among e.makers x) (or_left (are_same m x) false same);
  makers = λ x is. among_both (m ∷ []) e.makers x ∙ or_right (are_same m x || false) (is_among e.makers x) is;
  sure_here = λ x same is. alone_sure (are_same m x) m.sure (and_parts (is_sure_among (m ∷ []) x) (is_sure_among e.makers x) (sym (sure_both (m ∷ []) e.makers x) ∙ is)).0;
  sure = λ x off is. (and_parts (is_sure_among (m ∷ []) x) (is_sure_among e.makers x) (sym (sure_both (m ∷ []) e.makers x) ∙ is)).1;
  unknown = λ is. is;
}

more_added : (m : Maker Span) (f : Made Span) → HasOneMore m f (with_one m f)
more_added m f = record {
  here = λ x same. among_with f.makers m x ∙ or_left (are_same m x) (is_among f.makers x) same;
  makers = λ x is. among_with f.makers m x ∙ or_right (are_same m x) (is_among f.makers x) is;
  sure_here = λ x same is. sure_new f.makers m x same is;
  sure = λ x off is. sym (sure_others f.makers m x off) ∙ is;
  unknown = λ is. is;
}

more_joined : (m : Maker Span) (f e : Made Span) → HasOneMore m (all_of_both f e) (all_of_both (with_one m f) e)
more_joined m f e = record {
  here = λ x same. in_first x (among_with f.makers m x ∙ or_left (are_same m x) (is_among f.makers x) same);
  makers = λ x is. one x (or_cases (is_among f.makers x) (is_among e.makers x) (sym (among_both f.makers e.makers x) ∙ is));
  sure_here = λ x same is. sure_new f.makers m x same (parts x is).0;
  sure = λ x off is. sure_both f.makers e.makers x ∙ and_from (is_sure_among f.makers x) (is_sure_among e.makers x) (sym (sure_others f.makers m x off) ∙ (parts x is).0) (parts x is).1;
  unknown = λ is. is;
}
  where
    in_first : (x : Maker Span) → is_among (with_maker f.makers m) x ≡ true → is_among (of_both (with_maker f.makers m) e.makers) x ≡ true
    in_first x is = among_both (with_maker f.makers m) e.makers x ∙ or_left (is_among (with_maker f.makers m) x) (is_among e.makers x) is

    one : (x : Maker Span) → (is_among f.makers x ≡ true) ⊎ (is_among e.makers x ≡ true) → is_among (of_both (with_maker f.makers m) e.makers) x ≡ true
    one x (inl is) = in_first x (among_with f.makers m x ∙ or_right (are_same m x) (is_among f.makers x) is)
    one x (inr is) = among_both (with_maker f.makers m) e.makers x ∙ or_right (is_among (with_maker f.makers m) x) (is_among e.makers x) is

    parts : (x : Maker Span) → is_sure_among (of_both (with_maker f.makers m) e.makers) x ≡ true → (is_sure_among (with_maker f.makers m) x ≡ true) × (is_sure_among e.makers x ≡ true)
    parts x is = and_parts (is_sure_among (with_maker f.makers m) x) (is_sure_among e.makers x) (sym (sure_both (with_maker f.makers m) e.makers x) ∙ is)

added_both : (m : Maker Span) (k f e : Made Span) → IsGood k → IsGood f → IsGood e → IsBelow (Some k) (joined (Some f) (Some e))
    → (let u = limited (all_of_both (added m (Some f)) e) in says_nothing u ≡ false → IsWithin (added m (Some k)) u)
added_both m k f e good_k good_f good_e below told =
    let w = added m (Some f) in
    let good_w : IsGood w = good_added m (Some f) good_f in
    let whole : limited (all_of_both w e) ≡ all_of_both w e = not_cut_if_told (all_of_both w e) told in
    let told_both : says_nothing (all_of_both w e) ≡ false = sym (ap says_nothing whole) ∙ told in
    let told_w : says_nothing w ≡ false =
    told_below w (all_of_both w e) good_w.once
    (λ x is. among_both w.makers e.makers x ∙ or_left (is_among w.makers x) (is_among e.makers x) is)
    (λ is. or_left w.unknown e.unknown is) told_both in
    let kept : w ≡ with_one m f = not_cut_if_told (with_one m f) told_w in
    let u = all_of_both (with_one m f) e in
    let same : limited (all_of_both w e) ≡ u = whole ∙ ap (λ w. all_of_both w e) kept in
    let good_u : IsGood u = subst IsGood same (good_limited (all_of_both w e) (once_both w.makers e.makers good_w.once good_e.once)) in
    let more = more_joined m f e in
    let once : stand_once (of_both f.makers e.makers) ≡ true = once_both f.makers e.makers good_f.once good_e.once in
    let longer : length (of_both f.makers e.makers) ≤ length u.makers = no_longer (of_both f.makers e.makers) u.makers once more.makers in
    let most : length u.makers ≤ max_makers = good_u.few in
    let few : length (of_both f.makers e.makers) ≤ max_makers = omega (arith, longer, most) in
    let n_is : limited (all_of_both f e) ≡ all_of_both f e = not_cut (all_of_both f e) few in
    subst (IsWithin (added m (Some k))) (sym same)
    (added_within m k (all_of_both f e) u good_k record { once = once; few = few } good_u more
    (subst (λ n. IsBelow (Some k) (Some n)) n_is below) (sym (ap says_nothing same) ∙ told))

added_below : (m : Maker Span) (k : Made Span) (f e : Known Span) → IsGood k → IsGoodKnown f → IsGoodKnown e → IsBelow (Some k) (joined f e)
    → IsBelow (Some (added m (Some k))) (joined (Some (added m f)) e)
added_below m k None None good_k good_f good_e below = absurd below
added_below m k None (Some e) good_k good_f good_e below = λ told.
    let u = all_of_both (made_by m) e in
    let same : limited u ≡ u = not_cut_if_told u told in
    let good_u : IsGood u = subst IsGood same (good_limited u (once_both (m ∷ []) e.makers refl good_e.once)) in
    subst (IsWithin (added m (Some k))) (sym same) (added_within m k e u good_k good_e good_u (more_alone m e) below (sym (ap says_nothing same) ∙ told))
added_below m k (Some f) None good_k good_f good_e below = λ told.
    let u = with_one m f in
    let same : limited u ≡ u = not_cut_if_told u told in
    let good_u : IsGood u = subst IsGood same (good_added m (Some f) good_f) in
    subst (IsWithin (added m (Some k))) (sym same) (added_within m k f u good_k good_f good_u (more_added m f) below (sym (ap says_nothing same) ∙ told))
added_below m k (Some f) (Some e) good_k good_f good_e below = λ told. added_both m k f e good_k good_f good_e below told

-- ---- what may be set is joined with what is not known

touched_makers : (ms : List (Maker Span)) → map (sure_as_among []) ms ≡ map unsure ms
touched_makers [] = refl
touched_makers (m ∷ ms) = ap₂ (λ n ns. n ∷ ns) (ap (λ b. record { value = m.value; adds = m.adds; sure = b }) (and_right m.sure false refl)) (touched_makers ms)

pub touched_is : (k : Known Span) → IsGoodKnown k → touched k ≡ joined k (Some made_unknown)
touched_is None good = refl
touched_is (Some m) good =
    let u = all_of_both m made_unknown in
    let both : record { makers = map unsure m.makers; unknown = true } ≡ u =
    ap₂ (λ ms b. record { makers = ms; unknown = b }) (sym (append-nil (map (sure_as_among []) m.makers) ∙ touched_makers m.makers)) (sym (or_right m.unknown true refl)) in
    let long : length (of_both m.makers []) ≤ max_makers = subst (λ ms. length ms ≤ max_makers) (ap (λ v. v.makers) both) (lengths m good.few) in
    ap Some (both ∙ sym (not_cut u long))
  where
    lengths : (m : Made Span) → length m.makers ≤ max_makers → length (map unsure m.makers) ≤ max_makers
    lengths m few = let e = length-map m.makers unsure in omega (arith, e, few)

-- ---- what is set where the other one is

unset_both : (k l f g : Known Span) → (k ≡ None → f ≡ None) → (l ≡ None → g ≡ None) → joined k l ≡ None → joined f g ≡ None
unset_both None l f g first second is = ap₂ joined (first refl) (second is)
unset_both (Some m) None f g first second is = absurd (let no : ⊥ = cc in no)
unset_both (Some m) (Some n) f g first second is = absurd (let no : ⊥ = cc in no)

module _ (e : Known Span) (good : IsGoodKnown e) where
  with_same : (k : Known Span) → IsGoodKnown k → IsBelowWith e k k
  with_same k known = record { below = first_below k e; unset = λ is. is; lower = known; upper = known }

  with_joined : (k l f g : Known Span) → IsBelowWith e k f → IsBelowWith e l g → IsBelowWith e (joined k l) (joined f g)
  with_joined k l f g first second =
      let both = joined f g in
      let good_both : IsGoodKnown both = good_joined f g first.upper second.upper in
      let u = joined both e in
      let good_u : IsGoodKnown u = good_joined both e good_both good in
      let under : (h : Known Span) → IsGoodKnown h → IsBelow h both → IsBelow (joined h e) u =
      λ h known below. joined_least h e u known good good_u (below_in_turn h both u good_both below (first_below both e)) (second_below both e) in
      record {
        below = joined_least k l u first.lower second.lower good_u
            (below_in_turn k (joined f e) u (good_joined f e first.upper good) first.below (under f first.upper (first_below f g)))
            (below_in_turn l (joined g e) u (good_joined g e second.upper good) second.below (under g second.upper (second_below f g)));
        unset = unset_both k l f g first.unset second.unset;
        lower = good_joined k l first.lower second.lower;
        upper = good_both;
      }

  with_touched : (k f : Known Span) → IsBelowWith e k f → IsBelowWith e (touched k) (touched f)
  with_touched k f below =
      subst (λ v. IsBelowWith e v (touched f)) (sym (touched_is k below.lower))
      (subst (λ v. IsBelowWith e (joined k (Some made_unknown)) v) (sym (touched_is f below.upper))
      (with_joined k (Some made_unknown) f (Some made_unknown) below (with_same (Some made_unknown) good_unknown)))

  pub with_added : (m : Maker Span) (k f : Known Span) → IsBelowWith e k f → IsBelowWith e (Some (added m k)) (Some (added m f))
  with_added m None f below =
      subst (λ v. IsBelowWith e (Some (made_by m)) (Some (added m v))) (sym (below.unset refl)) (with_same (Some (made_by m)) (good_alone m))
  with_added m (Some k) f below = record {
    below = added_below m k f e below.lower below.upper good below.below;
    unset = λ is. absurd (let no : ⊥ = cc in no);
    lower = good_added m (Some k) below.lower;
    upper = good_added m f below.upper;
  }

  with_assigned : (m : Maker Span) (k f : Known Span) → IsBelowWith e k f → IsBelowWith e (assigned m k) (assigned m f)
  with_assigned m k f below = go m.adds
    where
      go : (b : Bool) → IsBelowWith e (if b then Some (added m k) else Some (made_by m)) (if b then Some (added m f) else Some (made_by m))
      go true = with_added m k f below
      go false = with_same (Some (made_by m)) (good_alone m)

  pub with_kept : IsKeptBySteps (λ m. ⊤) (IsBelowWith e)
  with_kept = record {
    none = with_same None tt;
    unknown = with_same (Some made_unknown) good_unknown;
    joins = with_joined;
    touches = with_touched;
    assigns = λ m k f any under. with_assigned m k f under;
  }
