-- The order of what is known.
use Rattle.std.proofs.Common.{◌≡◌, ◌<◌, ◌≤◌, ◌⊎◌, inl, inr, length, take, refl, sym, ap, subst, ◌∙◌, arith}
use Rattle.std.specs.Prelude.{Bool, true, false, ◌||◌, if◌then◌else◌, Some, None}
use Rattle.std.proofs.lemmas.Bool.{and_from, and_parts, cases_lt, le-leb, le-ltb, leb-true, lt-ltb, or_cases, or_left, or_right, false≢true}
use Rattle.std.proofs.lemmas.List.{length-take}
use Rattle.meson_lex.specs.declared.kinds.Span.{Span}
use Rattle.meson_following.specs.Makers.{Known, Made, Maker, is_among, is_full, is_sure_among, joined, limited, max_makers, of_both}
use Rattle.meson_flow_order.specs.Order.{IsBelow, IsGood, IsGoodKnown, IsWithin, says_nothing, stand_once}
use Rattle.meson_flow_order.proofs.Among.{among_both, sure_both}
use Rattle.meson_flow_order.proofs.Once.{no_longer, once_both, once_taken}

-- ---- where makers are left out

abbrev pub all_of_both : Made Span → Made Span → Made Span
all_of_both m n = record { makers = of_both m.makers n.makers; unknown = m.unknown || n.unknown }

abbrev pub cut : Made Span → Made Span
cut m = record { makers = take max_makers m.makers; unknown = true }

pub not_cut : (m : Made Span) → length m.makers ≤ max_makers → limited m ≡ m
not_cut m few = ap (λ b. if b then cut m else m) (le-ltb max_makers (length m.makers) few)

pub is_cut : (m : Made Span) → max_makers < length m.makers → limited m ≡ cut m
is_cut m more = ap (λ b. if b then cut m else m) (lt-ltb max_makers (length m.makers) more)

cut_long : (m : Made Span) → max_makers < length m.makers → length (cut m).makers ≡ max_makers
cut_long m more = let e = length-take max_makers m.makers in omega (arith, e, more)

pub not_cut_if_told : (m : Made Span) → says_nothing (limited m) ≡ false → limited m ≡ m
not_cut_if_told m told = go (cases_lt max_makers (length m.makers))
  where
    go : (max_makers < length m.makers) ⊎ (length m.makers ≤ max_makers) → limited m ≡ m
    go (inl more) =
        let long : max_makers ≤ length (cut m).makers = let e = cut_long m more in omega (arith, e) in
        let full : says_nothing (cut m) ≡ true = and_from (is_full (cut m)) true (le-leb max_makers (length (cut m).makers) long) refl in
        absurd (false≢true (sym told ∙ ap says_nothing (is_cut m more) ∙ full))
    go (inr few) = not_cut m few

pub good_limited : (m : Made Span) → stand_once m.makers ≡ true → IsGood (limited m)
good_limited m once = go (cases_lt max_makers (length m.makers))
  where
    go : (max_makers < length m.makers) ⊎ (length m.makers ≤ max_makers) → IsGood (limited m)
    go (inl more) =
        subst IsGood (sym (is_cut m more)) record { once = once_taken max_makers m.makers once; few = (let e = cut_long m more in omega (arith, e)) }
    go (inr few) = subst IsGood (sym (not_cut m few)) record { once = once; few = few }

pub good_joined : (k l : Known Span) → IsGoodKnown k → IsGoodKnown l → IsGoodKnown (joined k l)
good_joined None l first second = second
good_joined (Some m) None first second = first
good_joined (Some m) (Some n) first second = good_limited (all_of_both m n) (once_both m.makers n.makers first.once second.once)

-- ---- an order

pub within_itself : (m : Made Span) → IsWithin m m
within_itself m = record { makers = λ x is. is; sure = λ x is. is; unknown = λ is. is }

pub within_in_turn : (l m n : Made Span) → IsWithin l m → IsWithin m n → IsWithin l n
within_in_turn l m n first second = record {
  makers = λ x is. second.makers x (first.makers x is);
  sure = λ x is. first.sure x (second.sure x is);
  unknown = λ is. second.unknown (first.unknown is);
}

-- what is above one that says nothing says nothing
pub nothing_goes_up : (m n : Made Span) → stand_once m.makers ≡ true → ((x : Maker Span) → is_among m.makers x ≡ true → is_among n.makers x ≡ true)
    → (m.unknown ≡ true → n.unknown ≡ true) → says_nothing m ≡ true → says_nothing n ≡ true
nothing_goes_up m n once makers unknown is =
    let both = and_parts (is_full m) m.unknown is in
    let full : max_makers ≤ length m.makers = leb-true max_makers (length m.makers) both.0 in
    let longer : length m.makers ≤ length n.makers = no_longer m.makers n.makers once makers in
    let enough : max_makers ≤ length n.makers = omega (arith, full, longer) in
    and_from (is_full n) n.unknown (le-leb max_makers (length n.makers) enough) (unknown both.1)

pub told_below : (m n : Made Span) → stand_once m.makers ≡ true → ((x : Maker Span) → is_among m.makers x ≡ true → is_among n.makers x ≡ true)
    → (m.unknown ≡ true → n.unknown ≡ true) → says_nothing n ≡ false → says_nothing m ≡ false
told_below m n once makers unknown told = go (says_nothing m) refl
  where
    go : (b : Bool) → says_nothing m ≡ b → b ≡ false
    go false is = refl
    go true is = absurd (false≢true (sym told ∙ nothing_goes_up m n once makers unknown is))

pub below_itself : (k : Known Span) → IsBelow k k
below_itself None = tt
below_itself (Some m) = λ told. within_itself m

pub below_in_turn : (k l m : Known Span) → IsGoodKnown l → IsBelow k l → IsBelow l m → IsBelow k m
below_in_turn None l m good first second = tt
below_in_turn (Some k) None m good first second = absurd first
below_in_turn (Some k) (Some l) None good first second = absurd second
below_in_turn (Some k) (Some l) (Some m) good first second =
    λ told. let up = second told in within_in_turn k l m (first (told_below l m good.once up.makers up.unknown told)) up

-- ---- joined

first_within : (m n : Made Span) → IsWithin m (all_of_both m n)
first_within m n = record {
  makers = λ x is. among_both m.makers n.makers x ∙ or_left (is_among m.makers x) (is_among n.makers x) is;
  sure = λ x is. (and_parts (is_sure_among m.makers x) (is_sure_among n.makers x) (sym (sure_both m.makers n.makers x) ∙ is)).0;
  unknown = λ is. or_left m.unknown n.unknown is;
}

second_within : (m n : Made Span) → IsWithin n (all_of_both m n)
second_within m n = record {
  makers = λ x is. among_both m.makers n.makers x ∙ or_right (is_among m.makers x) (is_among n.makers x) is;
  sure = λ x is. (and_parts (is_sure_among m.makers x) (is_sure_among n.makers x) (sym (sure_both m.makers n.makers x) ∙ is)).1;
  unknown = λ is. or_right m.unknown n.unknown is;
}

both_within : (m n u : Made Span) → IsWithin m u → IsWithin n u → IsWithin (all_of_both m n) u
both_within m n u first second = record {
  makers = λ x is. one x (or_cases (is_among m.makers x) (is_among n.makers x) (sym (among_both m.makers n.makers x) ∙ is));
  sure = λ x is. sure_both m.makers n.makers x ∙ and_from (is_sure_among m.makers x) (is_sure_among n.makers x) (first.sure x is) (second.sure x is);
  unknown = λ is. either (or_cases m.unknown n.unknown is);
}
  where
    one : (x : Maker Span) → (is_among m.makers x ≡ true) ⊎ (is_among n.makers x ≡ true) → is_among u.makers x ≡ true
    one x (inl is) = first.makers x is
    one x (inr is) = second.makers x is

    either : (m.unknown ≡ true) ⊎ (n.unknown ≡ true) → u.unknown ≡ true
    either (inl is) = first.unknown is
    either (inr is) = second.unknown is

pub first_below : (k l : Known Span) → IsBelow k (joined k l)
first_below None l = tt
first_below (Some m) None = below_itself (Some m)
first_below (Some m) (Some n) = λ told. subst (IsWithin m) (sym (not_cut_if_told (all_of_both m n) told)) (first_within m n)

pub second_below : (k l : Known Span) → IsBelow l (joined k l)
second_below None l = below_itself l
second_below (Some m) None = tt
second_below (Some m) (Some n) = λ told. subst (IsWithin n) (sym (not_cut_if_told (all_of_both m n) told)) (second_within m n)

-- the least that is above both
pub joined_least : (k l u : Known Span) → IsGoodKnown k → IsGoodKnown l → IsGoodKnown u → IsBelow k u → IsBelow l u → IsBelow (joined k l) u
joined_least None l u good_k good_l good_u first second = second
joined_least (Some m) None u good_k good_l good_u first second = first
joined_least (Some m) (Some n) None good_k good_l good_u first second = absurd first
joined_least (Some m) (Some n) (Some u) good_k good_l good_u first second = λ told.
    let all = both_within m n u (first told) (second told) in
    let longer : length (of_both m.makers n.makers) ≤ length u.makers = no_longer (of_both m.makers n.makers) u.makers (once_both m.makers n.makers good_k.once good_l.once) all.makers in
    let few : length (of_both m.makers n.makers) ≤ max_makers = let most = good_u.few in omega (arith, longer, most) in
    subst (λ m. IsWithin m u) (sym (not_cut (all_of_both m n) few)) all

pub joined_keeps : (k l f g : Known Span) → IsGoodKnown k → IsGoodKnown l → IsGoodKnown f → IsGoodKnown g → IsBelow k f → IsBelow l g → IsBelow (joined k l) (joined f g)
joined_keeps k l f g good_k good_l good_f good_g first second =
    joined_least k l (joined f g) good_k good_l (good_joined f g good_f good_g)
    (below_in_turn k f (joined f g) good_f first (first_below f g))
    (below_in_turn l g (joined f g) good_g second (second_below f g))
