-- What is known of a variable, joined with itself, is what it was.
use Rattle.std.proofs.Common.{◌≡◌, List, [], ◌∷◌, ◌++◌, length, map, take, refl, sym, ap, ap₂, subst, ◌∙◌}
use Rattle.std.specs.Prelude.{Bool, true, false, not, ◌&&◌, ◌||◌, filter, if◌then◌else◌, nat_lt, Some, None}
use Rattle.std.proofs.lemmas.Bool.{and_from, eq-eqb, false≢true, or_left, or_right}
use Rattle.std.proofs.lemmas.List.{append_assoc, append-nil}
use Rattle.std.proofs.lemmas.Slice.Eq.{bytes_eq-Decides}
use Rattle.meson_lex.specs.declared.kinds.Span.{Span}
use Rattle.meson_following.specs.Makers.{Known, Maker, are_same, is_among, is_sure_among, joined, limited, max_makers, of_both, sure_as_among, unsure}
use Rattle.meson_following.specs.Passing.{is_kept}

same_itself : (m : Maker Span) → are_same m m ≡ true
same_itself m =
    let q = m.value.place in
    and_from _ _ (eq-eqb q.file q.file refl) ((bytes_eq-Decides q.path.steps q.path.steps).1 refl)

among_here : (before rest : List (Maker Span)) (m : Maker Span) → is_among (before ++ m ∷ rest) m ≡ true
among_here [] rest m = or_left (are_same m m) (is_among rest m) (same_itself m)
among_here (b ∷ before) rest m = or_right (are_same b m) (is_among (before ++ m ∷ rest) m) (among_here before rest m)

sure_here : (before rest : List (Maker Span)) (m : Maker Span) → m.sure ≡ true → is_sure_among (before ++ m ∷ rest) m ≡ true
sure_here [] rest m sure = or_left (are_same m m && m.sure) (is_sure_among rest m) (and_from (are_same m m) m.sure (same_itself m) sure)
sure_here (b ∷ before) rest m sure = or_right (are_same b m && b.sure) (is_sure_among (before ++ m ∷ rest) m) (sure_here before rest m sure)

as_sure : (before rest : List (Maker Span)) (m : Maker Span) → sure_as_among (before ++ m ∷ rest) m ≡ m
as_sure before rest m = ap (λ b. record { value = m.value; adds = m.adds; sure = b }) (go m.sure refl)
  where
    go : (b : Bool) → m.sure ≡ b → (m.sure && is_sure_among (before ++ m ∷ rest) m) ≡ m.sure
    go true is = ap₂ (λ a c. a && c) is (sure_here before rest m is) ∙ sym is
    go false is = ap (λ a. a && is_sure_among (before ++ m ∷ rest) m) is ∙ sym is

all_sure : (before ms : List (Maker Span)) → map (sure_as_among (before ++ ms)) ms ≡ ms
all_sure before [] = refl
all_sure before (m ∷ ms) =
    ap₂ (λ n ns. n ∷ ns) (as_sure before ms m)
    (subst (λ all. map (sure_as_among all) ms ≡ ms) (append_assoc before (m ∷ []) ms) (all_sure (before ++ m ∷ []) ms))

none_new : (before ms : List (Maker Span)) → filter (λ n. not (is_among (before ++ ms) n)) ms ≡ []
none_new before [] = refl
none_new before (m ∷ ms) =
    let all = before ++ m ∷ ms in
    ap (λ b. if not b then m ∷ filter (λ n. not (is_among all n)) ms else filter (λ n. not (is_among all n)) ms) (among_here before ms m)
    ∙ subst (λ all. filter (λ n. not (is_among all n)) ms ≡ []) (append_assoc before (m ∷ []) ms) (none_new (before ++ m ∷ []) ms)

pub joined_itself : (k : Known Span) → is_kept k ≡ true → joined k k ≡ k
joined_itself None kept = refl
joined_itself (Some m) kept = ap Some (ap limited both ∙ within (nat_lt max_makers (length m.makers)) refl kept)
  where
    either : (b : Bool) → (b || b) ≡ b
    either true = refl
    either false = refl

    makers : of_both m.makers m.makers ≡ m.makers
    makers = ap₂ (λ ms ns. ms ++ map unsure ns) (all_sure [] m.makers) (none_new [] m.makers) ∙ append-nil m.makers

    both : record { makers = of_both m.makers m.makers; unknown = m.unknown || m.unknown } ≡ m
    both = ap₂ (λ ms b. record { makers = ms; unknown = b }) makers (either m.unknown)

    within : (b : Bool) → nat_lt max_makers (length m.makers) ≡ b → not b ≡ true → limited m ≡ m
    within true is off = absurd (false≢true off)
    within false is off = ap (λ b. if b then record { makers = take max_makers m.makers; unknown = true } else m) is
