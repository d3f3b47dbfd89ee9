-- Lists in which no maker stands twice.
use Rattle.std.proofs.Common.{◌≡◌, ◌≤◌, ℕ, zero, suc, List, [], ◌∷◌, ◌++◌, length, map, take, refl, sym, ap₂, ◌∙◌}
use Rattle.std.specs.Prelude.{Bool, true, false, not, ◌&&◌, ◌||◌, filter, if◌then◌else◌}
use Rattle.std.specs.List.{AllByRecursion, IsDistinct}
use Rattle.std.specs.Cmp.{IsEquivalence}
use Rattle.std.proofs.lemmas.Bool.{and_from, and_parts, not_from_false, not-true, or_from, or_left, or_parts, or_right, false_from_ne_true, false≢true}
use Rattle.std.proofs.lemmas.List.Folds.{list_any-append}
use Rattle.std.proofs.lemmas.Map.Made.{length-le_from_is_member}
use Rattle.meson_lex.specs.declared.kinds.Span.{Span}
use Rattle.meson_following.specs.Makers.{Maker, are_same, is_among, of_both, renewed, sure_as_among, unsure, with_maker}
use Rattle.meson_flow_order.specs.Order.{stand_once}
use Rattle.meson_flow_order.proofs.Among.{among_alike, among_map, new_apart, news, none_passed, none_taken, renewed_alike, same_back, same_itself, same_left}

once_parts : (m : Maker Span) (ms : List (Maker Span)) → stand_once (m ∷ ms) ≡ true → (is_among ms m ≡ false) × (stand_once ms ≡ true)
once_parts m ms once = let both = and_parts (not (is_among ms m)) (stand_once ms) once in (not-true (is_among ms m) both.0, both.1)

once_from : (m : Maker Span) (ms : List (Maker Span)) → is_among ms m ≡ false → stand_once ms ≡ true → stand_once (m ∷ ms) ≡ true
once_from m ms off once = and_from (not (is_among ms m)) (stand_once ms) (not_from_false (is_among ms m) off) once

once_map : (f : Maker Span → Maker Span) → ((m x : Maker Span) → are_same (f m) x ≡ are_same m x)
    → (ms : List (Maker Span)) → stand_once (map f ms) ≡ stand_once ms
once_map f alike [] = refl
once_map f alike (m ∷ ms) =
    ap₂ (λ a b. not a && b) (among_map f alike ms (f m) ∙ among_alike ms (f m) m (alike m m ∙ same_itself m)) (once_map f alike ms)

once_filter : (p : Maker Span → Bool) (ms : List (Maker Span)) → stand_once ms ≡ true → stand_once (filter p ms) ≡ true
once_filter p [] once = refl
once_filter p (m ∷ ms) once = let both = once_parts m ms once in go (p m) both.0 (once_filter p ms both.1)
  where
    go : (b : Bool) → is_among ms m ≡ false → stand_once (filter p ms) ≡ true → stand_once (if b then m ∷ filter p ms else filter p ms) ≡ true
    go true here more = once_from m (filter p ms) (none_passed p ms m here) more
    go false here more = more

pub once_taken : (n : ℕ) (ms : List (Maker Span)) → stand_once ms ≡ true → stand_once (take n ms) ≡ true
once_taken zero ms once = refl
once_taken (suc n) [] once = refl
once_taken (suc n) (m ∷ ms) once =
    let both = once_parts m ms once in
    once_from m (take n ms) (none_taken n ms m both.0) (once_taken n ms both.1)

once_append : (ms ns : List (Maker Span)) → stand_once ms ≡ true → stand_once ns ≡ true → ((x : Maker Span) → is_among ms x ≡ true → is_among ns x ≡ false)
    → stand_once (ms ++ ns) ≡ true
once_append [] ns first second apart = second
once_append (m ∷ ms) ns first second apart =
    let both = once_parts m ms first in
    once_from m (ms ++ ns)
    (list_any-append (λ n. are_same n m) ms ns ∙ or_from (is_among ms m) (is_among ns m) both.0 (apart m (or_left (are_same m m) (is_among ms m) (same_itself m))))
    (once_append ms ns both.1 second (λ x has. apart x (or_right (are_same m x) (is_among ms x) has)))

pub once_both : (ms ns : List (Maker Span)) → stand_once ms ≡ true → stand_once ns ≡ true → stand_once (of_both ms ns) ≡ true
once_both ms ns first second =
    once_append (map (sure_as_among ns) ms) (map unsure (news ms ns))
    (once_map (sure_as_among ns) (λ m x. refl) ms ∙ first)
    (once_map unsure (λ m x. refl) (news ms ns) ∙ once_filter (λ n. not (is_among ms n)) ns second)
    (λ x has.
    among_map unsure (λ m x. refl) (news ms ns) x ∙ new_apart ms ns x (sym (among_map (sure_as_among ns) (λ m x. refl) ms x) ∙ has))

pub once_with : (ms : List (Maker Span)) (new : Maker Span) → stand_once ms ≡ true → stand_once (with_maker ms new) ≡ true
once_with ms new once = go (is_among ms new) refl
  where
    apart : is_among ms new ≡ false → (x : Maker Span) → is_among ms x ≡ true → (are_same new x || false) ≡ false
    apart off x has = or_from (are_same new x) false (false_from_ne_true (are_same new x) (λ same. false≢true (sym off ∙ among_alike ms new x same ∙ has))) refl

    go : (b : Bool) → is_among ms new ≡ b → stand_once (if b then map (renewed new) ms else ms ++ new ∷ []) ≡ true
    go true has = once_map (renewed new) (renewed_alike new) ms ∙ once
    go false has = once_append ms (new ∷ []) once refl (apart has)

-- ---- no longer than what has them all

abbrev of_place : Maker Span → Maker Span → Bool
of_place q x = are_same x q

places : IsEquivalence of_place
places = record {
  refl = same_itself;
  symm = λ x y. same_back y x;
  congr = λ x y z same. same_right_of x y z same;
}
  where
    same_right_of : (x y z : Maker Span) → are_same y x ≡ true → are_same z x ≡ are_same z y
    same_right_of x y z same = same_back z x ∙ sym (same_left y x z same) ∙ same_back y z

apart : (m : Maker Span) (ns : List (Maker Span)) → is_among ns m ≡ false → AllByRecursion (λ y. are_same y m ≡ false) ns
apart m [] off = tt
apart m (n ∷ ns) off = let both = or_parts (are_same n m) (is_among ns m) off in (both.0, apart m ns both.1)

distinct : (ms : List (Maker Span)) → stand_once ms ≡ true → IsDistinct of_place ms
unfolding IsDistinct
distinct [] once = tt
distinct (m ∷ ms) once = (apart m ms (once_parts m ms once).0, distinct ms (once_parts m ms once).1)

pub no_longer : (ms ns : List (Maker Span)) → stand_once ms ≡ true → ((x : Maker Span) → is_among ms x ≡ true → is_among ns x ≡ true) → length ms ≤ length ns
no_longer ms ns once all = length-le_from_is_member places ms ns (distinct ms once) all
