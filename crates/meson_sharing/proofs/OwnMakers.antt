-- The makers that are made of one, and the names of their variables.
use Rattle.std.proofs.Common.{◌≡◌, ℕ, zero, suc, ◌+◌, ◌-◌, ◌<◌, List, [], ◌∷◌, ◌++◌, length, drop, flat_map, get_or, map, Bor, refl, sym, ap, ◌∙◌, append-nil, arith}
use Rattle.std.specs.Prelude.{◌||◌, Bool, true, false, bytes_eq, if◌then◌else◌, Option, Some, None, reverse}
use Rattle.std.specs.List.{cons_option, filter_map}
use Rattle.meson_lex.specs.declared.kinds.Span.{Span}
use Rattle.meson_calls.specs.declared.call.CallRef.{CallRef}
use Rattle.meson_calls.specs.Calls.{Call}
use Rattle.meson_calls.specs.Project.{Placed, Project}
use Rattle.meson_calls.specs.Roles.{one_of}
use Rattle.meson_calls.specs.Setters.{is_among}
use Rattle.meson_steps.specs.Names.{distinct_by}
use Rattle.meson_steps.proofs.Distincts.{distinct_more, distinct_same}
use Rattle.meson_sharing.specs.CodeOwning.{is_closed_by, is_closed_for, with_name}
use Rattle.meson_sharing.specs.Sharing.{reads_of, takers_of, ways_of_target, with_takers_of_takers}
use Rattle.meson_following.specs.Following.{follow_call}
use Rattle.meson_following.proofs.TakenTurns.{taken_turn}

-- ---- names

pub among_names : (names : List (Bor (List ℕ))) (x : List ℕ) → is_among names x ≡ one_of (map (λ n. n.now) names) x
among_names [] x = refl
among_names (n ∷ names) x = ap (λ b. bytes_eq n.now x || b) (among_names names x)

-- a name that is kept once
pub kept_once : (names : List (List ℕ)) (o : Option (List ℕ)) (rest : List (List ℕ))
    → with_name names o ++ distinct_by (reverse (with_name names o)) rest ≡ names ++ distinct_by (reverse names) (cons_option o rest)
kept_once names None rest = refl
kept_once names (Some x) rest = go (one_of names x) refl
  where
    go : (b : Bool) → one_of names x ≡ b → (if b then names else names ++ x ∷ []) ++ distinct_by (reverse (if b then names else names ++ x ∷ [])) rest
        ≡ names ++ distinct_by (reverse names) (x ∷ rest)
    go true met = distinct_same (x ∷ rest) 0 x (omega arith) names met
    go false new = distinct_more (x ∷ rest) 0 x (omega arith) names new

-- ---- makers

pub none_are : {C : Type 0} (xs : List C) → length xs ≡ 0 → xs ≡ []
none_are [] none = refl
none_are (x ∷ xs) none = absurd (omega (arith, none))

module _ (p : Project Span) (all ms : List CallRef) where
  -- where no value takes the value of one of these, no more come
  pub no_takers : takers_of p all ms (reads_of p ms) ≡ [] → (times : ℕ) → with_takers_of_takers p all times ms ≡ ms
  no_takers none zero = refl
  no_takers none (suc times) = ap (with_takers_of_takers p all times) (ap (λ ts. ms ++ ts) none ∙ append-nil ms) ∙ no_takers none times

  pub once_more : (i n : ℕ) (after seen takers : List CallRef) → i < n → seen ≡ reads_of p ms → takers ≡ takers_of p all ms seen → after ≡ ms ++ takers
      → with_takers_of_takers p all (n - (i + 1)) after ≡ with_takers_of_takers p all (n - i) ms
  once_more i n after seen takers more is are joins =
      let left : n - i ≡ suc (n - (i + 1)) = omega (arith, more) in
      ap (with_takers_of_takers p all (n - (i + 1))) (joins ∙ ap (λ ts. ms ++ ts) (are ∙ ap (takers_of p all ms) is))
      ∙ sym (ap (λ m. with_takers_of_takers p all m ms) left)

-- ---- lists that are gone through

first_chosen : {C : Type 0} (o : Option C) (rest : List C) → cons_option o rest ≡ cons_option o [] ++ rest
first_chosen None rest = refl
first_chosen (Some c) rest = refl

-- those that are chosen of one element after another
module _ {X Y C : Type 0} (choose : Y → Option C) (view : X → Y) where
  abbrev chosen_from : ℕ → List X → List C
  chosen_from n xs = filter_map choose (map view xs)

  pub chosen_turn : (xs : List X) (i : ℕ) (d x : X) (before after whole : List C) → i < length xs → x ≡ get_or xs i d → after ≡ before ++ cons_option (choose (view x)) []
      → before ++ filter_map choose (map view (drop i xs)) ≡ whole → after ++ filter_map choose (map view (drop (i + 1) xs)) ≡ whole
  chosen_turn xs i d x before after whole within at_i joins so_far =
      taken_turn chosen_from (λ n y. cons_option (choose (view y)) []) (λ y. 1) (λ n y ys. first_chosen (choose (view y)) (filter_map choose (map view ys)))
      xs i d 0 1 before after whole (cons_option (choose (view x)) []) within joins (ap (λ y. cons_option (choose (view y)) []) at_i) refl so_far

-- what is taken of each
module _ {X Y C : Type 0} (take_of : Y → List C) (view : X → Y) where
  abbrev taken_from : ℕ → List X → List C
  taken_from n xs = flat_map take_of (map view xs)

  pub each_turn : (xs : List X) (i : ℕ) (d x : X) (before after whole : List C) → i < length xs → x ≡ get_or xs i d → after ≡ before ++ take_of (view x)
      → before ++ flat_map take_of (map view (drop i xs)) ≡ whole → after ++ flat_map take_of (map view (drop (i + 1) xs)) ≡ whole
  each_turn xs i d x before after whole within at_i joins so_far =
      taken_turn taken_from (λ n y. take_of (view y)) (λ y. 1) (λ n y ys. refl)
      xs i d 0 1 before after whole (take_of (view x)) within joins (ap (λ y. take_of (view y)) at_i) refl so_far

-- ---- the call of a target

-- what the code computes of it
pub closed : (p : Project Span) (c : Placed (Call Span)) (with_uses : Bool) (m : CallRef) (followed ways : List CallRef) → followed ≡ (follow_call p c).followed
    → ways ≡ ways_of_target c → is_closed_by p with_uses followed ways m ≡ is_closed_for p with_uses m c
closed p c with_uses m followed ways are_followed are_ways =
    ap (λ ws. is_closed_by p with_uses followed ws m) are_ways ∙ ap (λ xs. is_closed_by p with_uses xs (ways_of_target c) m) are_followed
