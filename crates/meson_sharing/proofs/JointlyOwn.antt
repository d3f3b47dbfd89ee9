-- Where no other call reads what is in the values that a call follows, each of them is read for that call alone.
use Rattle.std.proofs.Common.{◌≡◌, inl, inr, ℕ, zero, suc, ◌+◌, ◌<◌, ◌≤◌, List, [], ◌∷◌, ◌++◌, length, refl, sym, subst, ◌∙◌, arith}
use Rattle.std.specs.Prelude.{slice_index_or, Bool, true, false, not, ◌&&◌, ◌||◌, filter, if◌then◌else◌}
use Rattle.std.specs.List.{All, Any, Contains, list_all}
use Rattle.std.proofs.lemmas.Bool.{and_parts, false≢true, not_from_true, or_cases, or_left, or_right}
use Rattle.std.proofs.lemmas.List.Elements.{All-append, All-cons, All-contains, All-contains_itself, All-filter, All-head, All-nil, All-tail, All-weaker, Contains-append_left, Contains-append_right}
use Rattle.std.proofs.lemmas.List.Folds.{Any-from_list_any, list_any-from_Any}
use Rattle.std.proofs.lemmas.List.Sums.{AllPass-from_list_all, count_by-le-length, length-filter, list_all-from_AllPass}
use Rattle.meson_lex.specs.declared.kinds.Span.{Span}
use Rattle.meson_calls.specs.declared.call.CallRef.{CallRef}
use Rattle.meson_calls.specs.Project.{Project}
use Rattle.meson_following.specs.Following.{one_of_places}
use Rattle.meson_sharing.specs.CodeOwning.{are_closed_by, is_closed_by, is_read_by}
use Rattle.meson_sharing.specs.CodeWays.{is_way_in}
use Rattle.meson_sharing.specs.Sharing.{from_followed, is_way_of_makers, reads_of, takers_of, takes_at, ways_at, with_takers_of_takers}
use Rattle.meson_sharing.proofs.OwnMakers.{no_takers}
use Rattle.meson_sharing.proofs.Sharing.{is_one, one_of, reads_of_fewer}

-- ---- elements that pass tests

module _ (f g : CallRef → Bool) (more : (x : CallRef) → f x ≡ true → g x ≡ true) where
  -- fewer pass the narrower test
  fewer : (xs : List CallRef) → length (filter f xs) ≤ length (filter g xs)
  fewer [] = omega arith
  fewer (x ∷ xs) = go (f x) (g x) (more x) (fewer xs)
    where
      go : (a b : Bool) → (a ≡ true → b ≡ true) → length (filter f xs) ≤ length (filter g xs)
          → length (if a then x ∷ filter f xs else filter f xs) ≤ length (if b then x ∷ filter g xs else filter g xs)
      go true true so few = omega (arith, few)
      go true false so few = absurd (false≢true (so refl))
      go false true so few = omega (arith, few)
      go false false so few = few

  -- and at least one fewer where one passes the wider alone
  module _ (h : CallRef → Bool) where
    abbrev OneLess : CallRef → Type 0
    OneLess x = h x ≡ true → (f x ≡ false) × (g x ≡ true)

    one_less : (xs : List CallRef) → All OneLess xs → (t : CallRef) (ts : List CallRef) → filter h xs ≡ t ∷ ts → length (filter f xs) < length (filter g xs)
    one_less [] all t ts is = absurd (let no : ⊥ = cc in no)
    one_less (x ∷ xs) all t ts is = go (h x) (f x) (g x) refl refl refl (fewer xs) (one_less xs (All-tail OneLess x xs all) t ts) is (All-head OneLess x xs all)
      where
        go : (c a b : Bool) → h x ≡ c → f x ≡ a → g x ≡ b → length (filter f xs) ≤ length (filter g xs)
            → (filter h xs ≡ t ∷ ts → length (filter f xs) < length (filter g xs))
            → (if c then x ∷ filter h xs else filter h xs) ≡ t ∷ ts → (h x ≡ true → (f x ≡ false) × (g x ≡ true))
            → length (if a then x ∷ filter f xs else filter f xs) < length (if b then x ∷ filter g xs else filter g xs)
        go true true b here at_f at_g few later is one = absurd (false≢true (sym (one here).0 ∙ at_f))
        go true false false here at_f at_g few later is one = absurd (false≢true (sym at_g ∙ (one here).1))
        go true false true here at_f at_g few later is one = omega (arith, few)
        go false true false here at_f at_g few later is one = absurd (false≢true (sym at_g ∙ more x at_f))
        go false true true here at_f at_g few later is one = let less = later is in omega (arith, less)
        go false false true here at_f at_g few later is one = let less = later is in omega (arith, less)
        go false false false here at_f at_g few later is one = later is

module _ (h : CallRef → Bool) where
  -- what passes the test is among those that do
  passing_are : (xs : List CallRef) → All (λ x. h x ≡ true → Contains (filter h xs) x) xs
  passing_are [] = All-nil (λ x. h x ≡ true → Contains [] x)
  passing_are (x ∷ xs) = go (h x) refl (passing_are xs)
    where
      go : (b : Bool) → h x ≡ b → All (λ y. h y ≡ true → Contains (filter h xs) y) xs → All (λ y. h y ≡ true → Contains (if b then x ∷ filter h xs else filter h xs) y) (x ∷ xs)
      go true is more =
          All-cons (λ y. h y ≡ true → Contains (x ∷ filter h xs) y) x xs (λ passes. (0, omega arith, refl))
          (All-weaker (λ y. h y ≡ true → Contains (filter h xs) y) (λ y. h y ≡ true → Contains (x ∷ filter h xs) y)
          (λ y there passes. Contains-append_right (x ∷ []) (filter h xs) y (there passes)) xs more)
      go false is more = All-cons (λ y. h y ≡ true → Contains (filter h xs) y) x xs (λ passes. absurd (false≢true (sym is ∙ passes))) more

  -- where none does, an element does not
  none_passes : (xs : List CallRef) (x : CallRef) → filter h xs ≡ [] → Contains xs x → h x ≡ false
  none_passes xs x none has = go (h x) refl
    where
      go : (b : Bool) → h x ≡ b → b ≡ false
      go false is = refl
      go true is =
          let there : Contains [] x = subst (λ ys. Contains ys x) none (All-contains (λ y. h y ≡ true → Contains (filter h xs) y) xs x (passing_are xs) has is) in
          let within = there.1 in
          absurd (omega (arith, within))

-- ---- values that are made of values

module _ (p : Project Span) (all : List CallRef) where
  abbrev takers : List CallRef → List CallRef
  takers ms = takers_of p all ms (reads_of p ms)

  abbrev is_new : List CallRef → CallRef → Bool
  is_new ms v = not (one_of_places ms v)

  abbrev many_new : List CallRef → ℕ
  many_new ms = length (filter (is_new ms) all)

  -- a value that is new where there are more was new before
  new_before : (ms more : List CallRef) (v : CallRef) → is_new (ms ++ more) v ≡ true → is_new ms v ≡ true
  new_before ms more v new = go (one_of_places ms v) refl
    where
      go : (b : Bool) → one_of_places ms v ≡ b → not b ≡ true
      go false is = refl
      go true is =
          let old : one_of_places (ms ++ more) v ≡ true = is_one (ms ++ more) v (Contains-append_left ms more v (one_of ms v is)) in
          absurd (false≢true (sym (not_from_true (one_of_places (ms ++ more) v) old) ∙ new))

  fewer_new : (ms : List CallRef) (t : CallRef) (ts : List CallRef) → takers ms ≡ t ∷ ts → many_new (ms ++ takers ms) < many_new ms
  fewer_new ms t ts is =
      let taken : CallRef → Bool = λ v. is_new ms v && takes_at p (reads_of p ms) v in
      let less : All (λ v. taken v ≡ true → (is_new (ms ++ takers ms) v ≡ false) × (is_new ms v ≡ true)) all =
      All-weaker (λ v. taken v ≡ true → Contains (takers ms) v) (λ v. taken v ≡ true → (is_new (ms ++ takers ms) v ≡ false) × (is_new ms v ≡ true))
      (λ v there takes. (
        not_from_true (one_of_places (ms ++ takers ms) v) (is_one (ms ++ takers ms) v (Contains-append_right ms (takers ms) v (there takes))),
        (and_parts (is_new ms v) (takes_at p (reads_of p ms) v) takes).0,
      ))
      all (passing_are taken all) in
      one_less (is_new (ms ++ takers ms)) (is_new ms) (new_before ms (takers ms)) taken all less t ts is

  -- after as many times as there are values no more come
  none_left : (ms ts : List CallRef) → takers ms ≡ ts → many_new ms ≤ 0 → ts ≡ []
  none_left ms [] is few = refl
  none_left ms (t ∷ ts) is few = let less = fewer_new ms t ts is in absurd (omega (arith, less, few))

  none_more : (times : ℕ) (ms : List CallRef) → many_new ms ≤ times → takers (with_takers_of_takers p all times ms) ≡ []
  none_more zero ms few = none_left ms (takers ms) refl few
  none_more (suc times) ms few = by (takers ms) refl (none_more times (ms ++ takers ms))
    where
      by : (ts : List CallRef) → takers ms ≡ ts → (many_new (ms ++ takers ms) ≤ times → takers (with_takers_of_takers p all times (ms ++ takers ms)) ≡ [])
          → takers (with_takers_of_takers p all (suc times) ms) ≡ []
      by [] is later = subst (λ m. takers m ≡ []) (sym (no_takers p all ms is (suc times))) is
      by (t ∷ ts) is later = let less = fewer_new ms t ts is in later (omega (arith, less, few))

  -- they are among all, but for those with which it begins
  all_among : (times : ℕ) (ms : List CallRef) → All (Contains all) ms → All (Contains all) (with_takers_of_takers p all times ms)
  all_among zero ms among = among
  all_among (suc times) ms among =
      all_among times (ms ++ takers ms)
      (All-append (Contains all) ms (takers ms) among (All-filter (λ v. is_new ms v && takes_at p (reads_of p ms) v) (Contains all) all (All-contains_itself all)))

  -- ---- one of them

  module _ (ways : List CallRef) (m : CallRef) (has : Contains all m) where
    abbrev made : List CallRef
    made = from_followed p all m

    few_new : many_new (m ∷ []) ≤ length all
    few_new =
        let many = length-filter (is_new (m ∷ [])) all in
        let few = count_by-le-length (is_new (m ∷ [])) all in
        omega (arith, many, few)

    closed_under : takers made ≡ []
    closed_under = none_more (length all) (m ∷ []) few_new

    made_among : (q : CallRef) → Contains made q → Contains all q
    made_among q there = All-contains (Contains all) made q (all_among (length all) (m ∷ []) (All-cons (Contains all) m [] has (All-nil (Contains all)))) there

    -- a place that is a way of a value that is followed is a way of one that is made of this one, if that may be read there
    way_of_made : (q : CallRef) → Contains (reads_of p made) q → is_way_of_makers p all q ≡ true → is_way_of_makers p made q ≡ true
    way_of_made q read is =
        let found : Any (λ v. one_of_places (ways_at p v) q ≡ true) all = Any-from_list_any (λ v. one_of_places (ways_at p v) q) all is in
        let v : CallRef = found.1 in
        let there : Contains all v = (found.0, found.2, found.3) in
        let takes : takes_at p (reads_of p made) v ≡ true = list_any-from_Any (one_of_places (ways_at p v)) (reads_of p made) (read.0, q, read.1, read.2, found.4) in
        let off : (is_new made v && takes_at p (reads_of p made) v) ≡ false = none_passes (λ w. is_new made w && takes_at p (reads_of p made) w) all v closed_under there in
        let old : one_of_places made v ≡ true = among_made (one_of_places made v) (takes_at p (reads_of p made) v) takes off in
        let at_v : Contains made v = one_of made v old in
        list_any-from_Any (λ w. one_of_places (ways_at p w) q) made (at_v.0, v, at_v.1, at_v.2, found.4)
      where
        among_made : (b t : Bool) → t ≡ true → (not b && t) ≡ false → b ≡ true
        among_made true t on off = refl
        among_made false true on off = sym off
        among_made false false on off = on

    read_for_made : (q : CallRef) → Contains (reads_of p made) q → is_read_by p false ways all q ≡ true → is_read_by p false ways made q ≡ true
    read_for_made q read is =
        let way : is_way_in p ways all q ≡ true = alone (is_way_in p ways all q) is in
        or_left (is_way_in p ways made q) false
        (elim (or_cases (one_of_places ways q) (is_way_of_makers p all q) way) [
          | inl own ↦ or_left (one_of_places ways q) (is_way_of_makers p made q) own
          | inr other ↦ or_right (one_of_places ways q) (is_way_of_makers p made q) (way_of_made q read other)
        ])
      where
        alone : (b : Bool) → (b || false) ≡ true → b ≡ true
        alone true is = refl
        alone false is = is

    pub each_own : are_closed_by p all ways ≡ true → is_closed_by p false all ways m ≡ true
    each_own joint =
        let fewer_right : list_all (is_read_by p false ways all) (reads_of p made) ≡ true = reads_of_fewer (is_read_by p false ways all) p all made made_among joint in
        let each : All (λ q. is_read_by p false ways made q ≡ true) (reads_of p made) =
        λ k d within. read_for_made (slice_index_or (reads_of p made) k d) (All-contains_itself (reads_of p made) k d within) (AllPass-from_list_all (is_read_by p false ways all) (reads_of p made) fewer_right k d within) in
        list_all-from_AllPass (is_read_by p false ways made) (reads_of p made) each
