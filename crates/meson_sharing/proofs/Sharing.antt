-- What follows from a list being read for one target alone.
use Rattle.std.proofs.Common.{◌≡◌, inl, inr, ℕ, List, [], ◌∷◌, length, refl, sym, ap, subst, ◌∙◌, arith}
use Rattle.std.specs.Prelude.{slice_index_or, ◌==◌, Bool, true, false, not, ◌&&◌, ◌||◌, zero, suc, filter, flat_map, bytes_eq, if◌then◌else◌, Option, Some, None}
use Rattle.std.specs.List.{All, Any, Contains, cons_option, filter_map, list_all, list_any}
use Rattle.std.proofs.lemmas.Bool.{and_from, and_parts, eq-eqb, eqb-true, false≢true, or_cases, or_left, or_right}
use Rattle.std.proofs.lemmas.List.Elements.{All-append, All-contains, All-contains_itself, All-filter, All-head, All-map, All-nil, All-tail, All-weaker, All-cons, Contains-append_left, filter_passes}
use Rattle.std.proofs.lemmas.List.Folds.{Any-from_list_any, list_all-append, list_any-from_Any}
use Rattle.std.proofs.lemmas.List.Sums.{AllPass-from_list_all}
use Rattle.std.proofs.lemmas.Slice.Eq.{bytes_eq-Decides}
use Rattle.meson_lex.specs.declared.kinds.Span.{Span}
use Rattle.meson_syntax.proofs.parsing.Steps.{some-injective}
use Rattle.meson_calls.specs.declared.call.CallRef.{CallRef}
use Rattle.meson_calls.specs.Calls.{Call}
use Rattle.meson_calls.specs.Project.{Project, Placed, place}
use Rattle.meson_calls.specs.Roles.{places}
use Rattle.meson_following.specs.Following.{follow_call, one_of_places}
use Rattle.meson_steps.specs.Names.{distinct}
use Rattle.meson_steps.proofs.Distincts.{All-distinct}
use Rattle.meson_sharing.specs.Laws.{MadeOf, itself, further, is_kept, is_left_out, MaySee, ReadFor, by_the_call, by_one, ReadOrUsed, Spreads}
use Rattle.meson_following.specs.Makers.{Known, Maker, is_same_place}
use Rattle.meson_following.specs.Reads.{has_one_of, keeps_one_of, may_leave_out, reads, reads_of_variable, sees}
use Rattle.meson_sharing.specs.Sharing.{from_maker, is_own, is_unshared, is_use, is_way, is_way_of_makers, names_of, reads_of, takes_at, uses, variable_of, ways_at, ways_of_target, with_takers, with_takers_of_takers}
use Rattle.meson_sharing.proofs.ChosenNames.{chosen_all, chosen_has, distinct_has}

-- ---- places

pub same_place : (c d : CallRef) → is_same_place c d ≡ true → c ≡ d
same_place c d same =
    let both = and_parts (c.file == d.file) (bytes_eq c.path.steps d.path.steps) same in
    ap (λ n. place n c.path.steps) (eqb-true c.file d.file both.0) ∙ ap (place d.file) ((bytes_eq-Decides c.path.steps d.path.steps).0 both.1)

pub itself_same : (c : CallRef) → is_same_place c c ≡ true
itself_same c =
    and_from (c.file == c.file) (bytes_eq c.path.steps c.path.steps) (eq-eqb c.file c.file refl) ((bytes_eq-Decides c.path.steps c.path.steps).1 refl)

pub one_of : (qs : List CallRef) (q : CallRef) → one_of_places qs q ≡ true → Contains qs q
one_of qs q is =
    let found : Any (λ r. is_same_place r q ≡ true) qs = Any-from_list_any (λ r. is_same_place r q) qs is in
    let same : found.1 ≡ q = same_place found.1 q found.4 in
    subst (Contains qs) same (found.0, found.2, found.3)

pub is_one : (qs : List CallRef) (q : CallRef) → Contains qs q → one_of_places qs q ≡ true
is_one qs q c = list_any-from_Any (λ r. is_same_place r q) qs (c.0, q, c.1, c.2, itself_same q)

-- the values of makers that are among those of others
abbrev pub AreAmong : List CallRef → List CallRef → Type 0
AreAmong few ms = (q : CallRef) → Contains few q → Contains ms q

pub one_among : (ms : List CallRef) (v : CallRef) → Contains ms v → AreAmong (v ∷ []) ms
one_among ms v has q is = subst (Contains ms) (same_place v q (one (is_same_place v q) (is_one (v ∷ []) q is))) has
  where
    one : (b : Bool) → b || false ≡ true → b ≡ true
    one true is = refl
    one false is = is

-- ---- where fewer values may be read

of_those : (ms few : List CallRef) → AreAmong few ms → (q : CallRef) → one_of_places few q ≡ true → one_of_places ms q ≡ true
of_those ms few among q is = is_one ms q (among q (one_of few q is))

module _ {S : Type 0} (test : CallRef → Bool) (ms few : List CallRef) (among : AreAmong few ms) where
  -- a maker of what is known
  maker_of_those : (makers : List (Maker S)) → list_any (λ m. one_of_places few m.value.place) makers ≡ true
      → list_any (λ m. one_of_places ms m.value.place) makers ≡ true
  maker_of_those [] is = is
  maker_of_those (m ∷ more) is =
      elim (or_cases (one_of_places few m.value.place) (list_any (λ n. one_of_places few n.value.place) more) is) [
        | inl first ↦ or_left (one_of_places ms m.value.place) (list_any (λ n. one_of_places ms n.value.place) more) (of_those ms few among m.value.place first)
        | inr later ↦ or_right (one_of_places ms m.value.place) (list_any (λ n. one_of_places ms n.value.place) more) (maker_of_those more later)
      ]

  kept_of_those : (k : Known S) → keeps_one_of few k ≡ true → keeps_one_of ms k ≡ true
  kept_of_those None is = is
  kept_of_those (Some k) is = maker_of_those k.makers is

  known_of_those : (k : Known S) → has_one_of few k ≡ true → has_one_of ms k ≡ true
  known_of_those k is =
      elim (or_cases (may_leave_out k) (keeps_one_of few k) is) [
        | inl cut ↦ or_left (may_leave_out k) (keeps_one_of ms k) cut
        | inr kept ↦ or_right (may_leave_out k) (keeps_one_of ms k) (kept_of_those k kept)
      ]

  reads_of_those : (rs : List (Placed (Known S))) → list_all test (places (filter (sees ms) rs)) ≡ true → list_all test (places (filter (sees few) rs)) ≡ true
  reads_of_those [] all = all
  reads_of_those (r ∷ rs) all = go (sees few r) (sees ms r) (known_of_those r.it) (reads_of_those rs) all
    where
      go : (b c : Bool) → (b ≡ true → c ≡ true)
          → (list_all test (places (filter (sees ms) rs)) ≡ true → list_all test (places (filter (sees few) rs)) ≡ true)
          → list_all test (places (if c then r ∷ filter (sees ms) rs else filter (sees ms) rs)) ≡ true
          → list_all test (places (if b then r ∷ filter (sees few) rs else filter (sees few) rs)) ≡ true
      go true true more later all =
          let both = and_parts (test r.place) (list_all test (places (filter (sees ms) rs))) all in
          and_from (test r.place) (list_all test (places (filter (sees few) rs))) both.0 (later both.1)
      go true false more later all = absurd (false≢true (more refl))
      go false true more later all = later (and_parts (test r.place) (list_all test (places (filter (sees ms) rs))) all).1
      go false false more later all = later all

module _ {S : Type 0} (test : CallRef → Bool) (p : Project S) (ms few : List CallRef) (among : AreAmong few ms) where
  -- of a first variable and of others
  parts_of_all : (x : List ℕ) (names : List (List ℕ)) → list_all test (flat_map (reads_of_variable p ms) (x ∷ names)) ≡ true
      → (list_all test (reads_of_variable p ms x) ≡ true) × (list_all test (flat_map (reads_of_variable p ms) names) ≡ true)
  parts_of_all x names all =
      and_parts (list_all test (reads_of_variable p ms x)) (list_all test (flat_map (reads_of_variable p ms) names))
      (sym (list_all-append test (reads_of_variable p ms x) (flat_map (reads_of_variable p ms) names)) ∙ all)

  each_of_all : (names : List (List ℕ)) → list_all test (flat_map (reads_of_variable p ms) names) ≡ true → All (λ x. list_all test (reads_of_variable p ms x) ≡ true) names
  each_of_all [] all = All-nil (λ x. list_all test (reads_of_variable p ms x) ≡ true)
  each_of_all (x ∷ names) all =
      let both = parts_of_all x names all in
      All-cons (λ y. list_all test (reads_of_variable p ms y) ≡ true) x names both.0 (each_of_all names both.1)

  abbrev IsRight : List ℕ → Type 0
  IsRight x = list_all test (reads_of_variable p few x) ≡ true

  all_of_each : (names : List (List ℕ)) → All IsRight names → list_all test (flat_map (reads_of_variable p few) names) ≡ true
  all_of_each [] all = refl
  all_of_each (x ∷ names) all =
      list_all-append test (reads_of_variable p few x) (flat_map (reads_of_variable p few) names)
      ∙ and_from (list_all test (reads_of_variable p few x)) (list_all test (flat_map (reads_of_variable p few) names)) (All-head IsRight x names all)
      (all_of_each names (All-tail IsRight x names all))

  of_variable : list_all test (reads_of p ms) ≡ true → (v : CallRef) → Contains few v → (x : List ℕ) → variable_of p v ≡ Some x → IsRight x
  of_variable all v has x is =
      let there : Contains (names_of p ms) x = distinct_has (filter_map (variable_of p) ms) x (chosen_has (variable_of p) ms v x (among v has) is) in
      reads_of_those test ms few among (reads p x)
      (All-contains (λ y. list_all test (reads_of_variable p ms y) ≡ true) (names_of p ms) x (each_of_all (names_of p ms) all) there)

  pub reads_of_fewer : list_all test (reads_of p ms) ≡ true → list_all test (reads_of p few) ≡ true
  reads_of_fewer all =
      all_of_each (names_of p few) (All-distinct IsRight [] (filter_map (variable_of p) few)
      (chosen_all (variable_of p) IsRight few (All-weaker (Contains few) (λ v. (x : List ℕ) → variable_of p v ≡ Some x → IsRight x) (of_variable all) few (All-contains_itself few))))

-- ---- variables to which values are assigned

-- the value of one of these is assigned to the variable
abbrev AssignsOne : Project Span → List CallRef → List ℕ → Type 0
AssignsOne p ms x = (u : CallRef) × Contains ms u × Contains (names_of p (u ∷ [])) x

module _ (p : Project Span) where
  only_name : (x : List ℕ) (o : Option (List ℕ)) → o ≡ Some x → Contains (distinct (cons_option o [])) x
  only_name x None is = absurd (let no : ⊥ = cc in no)
  only_name x (Some y) is = (0, omega arith, some-injective y x is)

  all_assigned : (ms : List CallRef) → All (AssignsOne p ms) (names_of p ms)
  all_assigned ms =
      All-distinct (AssignsOne p ms) [] (filter_map (variable_of p) ms)
      (chosen_all (variable_of p) (AssignsOne p ms) ms
      (All-weaker (Contains ms) (λ u. (x : List ℕ) → variable_of p u ≡ Some x → AssignsOne p ms x) (λ u has x is. (u, has, only_name x (variable_of p u) is)) ms
      (All-contains_itself ms)))

-- ---- what may be seen at a place

-- one of these may be seen there
abbrev SeesOne : Project Span → List CallRef → CallRef → Type 0
SeesOne p ms q = (u : CallRef) × Contains ms u × MaySee p q u

module _ (p : Project Span) (ms : List CallRef) where
  maker_seen : (makers : List (Maker Span)) → list_any (λ m. one_of_places ms m.value.place) makers ≡ true
      → (u : CallRef) × Contains ms u × (list_any (λ m. one_of_places (u ∷ []) m.value.place) makers ≡ true)
  maker_seen makers is =
      let found : Any (λ m. one_of_places ms m.value.place ≡ true) makers = Any-from_list_any (λ m. one_of_places ms m.value.place) makers is in
      let u : CallRef = found.1.value.place in
      let is_there : one_of_places (u ∷ []) u ≡ true = or_left (is_same_place u u) false (itself_same u) in
      (u, one_of ms u found.4, list_any-from_Any (λ m. one_of_places (u ∷ []) m.value.place) makers (found.0, found.1, found.2, found.3, is_there))

  known_seen : (k : Known Span) → keeps_one_of ms k ≡ true → (u : CallRef) × Contains ms u × (keeps_one_of (u ∷ []) k ≡ true)
  known_seen None is = absurd (false≢true is)
  known_seen (Some k) is = maker_seen k.makers is

  read_sees : (x : List ℕ) (r : Placed (Known Span)) → AssignsOne p ms x → Contains (reads p x) r → sees ms r ≡ true → SeesOne p ms r.place
  read_sees x r assigned has is =
      elim (or_cases (may_leave_out r.it) (keeps_one_of ms r.it) is) [
        | inl cut ↦
            (assigned.0, assigned.1, record { variable = x; read = r; is_read = has; is_there = refl; is_seen = is_left_out assigned.2 cut })
        | inr kept ↦
            let one = known_seen r.it kept in
            (one.0, one.1, record { variable = x; read = r; is_read = has; is_there = refl; is_seen = is_kept one.2 })
      ]

  reads_see : (x : List ℕ) → AssignsOne p ms x → All (SeesOne p ms) (reads_of_variable p ms x)
  reads_see x assigned =
      let rs = reads p x in
      let in_them : All (Contains rs) (filter (sees ms) rs) = All-filter (sees ms) (Contains rs) rs (All-contains_itself rs) in
      let passing : All (λ r. sees ms r ≡ true) (filter (sees ms) rs) = filter_passes (sees ms) rs in
      All-map (SeesOne p ms) (λ r. r.place) (filter (sees ms) rs)
      (λ k d within. read_sees x (slice_index_or (filter (sees ms) rs) k d) assigned (in_them k d within) (passing k d within))

  names_see : (xs : List (List ℕ)) → All (AssignsOne p ms) xs → All (SeesOne p ms) (flat_map (reads_of_variable p ms) xs)
  names_see [] all = All-nil (SeesOne p ms)
  names_see (x ∷ xs) all =
      All-append (SeesOne p ms) (reads_of_variable p ms x) (flat_map (reads_of_variable p ms) xs) (reads_see x (All-head (AssignsOne p ms) x xs all))
      (names_see xs (All-tail (AssignsOne p ms) x xs all))

  all_see : All (SeesOne p ms) (reads_of p ms)
  all_see = names_see (names_of p ms) (all_assigned p ms)

-- ---- what is made of a value

module _ (p : Project Span) (all : List CallRef) (m : CallRef) where
  taker_made : (ms : List CallRef) → All (MadeOf p all m) ms → (v : CallRef) → Contains all v → takes_at p (reads_of p ms) v ≡ true → MadeOf p all m v
  taker_made ms made v has takes =
      let found : Any (λ q. one_of_places (ways_at p v) q ≡ true) (reads_of p ms) = Any-from_list_any (one_of_places (ways_at p v)) (reads_of p ms) takes in
      let q : CallRef = found.1 in
      let seen : SeesOne p ms q = All-contains (SeesOne p ms) (reads_of p ms) q (all_see p ms) (found.0, found.2, found.3) in
      further seen.0 v q (All-contains (MadeOf p all m) ms seen.0 made seen.1) has (one_of (ways_at p v) q found.4) seen.2

  takers_made : (ms : List CallRef) → All (MadeOf p all m) ms → All (MadeOf p all m) (with_takers p all ms (reads_of p ms))
  takers_made ms made =
      let test : CallRef → Bool = λ v. not (one_of_places ms v) && takes_at p (reads_of p ms) v in
      let in_all : All (Contains all) (filter test all) = All-filter test (Contains all) all (All-contains_itself all) in
      let passing : All (λ v. test v ≡ true) (filter test all) = filter_passes test all in
      let made_one : (v : CallRef) → Contains all v → test v ≡ true → MadeOf p all m v =
      λ v has is. taker_made ms made v has (and_parts (not (one_of_places ms v)) (takes_at p (reads_of p ms) v) is).1 in
      All-append (MadeOf p all m) ms (filter test all) made
      (λ k d within. made_one (slice_index_or (filter test all) k d) (in_all k d within) (passing k d within))

  all_made : (times : ℕ) (ms : List CallRef) → All (MadeOf p all m) ms → All (MadeOf p all m) (with_takers_of_takers p all times ms)
  all_made zero ms made = made
  all_made (suc times) ms made = all_made times (with_takers p all ms (reads_of p ms)) (takers_made ms made)

  keeps : (times : ℕ) (ms : List CallRef) → Contains ms m → Contains (with_takers_of_takers p all times ms) m
  keeps zero ms has = has
  keeps (suc times) ms has =
      let seen = reads_of p ms in
      keeps times (with_takers p all ms seen) (Contains-append_left ms (filter (λ v. not (one_of_places ms v) && takes_at p seen v) all) m has)

  only_it : All (MadeOf p all m) (m ∷ [])
  only_it = All-cons (MadeOf p all m) m [] itself (All-nil (MadeOf p all m))

-- ---- the laws

module _ (p : Project Span) (c : Placed (Call Span)) where
  way_of_makers : (ms : List CallRef) (q : CallRef) → is_way_of_makers p ms q ≡ true → ReadFor p c ms q
  way_of_makers ms q is =
      let found : Any (λ m. one_of_places (ways_at p m) q ≡ true) ms = Any-from_list_any (λ m. one_of_places (ways_at p m) q) ms is in
      by_one found.1 (found.0, found.2, found.3) (one_of (ways_at p found.1) q found.4)

  way : (ms : List CallRef) (q : CallRef) → is_way p c ms q ≡ true → ReadFor p c ms q
  way ms q is =
      elim (or_cases (one_of_places (ways_of_target c) q) (is_way_of_makers p ms q) is) [
        | inl here ↦ by_the_call (one_of (ways_of_target c) q here)
        | inr there ↦ way_of_makers ms q there
      ]

  own_way : (ms : List CallRef) (q : CallRef) → is_way p c ms q || (false && is_use p q) ≡ true → ReadFor p c ms q
  own_way ms q is = elim (or_cases (is_way p c ms q) (false && is_use p q) is) [ inl a_way ↦ way ms q a_way | inr never ↦ absurd (false≢true never) ]

  unshared_way : (ms : List CallRef) (q : CallRef) → is_way p c ms q || (true && is_use p q) ≡ true → ReadOrUsed p c ms q
  unshared_way ms q is = elim (or_cases (is_way p c ms q) (is_use p q) is) [ inl a_way ↦ inl (way ms q a_way) | inr used ↦ inr (one_of (uses p) q used) ]

  each_read : (Q : CallRef → Type 0) (test : CallRef → Bool) (ms : List CallRef) → ((q : CallRef) → test q ≡ true → Q q) → list_all test (reads_of p ms) ≡ true
      → All (λ v. All Q (reads_of p (v ∷ []))) ms
  each_read Q test ms means all = All-weaker (Contains ms) (λ v. All Q (reads_of p (v ∷ []))) of_one ms (All-contains_itself ms)
    where
      of_one : (v : CallRef) → Contains ms v → All Q (reads_of p (v ∷ []))
      of_one v has =
          All-weaker (λ q. test q ≡ true) Q means (reads_of p (v ∷ [])) (AllPass-from_list_all test (reads_of p (v ∷ [])) (reads_of_fewer test p ms (v ∷ []) (one_among ms v has) all))

  spreads : (m : CallRef) (Q : List CallRef → CallRef → Type 0) (test : CallRef → Bool) → ((q : CallRef) → test q ≡ true → Q (from_maker p c m) q)
      → list_all test (reads_of p (from_maker p c m)) ≡ true → Spreads p c m Q
  spreads m Q test means all =
      let followed = (follow_call p c).followed in
      record {
        made = from_maker p c m;
        has_it = keeps p followed m (length followed) (m ∷ []) (0, omega arith, refl);
        are_made = all_made p followed m (length followed) (m ∷ []) (only_it p followed m);
        are_read = each_read (Q (from_maker p c m)) test (from_maker p c m) means all;
      }

  pub own_spreads : (m : CallRef) → is_own p c m ≡ true → Spreads p c m (ReadFor p c)
  own_spreads m own = spreads m (ReadFor p c) (λ q. is_way p c (from_maker p c m) q || (false && is_use p q)) (own_way (from_maker p c m)) own

  pub unshared_spreads : (m : CallRef) → is_unshared p c m ≡ true → Spreads p c m (ReadOrUsed p c)
  unshared_spreads m unshared =
      spreads m (ReadOrUsed p c) (λ q. is_way p c (from_maker p c m) q || (true && is_use p q)) (unshared_way (from_maker p c m)) unshared

  pub own_reads : (m : CallRef) → is_own p c m ≡ true → All (λ v. All (ReadFor p c (from_maker p c m)) (reads_of p (v ∷ []))) (from_maker p c m)
  own_reads m own =
      each_read (ReadFor p c (from_maker p c m)) (λ q. is_way p c (from_maker p c m) q || (false && is_use p q)) (from_maker p c m)
      (own_way (from_maker p c m)) own

  closed_with_uses : (ms qs : List CallRef) → list_all (λ q. is_way p c ms q || (false && is_use p q)) qs ≡ true
      → list_all (λ q. is_way p c ms q || (true && is_use p q)) qs ≡ true
  closed_with_uses ms [] all = all
  closed_with_uses ms (q ∷ qs) all =
      let strict : CallRef → Bool = λ r. is_way p c ms r || (false && is_use p r) in
      let loose : CallRef → Bool = λ r. is_way p c ms r || (true && is_use p r) in
      let both = and_parts (strict q) (list_all strict qs) all in
      let first : loose q ≡ true = elim (or_cases (is_way p c ms q) (false && is_use p q) both.0) [
        | inl a_way ↦ or_left (is_way p c ms q) (true && is_use p q) a_way
        | inr never ↦ absurd (false≢true never)
      ] in
      and_from (loose q) (list_all loose qs) first (closed_with_uses ms qs both.1)

  pub own_is_unshared : (m : CallRef) → is_own p c m ≡ true → is_unshared p c m ≡ true
  own_is_unshared m own = closed_with_uses (from_maker p c m) (reads_of p (from_maker p c m)) own
