-- The elements that are found by names: each source at the path of one of them, and nothing else.
use Rattle.std.proofs.Common.{◌≡◌, inl, inr, ℕ, List, [], ◌∷◌, ◌++◌, map, refl, sym, subst, arith, ◌∙◌}
use Rattle.std.specs.Prelude.{◌⊎◌, ◌||◌, Bool, true, false, bytes_eq, if◌then◌else◌, count_by, Option, Some, None, ok_or, option_map, option_and_then, Result, Ok, Err}
use Rattle.std.specs.List.{All, Contains}
use Rattle.std.proofs.lemmas.Bool.{false≢true, or_cases}
use Rattle.std.proofs.lemmas.List.Elements.{All-append, All-cons, All-contains, All-contains_itself, All-filter, All-map, All-nil, All-weaker, Contains-append_left, Contains-append_right, filter_passes}
use Rattle.std.proofs.lemmas.List.Folds.{list_any-append}
use Rattle.std.proofs.lemmas.Slice.Eq.{bytes_eq-Decides}
use Rattle.meson_lex.specs.declared.kinds.Span.{Span}
use Rattle.meson_splice.specs.Patch.{then_ok}
use Rattle.meson_calls.specs.declared.refusal.Refusal.{Refusal}
use Rattle.meson_calls.specs.declared.refusal.Refusal.TheVariants.{NotRemovable}
use Rattle.meson_calls.specs.Calls.{Call}
use Rattle.meson_calls.specs.Project.{Placed, Project}
use Rattle.meson_calls.specs.Roles.{one_of}
use Rattle.meson_following.specs.Following.{follow_marks}
use Rattle.meson_sharing.specs.Told.{is_opaque}
use Rattle.meson_steps.specs.Steps.{Step}
use Rattle.meson_followed.specs.FollowedEdits.{Removal, removal_of, removals_at, removals_by, removals_named, removals_of, removed_steps}
use Rattle.meson_followed.specs.Laws.{AllGo, Goes, IsNamed, Takes, met_sources}
use Rattle.meson_followed.specs.Sources.{MetSource, distinct_paths, distinct_paths_by, has_path, named_path, sources_at}

-- ---- parts of results

pub ok_then : {X Y : Type 0} (r : Result X Refusal) (f : X → Result Y Refusal) (y : Y) → then_ok r f ≡ Ok y → (x : X) × (r ≡ Ok x) × (f x ≡ Ok y)
ok_then (Ok x) f y is = (x, refl, is)
ok_then (Err e) f y is = absurd cc

some_then : {X Y : Type 0} (o : Option X) (f : X → Option Y) (y : Y) → option_and_then f o ≡ Some y → (x : X) × (o ≡ Some x) × (f x ≡ Some y)
some_then None f y is = absurd cc
some_then (Some x) f y is = (x, refl, is)

some_map : {X Y : Type 0} (o : Option X) (f : X → Y) (y : Y) → option_map f o ≡ Some y → (x : X) × (o ≡ Some x) × (f x ≡ y)
some_map None f y is = absurd cc
some_map (Some x) f y is = (x, refl, cc)

some_or : {X : Type 0} (o : Option X) (e : Refusal) (x : X) → ok_or o e ≡ Ok x → o ≡ Some x
some_or None e x is = absurd cc
some_or (Some y) e x is = cc

pub head_there : {X : Type 0} (x : X) (xs : List X) → Contains (x ∷ xs) x
head_there x xs = (0, omega arith, refl)

-- ---- the sources at one path

module _ (p : Project Span) (c : Placed (Call Span)) where
  -- an element that is one of these sources
  record Among (xs : List MetSource) (r : Removal) : Type 0 where
    pub source : MetSource
    pub is_one : Contains xs source
    pub is_element : removal_of source ≡ Some r

  later_among : (x : MetSource) (xs : List MetSource) (r : Removal) → Among xs r → Among (x ∷ xs) r
  later_among x xs r a = record { source = a.source; is_one = Contains-append_right (x ∷ []) xs a.source a.is_one; is_element = a.is_element }

  all_among : (xs : List MetSource) (rs : List Removal) → removals_of xs ≡ Some rs → All (Among xs) rs
  all_among [] rs is = let none : [] ≡ rs = cc in subst (All (Among [])) none (All-nil (Among []))
  all_among (x ∷ xs) rs is =
      let first = some_then (removal_of x) (λ r. option_map (λ others. r ∷ others) (removals_of xs)) rs is in
      let others = some_map (removals_of xs) (λ others. first.0 ∷ others) rs first.2 in
      let later = All-weaker (Among xs) (Among (x ∷ xs)) (later_among x xs) others.0 (all_among xs others.0 others.1) in
      let here : Among (x ∷ xs) first.0 = record { source = x; is_one = head_there x xs; is_element = first.1 } in
      subst (All (Among (x ∷ xs))) others.2 (All-cons (Among (x ∷ xs)) first.0 others.0 here later)

  goes_too : (some all : List Removal) → ((r : Removal) → Contains some r → Contains all r) → (s : MetSource) → Goes p c some s → Goes p c all s
  goes_too some all within s g = record { element = g.element; is_element = g.is_element; is_one = within g.element g.is_one }

  -- each of those that have the path
  abbrev AtPath : List ℕ → List Removal → MetSource → Type 0
  AtPath path gone s = has_path path s ≡ true → Goes p c gone s

  at_path_too : (path : List ℕ) (some all : List Removal) → ((r : Removal) → Contains some r → Contains all r) → (ss : List MetSource)
      → All (AtPath path some) ss → All (AtPath path all) ss
  at_path_too path some all within ss are = All-weaker (AtPath path some) (AtPath path all) (λ s goes has. goes_too some all within s (goes has)) ss are

  all_at_path : (path : List ℕ) (ss : List MetSource) (rs : List Removal) → removals_of (sources_at ss path) ≡ Some rs → All (AtPath path rs) ss
  all_at_path path [] rs is = All-nil (AtPath path rs)
  all_at_path path (s ∷ ss) rs is = go (has_path path s) refl (all_at_path path ss) is
    where
      go : (b : Bool) → has_path path s ≡ b → ((others : List Removal) → removals_of (sources_at ss path) ≡ Some others → All (AtPath path others) ss)
          → removals_of (if b then s ∷ sources_at ss path else sources_at ss path) ≡ Some rs → All (AtPath path rs) (s ∷ ss)
      go true has later is =
          let first = some_then (removal_of s) (λ r. option_map (λ others. r ∷ others) (removals_of (sources_at ss path))) rs is in
          let others = some_map (removals_of (sources_at ss path)) (λ others. first.0 ∷ others) rs first.2 in
          let here : Goes p c rs s = record { element = first.0; is_element = first.1; is_one = subst (λ l. Contains l first.0) others.2 (head_there first.0 others.0) } in
          All-cons (AtPath path rs) s ss (λ _. here)
          (at_path_too path others.0 rs (λ r one. subst (λ l. Contains l r) others.2 (Contains-append_right (first.0 ∷ []) others.0 r one)) ss
          (later others.0 others.1))
      go false other later is = All-cons (AtPath path rs) s ss (λ has. absurd (false≢true (sym other ∙ has))) (later rs is)

  by_some : (unknown : ℕ) (xs : List MetSource) (rs : List Removal) → removals_by unknown xs ≡ Ok rs → removals_of xs ≡ Some rs
  by_some unknown [] rs is = absurd cc
  by_some unknown (x ∷ xs) rs is = some_or (removals_of (x ∷ xs)) NotRemovable rs is

  -- ---- the sources at some paths

  module _ (unknown : ℕ) (ss : List MetSource) where
    -- an element that is a source at one of these paths
    record AtOne (paths : List (List ℕ)) (r : Removal) : Type 0 where
      pub path : List ℕ
      pub is_asked : Contains paths path
      pub source : MetSource
      pub is_met : Contains ss source
      pub has_it : source.path ≡ path
      pub is_element : removal_of source ≡ Some r

    later_one : (path : List ℕ) (more : List (List ℕ)) (r : Removal) → AtOne more r → AtOne (path ∷ more) r
    later_one path more r a =
        record { path = a.path; is_asked = Contains-append_right (path ∷ []) more a.path a.is_asked; source = a.source; is_met = a.is_met; has_it = a.has_it; is_element = a.is_element }

    here_one : (path : List ℕ) (more : List (List ℕ)) (r : Removal) → Among (sources_at ss path) r → AtOne (path ∷ more) r
    here_one path more r a =
        let met = All-contains (Contains ss) (sources_at ss path) a.source (All-filter (has_path path) (Contains ss) ss (All-contains_itself ss)) a.is_one in
        let has = All-contains (λ s. has_path path s ≡ true) (sources_at ss path) a.source (filter_passes (has_path path) ss) a.is_one in
        record { path = path; is_asked = head_there path more; source = a.source; is_met = met; has_it = (bytes_eq-Decides a.source.path path).0 has; is_element = a.is_element }

    record AreExact (paths : List (List ℕ)) (gone : List Removal) : Type 0 where
      pub only : All (AtOne paths) gone
      pub all : All (λ path. All (AtPath path gone) ss) paths

    are_exact : (paths : List (List ℕ)) (gone : List Removal) → removals_at unknown ss paths ≡ Ok gone → AreExact paths gone
    are_exact [] gone is =
        let none : [] ≡ gone = cc in
        record { only = subst (All (AtOne [])) none (All-nil (AtOne [])); all = All-nil (λ path. All (AtPath path gone) ss) }
    are_exact (path ∷ more) gone is =
        let first = ok_then (removals_by unknown (sources_at ss path)) (λ here. then_ok (removals_at unknown ss more) (λ later. Ok (here ++ later))) gone is in
        let rest = ok_then (removals_at unknown ss more) (λ later. Ok (first.0 ++ later)) gone first.2 in
        let here = first.0 in
        let later = rest.0 in
        let joined : here ++ later ≡ gone = cc (rest.2) in
        let found = by_some unknown (sources_at ss path) here first.1 in
        let others = are_exact more later rest.1 in
        record {
          only = subst (All (AtOne (path ∷ more))) joined (All-append (AtOne (path ∷ more)) here later
              (All-weaker (Among (sources_at ss path)) (AtOne (path ∷ more)) (here_one path more) here (all_among (sources_at ss path) here found))
              (All-weaker (AtOne more) (AtOne (path ∷ more)) (later_one path more) later others.only));
          all = All-cons (λ q. All (AtPath q gone) ss) path more
              (at_path_too path here gone (λ r one. subst (λ l. Contains l r) joined (Contains-append_left here later r one)) ss (all_at_path path ss here found))
              (All-weaker (λ q. All (AtPath q later) ss) (λ q. All (AtPath q gone) ss)
              (λ q are. at_path_too q later gone (λ r one. subst (λ l. Contains l r) joined (Contains-append_right here later r one)) ss are) more others.all);
        }

  -- ---- names and their paths

  abbrev pub path_named : List ℕ → List ℕ
  path_named name = named_path p c.place.file name

  pub distinct_given : (seen names : List (List ℕ)) → All (Contains names) (distinct_paths_by p c.place.file seen names)
  distinct_given seen [] = All-nil (Contains [])
  distinct_given seen (x ∷ xs) = go (one_of seen (path_named x)) (distinct_given seen xs) (distinct_given (seen ++ path_named x ∷ []) xs)
    where
      more : (ys : List (List ℕ)) → All (Contains xs) ys → All (Contains (x ∷ xs)) ys
      more ys are = All-weaker (Contains xs) (Contains (x ∷ xs)) (λ y has. Contains-append_right (x ∷ []) xs y has) ys are

      go : (b : Bool) → All (Contains xs) (distinct_paths_by p c.place.file seen xs) → All (Contains xs) (distinct_paths_by p c.place.file (seen ++ path_named x ∷ []) xs)
          → All (Contains (x ∷ xs)) (if b then distinct_paths_by p c.place.file seen xs else x ∷ distinct_paths_by p c.place.file (seen ++ path_named x ∷ []) xs)
      go true met new = more (distinct_paths_by p c.place.file seen xs) met
      go false met new =
          let others = distinct_paths_by p c.place.file (seen ++ path_named x ∷ []) xs in
          All-cons (Contains (x ∷ xs)) x others (head_there x xs) (more others new)

  -- its path was seen, or it is among those that are kept
  abbrev IsKept : (seen names : List (List ℕ)) → List ℕ → Type 0
  IsKept seen kept name = (one_of seen (path_named name) ≡ true) ⊎ Contains (map path_named kept) (path_named name)

  module _ (seen : List (List ℕ)) (x : List ℕ) where
    abbrev with_it : List (List ℕ)
    with_it = seen ++ path_named x ∷ []

    same_path : (y : List ℕ) (b : Bool) → bytes_eq (path_named x) (path_named y) ≡ b → (b || false) ≡ true → path_named x ≡ path_named y
    same_path y true same is = (bytes_eq-Decides (path_named x) (path_named y)).0 same
    same_path y false same is = absurd (false≢true is)

    kept_after : (others : List (List ℕ)) (y : List ℕ) → IsKept with_it others y → IsKept seen (x ∷ others) y
    kept_after others y (inr has) = inr (Contains-append_right (path_named x ∷ []) (map path_named others) (path_named y) has)
    kept_after others y (inl is) =
        elim (or_cases (one_of seen (path_named y)) (one_of (path_named x ∷ []) (path_named y))
        (sym (list_any-append (λ z. bytes_eq z (path_named y)) seen (path_named x ∷ [])) ∙ is)) [
          | inl before ↦ inl before
          | inr now ↦ inr (subst (Contains (path_named x ∷ map path_named others)) (same_path y (bytes_eq (path_named x) (path_named y)) refl now)
              (head_there (path_named x) (map path_named others)))
        ]

  distinct_kept : (seen names : List (List ℕ)) → All (IsKept seen (distinct_paths_by p c.place.file seen names)) names
  distinct_kept seen [] = All-nil (IsKept seen [])
  distinct_kept seen (x ∷ xs) =
      let others = distinct_paths_by p c.place.file (with_it seen x) xs in
      go (one_of seen (path_named x)) refl others (distinct_kept seen xs) (distinct_kept (with_it seen x) xs)
    where
      go : (b : Bool) → one_of seen (path_named x) ≡ b → (others : List (List ℕ)) → All (IsKept seen (distinct_paths_by p c.place.file seen xs)) xs
          → All (IsKept (with_it seen x) others) xs → All (IsKept seen (if b then distinct_paths_by p c.place.file seen xs else x ∷ others)) (x ∷ xs)
      go true met others same new = All-cons (IsKept seen (distinct_paths_by p c.place.file seen xs)) x xs (inl met) same
      go false met others same new =
          All-cons (IsKept seen (x ∷ others)) x xs (inr (head_there (path_named x) (map path_named others)))
          (All-weaker (IsKept (with_it seen x) others) (IsKept seen (x ∷ others)) (kept_after seen x others) xs new)

  module _ (names : List (List ℕ)) where
    abbrev pub kept_names : List (List ℕ)
    kept_names = distinct_paths p c.place.file names

    abbrev pub kept_paths : List (List ℕ)
    kept_paths = map path_named kept_names

    has_kept : (name : List ℕ) → IsKept [] kept_names name → Contains kept_paths (path_named name)
    has_kept name (inr has) = has
    has_kept name (inl is) = absurd (false≢true is)

    -- each path is among those that are kept
    pub each_kept : All (λ name. Contains kept_paths (path_named name)) names
    each_kept = All-weaker (IsKept [] kept_names) (λ name. Contains kept_paths (path_named name)) has_kept names (distinct_kept [] names)

    -- a name that means the path
    abbrev IsOfName : List ℕ → Type 0
    IsOfName path = (name : List ℕ) × Contains names name × (path_named name ≡ path)

    of_names : All IsOfName kept_paths
    of_names =
        All-map IsOfName path_named kept_names
        (All-weaker (Contains names) (λ name. IsOfName (path_named name)) (λ name has. (name, has, refl)) kept_names (distinct_given [] names))

    abbrev unknown : ℕ
    unknown = count_by is_opaque (follow_marks p c)

    is_named : (r : Removal) → AtOne unknown (met_sources p c) kept_paths r → IsNamed p c names r
    is_named r a =
        let of = All-contains IsOfName kept_paths a.path of_names a.is_asked in
        record { name = of.0; is_given = of.1; source = a.source; is_met = a.is_met; is_meant = a.has_it ∙ sym of.2; is_element = a.is_element }

    module _ (gone : List Removal) (found : removals_named p c.place.file (follow_marks p c) names ≡ Ok gone) where
      exact : AreExact unknown (met_sources p c) kept_paths gone
      exact = are_exact unknown (met_sources p c) kept_paths gone found

      pub only_these : All (IsNamed p c names) gone
      only_these = All-weaker (AtOne unknown (met_sources p c) kept_paths) (IsNamed p c names) is_named gone exact.only

      all_of : (name : List ℕ) → Contains kept_paths (path_named name) → AllGo p c gone name
      all_of name kept s met meant =
          All-contains (AtPath (path_named name) gone) (met_sources p c) s
          (All-contains (λ path. All (AtPath path gone) (met_sources p c)) kept_paths (path_named name) exact.all kept)
          met ((bytes_eq-Decides s.path (path_named name)).1 meant)

      pub all_these : All (AllGo p c gone) names
      all_these = All-weaker (λ name. Contains kept_paths (path_named name)) (AllGo p c gone) all_of names each_kept

      abbrev pub takes_named : (steps : List Step) → removed_steps gone ≡ steps → Takes p c names steps
      takes_named steps are_steps = record { gone = gone; are_steps = are_steps; only_named = only_these; all_named = all_these }
