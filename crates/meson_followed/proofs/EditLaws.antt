-- What commands promise where variables are followed.
use Rattle.std.proofs.Common.{◌≡◌, ℕ, List, [], ◌∷◌, ◌++◌, refl, sym, ap, arith, ◌∙◌}
use Rattle.std.specs.Prelude.{Bool, true, false, not, if◌then◌else◌, filter, Option, Some, None, Ok, Err}
use Rattle.std.specs.List.{All, Contains, list_any}
use Rattle.std.proofs.lemmas.Bool.{and_from, and_parts, false≢true}
use Rattle.std.proofs.lemmas.List.Elements.{All-cons, All-contains, All-contains_itself, All-filter, All-map, All-nil, All-weaker, Contains-append_left, Contains-append_right, filter_passes}
use Rattle.std.proofs.lemmas.List.Folds.{Any-from_list_any, list_any-from_Any}
use Rattle.std.proofs.lemmas.Slice.Eq.{bytes_eq-Decides}
use Rattle.meson_lex.specs.declared.kinds.Span.{Span}
use Rattle.meson_splice.specs.Patch.{then_ok}
use Rattle.meson_calls.specs.declared.call.CallRef.{CallRef}
use Rattle.meson_calls.specs.declared.refusal.Refusal.TheVariants.{Shared}
use Rattle.meson_calls.specs.Calls.{Call, keyword}
use Rattle.meson_calls.specs.NamedArguments.{once, sources_key}
use Rattle.meson_calls.specs.Project.{Placed, Project}
use Rattle.meson_variables.specs.TargetSources.{or_call, or_option}
use Rattle.meson_following.specs.Following.{Mark, follow_marks}
use Rattle.meson_sharing.specs.Sharing.{is_own, is_unshared}
use Rattle.meson_sharing.proofs.Sharing.{own_is_unshared}
use Rattle.meson_sources.specs.SourceEdits.{inserted_in}
use Rattle.meson_steps.specs.Names.{checked_names}
use Rattle.meson_steps.specs.Steps.{Step}
use Rattle.meson_steps.specs.declared.source_change.SharedLists.{SharedLists}
use Rattle.meson_steps.specs.declared.source_change.SharedLists.TheVariants.{Kept, Changed}
use Rattle.meson_followed.specs.FollowedEdits.{Removal, followed_added, followed_removed, if_may_go, is_sure_at, maker_name, new_sources, none_shared, removals_named, removed_from, removed_steps}
use Rattle.meson_followed.specs.Homes.{Home, Homes, best_home, by_maker, first_home, home, homes_of}
use Rattle.meson_followed.specs.Laws.{Adds, AddsToOne, added_names, GivesToOne, the_call, a_list, IsForOne, in_the_call, in_a_value, IsProvided, is_there, is_added, IsSurely, Takes, TakesFromOne, met_sources}
use Rattle.meson_followed.specs.Sources.{MetSource, distinct_paths, has_path, named_path, sources_of}
use Rattle.meson_followed.proofs.NamedElements.{distinct_given, each_kept, head_there, kept_names, kept_paths, ok_then, path_named, takes_named}

-- ---- checks that nothing stops

pub once_is : {X Y : Type 0} (key : List ℕ) (xs : List X) (y z : Y) → once key xs y ≡ Ok z → y ≡ z
once_is key [] y z is = cc
once_is key (x ∷ []) y z is = cc
once_is key (x ∷ w ∷ more) y z is = absurd cc

-- ---- the list that is found

-- the first of some lists that passes a test
pub record Passes (test : Home → Bool) (hs : List Home) (q : CallRef) : Type 0 where
  pub home : Home
  pub is_one : Contains hs home
  pub is_it : home.list ≡ q
  pub passes : test home ≡ true

module _ (test : Home → Bool) where
  first_passes : (hs : List Home) (q : CallRef) → first_home test hs ≡ Some q → Passes test hs q
  first_passes [] q is = absurd cc
  first_passes (h ∷ hs) q is = go (test h) refl (first_passes hs q) is
    where
      go : (b : Bool) → test h ≡ b → (first_home test hs ≡ Some q → Passes test hs q) → (if b then Some h.list else first_home test hs) ≡ Some q
          → Passes test (h ∷ hs) q
      go true passes later here = record { home = h; is_one = Contains-append_left (h ∷ []) hs h (0, omega arith, refl); is_it = cc; passes = passes }
      go false fails later more =
          let r = later more in
          record { home = r.home; is_one = Contains-append_right (h ∷ []) hs r.home r.is_one; is_it = r.is_it; passes = r.passes }

  pub best_passes : (hs : Homes) (q : CallRef) → best_home test hs ≡ Some q → Passes test (hs.holding ++ hs.empties) q
  best_passes hs q is = go (first_home test hs.holding) refl is
    where
      go : (o : Option CallRef) → first_home test hs.holding ≡ o → or_option o (first_home test hs.empties) ≡ Some q
          → Passes test (hs.holding ++ hs.empties) q
      go (Some h) found is =
          let r = first_passes hs.holding q (found ∙ is) in
          record { home = r.home; is_one = Contains-append_left hs.holding hs.empties r.home r.is_one; is_it = r.is_it; passes = r.passes }
      go None none is =
          let r = first_passes hs.empties q is in
          record { home = r.home; is_one = Contains-append_right hs.holding hs.empties r.home r.is_one; is_it = r.is_it; passes = r.passes }

module _ (p : Project Span) (c : Placed (Call Span)) where
  unshared_is_for_one : (m : Option CallRef) → by_maker (is_unshared p c) m ≡ true → IsForOne p c m
  unshared_is_for_one None is = in_the_call refl
  unshared_is_for_one (Some m) is = in_a_value m refl is

  own_is_for_one : (m : Option CallRef) → by_maker (is_own p c) m ≡ true → IsForOne p c m
  own_is_for_one None is = in_the_call refl
  own_is_for_one (Some m) is = in_a_value m refl (own_is_unshared p c m is)

  abbrev homes_met : Homes
  homes_met = homes_of c.place.file (follow_marks p c)

  abbrev best_by : (CallRef → Bool) → Option CallRef
  best_by test = best_home (λ h. by_maker test h.maker) homes_met

  gives : (test : CallRef → Bool) → ((m : Option CallRef) → by_maker test m ≡ true → IsForOne p c m) → (q : CallRef) → best_by test ≡ Some q → GivesToOne p c q
  gives test are q is =
      let r = best_passes (λ h. by_maker test h.maker) homes_met q is in
      a_list r.home r.is_one r.is_it (are r.home.maker r.passes)

  pub home_is_for_one : GivesToOne p c (home p c Kept (follow_marks p c))
  home_is_for_one =
      go (best_by (is_own p c)) (best_by (is_unshared p c)) (gives (is_own p c) own_is_for_one) (gives (is_unshared p c) unshared_is_for_one)
    where
      go : (a b : Option CallRef) → ((q : CallRef) → a ≡ Some q → GivesToOne p c q) → ((q : CallRef) → b ≡ Some q → GivesToOne p c q)
          → GivesToOne p c (or_call c.place (or_option a (or_option b None)))
      go (Some q) b own unshared = own q refl
      go None (Some q) own unshared = unshared q refl
      go None None own unshared = the_call refl

  -- the list that gets them, by what is met
  pub added_to_home : (shared : SharedLists) (names : List (List ℕ)) (steps : List Step) → followed_added p c shared names ≡ Ok steps
      → inserted_in p (home p c shared (follow_marks p c)) (added_names p c names) ≡ steps
  added_to_home shared names steps is =
      let by_marks : List (Mark Span) → List Step =
      λ marks. inserted_in p (home p c shared marks) (new_sources p c.place.file (sources_of p c.place.file marks) names) in
      let then_added = λ (marks : List (Mark Span)). Ok (by_marks marks) in
      let called = once sources_key (keyword sources_key c.it) (follow_marks p c) in
      let checked = ok_then (checked_names names) (λ _. then_ok called then_added) steps is in
      let met = ok_then called then_added steps checked.2 in
      let marks_are : follow_marks p c ≡ met.0 = once_is sources_key (keyword sources_key c.it) (follow_marks p c) met.0 met.1 in
      let steps_are : by_marks met.0 ≡ steps = cc (met.2) in
      ap by_marks marks_are ∙ steps_are

  pub added_go_to_one : (names : List (List ℕ)) (steps : List Step) → followed_added p c Kept names ≡ Ok steps → AddsToOne p c names steps
  added_go_to_one names steps is =
      record { list = home p c Kept (follow_marks p c); are_steps = added_to_home Kept names steps is; is_for_one = home_is_for_one }

-- ---- what is removed

module _ (p : Project Span) (c : Placed (Call Span)) where
  pub record AreForOne (rs gone : List Removal) : Type 0 where
    pub are_all : rs ≡ gone
    pub are_for_one : All (λ r. IsForOne p c r.maker) rs

  pub none_are_shared : (rs gone : List Removal) → none_shared p c rs ≡ Ok gone → AreForOne rs gone
  none_are_shared [] gone is = record { are_all = cc; are_for_one = All-nil (λ (r : Removal). IsForOne p c r.maker) }
  none_are_shared (r ∷ rs) gone is = go (by_maker (is_unshared p c) r.maker) refl (none_are_shared rs) is
    where
      go : (b : Bool) → by_maker (is_unshared p c) r.maker ≡ b → ((others : List Removal) → none_shared p c rs ≡ Ok others → AreForOne rs others)
          → (if b then then_ok (none_shared p c rs) (λ gs. Ok (r ∷ gs)) else Err (Shared (maker_name p r.maker))) ≡ Ok gone → AreForOne (r ∷ rs) gone
      go true unshared later is =
          let more = ok_then (none_shared p c rs) (λ gs. Ok (r ∷ gs)) gone is in
          let are = later more.0 more.1 in
          let same : r ∷ more.0 ≡ gone = cc (more.2) in
          record {
            are_all = ap (λ gs. r ∷ gs) are.are_all ∙ same;
            are_for_one = All-cons (λ (x : Removal). IsForOne p c x.maker) r rs (unshared_is_for_one p c r.maker unshared) are.are_for_one;
          }
      go false shared later is = absurd cc

  -- what is found by the names, and may go
  record AreTaken (shared : SharedLists) (names : List (List ℕ)) (steps : List Step) : Type 0 where
    pub found : List Removal
    pub gone : List Removal
    pub are_found : removals_named p c.place.file (follow_marks p c) names ≡ Ok found
    pub may_go : if_may_go p c shared found ≡ Ok gone
    pub are_steps : removed_steps gone ≡ steps

  taken_by : (shared : SharedLists) (names : List (List ℕ)) (steps : List Step) → followed_removed p c shared names ≡ Ok steps → AreTaken shared names steps
  taken_by shared names steps is =
      let by_marks = λ (marks : List (Mark Span)). removed_from p c shared marks names in
      let called = once sources_key (keyword sources_key c.it) (follow_marks p c) in
      let checked = ok_then (checked_names names) (λ _. then_ok called by_marks) steps is in
      let met = ok_then called by_marks steps checked.2 in
      let marks_are : follow_marks p c ≡ met.0 = once_is sources_key (keyword sources_key c.it) (follow_marks p c) met.0 met.1 in
      let gone_by = λ (rs : List Removal). then_ok (if_may_go p c shared rs) (λ gone. Ok (removed_steps gone)) in
      let named = ok_then (removals_named p c.place.file (follow_marks p c) names) gone_by steps (ap by_marks marks_are ∙ met.2) in
      let may = ok_then (if_may_go p c shared named.0) (λ gone. Ok (removed_steps gone)) steps named.2 in
      record { found = named.0; gone = may.0; are_found = named.1; may_go = may.1; are_steps = cc (may.2) }

  pub all_found_go : (shared : SharedLists) (rs gone : List Removal) → if_may_go p c shared rs ≡ Ok gone → rs ≡ gone
  all_found_go Kept rs gone is = (none_are_shared rs gone is).are_all
  all_found_go Changed rs gone is = cc

  pub named_are_removed : (shared : SharedLists) (names : List (List ℕ)) (steps : List Step) → followed_removed p c shared names ≡ Ok steps
      → Takes p c names steps
  named_are_removed shared names steps is =
      let t = taken_by shared names steps is in
      takes_named p c names t.found t.are_found steps (ap removed_steps (all_found_go shared t.found t.gone t.may_go) ∙ t.are_steps)

  pub removed_are_of_one : (names : List (List ℕ)) (steps : List Step) → followed_removed p c Kept names ≡ Ok steps → TakesFromOne p c names steps
  removed_are_of_one names steps is =
      let t = taken_by Kept names steps is in
      let are = none_are_shared t.found t.gone t.may_go in
      record {
        takes = takes_named p c names t.found t.are_found steps (ap removed_steps are.are_all ∙ t.are_steps);
        are_for_one = are.are_for_one;
      }

-- ---- what is added

not_true : (b : Bool) → not b ≡ true → b ≡ true → ⊥
not_true true fails passes = false≢true fails
not_true false fails passes = false≢true passes

module _ (p : Project Span) (c : Placed (Call Span)) (names : List (List ℕ)) where
  abbrev found_by : List ℕ → Bool
  found_by name = list_any (is_sure_at (named_path p c.place.file name)) (met_sources p c)

  finds : (name : List ℕ) (s : MetSource) → IsSurely p c name s → found_by name ≡ true
  finds name s is =
      let path = named_path p c.place.file name in
      let same : has_path path s ≡ true = (bytes_eq-Decides s.path path).1 is.is_meant in
      let test : is_sure_at path s ≡ true = and_from s.sure (has_path path s) is.is_sure same in
      list_any-from_Any (is_sure_at path) (met_sources p c) (is.is_met.0, s, is.is_met.1, is.is_met.2, test)

  pub sure_are_not_added : All (λ name. (s : MetSource) → IsSurely p c name s → ⊥) (new_sources p c.place.file (met_sources p c) names)
  sure_are_not_added =
      All-weaker (λ name. not (found_by name) ≡ true) (λ name. (s : MetSource) → IsSurely p c name s → ⊥)
      (λ name new s is. not_true (found_by name) new (finds name s is)) (new_sources p c.place.file (met_sources p c) names)
      (filter_passes (λ name. not (found_by name)) (distinct_paths p c.place.file names))

  -- ---- each name is provided

  abbrev is_new : List ℕ → Bool
  is_new name = not (found_by name)

  abbrev KeptIfNew : List (List ℕ) → List ℕ → Type 0
  KeptIfNew kept x = is_new x ≡ true → Contains kept x

  kept_if_new : (xs : List (List ℕ)) → All (KeptIfNew (filter is_new xs)) xs
  kept_if_new [] = All-nil (KeptIfNew [])
  kept_if_new (x ∷ xs) = go (is_new x) refl (filter is_new xs) (kept_if_new xs)
    where
      go : (b : Bool) → is_new x ≡ b → (kept : List (List ℕ)) → All (KeptIfNew kept) xs → All (KeptIfNew (if b then x ∷ kept else kept)) (x ∷ xs)
      go true new kept later =
          All-cons (KeptIfNew (x ∷ kept)) x xs (λ _. head_there x kept)
          (All-weaker (KeptIfNew kept) (KeptIfNew (x ∷ kept)) (λ y has is. Contains-append_right (x ∷ []) kept y (has is)) xs later)
      go false old kept later = All-cons (KeptIfNew kept) x xs (λ new. absurd (false≢true (sym old ∙ new))) later

  -- a name of the path that is kept
  record HasName (path : List ℕ) : Type 0 where
    pub kept : List ℕ
    pub is_one : Contains (kept_names p c names) kept
    pub is_path : path_named p c kept ≡ path

  each_has_name : All HasName (kept_paths p c names)
  each_has_name =
      let kept = kept_names p c names in
      All-map HasName (path_named p c) kept
      (All-weaker (Contains kept) (λ name. HasName (path_named p c name)) (λ name has. record { kept = name; is_one = has; is_path = refl }) kept
      (All-contains_itself kept))

  sure_there : (name : List ℕ) → found_by name ≡ true → (s : MetSource) × IsSurely p c name s
  sure_there name is =
      let path = path_named p c name in
      let any = Any-from_list_any (is_sure_at path) (met_sources p c) is in
      let both = and_parts any.1.sure (has_path path any.1) any.4 in
      (any.1, record { is_met = (any.0, any.2, any.3); is_sure = both.0; is_meant = (bytes_eq-Decides any.1.path path).0 both.1 })

  provided : (name : List ℕ) → HasName (path_named p c name) → IsProvided p c names name
  provided name h = go (found_by h.kept) refl
    where
      go : (b : Bool) → found_by h.kept ≡ b → IsProvided p c names name
      go true found =
          let there = sure_there h.kept found in
          let is = there.1 in
          is_there there.0 (record { is_met = is.is_met; is_sure = is.is_sure; is_meant = is.is_meant ∙ h.is_path })
      go false missing =
          let all = kept_names p c names in
          is_added h.kept (All-contains (KeptIfNew (filter is_new all)) all h.kept (kept_if_new all) h.is_one (ap not missing)) h.is_path

  pub missing_are_added : Adds p c names
  missing_are_added = record {
    only_given = All-filter is_new (Contains names) (kept_names p c names) (distinct_given p c [] names);
    all_provided = All-weaker (λ name. Contains (kept_paths p c names) (path_named p c name)) (IsProvided p c names)
        (λ name has. provided name (All-contains HasName (kept_paths p c names) (path_named p c name) each_has_name has)) names (each_kept p c names);
  }
