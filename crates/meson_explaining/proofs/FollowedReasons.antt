-- Where variables are followed, a removal of sources is refused for a name only as its definition says.
use Rattle.std.proofs.Common.{◌≡◌, ◌≢◌, ℕ, zero, suc, true, false, List, [], ◌∷◌, ◌++◌, map, Option, Some, None, refl, sym, ap, ◌∙◌, inl, inr}
use Rattle.std.specs.Prelude.{Bool, Result, Ok, Err, ◌⊎◌, if◌then◌else◌, ok_or, count_by}
use Rattle.std.specs.List.{AllByRecursion}
use Rattle.meson_lex.specs.declared.kinds.Span.{Span}
use Rattle.meson_splice.specs.Patch.{then_ok}
use Rattle.meson_calls.specs.Calls.{Call}
use Rattle.meson_calls.specs.Project.{Placed, Project}
use Rattle.meson_calls.specs.Roles.{one_of}
use Rattle.meson_calls.specs.declared.refusal.Refusal.{Refusal}
use Rattle.meson_calls.specs.declared.refusal.Refusal.TheVariants as refusal
use Rattle.meson_followed.specs.FollowedEdits.{Removal, followed_removed, if_may_go, maker_name, none_shared}
use Rattle.meson_followed.specs.FollowedEdits.{removals_at, removals_by, removals_named, removals_of, removed_from, removed_steps}
use Rattle.meson_followed.specs.Homes.{by_maker}
use Rattle.meson_followed.specs.Sources.{MetSource, distinct_paths_by, named_path, sources_at, sources_of}
use Rattle.meson_following.specs.Following.{Mark}
use Rattle.meson_sharing.specs.Sharing.{is_unshared}
use Rattle.meson_sharing.specs.Told.{is_opaque}
use Rattle.meson_sources.specs.SourceEdits.{none_found}
use Rattle.meson_steps.specs.Steps.{Step}
use Rattle.meson_steps.specs.declared.source_change.SharedLists.{SharedLists}
use Rattle.meson_steps.specs.declared.source_change.SharedLists.TheVariants.{Kept, Changed}
use Rattle.meson_explaining.specs.Followed.{is_absent_in, is_gone, is_memory, is_refused}
use Rattle.meson_explaining.proofs.LostNames.{split}
use Rattle.meson_explaining.proofs.NameReasons.{Free, OfNames, Reached, after, not_refused, or_free}

-- ---- lists that others get

module _ (q : Refusal → Bool) (apart : OfNames q) (p : Project Span) (c : Placed (Call Span)) where
  kept_free : (rs : List Removal) → Free q (none_shared p c rs)
  kept_free [] = tt
  kept_free (r ∷ more) = go (by_maker (is_unshared p c) r.maker) (kept_free more)
    where
      go : (b : Bool) → Free q (none_shared p c more)
          → Free q (if b then then_ok (none_shared p c more) (λ rs. Ok (r ∷ rs)) else Err (refusal.Shared (maker_name p r.maker)))
      go true free = after q (none_shared p c more) (λ rs. Ok (r ∷ rs)) free (λ rs. tt)
      go false free = apart.shared (maker_name p r.maker)

  pub may_go_free : (shared : SharedLists) (rs : List Removal) → Free q (if_may_go p c shared rs)
  may_go_free Kept rs = kept_free rs
  may_go_free Changed rs = tt

  -- nothing else is refused for a reason that finding the sources is not refused for
  pub followed_free : (shared : SharedLists) (marks : List (Mark Span)) (names : List (List ℕ)) → Free q (removals_named p c.place.file marks names)
      → Free q (removed_from p c shared marks names)
  followed_free shared marks names free =
      after q (removals_named p c.place.file marks names) (λ rs. then_ok (if_may_go p c shared rs) (λ gone. Ok (removed_steps gone))) free
      (λ rs. after q (if_may_go p c shared rs) (λ gone. Ok (removed_steps gone)) (may_go_free shared rs) (λ gone. tt))

-- ---- no source is found

abbrev pub is_nil : {X : Type 0} → List X → Bool
is_nil [] = true
is_nil (x ∷ xs) = false

-- that is no reason
module _ (q : Refusal → Bool) (apart : OfNames q) (unknown : ℕ) (none : q (none_found unknown) ≡ false) (sources : List MetSource) where
  any_free : (xs : List MetSource) → Free q (removals_by unknown xs)
  any_free [] = none
  any_free (s ∷ more) = or_free q (removals_of (s ∷ more)) refusal.NotRemovable apart.not_removable

  pub all_free : (paths : List (List ℕ)) → Free q (removals_at unknown sources paths)
  all_free [] = tt
  all_free (path ∷ more) =
      after q (removals_by unknown (sources_at sources path)) (λ here. then_ok (removals_at unknown sources more) (λ later. Ok (here ++ later)))
      (any_free (sources_at sources path))
      (λ here. after q (removals_at unknown sources more) (λ later. Ok (here ++ later)) (all_free more) (λ later. tt))

none_gone : (unknown : ℕ) → is_gone (none_found unknown) ≡ true
none_gone zero = refl
none_gone (suc n) = refl

-- that is the reason
module _ (unknown : ℕ) (sources : List MetSource) where
  some_free : (xs : List MetSource) → is_nil xs ≡ false → Free is_gone (removals_by unknown xs)
  some_free [] some = absurd (let no : ⊥ = cc in no)
  some_free (s ∷ more) some = or_free is_gone (removals_of (s ∷ more)) refusal.NotRemovable refl

  by_reason : (xs : List MetSource) (why : Refusal) → is_gone why ≡ true → removals_by unknown xs ≡ Err why → why ≡ none_found unknown
  by_reason [] why gone e = let same : none_found unknown ≡ why = cc in sym same
  by_reason (s ∷ more) why gone e = go (removals_of (s ∷ more)) e
    where
      go : (o : Option (List Removal)) → ok_or o refusal.NotRemovable ≡ Err why → why ≡ none_found unknown
      go None f =
          let same : refusal.NotRemovable ≡ why = cc in
          let both : ◌≡◌ {A = Bool} false true = ap is_gone same ∙ gone in
          absurd (let no : ⊥ = cc in no)
      go (Some rs) f = absurd (let no : ⊥ = cc in no)

  pub at_reason : (paths : List (List ℕ)) (why : Refusal) → is_gone why ≡ true → removals_at unknown sources paths ≡ Err why → why ≡ none_found unknown
  at_reason [] why gone e = absurd (let no : ⊥ = cc in no)
  at_reason (path ∷ more) why gone e =
      go (at_reason more why gone)
      (split (removals_by unknown (sources_at sources path)) (λ here. then_ok (removals_at unknown sources more) (λ later. Ok (here ++ later))) why e)
    where
      further : (here : List Removal) → (removals_at unknown sources more ≡ Err why → why ≡ none_found unknown)
          → (removals_at unknown sources more ≡ Err why) ⊎ Reached (removals_at unknown sources more) (λ later. Ok (here ++ later)) why
          → why ≡ none_found unknown
      further here next (inl f) = next f
      further here next (inr f) = absurd (let not_so = f.rest in let no : ⊥ = cc in no)

      go : (removals_at unknown sources more ≡ Err why → why ≡ none_found unknown)
          → (removals_by unknown (sources_at sources path) ≡ Err why)
          ⊎ Reached (removals_by unknown (sources_at sources path)) (λ here. then_ok (removals_at unknown sources more) (λ later. Ok (here ++ later))) why
          → why ≡ none_found unknown
      go next (inl f) = by_reason (sources_at sources path) why gone f
      go next (inr f) = further f.value next (split (removals_at unknown sources more) (λ later. Ok (f.value ++ later)) why f.rest)

  module _ (p : Project Span) (n : ℕ) where
    -- a source is at the path of each name
    pub named_free : (seen names : List (List ℕ)) → AllByRecursion (λ x. is_nil (sources_at sources (named_path p n x)) ≡ false) names
        → Free is_gone (removals_at unknown sources (map (named_path p n) (distinct_paths_by p n seen names)))
    named_free seen [] all = tt
    named_free seen (x ∷ xs) all = go (one_of seen (named_path p n x)) (λ before. named_free before xs all.1)
      where
        go : (b : Bool)
            → ((before : List (List ℕ)) → Free is_gone (removals_at unknown sources (map (named_path p n) (distinct_paths_by p n before xs))))
            → Free is_gone (removals_at unknown sources
            (map (named_path p n) (if b then distinct_paths_by p n seen xs else x ∷ distinct_paths_by p n (seen ++ named_path p n x ∷ []) xs)))
        go true later = later seen
        go false later =
            let more = map (named_path p n) (distinct_paths_by p n (seen ++ named_path p n x ∷ []) xs) in
            after is_gone (removals_by unknown (sources_at sources (named_path p n x)))
            (λ here. then_ok (removals_at unknown sources more) (λ rest. Ok (here ++ rest)))
            (some_free (sources_at sources (named_path p n x)) all.0)
            (λ here. after is_gone (removals_at unknown sources more) (λ rest. Ok (here ++ rest)) (later (seen ++ named_path p n x ∷ [])) (λ rest. tt))

-- ---- the removal of one name alone

module _ (p : Project Span) (c : Placed (Call Span)) (marks : List (Mark Span)) where
  abbrev unknown : ℕ
  unknown = count_by is_opaque marks

  abbrev here : List ℕ → List MetSource
  here name = sources_at (sources_of p c.place.file marks) (named_path p c.place.file name)

  -- no source is at its path
  abbrev pub is_lost : List ℕ → Bool
  is_lost name = is_nil (here name)

  abbrev then_removed : SharedLists → List MetSource → Result (List Step) Refusal
  then_removed shared xs =
      then_ok (then_ok (removals_by unknown xs) (λ found. then_ok (removals_at unknown (sources_of p c.place.file marks) []) (λ later. Ok (found ++ later))))
      (λ rs. then_ok (if_may_go p c shared rs) (λ gone. Ok (removed_steps gone)))

  none_removed : (shared : SharedLists) (xs : List MetSource) → is_nil xs ≡ true → then_removed shared xs ≡ Err (none_found unknown)
  none_removed shared [] lost = refl
  none_removed shared (s ∷ more) lost = absurd (let no : ⊥ = cc in no)

  -- it is refused where none is
  pub lost_alone : (shared : SharedLists) (name : List ℕ) → is_lost name ≡ true → removed_from p c shared marks (name ∷ []) ≡ Err (none_found unknown)
  lost_alone shared name lost = none_removed shared (here name) lost

  told_by : (xs : List MetSource) → is_refused is_gone (then_removed Changed xs) ≡ is_nil xs
  told_by [] = none_gone unknown
  told_by (s ∷ more) = go (removals_of (s ∷ more))
    where
      go : (o : Option (List Removal))
          → is_refused is_gone (then_ok (then_ok (ok_or o refusal.NotRemovable)
          (λ found. then_ok (removals_at unknown (sources_of p c.place.file marks) []) (λ later. Ok (found ++ later))))
          (λ rs. then_ok (if_may_go p c Changed rs) (λ gone. Ok (removed_steps gone)))) ≡ false
      go None = refl
      go (Some rs) = refl

  -- and for that reason there alone
  pub told_alone : (name : List ℕ) → is_refused is_gone (removed_from p c Changed marks (name ∷ [])) ≡ is_lost name
  told_alone name = told_by (here name)

  -- all names: the reason is the same for each
  pub from_reason : (shared : SharedLists) (names : List (List ℕ)) (why : Refusal) → is_gone why ≡ true → OfNames is_gone
      → removed_from p c shared marks names ≡ Err why → why ≡ none_found unknown
  from_reason shared names why gone apart e =
      go (split (removals_named p c.place.file marks names) (λ rs. then_ok (if_may_go p c shared rs) (λ gone. Ok (removed_steps gone))) why e)
    where
      go : (removals_named p c.place.file marks names ≡ Err why)
          ⊎ Reached (removals_named p c.place.file marks names) (λ rs. then_ok (if_may_go p c shared rs) (λ gone. Ok (removed_steps gone))) why
          → why ≡ none_found unknown
      go (inl f) = at_reason unknown (sources_of p c.place.file marks) _ why gone f
      go (inr f) =
          absurd (not_refused is_gone (then_ok (if_may_go p c shared f.value) (λ gone. Ok (removed_steps gone))) why
          (after is_gone (if_may_go p c shared f.value) (λ gone. Ok (removed_steps gone)) (may_go_free is_gone apart p c shared f.value)
          (λ gone. tt)) gone f.rest)

-- ---- what the code finds of one name alone

pub not_memory : (why : Refusal) → is_memory why ≡ false → why ≢ refusal.OutOfMemory
not_memory why is = λ same. let yes : is_memory why ≡ true = ap is_memory same in let no : ⊥ = cc in no

module _ (p : Project Span) (c : Placed (Call Span)) (name : List ℕ) where
  pub done_alone : (steps : List Step) → followed_removed p c Changed (name ∷ []) ≡ Ok steps → false ≡ is_absent_in p (Some c) name
  unfolding is_absent_in
  done_alone steps is = sym (ap (is_refused is_gone) is)

  pub refused_alone : (why : Refusal) → followed_removed p c Changed (name ∷ []) ≡ Err why → is_gone why ≡ is_absent_in p (Some c) name
  unfolding is_absent_in
  refused_alone why is = sym (ap (is_refused is_gone) is)
