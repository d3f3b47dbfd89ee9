-- A removal or a renaming that is refused since a source is not found is refused for the first of its names that means none, where variables are followed.
use Rattle.std.proofs.Common.{◌≡◌, ℕ, true, false, List, [], ◌∷◌, Some, None, refl, sym, ap, ◌∙◌, inl, inr}
use Rattle.std.specs.Prelude.{◌⊎◌, Bool, Result, Ok, Err, cond, find, count_by, if◌then◌else◌, option_and_then, option_map}
use Rattle.std.specs.List.{AllByRecursion, list_any}
use Rattle.std.proofs.lemmas.List.Elements.{All-nil}
use Rattle.meson_lex.specs.declared.kinds.Span.{Span}
use Rattle.meson_splice.specs.Patch.{then_ok}
use Rattle.meson_calls.specs.CallPlaces.{call_at}
use Rattle.meson_calls.specs.Calls.{Call, call_of, keyword}
use Rattle.meson_calls.specs.Finding.{the_call}
use Rattle.meson_calls.specs.Loading.{Loaded, project}
use Rattle.meson_calls.specs.NamedArguments.{once, sources_key}
use Rattle.meson_calls.specs.Project.{Placed, placed}
use Rattle.meson_calls.specs.declared.call.CallName.{CallName}
use Rattle.meson_calls.specs.declared.call.Role.TheVariants as role
use Rattle.meson_calls.specs.declared.refusal.Refusal.{Refusal}
use Rattle.meson_calls.specs.declared.refusal.Refusal.TheVariants as refusal
use Rattle.meson_calls.proofs.CallsFound.{role_found}
use Rattle.meson_followed.specs.FollowedEdits.{Removal, followed_removed, if_may_go, removals_named, removed_from}
use Rattle.meson_followed.specs.Renaming.{followed_renamed, if_fresh, renamed_from, renamed_steps}
use Rattle.meson_followed.specs.Sources.{has_path, named_path, sources_of}
use Rattle.meson_following.specs.Following.{Mark, follow_marks}
use Rattle.meson_plan.specs.Details.{place_found}
use Rattle.meson_plan.specs.Planning.{planned}
use Rattle.meson_sharing.specs.Told.{is_opaque}
use Rattle.meson_sources.specs.SourceEdits.{none_found}
use Rattle.meson_steps.specs.Names.{checked_names}
use Rattle.meson_steps.specs.Steps.{Step}
use Rattle.meson_steps.specs.declared.command.Command.TheVariants as command
use Rattle.meson_steps.specs.declared.source_change.SharedLists.{SharedLists}
use Rattle.meson_steps.specs.declared.source_change.SharedLists.TheVariants.{Changed}
use Rattle.meson_steps.specs.declared.source_change.SourceChange.TheVariants.{Remove, Rename}
use Rattle.meson_explaining.specs.Followed.{is_absent, is_absent_in, is_gone, is_refused, place_if, place_of}
use Rattle.meson_explaining.specs.NameLaws.{HasMeantName, NotRefused}
use Rattle.meson_explaining.specs.Names.{meant_name}
use Rattle.meson_explaining.proofs.BadNames.{same_names}
use Rattle.meson_explaining.proofs.Firsts.{all_to, meant_of_call}
use Rattle.meson_explaining.proofs.FollowedReasons.{from_reason, is_lost, lost_alone, may_go_free, named_free, followed_free, told_alone}
use Rattle.meson_explaining.proofs.LostNames.{split}
use Rattle.meson_explaining.proofs.NameReasons.{Free, Reached, after, after_ok, call_free, gone_of_names, not_refused, once_free, reached}
use Rattle.meson_explaining.proofs.SourceReasons.{names_valid}

pub names_ok : (names : List (List ℕ)) (u : Unit {0}) → checked_names names ≡ Ok u → AllByRecursion (λ x. checked_names (x ∷ []) ≡ Ok tt) names
names_ok [] u is = tt
names_ok ([] ∷ more) u is = absurd (let no : ⊥ = cc in no)
names_ok ((b ∷ bs) ∷ more) u is = (refl, names_ok more u is)

pub both_valid : (x y : List ℕ) (u : Unit {0}) → checked_names (x ∷ y ∷ []) ≡ Ok u → checked_names (x ∷ x ∷ []) ≡ Ok tt
both_valid [] y u is = absurd (let no : ⊥ = cc in no)
both_valid (b ∷ bs) y u is = refl

-- the call that an id names is at its place
pub at_place : (l : Loaded) (target : CallName) (c : Placed (Call Span)) → the_call (project l) role.Target target ≡ Ok c → call_at (project l) c.place ≡ Some c
at_place l target c found =
    let at = (role_found (project l) role.Target target c found).at in
    ap (λ o. option_map (placed c.place) (option_and_then call_of o)) at.is_at ∙ ap (option_map (placed c.place)) at.is_call

module _ (l : Loaded) (target : CallName) where
  abbrev absent : List ℕ → Bool
  absent = is_absent l (place_of l target)

  abbrev marks_of : Placed (Call Span) → Result (List (Mark Span)) Refusal
  marks_of c = once sources_key (keyword sources_key c.it) (follow_marks (project l) c)

  marks_free : (c : Placed (Call Span)) → Free is_gone (marks_of c)
  marks_free c = once_free is_gone gone_of_names sources_key (keyword sources_key c.it) (follow_marks (project l) c)

  abbrev removes : SharedLists → List (List ℕ) → Placed (Call Span) → List (Mark Span) → Result (List Step) Refusal
  removes shared names c marks = removed_from (project l) c shared marks names

  module _ (c : Placed (Call Span)) (found : the_call (project l) role.Target target ≡ Ok c) (marks : List (Mark Span)) (got : marks_of c ≡ Ok marks) where
    told : (name : List ℕ) → checked_names (name ∷ []) ≡ Ok tt → absent name ≡ is_lost (project l) c marks name
    unfolding is_absent_in
    told name valid =
        ap (λ r. is_absent l (place_if (place_found r)) name) found
        ∙ ap (λ o. is_absent_in (project l) o name) (at_place l target c found)
        ∙ ap (λ r. is_refused is_gone (then_ok r (λ _. then_ok (marks_of c) (removes Changed (name ∷ []) c)))) valid
        ∙ ap (λ r. is_refused is_gone (then_ok r (removes Changed (name ∷ []) c))) got
        ∙ told_alone (project l) c marks name

    all_there : (names : List (List ℕ)) → AllByRecursion (λ x. checked_names (x ∷ []) ≡ Ok tt) names → find absent names ≡ None
        → AllByRecursion (λ x. is_lost (project l) c marks x ≡ false) names
    all_there [] valid none = tt
    all_there (x ∷ xs) valid none = go (absent x) refl none (all_there xs valid.1)
      where
        go : (b : Bool) → absent x ≡ b → cond b (Some x) (find absent xs) ≡ None
            → (find absent xs ≡ None → AllByRecursion (λ y. is_lost (project l) c marks y ≡ false) xs)
            → AllByRecursion (λ y. is_lost (project l) c marks y ≡ false) (x ∷ xs)
        go true is e more = absurd (let no : ⊥ = cc in no)
        go false is e more = (sym (told x valid.0) ∙ is, more e)

    lone : (shared : SharedLists) (why : Refusal) → why ≡ none_found (count_by is_opaque marks) → (name : List ℕ) → checked_names (name ∷ []) ≡ Ok tt
        → absent name ≡ true → followed_removed (project l) c shared (name ∷ []) ≡ Err why
    lone shared why reason name valid is =
        ap (λ r. then_ok r (λ _. then_ok (marks_of c) (removes shared (name ∷ []) c))) valid
        ∙ ap (λ r. then_ok r (removes shared (name ∷ []) c)) got
        ∙ lost_alone (project l) c marks shared name (sym (told name valid) ∙ is)
        ∙ ap (λ e. Err e) (sym reason)

  module _ (shared : SharedLists) where
    abbrev body : List (List ℕ) → Placed (Call Span) → Result (List Step) Refusal
    body names c = followed_removed (project l) c shared names

    body_free : (names : List (List ℕ)) → find absent names ≡ None → (c : Placed (Call Span)) → the_call (project l) role.Target target ≡ Ok c
        → Free is_gone (body names c)
    body_free names none c found =
        after_ok is_gone (checked_names names) (λ _. then_ok (marks_of c) (removes shared names c)) (names_valid is_gone gone_of_names refl names)
        (λ u valid. after_ok is_gone (marks_of c) (removes shared names c) (marks_free c)
        (λ marks got. followed_free is_gone gone_of_names (project l) c shared marks names
        (named_free (count_by is_opaque marks) (sources_of (project l) c.place.file marks) (project l) c.place.file [] names
        (all_there c found marks got names (names_ok names u valid) none))))

    bodies : (why : Refusal) → is_gone why ≡ true → (names : List (List ℕ)) (c : Placed (Call Span)) → the_call (project l) role.Target target ≡ Ok c
        → body names c ≡ Err why → AllByRecursion (λ x. absent x ≡ true → body (x ∷ []) c ≡ Err why) names
    bodies why gone names c found e =
        let names_free = names_valid is_gone gone_of_names refl names in
        let valid = reached is_gone (checked_names names) (λ _. then_ok (marks_of c) (removes shared names c)) why names_free gone e in
        let got = reached is_gone (marks_of c) (removes shared names c) why (marks_free c) gone valid.rest in
        let reason = from_reason (project l) c got.value shared names why gone gone_of_names got.rest in
        all_to (λ x. checked_names (x ∷ []) ≡ Ok tt) (λ x. absent x ≡ true → body (x ∷ []) c ≡ Err why)
        (λ x ok is. lone c found got.value got.is shared why reason x ok is) names (names_ok names valid.value valid.is)

    pub followed_gone : (why : Refusal) → is_gone why ≡ true → (names : List (List ℕ))
        → meant_name l (command.FollowedSources target (Remove names) shared) why ≡ find absent names
        → planned (project l) (command.FollowedSources target (Remove names) shared) ≡ Err why
        → HasMeantName l (command.FollowedSources target (Remove names) shared) why
    followed_gone why gone names name e =
        meant_of_call l is_gone gone_of_names why gone role.Target target absent (λ s. s) (λ ns. command.FollowedSources target (Remove ns) shared) body
        (λ ns. refl) body_free names refl (name ∙ same_names (find absent names)) (bodies why gone names) e

  -- ---- a renaming: its old name alone has to mean a source

  module _ (shared : SharedLists) (why : Refusal) (gone : is_gone why ≡ true) (old new : List ℕ) where
    abbrev named : List ℕ → List ℕ → Placed (Call Span) → Result (List Step) Refusal
    named x y c = followed_renamed (project l) c shared x y

    abbrev finds : Placed (Call Span) → List (Mark Span) → Result (List Removal) Refusal
    finds c marks = removals_named (project l) c.place.file marks (old ∷ [])

    abbrev writes : Placed (Call Span) → List (Mark Span) → List ℕ → List Removal → Result (List Step) Refusal
    writes c marks y rs =
        then_ok (if_may_go (project l) c shared rs) (λ found. if_fresh (project l) c.place.file (sources_of (project l) c.place.file marks) y found)

    taken_free : (known : Bool) (steps : List Step) → Free is_gone (if known then Err refusal.ThereAlready else Ok steps)
    taken_free true steps = refl
    taken_free false steps = tt

    writes_free : (c : Placed (Call Span)) (marks : List (Mark Span)) (y : List ℕ) (rs : List Removal) → Free is_gone (writes c marks y rs)
    writes_free c marks y rs =
        after is_gone (if_may_go (project l) c shared rs) (λ found. if_fresh (project l) c.place.file (sources_of (project l) c.place.file marks) y found)
        (may_go_free is_gone gone_of_names (project l) c shared rs)
        (λ found. taken_free (list_any (has_path (named_path (project l) c.place.file y)) (sources_of (project l) c.place.file marks))
        (renamed_steps (project l) c.place.file y found))

    not_found : (c : Placed (Call Span)) (marks : List (Mark Span)) → renamed_from (project l) c shared marks old new ≡ Err why → finds c marks ≡ Err why
    not_found c marks e = go (split (finds c marks) (writes c marks new) why e)
      where
        go : (finds c marks ≡ Err why) ⊎ Reached (finds c marks) (writes c marks new) why → finds c marks ≡ Err why
        go (inl none) = none
        go (inr more) = absurd (not_refused is_gone (writes c marks new more.value) why (writes_free c marks new more.value) gone more.rest)

    old_lost : (c : Placed (Call Span)) (marks : List (Mark Span)) → finds c marks ≡ Err why → is_lost (project l) c marks old ≡ true
    old_lost c marks none = go (is_lost (project l) c marks old) refl
      where
        go : (b : Bool) → is_lost (project l) c marks old ≡ b → is_lost (project l) c marks old ≡ true
        go true is = is
        go false is =
            absurd (not_refused is_gone (finds c marks) why
            (named_free (count_by is_opaque marks) (sources_of (project l) c.place.file marks) (project l) c.place.file [] (old ∷ []) (is, tt)) gone none)

    pub followed_renaming_gone : meant_name l (command.FollowedSources target (Rename old new) shared) why ≡ find absent (old ∷ [])
        → planned (project l) (command.FollowedSources target (Rename old new) shared) ≡ Err why
        → HasMeantName l (command.FollowedSources target (Rename old new) shared) why
    followed_renaming_gone name e =
        let call = reached is_gone (the_call (project l) role.Target target) (named old new) why (call_free is_gone gone_of_names (project l) role.Target target) gone e in
        let c = call.value in
        let by : List ℕ → List (Mark Span) → Result (List Step) Refusal = λ y marks. renamed_from (project l) c shared marks old y in
        let names_free = names_valid is_gone gone_of_names refl (old ∷ new ∷ []) in
        let valid = reached is_gone (checked_names (old ∷ new ∷ [])) (λ _. then_ok (marks_of c) (by new)) why names_free gone call.rest in
        let got = reached is_gone (marks_of c) (by new) why (marks_free c) gone valid.rest in
        let none = not_found c got.value got.rest in
        let here : absent old ≡ true =
        told c call.is got.value got.is old (names_ok (old ∷ new ∷ []) valid.value valid.is).0 ∙ old_lost c got.value none in
        record {
          name = old;
          is_meant = name ∙ ap (λ b. cond b (Some old) None) here;
          is_first = record {
            before = [];
            lone = command.FollowedSources target (Rename old old) shared;
            behind = (new, command.FollowedSources target (Rename new new) shared) ∷ [];
            are = refl;
            refused =
                ap (λ r. then_ok r (named old old)) call.is
                ∙ ap (λ r. then_ok r (λ _. then_ok (marks_of c) (by old))) (both_valid old new valid.value valid.is)
                ∙ ap (λ r. then_ok r (by old)) got.is
                ∙ ap (λ r. then_ok r (writes c got.value old)) none;
            others = All-nil (NotRefused l why);
          };
        }
