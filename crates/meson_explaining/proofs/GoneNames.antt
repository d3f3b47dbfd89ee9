-- A command that is refused since a source is not found is refused for the first of its names that the target does not have.
use Rattle.std.proofs.Common.{◌≡◌, ℕ, true, List, [], ◌∷◌, map, Some, None, refl, sym, ap, ◌∙◌, subst}
use Rattle.std.specs.Prelude.{Bool, false, Result, Ok, Err, cond, if◌then◌else◌, not, codes, find, option_map}
use Rattle.std.proofs.lemmas.List.Elements.{All-nil}
use Rattle.std.specs.List.{AllByRecursion}
use Rattle.meson_lex.specs.declared.kinds.Span.{Span}
use Rattle.meson_splice.specs.Patch.{then_ok}
use Rattle.meson_calls.specs.Calls.{Call, keyword}
use Rattle.meson_calls.specs.Finding.{the_call}
use Rattle.meson_calls.specs.Loading.{Loaded, project}
use Rattle.meson_calls.specs.NamedArguments.{kwargs_key, not_hidden, once, sources_key}
use Rattle.meson_calls.specs.Project.{Placed}
use Rattle.meson_calls.specs.declared.call.Role.{Role}
use Rattle.meson_calls.specs.declared.call.Role.TheVariants as role
use Rattle.meson_calls.specs.declared.refusal.Refusal.{Refusal}
use Rattle.meson_calls.specs.declared.refusal.Refusal.TheVariants as refusal
use Rattle.meson_followed.specs.FollowedEdits.{followed_added}
use Rattle.meson_following.specs.Following.{follow_marks}
use Rattle.meson_keywords.specs.Tasks.{Task, add_entry, checked_option, delete_entry, delete_option_entry, each_made, remove_entry, set_entry, set_option_entry}
use Rattle.meson_keywords.specs.TaskSteps.{call_changed, tasks_steps, trees_of}
use Rattle.meson_plan.specs.Planning.{call_asked, planned, target_told}
use Rattle.meson_sources.specs.Extras.{extra_files, extra_of_call}
use Rattle.meson_sources.specs.SourceEdits.{checked_extra, extra_added, extra_key, extra_marks, extra_removed, is_known, none_found, removed_at, renamed_at, renaming, sources_added, sources_renamed, Spot, spots_named}
use Rattle.meson_steps.specs.Names.{checked_names, distinct}
use Rattle.meson_steps.specs.Steps.{Step}
use Rattle.meson_steps.specs.declared.command.Command.{Command}
use Rattle.meson_steps.specs.declared.command.Command.TheVariants as command
use Rattle.meson_steps.specs.declared.source_change.SharedLists.{SharedLists}
use Rattle.meson_steps.specs.declared.source_change.SourceChange.TheVariants.{Add, Remove, Rename}
use Rattle.meson_targets.specs.TargetEdits.{checked_kind, target_removed}
use Rattle.meson_variables.specs.Expansion.{Mark}
use Rattle.meson_variables.specs.TargetSources.{items, opaque_count, source_item, source_marks, sources, sources_of_call, sources_of_marks}
use Rattle.meson_variables.specs.declared.source.SourceItem.{SourceItem}
use Rattle.meson_explaining.specs.Followed.{is_absent, is_gone, place_of}
use Rattle.meson_explaining.specs.NameLaws.{HasMeantName, NotRefused, alone}
use Rattle.meson_explaining.specs.Names.{meant_name}
use Rattle.meson_explaining.specs.Sources.{extras_at, has, is_missing, items_at, items_of, sources_at}
use Rattle.meson_explaining.proofs.AbsentNames.{at_place, both_valid, followed_gone, followed_renaming_gone, names_ok}
use Rattle.meson_explaining.proofs.EntryReasons.{add_free, delete_free, each_free, option_free, remove_free, set_free, values_free}
use Rattle.meson_explaining.proofs.Firsts.{all_to, meant_of_call}
use Rattle.meson_explaining.proofs.LostNames.{is_lost, removal_reason, same_names_had, spots_found, spots_lost}
use Rattle.meson_explaining.proofs.BadNames.{same_names}
use Rattle.meson_explaining.proofs.NameReasons.{Free, after, after_ok, call_free, checked_kind_free, gone_of_names, kwargs_free, not_refused, once_free, placed_free, reached, removed_free, shown_free, target_free}
use Rattle.meson_explaining.proofs.SourceReasons.{inserted_free, names_valid}
use Rattle.meson_explaining.proofs.TaskReasons.{tasks_free}
use Rattle.meson_calls.specs.declared.call.CallName.{CallName}
use Rattle.meson_calls.specs.Searching.{anywhere}

-- ---- what a keyword that may be there once gives

once_value : {X Y : Type 0} (key : List ℕ) (xs : List X) (y v : Y) → once key xs y ≡ Ok v → v ≡ y
once_value key [] y v is = let same : y ≡ v = cc in sym same
once_value key (x ∷ []) y v is = let same : y ≡ v = cc in sym same
once_value key (x ∷ z ∷ more) y v is = absurd (let no : ⊥ = cc in no)

once_other : {X Y Z : Type 0} (key : List ℕ) (xs : List X) (y v : Y) (z : Z) → once key xs y ≡ Ok v → once key xs z ≡ Ok z
once_other key [] y v z is = refl
once_other key (x ∷ []) y v z is = refl
once_other key (x ∷ w ∷ more) y v z is = absurd (let no : ⊥ = cc in no)

same_then : {A B : Type 0} (r : Result A Refusal) (f g : A → Result B Refusal) → ((x : A) → f x ≡ g x) → then_ok r f ≡ then_ok r g
same_then (Ok x) f g same = same x
same_then (Err e) f g same = refl

chained : {A B C : Type 0} (x : Result A Refusal) (f : A → Result B Refusal) (g : B → Result C Refusal) → then_ok (then_ok x f) g ≡ then_ok x (λ y. then_ok (f y) g)
chained (Ok y) f g = refl
chained (Err e) f g = refl

same_find : (f g : List ℕ → Bool) → ((x : List ℕ) → f x ≡ g x) → (xs : List (List ℕ)) → find f xs ≡ find g xs
same_find f g same [] = refl
same_find f g same (x ∷ xs) = ap (λ b. cond b (Some x) (find f xs)) (same x) ∙ ap (λ o. cond (g x) (Some x) o) (same_find f g same xs)

-- ---- a command that removes names from a target

module _ (l : Loaded) (target : CallName) (items_there : List SourceItem) (named : List (List ℕ) → Command) (marks_of : Placed (Call Span) → Result (List (Mark Span)) Refusal) where
  abbrev body : List (List ℕ) → Placed (Call Span) → Result (List Step) Refusal
  body names c = then_ok (checked_names names) (λ _. then_ok (marks_of c) (λ marks. removed_at (spots_named marks (distinct names))))

  module _ (is : (names : List (List ℕ)) → planned (project l) (named names) ≡ then_ok (the_call (project l) role.Target target) (body names))
      (free : (c : Placed (Call Span)) → Free is_gone (marks_of c))
      (same : (c : Placed (Call Span)) → the_call (project l) role.Target target ≡ Ok c → (marks : List (Mark Span)) → marks_of c ≡ Ok marks
      → (name : List ℕ) → is_missing items_there name ≡ is_lost marks name) where
    body_free : (names : List (List ℕ)) → find (is_missing items_there) names ≡ None → (c : Placed (Call Span)) → the_call (project l) role.Target target ≡ Ok c → Free is_gone (body names c)
    body_free names none c found =
        after is_gone (checked_names names) _ (names_valid is_gone gone_of_names refl names)
        (λ u. after_ok is_gone (marks_of c) (λ marks. removed_at (spots_named marks (distinct names))) (free c)
        (λ marks got. after is_gone (spots_named marks (distinct names)) _
        (spots_found marks [] names (sym (same_find (is_missing items_there) (is_lost marks) (same c found marks got) names) ∙ none)) (λ spots. tt)))

    lone_by : (c : Placed (Call Span)) (marks : List (Mark Span)) → marks_of c ≡ Ok marks → (why : Refusal) → why ≡ none_found (opaque_count marks) → (name : List ℕ) → is_lost marks name ≡ true
        → checked_names (name ∷ []) ≡ Ok tt → body (name ∷ []) c ≡ Err why
    lone_by c marks got why reason name lost valid =
        ap (λ names. then_ok names (λ _. then_ok (marks_of c) (λ ms. removed_at (spots_named ms (name ∷ []))))) valid
        ∙ ap (λ ms. then_ok ms (λ ms'. removed_at (spots_named ms' (name ∷ [])))) got
        ∙ ap removed_at (spots_lost marks name lost)
        ∙ ap (λ e. Err e) (sym reason)

    bodies : (why : Refusal) → is_gone why ≡ true → (names : List (List ℕ)) (c : Placed (Call Span)) → the_call (project l) role.Target target ≡ Ok c → body names c ≡ Err why
        → AllByRecursion (λ x. is_missing items_there x ≡ true → body (x ∷ []) c ≡ Err why) names
    bodies why gone names c found e =
        let valid = reached is_gone (checked_names names) (λ _. then_ok (marks_of c) (λ marks. removed_at (spots_named marks (distinct names)))) why (names_valid is_gone gone_of_names refl names) gone e in
        let got = reached is_gone (marks_of c) (λ marks. removed_at (spots_named marks (distinct names))) why (free c) gone valid.rest in
        let reason = removal_reason got.value (distinct names) why gone got.rest in
        all_to (λ x. checked_names (x ∷ []) ≡ Ok tt) (λ x. is_missing items_there x ≡ true → body (x ∷ []) c ≡ Err why)
        (λ x ok missing. lone_by c got.value got.is why reason x (sym (same c found got.value got.is x) ∙ missing) ok) names (names_ok names valid.value valid.is)

    pub gone_of_target : (why : Refusal) → is_gone why ≡ true → (names : List (List ℕ)) → alone (named names) ≡ map (λ s. (s, named (s ∷ []))) names
        → meant_name l (named names) why ≡ find (is_missing items_there) names → planned (project l) (named names) ≡ Err why → HasMeantName l (named names) why
    gone_of_target why gone names are name e =
        meant_of_call l is_gone gone_of_names why gone role.Target target (is_missing items_there) (λ s. s) named body is body_free names are
        (name ∙ same_names (find (is_missing items_there) names)) (bodies why gone names) e

-- ---- what the target has

module _ (l : Loaded) (target : CallName) (c : Placed (Call Span)) (found : the_call (project l) role.Target target ≡ Ok c) where
  module _ (marks : List (Mark Span)) where
    sources_had : once sources_key (keyword sources_key c.it) (source_marks (project l) c) ≡ Ok marks → sources_at l target ≡ map source_item (items marks)
    unfolding sources_at
    sources_had got =
        let these = once_value sources_key (keyword sources_key c.it) (source_marks (project l) c) marks got in
        let whole = once_other sources_key (keyword sources_key c.it) (source_marks (project l) c) marks (sources_of_marks c.place (source_marks (project l) c)) got in
        ap (items_at (sources (project l))) found
        ∙ ap (λ o. items_of (option_map (sources_of_call (project l)) o)) (at_place l target c found)
        ∙ ap (λ r. items_of (Some r)) whole
        ∙ ap (λ ms. map source_item (items ms)) (sym these)

    extras_had : once extra_key (keyword extra_key c.it) (extra_marks (project l) c) ≡ Ok marks → extras_at l target ≡ map source_item (items marks)
    unfolding extras_at
    extras_had got =
        let these = once_value extra_key (keyword extra_key c.it) (extra_marks (project l) c) marks got in
        let whole = once_other extra_key (keyword extra_key c.it) (extra_marks (project l) c) marks (sources_of_marks c.place (extra_marks (project l) c)) got in
        ap (items_at (extra_files (project l))) found
        ∙ ap (λ o. items_of (option_map (extra_of_call (project l)) o)) (at_place l target c found)
        ∙ ap (λ r. items_of (Some r)) whole
        ∙ ap (λ ms. map source_item (items ms)) (sym these)

    sources_same : once sources_key (keyword sources_key c.it) (source_marks (project l) c) ≡ Ok marks → (name : List ℕ) → is_missing (sources_at l target) name ≡ is_lost marks name
    sources_same got name = ap (λ xs. not (has xs name)) (sources_had got) ∙ ap not (same_names_had (items marks) name)

    extras_same : then_ok (not_hidden (keyword kwargs_key c.it)) (λ _. once extra_key (keyword extra_key c.it) (extra_marks (project l) c)) ≡ Ok marks
        → (name : List ℕ) → is_missing (extras_at l target) name ≡ is_lost marks name
    extras_same got name = ap (λ xs. not (has xs name)) (extras_had (shown_then (not_hidden (keyword kwargs_key c.it)) got)) ∙ ap not (same_names_had (items marks) name)
      where
        shown_then : (r : Result (Unit {0}) Refusal) → then_ok r (λ _. once extra_key (keyword extra_key c.it) (extra_marks (project l) c)) ≡ Ok marks
            → once extra_key (keyword extra_key c.it) (extra_marks (project l) c) ≡ Ok marks
        shown_then (Ok u) is = is
        shown_then (Err e) is = absurd (let no : ⊥ = cc in no)

-- ---- a renaming: the old name is meant

module _ (l : Loaded) (target : CallName) (old new : List ℕ) (why : Refusal) (gone : is_gone why ≡ true) where
  abbrev renamed : List ℕ → List ℕ → Placed (Call Span) → Result (List Step) Refusal
  renamed x y c = sources_renamed (project l) c x y

  abbrev taken_or : Bool → List Step → Result (List Step) Refusal
  taken_or known steps = if known then Err refusal.ThereAlready else Ok steps

  -- the spots of the old name are not found
  spots_gone : (known : Bool) (r : Result (List Spot) Refusal) (f : List Spot → List Step) → then_ok r (λ spots. taken_or known (f spots)) ≡ Err why → r ≡ Err why
  spots_gone known (Err e) f is = let same : e ≡ why = cc in ap (λ (x : Refusal). Err x) same
  spots_gone true (Ok spots) f is =
      let same : refusal.ThereAlready ≡ why = cc in
      let both : ◌≡◌ {A = Bool} false true = ap is_gone same ∙ gone in
      absurd (let no : ⊥ = cc in no)
  spots_gone false (Ok spots) f is = absurd (let no : ⊥ = cc in no)

  module _ (marks : List (Mark Span)) (none : spots_named marks (old ∷ []) ≡ Err why) where
    old_lost : is_lost marks old ≡ true
    old_lost = go (is_lost marks old) refl
      where
        go : (b : Bool) → is_lost marks old ≡ b → is_lost marks old ≡ true
        go true is = is
        go false is =
            absurd (not_refused is_gone (spots_named marks (old ∷ [])) why (spots_found marks [] (old ∷ []) (ap (λ b. cond b (Some old) None) is)) gone none)

  pub renaming_gone : meant_name l (command.SourcesRename target old new) why ≡ find (is_missing (sources_at l target)) (old ∷ [])
      → planned (project l) (command.SourcesRename target old new) ≡ Err why → HasMeantName l (command.SourcesRename target old new) why
  renaming_gone name e =
      let call = reached is_gone (the_call (project l) role.Target target) (renamed old new) why (call_free is_gone gone_of_names (project l) role.Target target) gone e in
      let c = call.value in
      let keys = keyword sources_key c.it in
      let all = source_marks (project l) c in
      let by : List (Mark Span) → Result (List Step) Refusal = λ ms. renamed_at ms old new in
      let valid = reached is_gone (checked_names (old ∷ new ∷ [])) (λ _. then_ok (once sources_key keys all) by) why (names_valid is_gone gone_of_names refl (old ∷ new ∷ [])) gone call.rest in
      let got = reached is_gone (once sources_key keys all) by why (once_free is_gone gone_of_names sources_key keys all) gone valid.rest in
      let none = spots_gone (is_known got.value new) (spots_named got.value (old ∷ [])) (map (renaming new)) got.rest in
      let missing : is_missing (sources_at l target) old ≡ true = sources_same l target c call.is got.value got.is old ∙ old_lost got.value none in
      record {
        name = old;
        is_meant = name ∙ ap (λ b. cond b (Some old) None) missing;
        is_first = record {
          before = [];
          lone = command.SourcesRename target old old;
          behind = (new, command.SourcesRename target new new) ∷ [];
          are = refl;
          refused =
              ap (λ r. then_ok r (renamed old old)) call.is
              ∙ ap (λ r. then_ok r (λ _. then_ok (once sources_key keys all) (λ ms. renamed_at ms old old))) (both_valid old new valid.value valid.is)
              ∙ ap (λ r. then_ok r (λ ms. renamed_at ms old old)) got.is
              ∙ ap (λ r. then_ok r (λ spots. taken_or (is_known got.value old) (map (renaming old) spots))) none;
          others = All-nil (NotRefused l why);
        };
      }

-- ---- each command

module _ (l : Loaded) (why : Refusal) (gone : is_gone why ≡ true)
    (from_sources : (target : CallName) (names : List (List ℕ)) → meant_name l (command.SourcesRemove target names) why ≡ find (is_missing (sources_at l target)) names)
    (from_extras : (target : CallName) (names : List (List ℕ)) → meant_name l (command.ExtraRemove target names) why ≡ find (is_missing (extras_at l target)) names)
    (from_renames : (target : CallName) (old new : List ℕ) → meant_name l (command.SourcesRename target old new) why ≡ find (is_missing (sources_at l target)) (old ∷ []))
    (from_followed : (target : CallName) (names : List (List ℕ)) (shared : SharedLists)
    → meant_name l (command.FollowedSources target (Remove names) shared) why ≡ find (is_absent l (place_of l target)) names)
    (from_renamed : (target : CallName) (old new : List ℕ) (shared : SharedLists)
    → meant_name l (command.FollowedSources target (Rename old new) shared) why ≡ find (is_absent l (place_of l target)) (old ∷ [])) where
  abbrev Gone : Command → Type 0
  Gone c = planned (project l) c ≡ Err why → HasMeantName l c why

  never : (c : Command) → Free is_gone (planned (project l) c) → Gone c
  never c free e = absurd (not_refused is_gone (planned (project l) c) why free gone e)

  never_of : (c : Command) (r : Role) (id : CallName) (f : Placed (Call Span) → Result (List Step) Refusal) → planned (project l) c ≡ then_ok (the_call (project l) r id) f
      → ((x : Placed (Call Span)) → Free is_gone (f x)) → Gone c
  never_of c r id f is each = never c (subst (Free is_gone) (sym is) (after is_gone (the_call (project l) r id) f (call_free is_gone gone_of_names (project l) r id) each))

  never_changed : {X : Type 0} (c : Command) (r : Role) (id : CallName) (entry : X → Result (List Task) Refusal) (xs : List X)
      → planned (project l) c ≡ then_ok (the_call (project l) r id) (call_changed (project l) (each_made entry xs)) → ((x : X) → Free is_gone (entry x)) → Gone c
  never_changed c r id entry xs is free =
      never_of c r id (call_changed (project l) (each_made entry xs)) is
      (λ call. after is_gone (each_made entry xs) _ (each_free is_gone entry free xs)
      (λ ts. after is_gone (not_hidden (keyword kwargs_key call.it)) (λ _. tasks_steps call.place ts (trees_of (project l))) (shown_free is_gone gone_of_names (keyword kwargs_key call.it))
      (λ u. tasks_free is_gone gone_of_names call.place ts (trees_of (project l)))))

  pub gone_meant : (c : Command) → Gone c
  gone_meant (command.SourcesAdd target names) =
      never_of (command.SourcesAdd target names) role.Target target (λ c. sources_added (project l) c names) refl
      (λ c. after is_gone (checked_names names) _ (names_valid is_gone gone_of_names refl names) (λ u. once_free is_gone gone_of_names sources_key (keyword sources_key c.it) _))
  gone_meant (command.SourcesAddSorted target names) = λ e. absurd (let none : ◌≡◌ {A = Result (List Step) Refusal} (Ok []) (Err why) = e in let no : ⊥ = cc in no)
  gone_meant (command.SourcesRemove target names) =
      gone_of_target l target (sources_at l target) (command.SourcesRemove target) (λ c. once sources_key (keyword sources_key c.it) (source_marks (project l) c)) (λ ns. refl)
      (λ c. once_free is_gone gone_of_names sources_key (keyword sources_key c.it) (source_marks (project l) c)) (λ c found marks got. sources_same l target c found marks got)
      why gone names refl (from_sources target names)
  gone_meant (command.SourcesRename target old new) = renaming_gone l target old new why gone (from_renames target old new)
  gone_meant (command.FollowedSources target (Add names) shared) =
      never_of (command.FollowedSources target (Add names) shared) role.Target target (λ c. followed_added (project l) c shared names) refl
      (λ c. after is_gone (checked_names names) _ (names_valid is_gone gone_of_names refl names)
      (λ u. after is_gone (once sources_key (keyword sources_key c.it) (follow_marks (project l) c)) _
      (once_free is_gone gone_of_names sources_key (keyword sources_key c.it) (follow_marks (project l) c)) (λ marks. tt)))
  gone_meant (command.FollowedSources target (Remove names) shared) = followed_gone l target shared why gone names (from_followed target names shared)
  gone_meant (command.FollowedSources target (Rename old new) shared) =
      followed_renaming_gone l target shared why gone old new (from_renamed target old new shared)
  gone_meant (command.ExtraAdd target names) =
      never_of (command.ExtraAdd target names) role.Target target (λ c. extra_added (project l) c names) refl
      (λ c. after is_gone (checked_extra (project l) c names) _
      (after is_gone (checked_names names) _ (names_valid is_gone gone_of_names refl names)
      (λ u. after is_gone (not_hidden (keyword kwargs_key c.it)) (λ _. once extra_key (keyword extra_key c.it) (extra_marks (project l) c)) (shown_free is_gone gone_of_names (keyword kwargs_key c.it))
      (λ v. once_free is_gone gone_of_names extra_key (keyword extra_key c.it) (extra_marks (project l) c))))
      (λ marks. inserted_free is_gone gone_of_names (project l) c _ _))
  gone_meant (command.ExtraRemove target names) =
      gone_of_target l target (extras_at l target) (command.ExtraRemove target)
      (λ c. then_ok (not_hidden (keyword kwargs_key c.it)) (λ _. once extra_key (keyword extra_key c.it) (extra_marks (project l) c)))
      (λ ns. same_then (the_call (project l) role.Target target) (λ c. extra_removed (project l) c ns) _ (λ c. chained (checked_names ns) _ _))
      (λ c. after is_gone (not_hidden (keyword kwargs_key c.it)) (λ _. once extra_key (keyword extra_key c.it) (extra_marks (project l) c)) (shown_free is_gone gone_of_names (keyword kwargs_key c.it))
      (λ v. once_free is_gone gone_of_names extra_key (keyword extra_key c.it) (extra_marks (project l) c)))
      (λ c found marks got. extras_same l target c found marks got) why gone names refl (from_extras target names)
  gone_meant (command.TargetAdd target kind subdir sources) =
      never (command.TargetAdd target kind subdir sources)
      (after is_gone (checked_kind kind) _ (checked_kind_free is_gone gone_of_names kind)
      (λ u. after is_gone (checked_names (target ∷ sources)) _ (names_valid is_gone gone_of_names refl (target ∷ sources))
      (λ v. placed_free is_gone gone_of_names (project l) target kind subdir (target ∷ distinct sources))))
  gone_meant (command.TargetRemove target) =
      never_of (command.TargetRemove target) role.Target target (λ c. target_removed (project l) c) refl (removed_free is_gone gone_of_names (project l))
  gone_meant (command.TargetInfo target reading) = never_of (command.TargetInfo target reading) role.Target target (λ c. target_told c.it) refl (λ c. target_free is_gone gone_of_names c.it)
  gone_meant (command.KwargsSet r id pairs) =
      never_changed (command.KwargsSet r id pairs) r id (set_entry r) pairs refl (λ p. set_free is_gone gone_of_names r p (λ takes. values_free is_gone gone_of_names refl p.0 p.1))
  gone_meant (command.KwargsAdd r id pairs) =
      never_changed (command.KwargsAdd r id pairs) r id (add_entry r) pairs refl
      (λ p. add_free is_gone gone_of_names r p (λ takes. values_free is_gone gone_of_names refl p.0 p.1))
  gone_meant (command.KwargsRemove r id pairs) =
      never_changed (command.KwargsRemove r id pairs) r id (remove_entry r) pairs refl
      (λ p. remove_free is_gone gone_of_names r p (λ takes. values_free is_gone gone_of_names refl p.0 p.1))
  gone_meant (command.KwargsDelete r id keys) = never_changed (command.KwargsDelete r id keys) r id (delete_entry r) keys refl (delete_free is_gone gone_of_names r)
  gone_meant (command.KwargsInfo r id) = never_of (command.KwargsInfo r id) r id (λ c. call_asked r c.it) refl (λ c. kwargs_free is_gone gone_of_names r c.it)
  gone_meant (command.OptionsSet pairs) =
      never_changed (command.OptionsSet pairs) role.Project (anywhere (codes "/")) set_option_entry pairs refl (λ p. after is_gone (checked_option p.0) _ (option_free is_gone p.0 refl) (λ u. tt))
  gone_meant (command.OptionsDelete names) =
      never_changed (command.OptionsDelete names) role.Project (anywhere (codes "/")) delete_option_entry names refl (λ n. after is_gone (checked_option n) _ (option_free is_gone n refl) (λ u. tt))
  gone_meant (command.Argument name change) = λ e. absurd (let none : ◌≡◌ {A = Result (List Step) Refusal} (Ok []) (Err why) = e in let no : ⊥ = cc in no)
  gone_meant (command.CodeInsert place code blank) = λ e. absurd (let none : ◌≡◌ {A = Result (List Step) Refusal} (Ok []) (Err why) = e in let no : ⊥ = cc in no)
  gone_meant (command.CodeRemove statement unused) = λ e. absurd (let none : ◌≡◌ {A = Result (List Step) Refusal} (Ok []) (Err why) = e in let no : ⊥ = cc in no)
  gone_meant (command.ArgumentInfo name) = λ e. absurd (let none : ◌≡◌ {A = Result (List Step) Refusal} (Ok []) (Err why) = e in let no : ⊥ = cc in no)
