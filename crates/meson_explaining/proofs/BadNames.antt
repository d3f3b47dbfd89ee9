-- A command that is refused for a name that is not valid is refused for the first of its names that is not.
use Rattle.std.proofs.Common.{◌≡◌, ℕ, zero, suc, true, false, List, [], ◌∷◌, map, Option, Some, None, refl, sym, ap, ◌∙◌}
use Rattle.std.specs.Prelude.{Bool, Result, Ok, Err, codes, count_by, find, if◌then◌else◌, option_map}
use Rattle.std.specs.List.{list_any}
use Rattle.std.proofs.lemmas.List.Elements.{All-cons, All-nil}
use Rattle.meson_lex.specs.declared.kinds.Span.{Span}
use Rattle.meson_splice.specs.Patch.{then_ok}
use Rattle.meson_calls.specs.Calls.{Call, keyword}
use Rattle.meson_calls.specs.Finding.{the_call}
use Rattle.meson_calls.specs.Loading.{Loaded, project}
use Rattle.meson_calls.specs.NamedArguments.{kwargs_key, not_hidden, once, sources_key}
use Rattle.meson_calls.specs.Project.{Placed, Project}
use Rattle.meson_calls.specs.declared.call.Role.{Role}
use Rattle.meson_calls.specs.declared.call.Role.TheVariants as role
use Rattle.meson_calls.specs.declared.refusal.Refusal.{Refusal}
use Rattle.meson_calls.specs.declared.refusal.Refusal.TheVariants as refusal
use Rattle.meson_followed.specs.FollowedEdits.{followed_added, followed_removed, if_may_go, removals_named}
use Rattle.meson_followed.specs.Renaming.{followed_renamed, if_fresh, renamed_steps}
use Rattle.meson_followed.specs.Sources.{distinct_paths, has_path, named_path, sources_of}
use Rattle.meson_following.specs.Following.{follow_marks}
use Rattle.meson_keywords.specs.Tasks.{Task, add_entry, checked_option, delete_entry, delete_option, delete_option_entry, each_made, remove_entry, set_entry, set_option, set_option_entry}
use Rattle.meson_keywords.specs.TaskSteps.{call_changed, tasks_steps, trees_of}
use Rattle.meson_plan.specs.Planning.{call_asked, planned, target_told}
use Rattle.meson_sources.specs.SourceEdits.{checked_extra, extra_added, extra_key, extra_marks, extra_removed, none_found, removed_at, is_known, sources_added, sources_removed, sources_renamed, spots_by, spots_named, spots_of, items_of}
use Rattle.meson_steps.specs.Names.{checked_names, distinct}
use Rattle.meson_steps.specs.Steps.{Step}
use Rattle.meson_steps.specs.declared.command.Command.{Command}
use Rattle.meson_steps.specs.declared.command.Command.TheVariants as command
use Rattle.meson_sharing.specs.Told.{is_opaque}
use Rattle.meson_steps.specs.declared.source_change.SharedLists.{SharedLists}
use Rattle.meson_steps.specs.declared.source_change.SourceChange.TheVariants.{Add, Remove, Rename}
use Rattle.meson_targets.specs.TargetEdits.{append_steps, checked_kind, not_taken, number_in, target_removed, targets_named}
use Rattle.meson_variables.specs.Expansion.{Item, Mark}
use Rattle.meson_variables.specs.TargetSources.{opaque_count, source_marks}
use Rattle.meson_explaining.specs.NameLaws.{HasMeantName, NotRefused, alone}
use Rattle.meson_explaining.specs.Names.{is_bad_option, is_bad_pair, is_empty_name, meant_name}
use Rattle.meson_explaining.proofs.EntryReasons.{add_bad, add_free, delete_free, each_free, each_good, good_values, one_bad, option_bad, option_good, remove_bad, remove_free, set_bad, set_free}
use Rattle.meson_explaining.proofs.FollowedReasons.{all_free, followed_free, may_go_free}
use Rattle.meson_explaining.proofs.Firsts.{all_of, first_refused, meant_of_call, none_of_one}
use Rattle.meson_explaining.proofs.NameReasons.{Free, after, bad_of_names, call_free, checked_kind_free, is_bad, kwargs_free, not_refused, once_free, or_free, placed_free, reached, removed_free, shown_free, target_free}
use Rattle.meson_explaining.proofs.SourceReasons.{inserted_free}
use Rattle.meson_explaining.proofs.TaskReasons.{tasks_free}
use Rattle.meson_calls.specs.declared.call.CallName.{CallName}
use Rattle.meson_calls.specs.Searching.{anywhere}

pub same_names : {X : Type 0} (o : Option X) → o ≡ option_map (λ x. x) o
same_names None = refl
same_names (Some x) = refl

-- ---- sources and extra files

names_free : (names : List (List ℕ)) → find is_empty_name names ≡ None → Free is_bad (checked_names names)
names_free [] none = tt
names_free ([] ∷ more) none = absurd (let no : ⊥ = cc in no)
names_free ((b ∷ bs) ∷ more) none = names_free more none

empty_bad : (name : List ℕ) (more : List (List ℕ)) → is_empty_name name ≡ true → checked_names (name ∷ more) ≡ Err refusal.BadName
empty_bad [] more is = refl
empty_bad (b ∷ bs) more is = absurd (let no : ⊥ = cc in no)

none_free : (unknown : ℕ) → Free {X = Unit {0}} is_bad (Err (none_found unknown))
none_free zero = refl
none_free (suc n) = refl

by_free : {S : Type 0} (unknown : ℕ) (xs : List (Item S)) → Free is_bad (spots_by unknown xs)
by_free unknown [] = none_free unknown
by_free unknown (i ∷ more) = or_free is_bad (spots_of (i ∷ more)) refusal.NotRemovable refl

spots_free : {S : Type 0} (marks : List (Mark S)) (names : List (List ℕ)) → Free is_bad (spots_named marks names)
spots_free marks [] = tt
spots_free marks (name ∷ more) =
    after is_bad (spots_by (opaque_count marks) (items_of name marks)) _ (by_free (opaque_count marks) (items_of name marks))
    (λ here. after is_bad (spots_named marks more) _ (spots_free marks more) (λ later. tt))

removals_free : {S : Type 0} (marks : List (Mark S)) (names : List (List ℕ)) → Free is_bad (removed_at (spots_named marks names))
removals_free marks names = after is_bad (spots_named marks names) _ (spots_free marks names) (λ spots. tt)

extra_free : {S : Type 0} (p : Project S) (c : Placed (Call S)) (names : List (List ℕ)) → find is_empty_name names ≡ None → Free is_bad (checked_extra p c names)
extra_free p c names none =
    after is_bad (checked_names names) _ (names_free names none)
    (λ u. after is_bad (not_hidden (keyword kwargs_key c.it)) (λ _. once extra_key (keyword extra_key c.it) (extra_marks p c)) (shown_free is_bad bad_of_names (keyword kwargs_key c.it))
    (λ v. once_free is_bad bad_of_names extra_key (keyword extra_key c.it) (extra_marks p c)))

module _ (l : Loaded) where
  -- commands on names of sources or extra files, which are checked first
  module _ (target : CallName) (named : List (List ℕ) → Command) (body : List (List ℕ) → Placed (Call Span) → Result (List Step) Refusal)
      (is : (names : List (List ℕ)) → planned (project l) (named names) ≡ then_ok (the_call (project l) role.Target target) (body names))
      (free : (names : List (List ℕ)) → find is_empty_name names ≡ None → (c : Placed (Call Span)) → Free is_bad (body names c))
      (lone : (c : Placed (Call Span)) → body ([] ∷ []) c ≡ Err refusal.BadName) where
    empty_lone : (c : Placed (Call Span)) (name : List ℕ) → is_empty_name name ≡ true → body (name ∷ []) c ≡ Err refusal.BadName
    empty_lone c [] empty = lone c
    empty_lone c (b ∷ bs) empty = absurd (let no : ⊥ = cc in no)

    names_meant : (names : List (List ℕ)) → alone (named names) ≡ map (λ s. (s, named (s ∷ []))) names → meant_name l (named names) refusal.BadName ≡ find is_empty_name names
        → planned (project l) (named names) ≡ Err refusal.BadName → HasMeantName l (named names) refusal.BadName
    names_meant names are name e =
        meant_of_call l is_bad bad_of_names refusal.BadName refl role.Target target is_empty_name (λ s. s) named body is (λ ss none c found. free ss none c) names are
        (name ∙ same_names (find is_empty_name names)) (λ c found rest. all_of _ (empty_lone c) names) e

  -- commands on keyword arguments, by their entries
  module _ {X : Type 0} (r : Role) (id : CallName) (test : X → Bool) (key : X → List ℕ) (named : List X → Command) (entry : X → Result (List Task) Refusal)
      (is : (xs : List X) → planned (project l) (named xs) ≡ then_ok (the_call (project l) r id) (call_changed (project l) (each_made entry xs)))
      (good : (x : X) → test x ≡ false → Free is_bad (entry x)) (bad : (x : X) → test x ≡ true → entry x ≡ Err refusal.BadName) where
    entries_meant : (xs : List X) → alone (named xs) ≡ map (λ x. (key x, named (x ∷ []))) xs → meant_name l (named xs) refusal.BadName ≡ option_map key (find test xs)
        → planned (project l) (named xs) ≡ Err refusal.BadName → HasMeantName l (named xs) refusal.BadName
    entries_meant xs are name e =
        meant_of_call l is_bad bad_of_names refusal.BadName refl r id test key named (λ ys c. call_changed (project l) (each_made entry ys) c) is
        (λ ys none c found.
        after is_bad (each_made entry ys) _ (each_good is_bad entry test good ys none)
        (λ ts. after is_bad (not_hidden (keyword kwargs_key c.it)) (λ _. tasks_steps c.place ts (trees_of (project l))) (shown_free is_bad bad_of_names (keyword kwargs_key c.it))
        (λ u. tasks_free is_bad bad_of_names c.place ts (trees_of (project l)))))
        xs are name (λ c found rest. all_of _ (λ x t. ap (λ tasks. call_changed (project l) tasks c) (one_bad entry x (bad x t))) xs) e

  -- a target that is added: its own name is the first
  module _ (kind subdir : List ℕ) where
    abbrev adds : List ℕ → List (List ℕ) → Command
    adds target sources = command.TargetAdd target kind subdir sources

    abbrev then_placed : List ℕ → List (List ℕ) → Result (List Step) Refusal
    then_placed target sources =
        then_ok (not_taken (targets_named (project l) target)) (λ _. then_ok (number_in (project l) subdir) (λ file. Ok (append_steps kind (target ∷ distinct sources) file)))

    abbrev then_named : List ℕ → List (List ℕ) → Result (List Step) Refusal
    then_named target sources = then_ok (checked_names (target ∷ sources)) (λ _. then_placed target sources)

    adds_free : (target : List ℕ) (sources : List (List ℕ)) → find is_empty_name (target ∷ sources) ≡ None → Free is_bad (planned (project l) (adds target sources))
    adds_free target sources none =
        after is_bad (checked_kind kind) (λ _. then_named target sources) (checked_kind_free is_bad bad_of_names kind)
        (λ u. after is_bad (checked_names (target ∷ sources)) (λ _. then_placed target sources) (names_free (target ∷ sources) none)
        (λ v. placed_free is_bad bad_of_names (project l) target kind subdir (target ∷ distinct sources)))

    adds_bad : (u : Unit {0}) → checked_kind kind ≡ Ok u → (target : List ℕ) (sources : List (List ℕ)) → checked_names (target ∷ sources) ≡ Err refusal.BadName
        → planned (project l) (adds target sources) ≡ Err refusal.BadName
    adds_bad u kind_is target sources is = ap (λ k. then_ok k (λ _. then_named target sources)) kind_is ∙ ap (λ names. then_ok names (λ _. then_placed target sources)) is

    pub added_meant : (target : List ℕ) (sources : List (List ℕ)) → planned (project l) (adds target sources) ≡ Err refusal.BadName → HasMeantName l (adds target sources) refusal.BadName
    added_meant [] sources e =
        let kinds = reached is_bad (checked_kind kind) (λ _. then_named [] sources) refusal.BadName (checked_kind_free is_bad bad_of_names kind) refl e in
        record {
          name = [];
          is_meant = refl;
          is_first = record {
            before = [];
            lone = adds [] [];
            behind = map (λ s. (s, adds [] (s ∷ []))) sources;
            are = refl;
            refused = adds_bad kinds.value kinds.is [] [] refl;
            others = All-nil (NotRefused l refusal.BadName);
          };
        }
    added_meant (b ∷ bs) sources e = go (find is_empty_name sources) refl
      where
        go : (o : Option (List ℕ)) → find is_empty_name sources ≡ o → HasMeantName l (adds (b ∷ bs) sources) refusal.BadName
        go None is = absurd (not_refused is_bad (planned (project l) (adds (b ∷ bs) sources)) refusal.BadName (adds_free (b ∷ bs) sources is) refl e)
        go (Some x) is =
            let kinds = reached is_bad (checked_kind kind) (λ _. then_named (b ∷ bs) sources) refusal.BadName (checked_kind_free is_bad bad_of_names kind) refl e in
            let more = first_refused l refusal.BadName is_empty_name (λ s. s) (λ s. adds (b ∷ bs) (s ∷ []))
            (λ s t. not_refused is_bad (planned (project l) (adds (b ∷ bs) (s ∷ []))) refusal.BadName (adds_free (b ∷ bs) (s ∷ []) (none_of_one is_empty_name s t)) refl)
            sources x (all_of _ (λ s t. adds_bad kinds.value kinds.is (b ∷ bs) (s ∷ []) (empty_bad s [] t)) sources) is in
            record {
              name = x;
              is_meant = is;
              is_first = record {
                before = (b ∷ bs, adds (b ∷ bs) []) ∷ more.before;
                lone = more.lone;
                behind = more.behind;
                are = ap (λ zs. (b ∷ bs, adds (b ∷ bs) []) ∷ zs) more.are;
                refused = more.refused;
                others = All-cons (NotRefused l refusal.BadName) (b ∷ bs, adds (b ∷ bs) []) more.before (not_refused is_bad (planned (project l) (adds (b ∷ bs) [])) refusal.BadName (adds_free (b ∷ bs) [] refl) refl) more.others;
              };
            }

  -- ---- a renaming, as a command on a list of names: the old one and the new one, or one that is both

  taken_free : (known : Bool) (steps : List Step) → Free is_bad (if known then Err refusal.ThereAlready else Ok steps)
  taken_free true steps = refl
  taken_free false steps = tt

  both_named : (x : List ℕ) → find is_empty_name (x ∷ []) ≡ None → find is_empty_name (x ∷ x ∷ []) ≡ None
  both_named [] none = absurd (let no : ⊥ = cc in no)
  both_named (b ∷ bs) none = refl

  first_two : (x y : List ℕ) (more : List (List ℕ)) → find is_empty_name (x ∷ y ∷ more) ≡ None → find is_empty_name (x ∷ y ∷ []) ≡ None
  first_two [] y more none = absurd (let no : ⊥ = cc in no)
  first_two (b ∷ bs) [] more none = absurd (let no : ⊥ = cc in no)
  first_two (b ∷ bs) (d ∷ ds) more none = refl

  module _ (target : CallName) where
    abbrev renames : List (List ℕ) → Command
    renames [] = command.SourcesRemove target []
    renames (x ∷ []) = command.SourcesRename target x x
    renames (x ∷ y ∷ more) = command.SourcesRename target x y

    abbrev renames_steps : List (List ℕ) → Placed (Call Span) → Result (List Step) Refusal
    renames_steps [] c = sources_removed (project l) c []
    renames_steps (x ∷ []) c = sources_renamed (project l) c x x
    renames_steps (x ∷ y ∷ more) c = sources_renamed (project l) c x y

    renames_are : (names : List (List ℕ)) → planned (project l) (renames names) ≡ then_ok (the_call (project l) role.Target target) (renames_steps names)
    renames_are [] = refl
    renames_are (x ∷ []) = refl
    renames_are (x ∷ y ∷ more) = refl

    renamed_free : (x y : List ℕ) → find is_empty_name (x ∷ y ∷ []) ≡ None → (c : Placed (Call Span)) → Free is_bad (sources_renamed (project l) c x y)
    renamed_free x y none c =
        after is_bad (checked_names (x ∷ y ∷ [])) _ (names_free (x ∷ y ∷ []) none)
        (λ u. after is_bad (once sources_key (keyword sources_key c.it) (source_marks (project l) c)) _ (once_free is_bad bad_of_names sources_key (keyword sources_key c.it) (source_marks (project l) c))
        (λ marks. after is_bad (spots_named marks (x ∷ [])) _ (spots_free marks (x ∷ [])) (λ spots. taken_free (is_known marks y) _)))

    renames_free : (names : List (List ℕ)) → find is_empty_name names ≡ None → (c : Placed (Call Span)) → Free is_bad (renames_steps names c)
    renames_free [] none c =
        after is_bad (once sources_key (keyword sources_key c.it) (source_marks (project l) c)) _ (once_free is_bad bad_of_names sources_key (keyword sources_key c.it) (source_marks (project l) c)) (λ marks. removals_free marks [])
    renames_free (x ∷ []) none c = renamed_free x x (both_named x none) c
    renames_free (x ∷ y ∷ more) none c = renamed_free x y (first_two x y more none) c

    renaming_meant : (old new : List ℕ) → planned (project l) (command.SourcesRename target old new) ≡ Err refusal.BadName → HasMeantName l (command.SourcesRename target old new) refusal.BadName
    renaming_meant old new e = names_meant target renames renames_steps renames_are renames_free (λ c. refl) (old ∷ new ∷ []) refl refl e

  -- so it is where variables are followed
  module _ (target : CallName) (shared : SharedLists) where
    abbrev follows : List (List ℕ) → Command
    follows [] = command.FollowedSources target (Remove []) shared
    follows (x ∷ []) = command.FollowedSources target (Rename x x) shared
    follows (x ∷ y ∷ more) = command.FollowedSources target (Rename x y) shared

    abbrev follows_steps : List (List ℕ) → Placed (Call Span) → Result (List Step) Refusal
    follows_steps [] c = followed_removed (project l) c shared []
    follows_steps (x ∷ []) c = followed_renamed (project l) c shared x x
    follows_steps (x ∷ y ∷ more) c = followed_renamed (project l) c shared x y

    follows_are : (names : List (List ℕ)) → planned (project l) (follows names) ≡ then_ok (the_call (project l) role.Target target) (follows_steps names)
    follows_are [] = refl
    follows_are (x ∷ []) = refl
    follows_are (x ∷ y ∷ more) = refl

    named_anew_free : (x y : List ℕ) → find is_empty_name (x ∷ y ∷ []) ≡ None → (c : Placed (Call Span)) → Free is_bad (followed_renamed (project l) c shared x y)
    named_anew_free x y none c =
        after is_bad (checked_names (x ∷ y ∷ [])) _ (names_free (x ∷ y ∷ []) none)
        (λ u. after is_bad (once sources_key (keyword sources_key c.it) (follow_marks (project l) c)) _
        (once_free is_bad bad_of_names sources_key (keyword sources_key c.it) (follow_marks (project l) c))
        (λ marks. after is_bad (removals_named (project l) c.place.file marks (x ∷ [])) _
        (all_free is_bad bad_of_names (count_by is_opaque marks) (none_free (count_by is_opaque marks)) (sources_of (project l) c.place.file marks)
        (map (named_path (project l) c.place.file) (distinct_paths (project l) c.place.file (x ∷ []))))
        (λ rs. after is_bad (if_may_go (project l) c shared rs) (if_fresh (project l) c.place.file (sources_of (project l) c.place.file marks) y)
        (may_go_free is_bad bad_of_names (project l) c shared rs)
        (λ found. taken_free (list_any (has_path (named_path (project l) c.place.file y)) (sources_of (project l) c.place.file marks))
        (renamed_steps (project l) c.place.file y found)))))

    follows_free : (names : List (List ℕ)) → find is_empty_name names ≡ None → (c : Placed (Call Span)) → Free is_bad (follows_steps names c)
    follows_free [] none c =
        after is_bad (once sources_key (keyword sources_key c.it) (follow_marks (project l) c)) _
        (once_free is_bad bad_of_names sources_key (keyword sources_key c.it) (follow_marks (project l) c))
        (λ marks. followed_free is_bad bad_of_names (project l) c shared marks []
        (all_free is_bad bad_of_names (count_by is_opaque marks) (none_free (count_by is_opaque marks)) (sources_of (project l) c.place.file marks) []))
    follows_free (x ∷ []) none c = named_anew_free x x (both_named x none) c
    follows_free (x ∷ y ∷ more) none c = named_anew_free x y (first_two x y more none) c

    named_anew_meant : (old new : List ℕ) → planned (project l) (command.FollowedSources target (Rename old new) shared) ≡ Err refusal.BadName
        → HasMeantName l (command.FollowedSources target (Rename old new) shared) refusal.BadName
    named_anew_meant old new e = names_meant target follows follows_steps follows_are follows_free (λ c. refl) (old ∷ new ∷ []) refl refl e

  -- ---- each command

  abbrev Bad : Command → Type 0
  Bad c = planned (project l) c ≡ Err refusal.BadName → HasMeantName l c refusal.BadName

  never : {A : Type 0} (c : Command) (r : Result A Refusal) (f : A → Result (List Step) Refusal) → planned (project l) c ≡ then_ok r f → Free is_bad r → ((x : A) → Free is_bad (f x)) → Bad c
  never c r f is free each e = absurd (not_refused is_bad (then_ok r f) refusal.BadName (after is_bad r f free each) refl (sym is ∙ e))

  pub bad_meant : (c : Command) → Bad c
  bad_meant (command.SourcesAdd target sources) =
      names_meant target (command.SourcesAdd target) (λ names c. sources_added (project l) c names) (λ names. refl)
      (λ names none c. after is_bad (checked_names names) _ (names_free names none) (λ u. once_free is_bad bad_of_names sources_key (keyword sources_key c.it) _)) (λ c. refl) sources refl refl
  bad_meant (command.SourcesAddSorted target sources) = λ e. absurd (let none : ◌≡◌ {A = Result (List Step) Refusal} (Ok []) (Err refusal.BadName) = e in let no : ⊥ = cc in no)
  bad_meant (command.SourcesRemove target sources) =
      names_meant target (command.SourcesRemove target) (λ names c. sources_removed (project l) c names) (λ names. refl)
      (λ names none c. after is_bad (checked_names names) _ (names_free names none)
      (λ u. after is_bad (once sources_key (keyword sources_key c.it) (source_marks (project l) c)) _ (once_free is_bad bad_of_names sources_key (keyword sources_key c.it) (source_marks (project l) c))
      (λ marks. removals_free marks (distinct names)))) (λ c. refl) sources refl refl
  bad_meant (command.SourcesRename target old new) = renaming_meant target old new
  bad_meant (command.FollowedSources target (Add sources) shared) =
      names_meant target (λ names. command.FollowedSources target (Add names) shared) (λ names c. followed_added (project l) c shared names) (λ names. refl)
      (λ names none c. after is_bad (checked_names names) _ (names_free names none)
      (λ u. after is_bad (once sources_key (keyword sources_key c.it) (follow_marks (project l) c)) _
      (once_free is_bad bad_of_names sources_key (keyword sources_key c.it) (follow_marks (project l) c)) (λ marks. tt))) (λ c. refl) sources refl refl
  bad_meant (command.FollowedSources target (Remove sources) shared) =
      names_meant target (λ names. command.FollowedSources target (Remove names) shared) (λ names c. followed_removed (project l) c shared names) (λ names. refl)
      (λ names none c. after is_bad (checked_names names) _ (names_free names none)
      (λ u. after is_bad (once sources_key (keyword sources_key c.it) (follow_marks (project l) c)) _
      (once_free is_bad bad_of_names sources_key (keyword sources_key c.it) (follow_marks (project l) c))
      (λ marks. followed_free is_bad bad_of_names (project l) c shared marks names
      (all_free is_bad bad_of_names (count_by is_opaque marks) (none_free (count_by is_opaque marks)) (sources_of (project l) c.place.file marks) _)))) (λ c. refl) sources refl refl
  bad_meant (command.FollowedSources target (Rename old new) shared) = named_anew_meant target shared old new
  bad_meant (command.ExtraAdd target sources) =
      names_meant target (command.ExtraAdd target) (λ names c. extra_added (project l) c names) (λ names. refl)
      (λ names none c. after is_bad (checked_extra (project l) c names) _ (extra_free (project l) c names none) (λ marks. inserted_free is_bad bad_of_names (project l) c _ _)) (λ c. refl) sources refl refl
  bad_meant (command.ExtraRemove target sources) =
      names_meant target (command.ExtraRemove target) (λ names c. extra_removed (project l) c names) (λ names. refl)
      (λ names none c. after is_bad (checked_extra (project l) c names) _ (extra_free (project l) c names none) (λ marks. removals_free marks (distinct names))) (λ c. refl) sources refl refl
  bad_meant (command.TargetAdd target kind subdir sources) = added_meant kind subdir target sources
  bad_meant (command.TargetRemove target) =
      never (command.TargetRemove target) (the_call (project l) role.Target target) (λ c. target_removed (project l) c) refl (call_free is_bad bad_of_names (project l) role.Target target)
      (removed_free is_bad bad_of_names (project l))
  bad_meant (command.TargetInfo target reading) =
      never (command.TargetInfo target reading) (the_call (project l) role.Target target) (λ c. target_told c.it) refl (call_free is_bad bad_of_names (project l) role.Target target)
      (λ c. target_free is_bad bad_of_names c.it)
  bad_meant (command.KwargsSet r id pairs) =
      entries_meant r id (is_bad_pair r) (λ p. p.0) (command.KwargsSet r id) (set_entry r) (λ ps. refl) (λ p t. set_free is_bad bad_of_names r p (good_values r p t)) (set_bad r) pairs refl refl
  bad_meant (command.KwargsAdd r id pairs) =
      entries_meant r id (is_bad_pair r) (λ p. p.0) (command.KwargsAdd r id) (add_entry r) (λ ps. refl) (λ p t. add_free is_bad bad_of_names r p (good_values r p t)) (add_bad r) pairs refl refl
  bad_meant (command.KwargsRemove r id pairs) =
      entries_meant r id (is_bad_pair r) (λ p. p.0) (command.KwargsRemove r id) (remove_entry r) (λ ps. refl) (λ p t. remove_free is_bad bad_of_names r p (good_values r p t)) (remove_bad r) pairs refl refl
  bad_meant (command.KwargsDelete r id keys) =
      never (command.KwargsDelete r id keys) (the_call (project l) r id) (call_changed (project l) (each_made (delete_entry r) keys)) refl (call_free is_bad bad_of_names (project l) r id)
      (λ c. after is_bad (each_made (delete_entry r) keys) _ (each_free is_bad (delete_entry r) (delete_free is_bad bad_of_names r) keys)
      (λ ts. after is_bad (not_hidden (keyword kwargs_key c.it)) (λ _. tasks_steps c.place ts (trees_of (project l))) (shown_free is_bad bad_of_names (keyword kwargs_key c.it))
      (λ u. tasks_free is_bad bad_of_names c.place ts (trees_of (project l)))))
  bad_meant (command.KwargsInfo r id) =
      never (command.KwargsInfo r id) (the_call (project l) r id) (λ c. call_asked r c.it) refl (call_free is_bad bad_of_names (project l) r id) (λ c. kwargs_free is_bad bad_of_names r c.it)
  bad_meant (command.OptionsSet pairs) =
      entries_meant role.Project (anywhere (codes "/")) (λ p. is_bad_option p.0) (λ p. p.0) command.OptionsSet set_option_entry (λ ps. refl)
      (λ p t. after is_bad (checked_option p.0) _ (option_good p.0 t) (λ u. tt)) (λ p t. ap (λ r. then_ok r (λ _. Ok (set_option p.0 p.1 ∷ []))) (option_bad p.0 t)) pairs refl refl
  bad_meant (command.OptionsDelete names) =
      entries_meant role.Project (anywhere (codes "/")) is_bad_option (λ n. n) command.OptionsDelete delete_option_entry (λ ns. refl)
      (λ n t. after is_bad (checked_option n) _ (option_good n t) (λ u. tt)) (λ n t. ap (λ r. then_ok r (λ _. Ok (delete_option n ∷ []))) (option_bad n t)) names refl
      (same_names (find is_bad_option names))
  bad_meant (command.Argument name change) = λ e. absurd (let none : ◌≡◌ {A = Result (List Step) Refusal} (Ok []) (Err refusal.BadName) = e in let no : ⊥ = cc in no)
  bad_meant (command.CodeInsert place code blank) = λ e. absurd (let none : ◌≡◌ {A = Result (List Step) Refusal} (Ok []) (Err refusal.BadName) = e in let no : ⊥ = cc in no)
  bad_meant (command.CodeRemove statement unused) = λ e. absurd (let none : ◌≡◌ {A = Result (List Step) Refusal} (Ok []) (Err refusal.BadName) = e in let no : ⊥ = cc in no)
  bad_meant (command.ArgumentInfo name) = λ e. absurd (let none : ◌≡◌ {A = Result (List Step) Refusal} (Ok []) (Err refusal.BadName) = e in let no : ⊥ = cc in no)
