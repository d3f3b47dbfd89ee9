-- What is meant where variables are followed may be done: the list that gets sources is there, and so are the elements that go or get another name.
use Rattle.std.proofs.Common.{◌≡◌, inr, ℕ, zero, suc, ◌+◌, List, [], ◌∷◌, ◌++◌, length, map, refl, sym, ap, subst, ◌∙◌}
use Rattle.std.specs.Prelude.{◌==◌, Bool, true, false, if◌then◌else◌, Option, Some, None, option_map, Result, Ok, Err, IfOk}
use Rattle.std.specs.List.{All, Contains, cons_option, filter_map}
use Rattle.std.specs.Option.{option_map_or}
use Rattle.std.specs.Str.{IsUtf8}
use Rattle.std.proofs.lemmas.Bool.{eq-eqb, false≢true}
use Rattle.std.proofs.lemmas.List.{length-append}
use Rattle.std.proofs.lemmas.List.Elements.{All-append, All-cons, All-contains, All-head, All-map, All-nil, All-tail, All-weaker}
use Rattle.meson_lex.specs.declared.kinds.Span.{Span}
use Rattle.meson_splice.specs.declared.file_set.File.{File}
use Rattle.meson_syntax.specs.Tree as tree
use Rattle.meson_syntax.specs.Tree.{Plain}
use Rattle.meson_calls.specs.declared.call.CallName.{CallName}
use Rattle.meson_calls.specs.declared.call.CallRef.{CallRef}
use Rattle.meson_calls.specs.declared.call.Role.TheVariants as role
use Rattle.meson_calls.specs.declared.refusal.Refusal.{Refusal}
use Rattle.meson_calls.specs.Calls.{Call}
use Rattle.meson_calls.specs.Finding.{the_call}
use Rattle.meson_calls.specs.Folders.{IsFileName}
use Rattle.meson_calls.specs.Loading.{HasFileName, IsProject, Loaded, named_trees, project, trees}
use Rattle.meson_calls.specs.Project.{BuildFile, Placed, Project, child, nth_file}
use Rattle.meson_variables.specs.TargetSources.{or_call, or_option}
use Rattle.meson_following.specs.Following.{Item, Mark, Way, known, opaque, empty, follow_marks}
use Rattle.meson_sharing.specs.Sharing.{is_own, is_unshared}
use Rattle.meson_sharing.specs.Told.{last_of}
use Rattle.meson_steps.specs.declared.source_change.SharedLists.{SharedLists}
use Rattle.meson_steps.specs.declared.source_change.SharedLists.TheVariants.{Kept, Changed}
use Rattle.meson_steps.specs.declared.source_change.SourceChange.{SourceChange}
use Rattle.meson_steps.specs.declared.source_change.SourceChange.TheVariants.{Add, Remove, Rename}
use Rattle.meson_steps.specs.declared.step.ListStep.{ListStep}
use Rattle.meson_steps.specs.ListSteps.{AreDoable}
use Rattle.meson_steps.specs.Meanings.{AreMeant}
use Rattle.meson_steps.specs.Plans.{ArePlanned}
use Rattle.meson_steps.specs.ResultLimits.{plain_trees}
use Rattle.meson_steps.specs.Steps.{Step, all_stepped}
use Rattle.meson_steps.proofs.PlainTrees.{trees_stand}
use Rattle.meson_sources.specs.Effects.{trees_without}
use Rattle.meson_sources.specs.SourceEdits.{Spot}
use Rattle.meson_sources.proofs.added.Counts.{some_plain}
use Rattle.meson_sources.proofs.added.Homes.{Home, home_doable, target_home}
use Rattle.meson_sources.proofs.SourcesAdded.{gets}
use Rattle.meson_sources.proofs.gone.Trees.{all_in, removals_doable, trees_left}
use Rattle.meson_sources.proofs.met.Standing.{SpotStands, targets_stand}
use Rattle.meson_followed.specs.Changes.{sources_changed, target_changed}
use Rattle.meson_followed.specs.CodeRenamings.{names_written, or_none, written_for, written_names}
use Rattle.meson_followed.specs.Effects.{ChangesLeave, MeansNew, NameChanges, NamesCome, NamesLeave, SourcesLeft}
use Rattle.meson_followed.specs.FollowedEdits.{Removal, each_once, followed_added, followed_removed, removal_of}
use Rattle.meson_followed.specs.Homes as homes
use Rattle.meson_followed.specs.Homes.{Homes, any_home, best_home, by_maker, empty_of, holding_of, home, home_at, homes_of, is_fit}
use Rattle.meson_followed.specs.Laws.{GivesToOne, IsNamed, Takes, added_names, met_sources}
use Rattle.meson_followed.specs.Renaming.{followed_renamed}
use Rattle.meson_followed.specs.Sources.{MetSource, base_of, file_name, list_around, source_of, source_of_item, spot_at, spot_of_item}
use Rattle.meson_followed.proofs.EachOnce.{once_all, once_apart, once_gone}
use Rattle.meson_followed.proofs.EditLaws.{added_to_home, best_passes, home_is_for_one, missing_are_added, named_are_removed, removed_are_of_one}
use Rattle.meson_followed.proofs.MetSources.{list_is, spot_is}
use Rattle.meson_followed.proofs.NamedElements.{ok_then}
use Rattle.meson_followed.proofs.RenameLaws.{AreRenamed, all_old, is_fresh, only_old, renamed_by}
use Rattle.meson_followed.proofs.RenamesDone.{AreWritten, are_written}
use Rattle.meson_followed.proofs.StandingMarks.{FileThere, Stands, StringOf, marks_stand}
use Rattle.meson_followed.proofs.WrittenNames.{name-means-path}

-- ---- what holds of each that is kept

all_kept : {X Y : Type 0} (f : X → Option Y) (P : X → Type 0) (Q : Y → Type 0) → ((x : X) → P x → (y : Y) → f x ≡ Some y → Q y) → (xs : List X)
    → All P xs → All Q (filter_map f xs)
all_kept f P Q each [] all = All-nil Q
all_kept f P Q each (x ∷ xs) all = go (f x) refl (all_kept f P Q each xs (All-tail P x xs all))
  where
    go : (o : Option _) → f x ≡ o → All Q (filter_map f xs) → All Q (cons_option o (filter_map f xs))
    go None is more = more
    go (Some y) is more = All-cons Q y (filter_map f xs) (each x (All-head P x xs all) y is) more

same_inside : {X : Type 0} (x y : X) → ◌≡◌ {A = Option X} (Some x) (Some y) → x ≡ y
same_inside x y is = cc

-- ---- names of files

file_named : (fs : List File) (ts : List (tree.File Span)) (k : ℕ) (f : BuildFile Span) → All HasFileName fs → nth_file (named_trees fs ts) k ≡ Some f → IsFileName f.name
file_named [] ts k f named is = absurd cc
file_named (g ∷ fs) [] k f named is = absurd cc
file_named (g ∷ fs) (t ∷ ts) zero f named is =
    let same : ◌≡◌ {A = BuildFile Span} (record { name = g.name; tree = t }) f = cc in
    subst (λ (h : BuildFile Span). IsFileName h.name) same (All-head HasFileName g fs named)
file_named (g ∷ fs) (t ∷ ts) (suc k) f named is = file_named fs ts k f (All-tail HasFileName g fs named) is

-- ---- places of elements

one_more : (xs : List ℕ) (n : ℕ) → length xs + 1 ≡ length (xs ++ n ∷ [])
one_more xs n = sym (length-append xs (n ∷ []))

list_of_child : (l : CallRef) (n : ℕ) → l ≡ list_around (child l n)
list_of_child l n = list_is (child l n) l.path.steps n refl (one_more l.path.steps n)

module _ (old : Loaded) (whole : IsProject old) (id : CallName) (c : Placed (Call Span)) (found : the_call (project old) role.Target id ≡ Ok c) where
  abbrev p : Project Span
  p = project old

  abbrev n : ℕ
  n = c.place.file

  abbrev marks : List (Mark Span)
  marks = follow_marks p c

  stand : All (Stands p) marks
  stand = marks_stand old whole.parsed id c found

  -- ---- the list that gets sources

  abbrev IsHome : homes.Home → Type 0
  IsHome h = Home p h.list

  string_home : (q : CallRef) → StringOf p q → Home p (list_around q)
  string_home q s =
      let here : Home p s.list = record { there = s.there.there; holds = inr (some_plain _ s.number _ s.there.is_string); values = s.there.values } in
      subst (λ r. Home p (list_around r)) (sym s.is_place) (subst (Home p) (list_of_child s.list s.number) here)

  fit_home : (q : CallRef) (w : Way) (h : homes.Home) → Home p q → home_at n q w ≡ Some h → IsHome h
  fit_home q w h there = go (is_fit n w)
    where
      go : (b : Bool) → (if b then Some (record { list = q; maker = last_of w.through }) else None) ≡ Some h → IsHome h
      go true is = let same : q ≡ h.list = cc in subst (Home p) same there
      go false is = absurd cc

  holds_home : (m : Mark Span) → Stands p m → (h : homes.Home) → holding_of n m ≡ Some h → IsHome h
  holds_home (known i) stands h is = go i.listed refl is
    where
      go : (b : Bool) → i.listed ≡ b → (if b then home_at n (list_around i.place) i.way else None) ≡ Some h → IsHome h
      go true listed is = fit_home (list_around i.place) i.way h (string_home i.place (stands.1 listed)) is
      go false listed is = absurd cc
  holds_home opaque stands h is = absurd cc
  holds_home (empty q w) stands h is = absurd cc

  empty_home : (m : Mark Span) → Stands p m → (h : homes.Home) → empty_of n m ≡ Some h → IsHome h
  empty_home (known i) stands h is = absurd cc
  empty_home opaque stands h is = absurd cc
  empty_home (empty q w) stands h is = fit_home q w h stands is

  abbrev all_homes : Homes
  all_homes = homes_of n marks

  each_home : All IsHome (all_homes.holding ++ all_homes.empties)
  each_home =
      All-append IsHome all_homes.holding all_homes.empties (all_kept (holding_of n) (Stands p) IsHome holds_home marks stand)
      (all_kept (empty_of n) (Stands p) IsHome empty_home marks stand)

  best_there : (test : homes.Home → Bool) (q : CallRef) → best_home test all_homes ≡ Some q → Home p q
  best_there test q is =
      let r = best_passes test all_homes q is in
      subst (Home p) r.is_it (All-contains IsHome (all_homes.holding ++ all_homes.empties) r.home each_home r.is_one)

  any_there : (shared : SharedLists) (q : CallRef) → any_home shared all_homes ≡ Some q → Home p q
  any_there Kept q is = absurd cc
  any_there Changed q is = best_there (λ h. true) q is

  home_there : (shared : SharedLists) → Home p (home p c shared marks)
  home_there shared =
      go (best_home (λ h. by_maker (is_own p c) h.maker) all_homes) (best_home (λ h. by_maker (is_unshared p c) h.maker) all_homes) (any_home shared all_homes)
      (best_there (λ h. by_maker (is_own p c) h.maker)) (best_there (λ h. by_maker (is_unshared p c) h.maker)) (any_there shared)
    where
      go : (a b d : Option CallRef) → ((q : CallRef) → a ≡ Some q → Home p q) → ((q : CallRef) → b ≡ Some q → Home p q)
          → ((q : CallRef) → d ≡ Some q → Home p q) → Home p (or_call c.place (or_option a (or_option b d)))
      go (Some q) b d own unshared any = own q refl
      go None (Some q) d own unshared any = unshared q refl
      go None None (Some q) own unshared any = any q refl
      go None None None own unshared any = target_home p c (targets_stand p id c found)

  added_doable : (shared : SharedLists) (names : List (List ℕ)) → All IsUtf8 names → (steps : List Step) → followed_added p c shared names ≡ Ok steps
      → AreDoable steps (plain_trees old)
  added_doable shared names utf8 steps is =
      let new = added_names p c names in
      let texts = All-weaker (Contains names) IsUtf8 (λ name one. All-contains IsUtf8 names name utf8 one) new (missing_are_added p c names).only_given in
      subst (λ ss. AreDoable ss (plain_trees old)) (added_to_home p c shared names steps is)
      (home_doable old whole.parsed (home p c shared marks) (home_there shared) new texts)

  -- ---- the elements that go

  item_spot : (i : Item Span) → Stands p (known i) → (s : Spot) → spot_of_item i ≡ Some s → SpotStands p s
  item_spot i stands s is = go i.listed refl is
    where
      go : (b : Bool) → i.listed ≡ b → (if b then spot_at i.place else None) ≡ Some s → SpotStands p s
      go true listed is =
          let o = stands.1 listed in
          let spot = spot_is (child o.list o.number) o.list.path.steps o.number refl (one_more o.list.path.steps o.number) ∙ ap spot_at (sym o.is_place) ∙ is in
          subst (SpotStands p) (same_inside (record { list = o.list; number = o.number }) s spot) o.there
      go false listed is = absurd cc

  abbrev SourceStands : MetSource → Type 0
  SourceStands x = (s : Spot) → x.spot ≡ Some s → SpotStands p s

  source_there : (m : Mark Span) → Stands p m → (x : MetSource) → source_of p n m ≡ Some x → SourceStands x
  source_there (known i) stands x is = let same : source_of_item p n i ≡ x = cc in subst SourceStands same (item_spot i stands)
  source_there opaque stands x is = absurd cc
  source_there (empty q w) stands x is = absurd cc

  all_sources : All SourceStands (met_sources p c)
  all_sources = all_kept (source_of p n) (Stands p) SourceStands source_there marks stand

  spot_removed : (x : MetSource) (r : Removal) → removal_of x ≡ Some r → x.spot ≡ Some r.spot
  spot_removed x r = go x.spot
    where
      go : (o : Option Spot) → option_map (λ spot. record { spot = spot; base = x.base; maker = x.maker }) o ≡ Some r → o ≡ Some r.spot
      go None is = absurd cc
      go (Some spot) is = cc

  abbrev spots_of : List Removal → List Spot
  spots_of gone = map (λ (r : Removal). r.spot) gone

  spots_stand : (names : List (List ℕ)) (gone : List Removal) → All (IsNamed p c names) gone → All (SpotStands p) (spots_of gone)
  spots_stand names gone named =
      All-map (SpotStands p) (λ (r : Removal). r.spot) gone
      (All-weaker (IsNamed p c names) (λ r. SpotStands p r.spot)
      (λ r i. All-contains SourceStands (met_sources p c) i.source all_sources i.is_met r.spot (spot_removed i.source r i.is_element)) gone named)

  removed_doable : (shared : SharedLists) (names : List (List ℕ)) (steps : List Step) → followed_removed p c shared names ≡ Ok steps
      → AreDoable steps (plain_trees old)
  removed_doable shared names steps is =
      let t = named_are_removed p c shared names steps is in
      let spots = spots_of t.gone in
      subst (λ ss. AreDoable ss (plain_trees old)) t.are_steps
      (removals_doable old whole.parsed (each_once [] spots) (once_all (SpotStands p) [] spots (spots_stand names t.gone t.only_named)) (once_apart [] spots))

  -- ---- the elements that get another name

  -- the file from whose folder a name is taken, where it is another one than that of the target
  abbrev NameThere : ℕ → Type 0
  NameThere b = (b == n) ≡ false → IsFileName (file_name p b)

  base_named : (o : Option ℕ) → ((k : ℕ) → o ≡ Some k → FileThere p k) → NameThere (base_of n o)
  base_named None there other = absurd (false≢true (sym other ∙ eq-eqb n n refl))
  base_named (Some k) there other =
      let f = there k refl in
      subst IsFileName (sym (ap (λ o. option_map_or (λ (g : BuildFile Span). g.name) o []) f.1)) (file_named old.files (trees old) k f.0 whole.named f.1)

  source_named : (m : Mark Span) → Stands p m → (x : MetSource) → source_of p n m ≡ Some x → NameThere x.base
  source_named (known i) stands x is =
      let same : source_of_item p n i ≡ x = cc in subst (λ (y : MetSource). NameThere y.base) same (base_named i.way.files stands.0)
  source_named opaque stands x is = absurd cc
  source_named (empty q w) stands x is = absurd cc

  all_bases : All (λ x. NameThere x.base) (met_sources p c)
  all_bases = all_kept (source_of p n) (Stands p) (λ x. NameThere x.base) source_named marks stand

  base_kept : (x : MetSource) (r : Removal) → removal_of x ≡ Some r → x.base ≡ r.base
  base_kept x r = go x.spot
    where
      go : (o : Option Spot) → option_map (λ spot. record { spot = spot; base = x.base; maker = x.maker }) o ≡ Some r → x.base ≡ r.base
      go None is = absurd cc
      go (Some spot) is = cc

  names_mean : (names : List (List ℕ)) (new : List ℕ) (rs : List Removal) → All (IsNamed p c names) rs → All (MeansNew p n new) rs
  names_mean names new rs named =
      All-weaker (IsNamed p c names) (MeansNew p n new)
      (λ r i. name-means-path p n new r.base
      (subst NameThere (base_kept i.source r i.is_element) (All-contains (λ x. NameThere x.base) (met_sources p c) i.source all_bases i.is_met))) rs named

  module _ (shared : SharedLists) (was new : List ℕ) (steps : List Step) (is : followed_renamed p c shared was new ≡ Ok steps) where
    abbrev them : AreRenamed p c shared was new steps
    them = renamed_by p c shared was new steps is

    written : AreWritten p n new them.renamed (plain_trees old)
    written =
        are_written p n new them.renamed (plain_trees old) (trees_stand old.files old.parsed whole.parsed)
        (all_in old (spots_of them.renamed) (spots_stand (was ∷ []) them.renamed (only_old p c shared was new steps them)))

    renamed_doable : All IsUtf8 (written_names p c was new) → AreDoable steps (plain_trees old)
    renamed_doable utf8 =
        subst (λ ss. AreDoable ss (plain_trees old)) them.are_steps
        (written.doable (subst (λ found. All IsUtf8 (written_for p n new (or_none found))) them.are_found utf8))

    changed : (after : List Plain) → all_stepped steps (plain_trees old) ≡ Some after → NameChanges old c shared was new after
    changed after done = record {
      renamed = them.renamed;
      only_old = only_old p c shared was new steps them;
      all_old = all_old p c shared was new steps them;
      is_fresh = is_fresh p c shared was new steps them;
      for_one = them.for_one;
      mean_new = names_mean (was ∷ []) new them.renamed (only_old p c shared was new steps them);
      now = same_inside _ _ (sym done ∙ sym (ap (λ ss. all_stepped ss (plain_trees old)) them.are_steps) ∙ written.made);
    }

  pub change_doable : (change : SourceChange) (shared : SharedLists) → All IsUtf8 (names_written p c change) → (steps : List Step) → sources_changed p change shared c ≡ Ok steps
      → AreDoable steps (plain_trees old)
  change_doable (Add names) shared utf8 steps is = added_doable shared names utf8 steps is
  change_doable (Remove names) shared utf8 steps is = removed_doable shared names steps is
  change_doable (Rename was new) shared utf8 steps is = renamed_doable shared was new steps is utf8

  -- ---- what is left

  come : (shared : SharedLists) (names : List (List ℕ)) (steps : List Step) (after : List Plain) → followed_added p c shared names ≡ Ok steps
      → all_stepped steps (plain_trees old) ≡ Some after → NamesCome old c shared names after
  come shared names steps after is done =
      let list = home p c shared marks in
      record {
        gets = gets old whole list (home_there shared) (added_names p c names) after
            (ap (λ ss. all_stepped ss (plain_trees old)) (added_to_home p c shared names steps is) ∙ done);
        adds = missing_are_added p c names;
        for_one = λ kept. subst (λ s. GivesToOne p c (home p c s marks)) (sym kept) (home_is_for_one p c);
      }

  left_by : (names : List (List ℕ)) (steps : List Step) (after : List Plain) (t : Takes p c names steps) → all_stepped steps (plain_trees old) ≡ Some after
      → after ≡ trees_without (spots_of t.gone) (plain_trees old)
  left_by names steps after t done =
      let spots = spots_of t.gone in
      let stands = trees_stand old.files old.parsed whole.parsed in
      let there = all_in old (each_once [] spots) (once_all (SpotStands p) [] spots (spots_stand names t.gone t.only_named)) in
      trees_left (each_once [] spots) (plain_trees old) after stands there (once_apart [] spots) (ap (λ ss. all_stepped ss (plain_trees old)) t.are_steps ∙ done)
      ∙ once_gone spots (plain_trees old)

  leave : (shared : SharedLists) (names : List (List ℕ)) (steps : List Step) (after : List Plain) → followed_removed p c shared names ≡ Ok steps
      → all_stepped steps (plain_trees old) ≡ Some after → NamesLeave old c shared names after
  leave Kept names steps after is done =
      let t = removed_are_of_one p c names steps is in record {
        gone = t.takes.gone;
        only_named = t.takes.only_named;
        all_named = t.takes.all_named;
        for_one = λ kept. t.are_for_one;
        left = left_by names steps after t.takes done;
      }
  leave Changed names steps after is done =
      let t = named_are_removed p c Changed names steps is in
      record { gone = t.gone; only_named = t.only_named; all_named = t.all_named; for_one = λ kept. absurd cc; left = left_by names steps after t done }

  pub change_leaves : (change : SourceChange) (shared : SharedLists) (steps : List Step) (after : List Plain) → sources_changed p change shared c ≡ Ok steps
      → all_stepped steps (plain_trees old) ≡ Some after → SourcesLeft old c change shared after
  change_leaves (Add names) shared steps after is done = come shared names steps after is done
  change_leaves (Remove names) shared steps after is done = leave shared names steps after is done
  change_leaves (Rename was new) shared steps after is done = changed shared was new steps is after done

pub changes-leave : ChangesLeave
changes-leave old is id c found change shared steps after made done = change_leaves old is id c found change shared steps after made done

-- the steps of a change are a plan
module _ {V : Type 0} (list : V → List ListStep) (old : Loaded) (whole : IsProject old) (target : CallName) (change : SourceChange) (shared : SharedLists) where
  abbrev meant : Result (List Step) Refusal
  meant = target_changed (project old) target change shared

  pub changes_mean : (r : Result V Refusal)
      → ((c : Placed (Call Span)) → the_call (project old) role.Target target ≡ Ok c → IfOk r (λ v. All IsUtf8 (names_written (project old) c change)))
      → IfOk r (λ v. AreMeant meant (list v)) → IfOk r (λ v. ArePlanned old meant (list v))
  changes_mean (Ok v) utf8 m =
      let c = ok_then (the_call (project old) role.Target target) (sources_changed (project old) change shared) m.steps m.is in
      record { steps = m.steps; are_planned = m.is; are_doable = record { bare = m.bare; doable = change_doable old whole target c.0 c.1 change shared (utf8 c.0 c.1) m.steps c.2 } }
  changes_mean (Err e) utf8 m = tt
