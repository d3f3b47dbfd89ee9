-- The call of a target that a command names, and that what is meant may be done.
use Rattle.meson_syntax.specs.declared.tree.List as rust
use Rattle.meson_syntax.specs.Paths as paths
use Rattle.meson_calls.specs.declared.call.Role.TheVariants as role
use Rattle.meson_calls.specs.declared.noted.Noted.{Noted}
use Rattle.meson_variables.specs.declared.variables.Variables.{Variables}
use Rattle.meson_sources.specs.declared.targeting.TargetChange.{TargetChange}
use Rattle.meson_calls.specs.GoodLists.{GoodListing}
use Rattle.meson_calls.specs.OnePlace.{the_place}
use Rattle.meson_calls.specs.Searching.{names_of}
use Rattle.meson_edit.proofs.lists.CodeElements.{list_elements}
use Rattle.meson_calls.proofs.CallsAt.{listing_good}
use Rattle.meson_calls.proofs.NotedCalls.{call_in, call_within, one_at, one_is, the_one, trees_as_many}
use Rattle.meson_variables.proofs.NotedVariables.{same_project}
use Rattle.meson_calls.proofs.Standing.{nth_there}
use Rattle.meson_sources.specs.declared.targeting.TargetChange.TheVariants.{SourcesAdded, SourcesRemoved, ExtraAdded, ExtraRemoved}
use Rattle.meson_steps.specs.Plans.{ArePlanned}
use Rattle.meson_sources.proofs.Words.{All, Err, IfOk, Ok, option_and_then, option_map, Result, [], ap, ap₂, arith, IsUtf8, length, List, Some, subst, sym, ℕ}
use Rattle.meson_sources.proofs.Words.{◌<◌, ◌∙◌, ◌∷◌, ◌≡◌, length-map, bytes_at, then_ok, File, Span, list_in, call, Expression, arg_view, list_view, Parsed}
use Rattle.meson_sources.proofs.Words.{some-injective, elements, CallIn, Call, call_of, call_with, the_call, IsProject, Loaded, project, IsNotedFor, project_in}
use Rattle.meson_sources.proofs.Words.{note_views, BuildFile, expression_at, Placed, placed, Project, CallRef, Refusal, CallAt, role_found, project_of}
use Rattle.meson_sources.proofs.Words.{AreDoable, AreMeant, plain_trees, Step, ListStep, then_was, elements_there, change_steps, target_steps}
use Rattle.meson_sources.specs.SourceEdits.{sources_renamed}
use Rattle.meson_sources.specs.Sorting.{sources_sorted}
use Rattle.meson_sources.specs.Targeted.{renamed_steps, sorted_steps}
use Rattle.meson_sources.proofs.sorted.Homes.{sources_may_be_sorted}
use Rattle.meson_sources.proofs.added.Counts.{elements_of}
use Rattle.meson_sources.proofs.added.Homes.{sources_may_be_added, extras_may_be_added}
use Rattle.meson_sources.proofs.gone.Trees.{sources_may_be_removed, extras_may_be_removed}
use Rattle.meson_sources.proofs.renamed.Renamings.{may_be_renamed}
use Rattle.meson_sources.proofs.met.Standing.{TargetThere, targets_stand}
use Rattle.meson_sources.proofs.met.Targets.{FilesStand, files_stand}
use Rattle.meson_calls.specs.declared.call.CallName.{CallName}

-- ==== The call of the target that a command names, and its arguments in the code.

call_elements : (e : Expression Span) (k : Call Span) → call_of e ≡ Some k → elements_of (list_in e) ≡ elements k.arguments
call_elements (call s x l) k is = ap (λ (j : Call Span). elements j.arguments) (some-injective _ _ is)
call_elements _ k is = absurd cc

some_tree : (trees : List Parsed) (i : ℕ) → i < length trees → Parsed
some_tree [] i within = absurd (omega (arith, within))
some_tree (t ∷ trees) i within = t

module _ (n : Noted) (id : CallName) (is : IsNotedFor role.Target id.id n) (place : CallRef) (found : the_place role.Target id (names_of n.files.now) (note_views n.notes.now) ≡ Ok place) where
  abbrev files : List File
  files = n.files.now

  abbrev trees : List Parsed
  trees = n.trees.now

  abbrev bytes : List ℕ
  bytes = bytes_at place.file files

  stands : CallAt (project_in n) (the_one n role.Target id is place found)
  stands = (role_found (project_in n) role.Target id (the_one n role.Target id is place found) (one_is n role.Target id is place found)).at

  at_place : expression_at (project_in n) place ≡ Some stands.value
  at_place = subst (λ k. expression_at (project_in n) k ≡ Some stands.value) (one_at n role.Target id is place found) stands.is_at

  pub function : List ℕ
  function = (the_one n role.Target id is place found).it.function

  module _ (a : rust.List) (lists : (c : CallIn trees place) → list_view (bytes_at place.file c.files) a ≡ c.call.it.arguments) where
    same_list : (the_one n role.Target id is place found).it.arguments ≡ list_view bytes a
    same_list = sym (lists (call_in n role.Target id is place found))

    is_list : Some (list_view bytes a) ≡ option_map (λ (k : Call Span). k.arguments) (call_of stands.value)
    is_list = sym (ap (option_map (λ (k : Call Span). k.arguments)) stands.is_call ∙ ap Some same_list)

    good_list : (d : Parsed) → GoodListing (list_view bytes a)
    good_list d =
        let many = trees_as_many n is in
        let within = call_within n role.Target id is place found in
        let there = sym (ap (option_and_then (λ (g : BuildFile Span). paths.expression_on_path g.tree place.path.steps)) (nth_there files trees place.file d many within)) ∙ at_place in
        listing_good files trees place d many within stands.value (list_view bytes a) is.whole.parsed (sym there) is_list

    -- its arguments are good
    pub arguments_good : (source : List ℕ) → source ≡ bytes → GoodListing (list_view source a)
    arguments_good source same = subst (λ s. GoodListing (list_view s a)) (sym same) (good_list (some_tree trees place.file (call_within n role.Target id is place found)))

    -- what is meant of the call is meant of the code's call
    pub meant_of_code : (v : Variables) → v.files.now ≡ files → v.trees.now ≡ trees → (meant : Project Span → Placed (Call Span) → Result (List Step) Refusal) (source : List ℕ) → source ≡ bytes
        → meant (project_of v) (placed place (call_with function (list_view source a))) ≡ then_ok (the_call (project_in n) role.Target id) (meant (project_in n))
    unfolding function
    meant_of_code v fs ts meant source is_source =
        let p = project_in n in
        let same = ap₂ (λ k m. placed k (call_with function m)) (one_at n role.Target id is place found) same_list in
        ap₂ (λ o b. meant o (placed place (call_with function (list_view b a)))) (same_project v n fs ts) is_source
        ∙ sym (ap (λ r. then_ok r (meant p)) (one_is n role.Target id is place found) ∙ ap (meant p) same)

    -- the same where the project itself is asked
    pub meant_of_call : (meant : Project Span → Placed (Call Span) → Result (List Step) Refusal) (source : List ℕ) → source ≡ bytes
        → meant (project_in n) (placed place (call_with function (list_view source a))) ≡ then_ok (the_call (project_in n) role.Target id) (meant (project_in n))
    unfolding function
    meant_of_call meant source is_source =
        let p = project_in n in
        let same = ap₂ (λ k m. placed k (call_with function m)) (one_at n role.Target id is place found) same_list in
        ap (λ b. meant p (placed place (call_with function (list_view b a)))) is_source
        ∙ sym (ap (λ r. then_ok r (meant p)) (one_is n role.Target id is place found) ∙ ap (meant p) same)

    -- the steps that are meant are those of the code's call
    pub steps_are : (v : Variables) → v.files.now ≡ files → v.trees.now ≡ trees → (change : TargetChange) (names : List (List ℕ)) (source : List ℕ) → source ≡ bytes
        → change_steps (project_of v) change names (placed place (call_with function (list_view source a))) ≡ target_steps (project_in n) id change names
    steps_are v fs ts change names source is_source = meant_of_code v fs ts (λ p. change_steps p change names) source is_source

    pub as_many_there : (v : Variables) → v.files.now ≡ files → v.trees.now ≡ trees → length (rust.out-List a).items ≡ length (elements_there (project_of v) place)
    as_many_there v fs ts =
        let arguments = (the_one n role.Target id is place found).it in
        sym (length-map (rust.out-List a).items (arg_view bytes)) ∙ sym (ap length (list_elements bytes a))
        ∙ sym (ap (λ o. length (elements_there o place)) (same_project v n fs ts) ∙ ap (λ o. length (elements_of (option_and_then list_in o))) at_place
        ∙ ap length (call_elements stands.value arguments stands.is_call) ∙ ap (λ m. length (elements m)) same_list)

-- ==== What commands on the sources and extra files of a target mean may be done.

module _ (old : Loaded) (whole : IsProject old) where
  abbrev p : Project Span
  p = project old

  changed : (change : TargetChange) (c : Placed (Call Span)) → TargetThere p c → FilesStand p c → (names : List (List ℕ)) → All IsUtf8 names → (steps : List Step) → change_steps p change names c ≡ Ok steps
      → AreDoable steps (plain_trees old)
  changed SourcesAdded c there files names utf8 steps is = sources_may_be_added old whole.parsed c there files.sources names utf8 steps is
  changed SourcesRemoved c there files names utf8 steps is = sources_may_be_removed old whole.parsed c there files.sources names utf8 steps is
  changed ExtraAdded c there files names utf8 steps is = extras_may_be_added old whole.parsed c there files.extras names utf8 steps is
  changed ExtraRemoved c there files names utf8 steps is = extras_may_be_removed old whole.parsed c there files.extras names utf8 steps is

  -- the steps on a target
  target_means : (target : CallName) (change : TargetChange) (names : List (List ℕ)) → All IsUtf8 names → (list : List ListStep) → AreMeant (target_steps p target change names) list → ArePlanned old (target_steps p target change names) list
  target_means target change names utf8 list meant =
      let c = then_was (the_call p role.Target target) (change_steps p change names) meant.steps meant.is in
      let there = targets_stand p target c.0 c.1 in
      record {
        steps = meant.steps;
        are_planned = meant.is;
        are_doable = record { bare = meant.bare; doable = changed change c.0 there (files_stand old whole.parsed target c.0 c.1) names utf8 meant.steps c.2 };
      }

  module _ {V : Type 0} (list : V → List ListStep) where
    pub all_mean : (target : CallName) (change : TargetChange) (names : List (List ℕ)) (r : Result V Refusal) → IfOk r (λ v. All IsUtf8 names)
        → IfOk r (λ v. AreMeant (target_steps p target change names) (list v)) → IfOk r (λ v. ArePlanned old (target_steps p target change names) (list v))
    all_mean target change names (Ok v) utf8 meant = target_means target change names utf8 (list v) meant
    all_mean target change names (Err e) utf8 meant = tt

  -- the steps that add sources to a target, each in its place
  module _ {V : Type 0} (list : V → List ListStep) (target : CallName) (names : List (List ℕ)) where
    pub sorted_mean : (r : Result V Refusal) → IfOk r (λ v. All IsUtf8 names) → IfOk r (λ v. AreMeant (sorted_steps old.files p target names) (list v)) → IfOk r (λ v. ArePlanned old (sorted_steps old.files p target names) (list v))
    sorted_mean (Ok v) utf8 meant =
        let c = then_was (the_call p role.Target target) (λ c. sources_sorted old.files p c names) meant.steps meant.is in
        let there = targets_stand p target c.0 c.1 in
        record {
          steps = meant.steps;
          are_planned = meant.is;
          are_doable = record { bare = meant.bare; doable = sources_may_be_sorted old whole.parsed c.0 there (files_stand old whole.parsed target c.0 c.1).sources names utf8 meant.steps c.2 };
        }
    sorted_mean (Err e) utf8 meant = tt

  -- the steps that rename sources of a target
  module _ {V : Type 0} (list : V → List ListStep) (target : CallName) (was now : List ℕ) where
    pub renamed_mean : (r : Result V Refusal) → IfOk r (λ v. IsUtf8 now) → IfOk r (λ v. AreMeant (renamed_steps p target was now) (list v)) → IfOk r (λ v. ArePlanned old (renamed_steps p target was now) (list v))
    renamed_mean (Ok v) utf8 meant =
        let c = then_was (the_call p role.Target target) (λ c. sources_renamed p c was now) meant.steps meant.is in
        record {
          steps = meant.steps;
          are_planned = meant.is;
          are_doable = record { bare = meant.bare; doable = may_be_renamed old whole.parsed c.0 (files_stand old whole.parsed target c.0 c.1).sources was now meant.steps c.2 utf8 };
        }
    renamed_mean (Err e) utf8 meant = tt
