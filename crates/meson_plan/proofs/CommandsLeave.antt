-- What a command that is performed leaves of the call that it changes.
use Rattle.std.proofs.Common.{◌≡◌, ℕ, Bool, true, false, List, [], ◌∷◌, map, Some, None, refl, sym, ap, ◌∙◌, subst}
use Rattle.std.specs.Prelude.{Option, option_and_then, unwrap_or, Result, Ok}
use Rattle.std.specs.Str.{IsUtf8}
use Rattle.meson_lex.specs.declared.kinds.Span.{Span}
use Rattle.meson_splice.specs.Patch.{then_ok}
use Rattle.meson_splice.specs.declared.file_set.File.{File}
use Rattle.meson_calls.specs.declared.call.Role.{Role}
use Rattle.meson_calls.specs.declared.call.Role.TheVariants as role
use Rattle.meson_calls.specs.declared.refusal.Refusal.{Refusal}
use Rattle.meson_calls.specs.Calls.{Call}
use Rattle.meson_calls.specs.Finding.{the_call}
use Rattle.meson_calls.specs.Loading.{IsProject, Loaded, project}
use Rattle.meson_calls.specs.Project.{Placed, Project}
use Rattle.meson_keywords.specs.Changing.{request_steps}
use Rattle.meson_keywords.specs.Effects.{CallLeft}
use Rattle.meson_keywords.specs.Tasking.{Asked, to_set, to_add, to_remove, to_delete, to_set_options, to_delete_options}
use Rattle.meson_keywords.proofs.RequestsLeave.{requests-leave}
use Rattle.meson_steps.specs.declared.command.Command.{Command}
use Rattle.meson_steps.specs.declared.command.Command.TheVariants as command
use Rattle.meson_steps.specs.declared.argument.ValueChange.{ValueChange}
use Rattle.meson_steps.specs.declared.argument.ValueName.{ValueName}
use Rattle.meson_steps.specs.declared.command.Done.{Done}
use Rattle.meson_steps.specs.ResultLimits.{plain_trees}
use Rattle.meson_steps.specs.Steps.{Step, all_stepped}
use Rattle.meson_steps.specs.Steps.{stepped as step_made}
use Rattle.meson_syntax.specs.Tree.{Plain}
use Rattle.meson_sources.specs.SourceEdits.{extra_added, extra_removed, sources_added, sources_removed, sources_renamed}
use Rattle.meson_sources.proofs.AllExtras.{all-extras-grow}
use Rattle.meson_sources.proofs.AllSources.{all-sources-grow}
use Rattle.meson_sources.proofs.ExtraAdded.{extra-is-added}
use Rattle.meson_sources.proofs.ShrunkFiles.{all-extras-shrink, all-sources-shrink}
use Rattle.meson_sources.proofs.SourcesAdded.{sources-are-added}
use Rattle.meson_sources.proofs.SourcesGone.{extra-is-removed, sources-are-removed}
use Rattle.meson_sources.proofs.SourcesRenamed.{sources-are-renamed}
use Rattle.meson_sources.proofs.SourcesSorted.{order-is-kept, sources-are-sorted}
use Rattle.meson_sources.specs.Sorting.{sources_sorted}
use Rattle.meson_sources.specs.Targeted.{sorted_steps}
use Rattle.meson_steps.proofs.WentWell.{then_was}
use Rattle.meson_steps.specs.declared.source_change.SharedLists.{SharedLists}
use Rattle.meson_steps.specs.declared.source_change.SourceChange.{SourceChange}
use Rattle.meson_followed.specs.Changes.{sources_changed, target_changed}
use Rattle.meson_followed.proofs.MayBeDone.{changes-leave}
use Rattle.meson_targets.specs.TargetEdits.{target_added, target_removed}
use Rattle.meson_targets.proofs.AddedTargets.{added-targets-are-named}
use Rattle.meson_targets.proofs.RemovedTargets.{removed-targets-are-gone}
use Rattle.meson_plan.specs.Effects.{CodeComes, CommandsLeave, ExtrasCome, ExtrasGo, LeavesOf, SourcesCome, SourcesComeAmong, SourcesFollow, SourcesGo, SourcesRenamed, TargetComes, TargetGoes}
use Rattle.meson_places.specs.Effects.{ValueLeft}
use Rattle.meson_code.specs.declared.insertion.FileLines.{FileLines}
use Rattle.meson_code.specs.Insertion.{code_statements, code_steps, has_room, inserted_if_room, insertion_step, lines_at}
use Rattle.meson_code.specs.RemovalLaws.{CodeGoes}
use Rattle.meson_code.specs.Removing.{code_removed}
use Rattle.meson_code.proofs.Removals.{removals_leave}
use Rattle.meson_steps.specs.declared.argument.Search.{Search}
use Rattle.meson_steps.specs.declared.command.CodePlace.{CodePlace}
use Rattle.meson_places.proofs.ValuesLeft.{values_left}
use Rattle.meson_plan.specs.Performing.{Performs}
use Rattle.meson_plan.specs.Planning.{Means}
use Rattle.meson_plan.proofs.NamesKept.{names_kept}
use Rattle.meson_calls.specs.declared.call.CallName.{CallName}
use Rattle.meson_calls.specs.Searching.{anywhere}

-- the one step that is done
one_step : (s : Step) (before after : List Plain) → all_stepped (s ∷ []) before ≡ Some after → step_made s before ≡ Some after
one_step s before after is = go (step_made s before) is
  where
    go : (o : Option (List Plain)) → option_and_then (all_stepped []) o ≡ Some after → o ≡ Some after
    go None made = absurd (let no : ⊥ = cc in no)
    go (Some ts) made = made

module _ (old new : Loaded) (c : Command) (done : Done) (is : IsProject old) (p : Performs old c done new) where
  leaves : (r : Role) (id : CallName) (asked : Asked) → request_steps (project old) (r, id, asked) ≡ Ok p.made.steps → LeavesOf old r id asked new
  leaves r id asked made texts =
      let after = ap (λ o. unwrap_or o (plain_trees old)) p.made.are_trees ∙ sym p.are_trees in
      subst (CallLeft old r id asked) after (requests-leave old is r id asked texts p.made.steps made)

  stepped : all_stepped p.made.steps (plain_trees old) ≡ Some (plain_trees new)
  stepped = p.made.are_trees ∙ ap Some (sym p.are_trees)

  same_names : map (λ (f : File). f.name) new.files ≡ map (λ (f : File). f.name) old.files
  same_names = ap (map (λ (f : File). f.name)) p.are_files ∙ names_kept old.files p.made.steps p.made.splices p.made.files p.made.bytes p.made.are_done

  sources_come : (id : CallName) (names : List (List ℕ)) → then_ok (the_call (project old) role.Target id) (λ k. sources_added (project old) k names) ≡ Ok p.made.steps → SourcesCome old id names new
  sources_come id names made =
      let k = then_was (the_call (project old) role.Target id) (λ k. sources_added (project old) k names) p.made.steps made in
      record {
        call = k.0;
        is_call = k.1;
        gets = sources-are-added old is id k.0 k.1 names p.made.steps (plain_trees new) k.2 stepped;
        whole = λ utf8. all-sources-grow old new is same_names id k.0 k.1 names utf8 p.made.steps k.2 stepped;
      }

  -- the call of a target, whose steps these are
  module _ (id : CallName) (meant : Project Span → Placed (Call Span) → Result (List Step) Refusal) (made : then_ok (the_call (project old) role.Target id) (meant (project old)) ≡ Ok p.made.steps) where
    abbrev one : (k : Placed (Call Span)) × (the_call (project old) role.Target id ≡ Ok k) × (meant (project old) k ≡ Ok p.made.steps)
    one = then_was (the_call (project old) role.Target id) (meant (project old)) p.made.steps made

  sources_come_among : (id : CallName) (names : List (List ℕ)) → sorted_steps old.files (project old) id names ≡ Ok p.made.steps → SourcesComeAmong old id names new
  sources_come_among id names made =
      let k = one id (λ q k. sources_sorted old.files q k names) made in
      record {
        call = k.0;
        is_call = k.1;
        gets = sources-are-sorted old is id k.0 k.1 names p.made.steps (plain_trees new) k.2 stepped;
        in_order = λ utf8. order-is-kept old is id k.0 k.1 names utf8 p.made.steps (plain_trees new) k.2 stepped;
      }

  sources_go : (id : CallName) (names : List (List ℕ)) → then_ok (the_call (project old) role.Target id) (λ k. sources_removed (project old) k names) ≡ Ok p.made.steps → SourcesGo old id names new
  sources_go id names made =
      let k = one id (λ q k. sources_removed q k names) made in
      record {
        call = k.0;
        is_call = k.1;
        go = sources-are-removed old is id k.0 k.1 names p.made.steps (plain_trees new) k.2 stepped;
        whole = all-sources-shrink old new is same_names id k.0 k.1 names p.made.steps k.2 stepped;
      }

  sources_renamed_there : (id : CallName) (was now : List ℕ) → then_ok (the_call (project old) role.Target id) (λ k. sources_renamed (project old) k was now) ≡ Ok p.made.steps → SourcesRenamed old id was now new
  sources_renamed_there id was now made =
      let k = one id (λ q k. sources_renamed q k was now) made in
      record { call = k.0; is_call = k.1; changes = sources-are-renamed old is id k.0 k.1 was now p.made.steps (plain_trees new) k.2 stepped }

  sources_follow : (id : CallName) (change : SourceChange) (shared : SharedLists) → target_changed (project old) id change shared ≡ Ok p.made.steps
      → SourcesFollow old id change shared new
  sources_follow id change shared made =
      let k = one id (λ q. sources_changed q change shared) made in
      record { call = k.0; is_call = k.1; left = changes-leave old is id k.0 k.1 change shared p.made.steps (plain_trees new) k.2 stepped }

  extras_come : (id : CallName) (names : List (List ℕ)) → then_ok (the_call (project old) role.Target id) (λ k. extra_added (project old) k names) ≡ Ok p.made.steps → ExtrasCome old id names new
  extras_come id names made =
      let k = one id (λ q k. extra_added q k names) made in
      record {
        call = k.0;
        is_call = k.1;
        come = extra-is-added old is id k.0 k.1 names p.made.steps (plain_trees new) k.2 stepped;
        whole = λ utf8. all-extras-grow old new is same_names id k.0 k.1 names utf8 p.made.steps k.2 stepped;
      }

  extras_go : (id : CallName) (names : List (List ℕ)) → then_ok (the_call (project old) role.Target id) (λ k. extra_removed (project old) k names) ≡ Ok p.made.steps → ExtrasGo old id names new
  extras_go id names made =
      let k = one id (λ q k. extra_removed q k names) made in
      record {
        call = k.0;
        is_call = k.1;
        go = extra-is-removed old is id k.0 k.1 names p.made.steps (plain_trees new) k.2 stepped;
        whole = all-extras-shrink old new is same_names id k.0 k.1 names p.made.steps k.2 stepped;
      }

  target_goes : (id : CallName) → then_ok (the_call (project old) role.Target id) (λ k. target_removed (project old) k) ≡ Ok p.made.steps → TargetGoes old id new
  target_goes id made =
      let k = one id (λ q k. target_removed q k) made in
      record { call = k.0; is_call = k.1; removed = removed-targets-are-gone old is id k.0 k.1 p.made.steps (plain_trees new) k.2 stepped }

  target_comes : (name kind folder : List ℕ) (sources : List (List ℕ)) → target_added (project old) name kind folder sources ≡ Ok p.made.steps → IsUtf8 name → TargetComes old name kind folder sources new
  target_comes name kind folder sources made utf8 =
      let t = added-targets-are-named old name kind folder sources p.made.steps (plain_trees new) utf8 made (p.made.are_trees ∙ ap Some (sym p.are_trees)) in
      record { file = t.0; is_file = t.1; named = t.2 }

  value_left : (name : ValueName) (change : ValueChange) → Means old (command.Argument name change) (Ok p.made.steps) → ValueLeft old name change (plain_trees old) (plain_trees new)
  value_left name change means = values_left old is name change means.0 p.made.steps (plain_trees new) means.1 stepped

  code_comes : (place : CodePlace) (code : List ℕ) (blank : Option ℕ) → code_steps old place code blank ≡ Ok p.made.steps → CodeComes old place code new
  code_comes place code blank made =
      let o = then_was (lines_at old place) (inserted_if_room old code blank) p.made.steps made in
      record {
        lines = o.0;
        are_lines = o.1;
        trees = one_step (insertion_step old o.0 code blank) (plain_trees old) (plain_trees new)
            (ap (λ steps. all_stepped steps (plain_trees old)) (roomy o.0 (has_room o.0 (code_statements code)) refl o.2) ∙ stepped);
      }
    where
      roomy : (lines : FileLines) (b : Bool) → has_room lines (code_statements code) ≡ b → inserted_if_room old code blank lines ≡ Ok p.made.steps → insertion_step old lines code blank ∷ [] ≡ p.made.steps
      roomy lines true is done = cc
      roomy lines false is done = absurd (let no : ⊥ = cc in no)

  code_goes : (s : Search) (unused : Bool) → code_removed old s unused ≡ Ok p.made.steps → CodeGoes old s unused (plain_trees new)
  code_goes s unused made = removals_leave old s unused p.made.steps (plain_trees new) made stepped

pub commands-leave : CommandsLeave
commands-leave old new (command.SourcesAdd id names) done is p = sources_come old new (command.SourcesAdd id names) done is p id names p.made.are_planned
commands-leave old new (command.SourcesAddSorted id names) done is p = sources_come_among old new (command.SourcesAddSorted id names) done is p id names p.made.are_planned
commands-leave old new (command.TargetAdd name kind folder sources) done is p = λ utf8. target_comes old new (command.TargetAdd name kind folder sources) done is p name kind folder sources p.made.are_planned utf8
commands-leave old new (command.SourcesRemove id names) done is p = sources_go old new (command.SourcesRemove id names) done is p id names p.made.are_planned
commands-leave old new (command.SourcesRename id was now) done is p = sources_renamed_there old new (command.SourcesRename id was now) done is p id was now p.made.are_planned
commands-leave old new (command.FollowedSources id change shared) done is p =
    sources_follow old new (command.FollowedSources id change shared) done is p id change shared p.made.are_planned
commands-leave old new (command.ExtraAdd id names) done is p = extras_come old new (command.ExtraAdd id names) done is p id names p.made.are_planned
commands-leave old new (command.ExtraRemove id names) done is p = extras_go old new (command.ExtraRemove id names) done is p id names p.made.are_planned
commands-leave old new (command.TargetRemove id) done is p = target_goes old new (command.TargetRemove id) done is p id p.made.are_planned
commands-leave old new (command.KwargsSet r id pairs) done is p = leaves old new (command.KwargsSet r id pairs) done is p r id (to_set pairs) p.made.are_planned
commands-leave old new (command.KwargsAdd r id pairs) done is p = leaves old new (command.KwargsAdd r id pairs) done is p r id (to_add pairs) p.made.are_planned
commands-leave old new (command.KwargsRemove r id pairs) done is p = leaves old new (command.KwargsRemove r id pairs) done is p r id (to_remove pairs) p.made.are_planned
commands-leave old new (command.KwargsDelete r id keys) done is p = leaves old new (command.KwargsDelete r id keys) done is p r id (to_delete keys) p.made.are_planned
commands-leave old new (command.OptionsSet pairs) done is p = leaves old new (command.OptionsSet pairs) done is p _ _ (to_set_options pairs) p.made.are_planned
commands-leave old new (command.OptionsDelete names) done is p = leaves old new (command.OptionsDelete names) done is p _ _ (to_delete_options names) p.made.are_planned
commands-leave old new (command.CodeInsert place code blank) done is p = code_comes old new (command.CodeInsert place code blank) done is p place code blank p.made.are_planned
commands-leave old new (command.CodeRemove s unused) done is p = code_goes old new (command.CodeRemove s unused) done is p s unused p.made.are_planned
commands-leave old new (command.Argument name change) done is p = value_left old new (command.Argument name change) done is p name change p.made.are_planned
commands-leave old new _ done is p = tt
