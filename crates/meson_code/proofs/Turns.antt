-- Turns in which assignments are removed: from the start, over each turn, to the end.
use Rattle.std.proofs.Common.{◌≡◌, ℕ, suc, ◌+◌, ◌-◌, ◌<◌, ◌≤◌, List, [], ◌∷◌, ◌++◌, Some, None, sym, ap, ap₂, ◌∙◌, subst, arith, append-nil}
use Rattle.std.proofs.lemmas.List.{append_assoc}
use Rattle.std.specs.Prelude.{Option}
use Rattle.std.specs.Option.{option_map_or}
use Rattle.meson_splice.specs.declared.file_set.File.{File}
use Rattle.meson_syntax.specs.Tree.{Plain}
use Rattle.meson_calls.specs.Loading.{Loaded, project}
use Rattle.meson_steps.specs.declared.work.Work.{Work}
use Rattle.meson_steps.specs.ResultLimits.{plain_trees}
use Rattle.meson_steps.specs.Steps.{Step}
use Rattle.meson_steps.specs.Working.{so_far}
use Rattle.meson_targets.specs.TargetEdits.{StatementPlace}
use Rattle.meson_code.specs.Removal.{removal_step}
use Rattle.meson_code.specs.Unused.{names_read, next_unused, project_of, trees_without, unused_steps}
use Rattle.meson_code.specs.inside.Removing.{HasRemoved, IsNextRemoval}
use Rattle.meson_code.proofs.Erasing.{names_read_bare, next_bare, step_bare_tree}
use Rattle.meson_code.proofs.NextThere.{next_there}
use Rattle.meson_code.proofs.RemovalsDone.{removed_project, trees_next}

-- Some steps are done since the start, and what is left of the turns gives the others.
pub record TurnsLeft (files : List File) (turns : ℕ) (names : List (List ℕ)) (trees : List Plain) (old : Loaded) (before : List Step) (i : ℕ) (sought : List (List ℕ)) (w : Work) : Type 0 where
  pub so_many : List Step
  pub removed : HasRemoved old (before ++ so_many) w
  pub joined : unused_steps turns files names trees ≡ so_many ++ unused_steps (turns - i) files sought (plain_trees (so_far w))

pub turns_first : (files : List File) (turns : ℕ) (names : List (List ℕ)) (old : Loaded) (before : List Step) (w : Work) → HasRemoved old before w
    → TurnsLeft files turns names (plain_trees (so_far w)) old before 0 names w
turns_first files turns names old before w h = record {
  so_many = [];
  removed = subst (λ ss. HasRemoved old ss w) (sym (append-nil before)) h;
  joined = ap (λ n. unused_steps n files names (plain_trees (so_far w))) (let same : turns ≡ turns - 0 = omega arith in same);
}

module _ (files : List File) (turns : ℕ) (names : List (List ℕ)) (trees : List Plain) (old : Loaded) (before : List Step) (i : ℕ) (sought : List (List ℕ)) (w : Work)
    (t : TurnsLeft files turns names trees old before i sought w) where
  abbrev here : List Plain
  here = plain_trees (so_far w)

  abbrev steps_so_far : List Step
  steps_so_far = before ++ t.so_many

  -- the next one is there
  pub turn_there : (a : StatementPlace) → next_unused files (project (so_far w)) sought ≡ Some a → IsNextRemoval a w
  turn_there a is = record { old = old; before = steps_so_far; so_far = t.removed; there = next_there (so_far w) files sought a is }

  module _ (within : i < turns) where
    by_turn : (o : Option StatementPlace) → next_unused files (project_of here) sought ≡ o
        → unused_steps (turns - i) files sought here
        ≡ option_map_or (λ a. removal_step (project_of here) a ∷ unused_steps (turns - (i + 1)) files (sought ++ names_read (project_of here) a) (trees_without a here)) o []
    by_turn o is =
        ap (λ n. unused_steps n files sought here) (let more : turns - i ≡ suc (turns - (i + 1)) = omega (arith, within) in more)
        ∙ ap (λ v. option_map_or (λ a. removal_step (project_of here) a ∷ unused_steps (turns - (i + 1)) files (sought ++ names_read (project_of here) a) (trees_without a here)) v []) is

    same_next : next_unused files (project_of here) sought ≡ next_unused files (project (so_far w)) sought
    same_next = next_bare (so_far w) (removed_project old steps_so_far w t.removed).parsed files sought

    pub no_more : None ≡ next_unused files (project (so_far w)) sought → HasRemoved old (before ++ unused_steps turns files names trees) w
    no_more none =
        let ends = t.joined ∙ ap (λ ss. t.so_many ++ ss) (by_turn None (same_next ∙ sym none)) ∙ append-nil t.so_many in
        subst (λ ss. HasRemoved old (before ++ ss) w) (sym ends) t.removed

    module _ (a : StatementPlace) (is : Some a ≡ next_unused files (project (so_far w)) sought) (new : Work) where
      abbrev step : Step
      step = removal_step (project (so_far w)) a

      pub turns_more : (names_now : List (List ℕ)) → names_now ≡ sought ++ names_read (project (so_far w)) a
          → ((o : Loaded) (b : List Step) → HasRemoved o b w → HasRemoved o (b ++ step ∷ []) new)
          → TurnsLeft files turns names trees old before (i + 1) names_now new
      turns_more names_now read done =
          let n = next_there (so_far w) files sought a (sym is) in
          let r = done old steps_so_far t.removed in
          let are = (removed_project old steps_so_far w t.removed).parsed in
          let on = trees_next old steps_so_far w t.removed a n new r.reached in
          let later = unused_steps (turns - (i + 1)) files names_now (plain_trees (so_far new)) in
          let turn =
          by_turn (Some a) (same_next ∙ sym is)
          ∙ ap₂ (λ s ns. s ∷ unused_steps (turns - (i + 1)) files (sought ++ ns) (trees_without a here)) (step_bare_tree (so_far w) are a) (names_read_bare (so_far w) are a)
          ∙ ap₂ (λ ns ts. step ∷ unused_steps (turns - (i + 1)) files ns ts) (sym read) on in
          record {
            so_many = t.so_many ++ step ∷ [];
            removed = subst (λ ss. HasRemoved old ss new) (append_assoc before t.so_many (step ∷ [])) r;
            joined = t.joined ∙ ap (λ ss. t.so_many ++ ss) turn ∙ sym (append_assoc t.so_many (step ∷ []) later);
          }

pub turns_last : (files : List File) (turns : ℕ) (names : List (List ℕ)) (trees : List Plain) (old : Loaded) (before : List Step) (i : ℕ) (sought : List (List ℕ)) (w : Work)
    → TurnsLeft files turns names trees old before i sought w → turns ≤ i → HasRemoved old (before ++ unused_steps turns files names trees) w
turns_last files turns names trees old before i sought w t past =
    let over : turns - i ≡ 0 = omega (arith, past) in
    let ends = t.joined ∙ ap (λ n. t.so_many ++ unused_steps n files sought (plain_trees (so_far w))) over ∙ append-nil t.so_many in
    subst (λ ss. HasRemoved old (before ++ ss) w) (sym ends) t.removed
