-- What changes where sources of a target are removed, whatever Meson does.
use Rattle.std.specs.Prelude.{◌≡◌, ℕ, List, Some, Ok}
use Rattle.meson_lex.specs.declared.kinds.Span.{Span}
use Rattle.meson_syntax.specs.Tree.{Nowhere, Plain}
use Rattle.meson_calls.specs.declared.call.CallName.{CallName}
use Rattle.meson_calls.specs.declared.call.Role.TheVariants as role
use Rattle.meson_calls.specs.Calls.{Call}
use Rattle.meson_calls.specs.Finding.{the_call}
use Rattle.meson_calls.specs.Loading.{IsProject, Loaded, project}
use Rattle.meson_calls.specs.Project.{Placed, Project}
use Rattle.meson_variables.specs.Expansion.{Item}
use Rattle.meson_variables.specs.TargetSources.{items, source_marks}
use Rattle.meson_steps.specs.Names.{distinct}
use Rattle.meson_steps.specs.ResultLimits.{plain_trees}
use Rattle.meson_steps.specs.Steps.{Step, all_stepped}
use Rattle.meson_sources.specs.Effects.{AreSpotsOf}
use Rattle.meson_sources.specs.SourceEdits.{Spot, extra_marks, extra_removed, sources_removed}
use Rattle.meson_meaning.specs.Laws.{AreMissing, NameNoFolders, bare, names, trees}
use Rattle.meson_meaning.specs.Placing.{with_places}
use Rattle.meson_meaning.specs.Running.{run}
use Rattle.meson_meaning.specs.Spots.{is_spot}
use Rattle.meson_meaning.specs.States.{Choices}

-- Where the items of these names stand, and nowhere else, there are literals that each evaluation of the new build files misses. Apart from them it makes what
-- the same evaluation of the old build files makes.
pub record OnlyItemsGo (p : Project Span) (is : List (Item Span)) (named : List (List ℕ)) (after : List Plain) : Type 0 where
  pub spots : List Spot
  pub of_names : AreSpotsOf is named spots
  pub missing : NameNoFolders bare (is_spot spots) (with_places p) → (new : Project Nowhere) → trees new ≡ after → names new ≡ names p → (ch : Choices)
      → AreMissing bare (is_spot spots) (run ch (with_places p)) (run ch new)

-- The laws: where sources of a target are removed, or extra files, nothing else changes, whatever Meson does.
abbrev pub OnlyRemovedGo : Type 0
OnlyRemovedGo = (old : Loaded) → IsProject old → (target : CallName) (c : Placed (Call Span)) → the_call (project old) role.Target target ≡ Ok c
    → (removed : List (List ℕ)) (steps : List Step) (after : List Plain)
    → sources_removed (project old) c removed ≡ Ok steps → all_stepped steps (plain_trees old) ≡ Some after
    → OnlyItemsGo (project old) (items (source_marks (project old) c)) (distinct removed) after

abbrev pub OnlyExtraGoes : Type 0
OnlyExtraGoes = (old : Loaded) → IsProject old → (target : CallName) (c : Placed (Call Span)) → the_call (project old) role.Target target ≡ Ok c
    → (removed : List (List ℕ)) (steps : List Step) (after : List Plain)
    → extra_removed (project old) c removed ≡ Ok steps → all_stepped steps (plain_trees old) ≡ Some after
    → OnlyItemsGo (project old) (items (extra_marks (project old) c)) (distinct removed) after
