-- What changes where sources of a target are removed as they are met where variables are followed, whatever Meson does.
use Rattle.std.specs.Prelude.{◌≡◌, ℕ, List, map, Some, Ok}
use Rattle.std.specs.List.{All}
use Rattle.meson_lex.specs.declared.kinds.Span.{Span}
use Rattle.meson_syntax.specs.Tree.{Nowhere, Plain}
use Rattle.meson_calls.specs.declared.call.CallName.{CallName}
use Rattle.meson_calls.specs.declared.call.Role.TheVariants as role
use Rattle.meson_calls.specs.Calls.{Call}
use Rattle.meson_calls.specs.Finding.{the_call}
use Rattle.meson_calls.specs.Loading.{IsProject, Loaded, project}
use Rattle.meson_calls.specs.Project.{Placed, Project}
use Rattle.meson_steps.specs.declared.source_change.SharedLists.{SharedLists}
use Rattle.meson_steps.specs.ResultLimits.{plain_trees}
use Rattle.meson_steps.specs.Steps.{Step, all_stepped}
use Rattle.meson_sources.specs.SourceEdits.{Spot}
use Rattle.meson_followed.specs.FollowedEdits.{Removal, followed_removed}
use Rattle.meson_followed.specs.Laws.{AllGo, IsNamed}
use Rattle.meson_meaning.specs.Laws.{AreMissing, NameNoFolders, bare, names, trees}
use Rattle.meson_meaning.specs.Placing.{with_places}
use Rattle.meson_meaning.specs.Running.{run}
use Rattle.meson_meaning.specs.Spots.{is_spot}
use Rattle.meson_meaning.specs.States.{Choices}

-- where the elements stand
abbrev pub spots_of : List Removal → List Spot
spots_of gone = map (λ r. r.spot) gone

-- Where the sources stand that these names mean, and nowhere else, there are literals that each evaluation of the new build files misses. Apart from them it makes
-- what the same evaluation of the old build files makes.
pub record OnlySourcesGo (p : Project Span) (c : Placed (Call Span)) (named : List (List ℕ)) (after : List Plain) : Type 0 where
  pub gone : List Removal
  pub only_named : All (IsNamed p c named) gone
  pub all_named : All (AllGo p c gone) named
  pub missing : NameNoFolders bare (is_spot (spots_of gone)) (with_places p) → (new : Project Nowhere) → trees new ≡ after → names new ≡ names p → (ch : Choices)
      → AreMissing bare (is_spot (spots_of gone)) (run ch (with_places p)) (run ch new)

-- the law: where sources of a target are removed that are met where variables are followed, nothing else changes, whatever Meson does
abbrev pub OnlyFollowedGo : Type 0
OnlyFollowedGo = (old : Loaded) → IsProject old → (target : CallName) (c : Placed (Call Span)) → the_call (project old) role.Target target ≡ Ok c
    → (shared : SharedLists) (removed : List (List ℕ)) (steps : List Step) (after : List Plain)
    → followed_removed (project old) c shared removed ≡ Ok steps → all_stepped steps (plain_trees old) ≡ Some after
    → OnlySourcesGo (project old) c removed after
