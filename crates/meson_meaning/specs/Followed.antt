-- What changes where sources of a target are left out of lists, as they are met where variables are followed.
use Rattle.std.specs.Prelude.{◌≡◌, true, List, Ok}
use Rattle.std.specs.List.{AllByRecursion, Contains}
use Rattle.meson_lex.specs.declared.kinds.Span.{Span}
use Rattle.meson_syntax.specs.Tree.{Nowhere}
use Rattle.meson_calls.specs.declared.call.CallName.{CallName}
use Rattle.meson_calls.specs.declared.call.Role.TheVariants as role
use Rattle.meson_calls.specs.Calls.{Call}
use Rattle.meson_calls.specs.Finding.{the_call}
use Rattle.meson_calls.specs.Loading.{IsProject, Loaded, project}
use Rattle.meson_calls.specs.Project.{Placed, Project, child}
use Rattle.meson_following.specs.Following.{Item, follow_marks, known}
use Rattle.meson_steps.specs.ResultLimits.{plain_trees}
use Rattle.meson_sources.specs.Effects.{trees_without}
use Rattle.meson_sources.specs.SourceEdits.{Spot}
use Rattle.meson_meaning.specs.Laws.{AreMissing, NameNoFolders, bare, names, trees}
use Rattle.meson_meaning.specs.Placing.{with_places}
use Rattle.meson_meaning.specs.Running.{run}
use Rattle.meson_meaning.specs.Spots.{is_spot}
use Rattle.meson_meaning.specs.States.{Choices}

-- At the spot stands a source that the target may have, in a list.
pub record IsListed (p : Project Span) (c : Placed (Call Span)) (s : Spot) : Type 0 where
  pub item : Item Span
  pub is_met : Contains (follow_marks p c) (known item)
  pub is_listed : item.listed ≡ true
  pub stands : item.place ≡ child s.list s.number

-- the law: where such sources are removed, nothing else changes, whatever Meson does
abbrev pub OnlyListedGo : Type 0
OnlyListedGo = (old : Loaded) → IsProject old → (target : CallName) (c : Placed (Call Span)) → the_call (project old) role.Target target ≡ Ok c
    → (spots : List Spot) → AllByRecursion (IsListed (project old) c) spots → NameNoFolders bare (is_spot spots) (with_places (project old))
    → (after : Project Nowhere) → trees after ≡ trees_without spots (plain_trees old) → names after ≡ names (project old)
    → (ch : Choices) → AreMissing bare (is_spot spots) (run ch (with_places (project old))) (run ch after)
