-- No item of a target is met twice.
use Rattle.std.specs.Prelude.{◌≡◌, ◌≢◌, List, AllPairs, Ok}
use Rattle.meson_lex.specs.declared.kinds.Span.{Span}
use Rattle.meson_calls.specs.declared.call.Role.TheVariants as role
use Rattle.meson_calls.specs.Calls.{Call}
use Rattle.meson_calls.specs.Finding.{the_call}
use Rattle.meson_calls.specs.Loading.{IsProject, Loaded, project}
use Rattle.meson_calls.specs.Project.{Placed}
use Rattle.meson_variables.specs.Expansion.{Item}
use Rattle.meson_variables.specs.TargetSources.{items, source_marks}
use Rattle.meson_sources.specs.SourceEdits.{extra_marks}
use Rattle.meson_calls.specs.declared.call.CallName.{CallName}

-- no two are at one place
abbrev pub StandApart : List (Item Span) → Type 0
StandApart is = AllPairs (λ i j. i.place ≢ j.place) is

-- the law: each item of a target is met once, whichever variables are followed to it, among its sources and among its extra files
abbrev pub ItemsAreMetOnce : Type 0
ItemsAreMetOnce = (old : Loaded) → IsProject old → (target : CallName) (c : Placed (Call Span)) → the_call (project old) role.Target target ≡ Ok c
    → StandApart (items (source_marks (project old) c)) × StandApart (items (extra_marks (project old) c))
