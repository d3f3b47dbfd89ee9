-- A removal of several names is one removal after another.
use Rattle.std.specs.Prelude.{◌≡◌, ℕ, false, List, [], ◌∷◌, ◌++◌, Some, Result, Ok}
use Rattle.meson_lex.specs.declared.kinds.Span.{Span}
use Rattle.meson_calls.specs.declared.call.Role.TheVariants as role
use Rattle.meson_calls.specs.declared.refusal.Refusal.{Refusal}
use Rattle.meson_calls.specs.Calls.{Call}
use Rattle.meson_calls.specs.Finding.{the_call}
use Rattle.meson_calls.specs.Loading.{IsProject, Loaded, project}
use Rattle.meson_calls.specs.Project.{Placed, Project}
use Rattle.meson_calls.specs.Roles.{one_of}
use Rattle.meson_steps.specs.ResultLimits.{plain_trees}
use Rattle.meson_steps.specs.Steps.{Step, all_stepped}
use Rattle.meson_sources.specs.SourceEdits.{extra_removed, sources_removed}
use Rattle.meson_sources.specs.WholeSources.{file_names}
use Rattle.meson_calls.specs.declared.call.CallName.{CallName}

-- the steps that remove these names from the call of a target
abbrev pub Removes : Type 0
Removes = Project Span → Placed (Call Span) → List (List ℕ) → Result (List Step) Refusal

-- Names are removed by the steps that remove the first, and then by those that remove the others from the project that this leaves.
abbrev pub GoInTurn : Removes → Type 0
GoInTurn removed = (old mid : Loaded) → IsProject old → IsProject mid → file_names mid ≡ file_names old → (target : CallName) (c d : Placed (Call Span))
    → the_call (project old) role.Target target ≡ Ok c → the_call (project mid) role.Target target ≡ Ok d
    → (name : List ℕ) (more : List (List ℕ)) → one_of more name ≡ false → (first all : List Step)
    → removed (project old) c (name ∷ []) ≡ Ok first → all_stepped first (plain_trees old) ≡ Some (plain_trees mid)
    → removed (project old) c (name ∷ more) ≡ Ok all
    → (rest : List Step) × (removed (project mid) d more ≡ Ok rest) × (all ≡ first ++ rest)

-- the laws: for sources, and for extra files
abbrev pub SourcesGoInTurn : Type 0
SourcesGoInTurn = GoInTurn (λ p c names. sources_removed p c names)

abbrev pub ExtrasGoInTurn : Type 0
ExtrasGoInTurn = GoInTurn (λ p c names. extra_removed p c names)
