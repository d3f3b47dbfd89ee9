-- All extra files of a target after an addition and after a removal, by `extra_files`.
use Rattle.std.specs.Prelude.{◌≡◌, ℕ, List, All, Some, Ok}
use Rattle.std.specs.Str.{IsUtf8}
use Rattle.meson_lex.specs.declared.kinds.Span.{Span}
use Rattle.meson_calls.specs.declared.call.Role.TheVariants as role
use Rattle.meson_calls.specs.Calls.{Call}
use Rattle.meson_calls.specs.Finding.{the_call}
use Rattle.meson_calls.specs.Loading.{IsProject, Loaded, project}
use Rattle.meson_calls.specs.Project.{Placed, Project}
use Rattle.meson_steps.specs.ResultLimits.{plain_trees}
use Rattle.meson_steps.specs.Steps.{Step, all_stepped}
use Rattle.meson_sources.specs.Extras.{extra_files}
use Rattle.meson_sources.specs.SourceEdits.{extra_added, extra_marks, extra_removed, new_names}
use Rattle.meson_sources.specs.WholeSources.{FilesGrow, FilesShrink, file_names}
use Rattle.meson_calls.specs.declared.call.CallName.{CallName}

abbrev pub ExtrasShrink : List (List ℕ) → CallName → Placed (Call Span) → Project Span → Project Span → Type 0
ExtrasShrink = FilesShrink extra_files

-- the law: after a removal a target has the extra files that it had, but none of those that are named
abbrev pub AllExtrasShrink : Type 0
AllExtrasShrink = (old new : Loaded) → IsProject old → file_names new ≡ file_names old → (target : CallName) (c : Placed (Call Span))
    → the_call (project old) role.Target target ≡ Ok c
    → (names : List (List ℕ)) (steps : List Step) → extra_removed (project old) c names ≡ Ok steps
    → all_stepped steps (plain_trees old) ≡ Some (plain_trees new)
    → ExtrasShrink names target c (project old) (project new)

abbrev pub ExtrasGrow : List (List ℕ) → CallName → Placed (Call Span) → Project Span → Project Span → Type 0
ExtrasGrow = FilesGrow extra_files

-- the law: after an addition a target has the extra files that it had and those that are added and were not there, each once
abbrev pub AllExtrasGrow : Type 0
AllExtrasGrow = (old new : Loaded) → IsProject old → file_names new ≡ file_names old → (target : CallName) (c : Placed (Call Span))
    → the_call (project old) role.Target target ≡ Ok c
    → (names : List (List ℕ)) → All IsUtf8 names → (steps : List Step) → extra_added (project old) c names ≡ Ok steps
    → all_stepped steps (plain_trees old) ≡ Some (plain_trees new)
    → ExtrasGrow (new_names (extra_marks (project old) c) names) target c (project old) (project new)
