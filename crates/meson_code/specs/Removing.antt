-- What the removal of code means: the statement goes, and with `unused` each assignment that nothing needs after that.
use Rattle.std.specs.Prelude.{Bool, List, ◌++◌, length, if◌then◌else◌, Result, Ok}
use Rattle.meson_splice.specs.Patch.{then_ok}
use Rattle.meson_calls.specs.declared.refusal.Refusal.{Refusal}
use Rattle.meson_calls.specs.Loading.{Loaded, project}
use Rattle.meson_calls.specs.Notes.{notes}
use Rattle.meson_steps.specs.declared.argument.Search.{Search}
use Rattle.meson_steps.specs.ResultLimits.{plain_trees}
use Rattle.meson_steps.specs.Steps.{Step}
use Rattle.meson_targets.specs.TargetEdits.{StatementPlace}
use Rattle.meson_code.specs.Anchors.{the_anchor}
use Rattle.meson_code.specs.Removal.{removed_at}
use Rattle.meson_code.specs.Unused.{names_read, trees_without, unused_steps}

-- The steps after the removal of a statement. There are as many turns as the project has calls, assignments and loops.
abbrev pub steps_after : Loaded → StatementPlace → List Step
steps_after l a = unused_steps (length (notes (project l))) l.files (names_read (project l) a) (trees_without a (plain_trees l))

abbrev pub code_removed_at : Loaded → (unused : Bool) → StatementPlace → Result (List Step) Refusal
code_removed_at l unused a = then_ok (removed_at l a) (λ steps. Ok (if unused then steps ++ steps_after l a else steps))

-- the steps of the command
abbrev pub code_removed : Loaded → Search → (unused : Bool) → Result (List Step) Refusal
code_removed l s unused = then_ok (the_anchor l s) (code_removed_at l unused)
