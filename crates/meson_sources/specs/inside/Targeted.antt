-- The steps of a change of a target as the code makes them.
use Rattle.std.specs.Prelude.{ℕ, ◌-◌, List, [], ◌∷◌, Result, Ok}
use Rattle.meson_lex.specs.declared.kinds.Span.{Span}
use Rattle.meson_syntax.specs.declared.tree.Arg.{Arg}
use Rattle.meson_syntax.specs.Tree.{Expression}
use Rattle.meson_edit.specs.Edits.{After}
use Rattle.meson_calls.specs.declared.call.CallRef.{CallRef}
use Rattle.meson_calls.specs.declared.refusal.Refusal.{Refusal}
use Rattle.meson_calls.specs.Calls.{Numbered, value_with_name}
use Rattle.meson_calls.specs.Calls as calls
use Rattle.meson_variables.specs.Expansion.{fixed}
use Rattle.meson_calls.specs.Project.{Project, child}
use Rattle.meson_steps.specs.Steps.{step_in, Step}
use Rattle.meson_sources.specs.SourceEdits.{extra_key, written_keyword, insertion_steps, behind_value}
use Rattle.meson_calls.specs.NamedArguments.{kept_args}
use Rattle.meson_variables.specs.ExpandedArguments.{arguments_by}
use Rattle.meson_variables.specs.Tallies.{Gathered, expanded, no_marks}

-- all that `extra_files:` holds
abbrev pub extra_gathered : Project Span → ℕ → CallRef → List ℕ → List Arg → Gathered
extra_gathered p left c source args = expanded no_marks (arguments_by p left c (λ n. fixed) (kept_args source (value_with_name extra_key) 0 args))

-- the first into a new list after this number of arguments, and the others after it
abbrev pub new_list_steps : CallRef → ℕ → List (List ℕ) → List Step
new_list_steps c n [] = []
new_list_steps c n (name ∷ more) = step_in c (After c.path.steps (n - 1) (written_keyword name)) ∷ insertion_steps (child c n) 1 more

abbrev pub lone_or_new : {S : Type 0} → CallRef → ℕ → List (Numbered (Expression S)) → List (List ℕ) → Result (List Step) Refusal
lone_or_new c n values [] = Ok []
lone_or_new c n [] (name ∷ more) = Ok (new_list_steps c n (name ∷ more))
lone_or_new c n (v ∷ values) (name ∷ more) = behind_value c v.number (calls.literal_of v.value) (name ∷ more)
