-- The steps of tasks, each task on the trees that the steps of the earlier ones leave.
use Rattle.std.specs.Prelude.{List, [], ◌∷◌, ◌++◌, map, length, unwrap_or, option_and_then, Result, Ok}
use Rattle.std.specs.Option.{option_map_or}
use Rattle.meson_splice.specs.Patch.{then_ok}
use Rattle.meson_syntax.specs.Tree.{Nowhere, Plain, Argument, erase}
use Rattle.meson_syntax.specs.Paths.{list_at, nth}
use Rattle.meson_edit.specs.Edits.{elements}
use Rattle.meson_calls.specs.declared.call.CallRef.{CallRef}
use Rattle.meson_calls.specs.declared.refusal.Refusal.{Refusal}
use Rattle.meson_calls.specs.Project.{Project, Placed}
use Rattle.meson_calls.specs.Calls.{Call, keyword}
use Rattle.meson_calls.specs.NamedArguments.{kwargs_key, not_hidden}
use Rattle.meson_steps.specs.Steps.{Step, all_stepped}
use Rattle.meson_keywords.specs.Tasks.{Task, set, delete, add, remove, once, set_option, delete_option}
use Rattle.meson_keywords.specs.KeywordEdits.{the_value, set_there, delete_there, add_there, remove_there}
use Rattle.meson_keywords.specs.Options.{options_key, set_option_there, delete_option_there}

-- ---- one task, by the elements of the call at a place

abbrev pub task_steps : {S : Type 0} → Task → CallRef → List (Argument S) → Result (List Step) Refusal
task_steps (set key new) c xs = then_ok (the_value key xs) (λ v. Ok (set_there c (length xs) key new v ∷ []))
task_steps (delete key) c xs = then_ok (the_value key xs) (λ v. Ok (delete_there c v))
task_steps (add key k values) c xs = then_ok (the_value key xs) (add_there c (length xs) key k values)
task_steps (remove key k value) c xs = then_ok (the_value key xs) (remove_there c key k value)
task_steps (once key) c xs = then_ok (the_value key xs) (λ v. Ok [])
task_steps (set_option name value) c xs = then_ok (the_value options_key xs) (set_option_there c (length xs) name value)
task_steps (delete_option name) c xs = then_ok (the_value options_key xs) (delete_option_there c name)

-- ---- one task after another

-- the elements of the call, as the trees have it
abbrev pub elements_in : CallRef → List Plain → List (Argument Nowhere)
elements_in c trees = option_map_or (λ p. elements p.list) (option_and_then (λ t. list_at t c.path.steps) (nth trees c.file)) []

-- the trees after steps; the steps name what is there
abbrev pub trees_after : List Step → List Plain → List Plain
trees_after steps trees = unwrap_or (all_stepped steps trees) trees

abbrev pub tasks_steps : CallRef → List Task → List Plain → Result (List Step) Refusal
tasks_steps c [] trees = Ok []
tasks_steps c (t ∷ more) trees =
    then_ok (task_steps t c (elements_in c trees)) (λ here. then_ok (tasks_steps c more (trees_after here trees)) (λ later. Ok (here ++ later)))

-- ---- the tasks of a command, once its call is found

abbrev pub trees_of : {S : Type 0} → Project S → List Plain
trees_of p = map (λ f. erase f.tree) p

-- first the command's words, then whether the call may have hidden arguments, then task by task
abbrev pub call_changed : {S : Type 0} → Project S → Result (List Task) Refusal → Placed (Call S) → Result (List Step) Refusal
call_changed p tasks c = then_ok tasks (λ ts. then_ok (not_hidden (keyword kwargs_key c.it)) (λ _. tasks_steps c.place ts (trees_of p)))
