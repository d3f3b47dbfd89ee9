-- What a project holds: the calls that make targets, and the `subdir` calls that enter none of its files, by how the files are read.
use Rattle.std.specs.Prelude.{ℕ, Bool, not, List, [], filter, codes, Option, Some, None, option_map, if◌then◌else◌, Result, Ok, Err}
use Rattle.std.specs.List.{filter_map, list_any}
use Rattle.meson_lex.specs.declared.kinds.Span.{Span}
use Rattle.meson_syntax.specs.Tree.{Expression, call}
use Rattle.meson_calls.specs.declared.call.CallName.{CallName}
use Rattle.meson_calls.specs.declared.call.CallRef.{CallRef}
use Rattle.meson_calls.specs.declared.call.Reading.{Reading}
use Rattle.meson_calls.specs.declared.call.Role.{Role}
use Rattle.meson_calls.specs.declared.refusal.Refusal.{Refusal}
use Rattle.meson_calls.specs.Calls.{Call, all_chosen, calls, calls_function}
use Rattle.meson_calls.specs.FileNames.{is_file}
use Rattle.meson_calls.specs.Loading.{Loaded, project}
use Rattle.meson_calls.specs.Project.{BuildFile, Placed, Project, expression_at, nth_file}
use Rattle.meson_calls.specs.Roles.{places, targets}
use Rattle.meson_details.specs.Details.{head}
use Rattle.meson_entering.specs.Entering.{files_meant}
use Rattle.meson_plan.specs.Named.{places_named}
use Rattle.meson_targets.specs.TargetEdits.{variable_of}
use Rattle.meson_inventory.specs.declared.holdings.HeldCall.{HeldCall}
use Rattle.meson_inventory.specs.declared.holdings.Holdings.{Holdings}

-- ---- calls

-- the offset after the last byte of a call; 0 if it is not one
abbrev pub call_end : Option (Expression Span) → ℕ
call_end (Some (call s f arguments)) = s.to
call_end _ = 0

-- the call there: the number of its file, its head, the variable that a statement sets to it, and where it ends
abbrev pub held_call : Loaded → CallRef → Option HeldCall
held_call l c = option_map (λ h. record { file = c.file; head = h; variable = variable_of (project l) c; end = call_end (expression_at (project l) c) })
    (head (project l) c)

abbrev pub held_calls : Loaded → List CallRef → List HeldCall
held_calls l cs = filter_map (held_call l) cs

-- the calls of a function, in file order and source order
abbrev pub with_function : {S : Type 0} → List ℕ → Call S → Option (Call S)
with_function f c = if calls_function f c then Some c else None

abbrev pub function_calls : {S : Type 0} → Project S → List ℕ → List (Placed (Call S))
function_calls p f = all_chosen (with_function f) (calls p)

abbrev pub calls_of : {S : Type 0} → Project S → List ℕ → List CallRef
calls_of p f = places (function_calls p f)

abbrev pub calls_held : Loaded → List ℕ → List HeldCall
calls_held l f = held_calls l (calls_of (project l) f)

-- the calls that are named, in file order and source order; none where the folder has no build file
abbrev pub held_named : Loaded → Result (List CallRef) Refusal → List HeldCall
held_named l (Err e) = []
held_named l (Ok cs) = held_calls l cs

abbrev pub calls_named : Loaded → Role → CallName → List HeldCall
calls_named l r name = held_named l (places_named (project l) r name)

-- ---- what a project holds

-- the names of the files that a `subdir` call in this file may mean
abbrev pub files_meant_in : Reading → Option (BuildFile Span) → Placed (Call Span) → List (List ℕ)
files_meant_in reading None c = []
files_meant_in reading (Some f) c = files_meant reading f c.place.path.steps c.it

-- whether it enters one of the files: one that it may mean is among them
abbrev pub enters_one : Reading → Loaded → Placed (Call Span) → Bool
enters_one reading l c = list_any (is_file l.files) (files_meant_in reading (nth_file (project l) c.place.file) c)

abbrev pub not_entered : Reading → Loaded → List (Placed (Call Span)) → List (Placed (Call Span))
not_entered reading l cs = filter (λ c. not (enters_one reading l c)) cs

abbrev pub targets_held : Loaded → List HeldCall
targets_held l = held_calls l (targets (project l))

abbrev pub subdirs_held : Reading → Loaded → List HeldCall
subdirs_held reading l = held_calls l (places (not_entered reading l (function_calls (project l) (codes "subdir"))))

abbrev pub holdings : Reading → Loaded → Holdings
holdings reading l = record { targets = targets_held l; not_entered = subdirs_held reading l }
