-- Assigned values: which places have one, and the step that assigns another value there.
use Rattle.std.specs.Prelude.{ℕ, suc, ◌-◌, nat_eq, nat_le, Bool, true, not, List, [], ◌∷◌, length, take, is_some, if◌then◌else◌, option_and_then, Result, Ok, Err}
use Rattle.std.specs.List.{list_any}
use Rattle.meson_lex.specs.declared.kinds.Span.{Span}
use Rattle.meson_syntax.specs.Grammar.{expression_depth}
use Rattle.meson_syntax.specs.Reads.{max_depth}
use Rattle.meson_syntax.specs.Tree.{Expression, Nowhere}
use Rattle.meson_edit.specs.Assigned.{assigned_at}
use Rattle.meson_edit.specs.Edits.{Assign, Written}
use Rattle.meson_calls.specs.declared.call.CallRef.{CallRef}
use Rattle.meson_calls.specs.declared.refusal.Refusal.{Refusal}
use Rattle.meson_calls.specs.declared.refusal.Refusal.TheVariants.{NotLiteral, TooDeep}
use Rattle.meson_calls.specs.Project.{Project, nth_file, place}
use Rattle.meson_steps.specs.Steps.{Step, step_in}
use Rattle.meson_steps.specs.declared.given.Given.{Given}
use Rattle.meson_steps.specs.declared.given.Given.TheVariants as given

-- the place of the statement that an expression is the first child of
abbrev pub above : List ℕ → List ℕ
above path = take (length path - 1) path

abbrev pub statement_of : CallRef → CallRef
statement_of c = place c.file (above c.path.steps)

-- The expression at a place is the value that an assignment assigns.
abbrev pub is_assigned : Project Span → CallRef → Bool
is_assigned p c = is_some (option_and_then (λ f. assigned_at f.tree (above c.path.steps)) (nth_file p c.file))

-- Code for an assigned value is on one line, since the line of an assignment ends where the code's first line does.
abbrev pub is_one_line : Given → Bool
is_one_line (given.Text text) = true
is_one_line (given.Switch b) = true
is_one_line (given.Code code) = not (list_any (λ b. nat_eq b 10) code)

-- the assignment assigns another value
abbrev pub assign_steps : CallRef → Written (Expression Nowhere) → List Step
assign_steps c w = step_in c (Assign (above c.path.steps) w) ∷ []

abbrev pub assigned_if : (key : List ℕ) → CallRef → Given → Written (Expression Nowhere) → Result (List Step) Refusal
assigned_if key c g w = if is_one_line g then Ok (assign_steps c w) else Err (NotLiteral key)

-- ---- room

-- the number of `if` and `foreach` around the statement at a path: each takes two steps of it
abbrev pub around : List ℕ → ℕ
around [] = 0
around (n ∷ []) = 0
around (n ∷ m ∷ path) = suc (around path)

-- With the expression assigned there, that statement nests no deeper than a file may.
abbrev pub assigned_room : CallRef → Expression Nowhere → Bool
assigned_room c e = nat_le (expression_depth e) (max_depth - around (above c.path.steps))

-- the steps, if there is
abbrev pub assigned_roomy : (key : List ℕ) → CallRef → Given → Written (Expression Nowhere) → Result (List Step) Refusal
assigned_roomy key c g w = if assigned_room c w.node then assigned_if key c g w else Err TooDeep
