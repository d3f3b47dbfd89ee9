-- The assignments of a project.
use Rattle.std.specs.Prelude.{ℕ, List, Option, Some, None}
use Rattle.std.specs.List.{filter_map}
use Rattle.meson_lex.specs.declared.kinds.Span.{Span}
use Rattle.meson_syntax.specs.Tree.{assign}
use Rattle.meson_edit.specs.Standing.{expression_span}
use Rattle.meson_calls.specs.Loading.{Loaded, project}
use Rattle.meson_calls.specs.Notes.{is_set}
use Rattle.meson_calls.specs.Parts.{Part, a_statement, parts}
use Rattle.meson_calls.specs.Project.{Placed}
use Rattle.meson_inventory.specs.declared.assignments.HeldAssignment.{HeldAssignment}

-- the assignment that a part of the file of this number is, from the variable to the end of its value
abbrev pub assignment_of : ℕ → Part Span → Option HeldAssignment
assignment_of file (a_statement (assign s x a e)) =
    Some (record { file = file; span = record { from = x.place.from; to = (expression_span e).to }; variable = x.text; sets = is_set a })
assignment_of file _ = None

abbrev pub assignments_among : List (Placed (Part Span)) → List HeldAssignment
assignments_among ps = filter_map (λ q. assignment_of q.place.file q.it) ps

-- those of a project, in file order and source order
abbrev pub assignments : Loaded → List HeldAssignment
assignments l = assignments_among (parts (project l))
