-- What all commands read: the calls, assignments and loops of a project, with their places.
use Rattle.std.specs.Prelude.{ℕ, Bool, true, false, List, map, slice_range, Option, Some, None, option_map}
use Rattle.meson_lex.specs.declared.kinds.Span.{Span}
use Rattle.meson_syntax.specs.declared.operator.Assignment.{Assignment}
use Rattle.meson_syntax.specs.declared.operator.Assignment.TheVariants as assignment
use Rattle.meson_syntax.specs.Tree.{Name, Expression, Statement, evaluate, assign, selection, iteration, breaks, continues}
use Rattle.meson_syntax.specs.View.{text_at, names_at, expr_view, list_view}
use Rattle.meson_calls.specs.declared.note.Note as code
use Rattle.meson_calls.specs.declared.note.Ranged.{Ranged}
use Rattle.meson_calls.specs.declared.taken.Taken.{Taken}
use Rattle.meson_calls.specs.declared.note.What.{What}
use Rattle.meson_calls.specs.declared.note.What.TheVariants as what
use Rattle.meson_calls.specs.Project.{Project, Placed, place, place_at, placed}
use Rattle.meson_calls.specs.Parts.{Part, an_expression, a_statement, parts}
use Rattle.meson_calls.specs.Calls.{Call, call_of, all_chosen}

pub data Note (S : Type 0) : Type 0 where
  a_call : Call S → Note S
  -- a variable, whether it is set, and the value
  an_assignment : List ℕ → Bool → Expression S → Note S
  a_loop : List (Name S) → Note S

abbrev pub is_set : Assignment → Bool
is_set assignment.Set = true
is_set assignment.Add = false

abbrev pub statement_note : {S : Type 0} → Statement S → Option (Note S)
statement_note (evaluate e) = None
statement_note (assign s x a e) = Some (an_assignment x.text (is_set a) e)
statement_note (selection s bs o) = None
statement_note (iteration s xs e b) = Some (a_loop xs)
statement_note (breaks s) = None
statement_note (continues s) = None

abbrev pub note_of : {S : Type 0} → Part S → Option (Note S)
note_of (an_expression e) = option_map a_call (call_of e)
note_of (a_statement s) = statement_note s

abbrev pub noted : {S : Type 0} → List (Placed (Part S)) → List (Placed (Note S))
noted ps = all_chosen note_of ps

abbrev pub notes : {S : Type 0} → Project S → List (Placed (Note S))
notes p = noted (parts p)

-- ---- what the code's notes mean

abbrev pub what_view : List ℕ → What → Note Span
what_view source (what.Call f l) = a_call (record { function = text_at source f; arguments = list_view source l.now })
what_view source (what.Assign x sets e) = an_assignment (text_at source x) sets (expr_view source e.now)
what_view source (what.Loop xs) = a_loop (names_at source xs.now)

abbrev pub note_view : code.Note → Placed (Note Span)
note_view n = placed (place_at n.place) (what_view n.source.now n.what)

abbrev pub note_views : List code.Note → List (Placed (Note Span))
note_views ns = map note_view ns

-- while they are gathered: the path of each is a range of the steps
abbrev pub ranged_view : List ℕ → Ranged → Placed (Note Span)
ranged_view steps r = placed (place r.file (slice_range steps r.from r.to)) (what_view r.source.now r.what)

abbrev pub taken_view : Taken → List (Placed (Note Span))
taken_view t = map (ranged_view t.steps.items) t.notes.items
