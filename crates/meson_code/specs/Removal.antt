-- A statement that is removed: its step, or why it is refused.
use Rattle.std.specs.Prelude.{ℕ, ◌+◌, ◌==◌, Bool, ◌||◌, List, [], ◌∷◌, ◌++◌, map, take, drop, codes, bytes_eq, if◌then◌else◌, is_none, Option, Some, None, option_map, unwrap_or, Result, Ok, Err}
use Rattle.std.specs.List.{find, list_any}
use Rattle.std.specs.Option.{option_to_list}
use Rattle.meson_lex.specs.declared.kinds.Span.{Span}
use Rattle.meson_splice.specs.declared.file_set.File.{File}
use Rattle.meson_layout.specs.declared.primitive.BlankLines.{BlankLines}
use Rattle.meson_layout.specs.declared.primitive.BlankLines.TheVariants.{Trim}
use Rattle.meson_edit.specs.Edits.{RemoveStatement}
use Rattle.meson_edit.specs.Standing.{statement_span}
use Rattle.meson_calls.specs.declared.refusal.Refusal.{Refusal}
use Rattle.meson_calls.specs.declared.refusal.Refusal.TheVariants.{InUse}
use Rattle.meson_calls.specs.Calls.{first_literal}
use Rattle.meson_calls.specs.Loading.{Loaded, project}
use Rattle.meson_calls.specs.Notes.{Note, a_call, an_assignment, a_loop, notes}
use Rattle.meson_calls.specs.Project.{Placed, Project}
use Rattle.meson_steps.specs.Steps.{Step}
use Rattle.meson_targets.specs.TargetEdits.{StatementPlace, is_in_statement, is_used_outside, statement_there}
use Rattle.meson_places.specs.Uses.{placeholder, source_holds}

-- ---- the variables that a statement sets: Meson manual, Syntax, "Variables", "Foreach statements"; Reference manual, `set_variable`

-- those that a note sets; `+=` sets none, since the variable is there without it
abbrev pub names_set : {S : Type 0} → Note S → List (List ℕ)
names_set (a_call c) = if bytes_eq c.function (codes "set_variable") then option_to_list (first_literal c) else []
names_set (an_assignment x sets e) = if sets then x ∷ [] else []
names_set (a_loop xs) = map (λ x. x.text) xs

-- those that the notes within a statement set, in source order
abbrev pub set_within : {S : Type 0} → StatementPlace → List (Placed (Note S)) → List (List ℕ)
set_within a [] = []
set_within a (n ∷ ns) = (if is_in_statement a n.place then names_set n.it else []) ++ set_within a ns

abbrev pub set_by : {S : Type 0} → Project S → StatementPlace → List (List ℕ)
set_by p a = set_within a (notes p)

-- ---- the texts outside a statement

abbrev pub no_span : Span
no_span = record { from = 0; to = 0 }

-- the span of the statement at a place
abbrev pub span_at : Loaded → StatementPlace → Span
span_at l a = unwrap_or (option_map statement_span (statement_there (project l) a)) no_span

-- The text of the n-th file. Of the file of this number it is the text before the span and the text after it.
abbrev pub texts_beside : (file : ℕ) → Span → (n : ℕ) → (bytes : List ℕ) → List (List ℕ)
texts_beside file s n bytes = if n == file then take s.from bytes ∷ drop s.to bytes ∷ [] else bytes ∷ []

-- those of files, of which the first has the number n
abbrev pub texts_from : (file : ℕ) → Span → (n : ℕ) → List File → List (List ℕ)
texts_from file s n [] = []
texts_from file s n (f ∷ files) = texts_beside file s n f.bytes ++ texts_from file s (n + 1) files

abbrev pub texts_outside : List File → (file : ℕ) → Span → List (List ℕ)
texts_outside files file s = texts_from file s 0 files

-- ---- what is used outside it

-- whether a format string outside the statement holds the variable
abbrev pub is_formatted_outside : Loaded → StatementPlace → List ℕ → Bool
is_formatted_outside l a x = list_any (source_holds (placeholder x)) (texts_outside l.files a.block.file (span_at l a))

abbrev pub is_needed : Loaded → StatementPlace → List ℕ → Bool
is_needed l a x = is_used_outside (project l) a x || is_formatted_outside l a x

-- the first of the variables that it sets
abbrev pub first_needed : Loaded → StatementPlace → Option (List ℕ)
first_needed l a = find (is_needed l a) (set_by (project l) a)

-- ---- the step

-- the place of the next statement of the block
abbrev pub place_after : StatementPlace → StatementPlace
place_after a = record { block = a.block; number = a.number + 1 }

abbrev pub is_last : {S : Type 0} → Project S → StatementPlace → Bool
is_last p a = is_none (statement_there p (place_after a))

-- the blank lines that would be too many without the statement
abbrev pub blank_lines : {S : Type 0} → Project S → StatementPlace → BlankLines
blank_lines p a = Trim (a.number == 0) (is_last p a)

abbrev pub removal_step : {S : Type 0} → Project S → StatementPlace → Step
removal_step p a = record { file = a.block.file; edit = RemoveStatement (blank_lines p a) a.block.path.steps a.number }

abbrev pub unless_needed : Option (List ℕ) → Step → Result (List Step) Refusal
unless_needed None s = Ok (s ∷ [])
unless_needed (Some x) s = Err (InUse x)

-- the step that removes the statement at a place, if nothing outside it needs what it sets
abbrev pub removed_at : Loaded → StatementPlace → Result (List Step) Refusal
removed_at l a = unless_needed (first_needed l a) (removal_step (project l) a)
