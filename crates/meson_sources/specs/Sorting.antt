-- Sources that are added to a target, each in its place if their list is in order.
use Rattle.std.specs.Prelude.{ℕ, Bool, ◌==◌, ◌&&◌, bytes_eq, List, map, if◌then◌else◌, Result}
use Rattle.meson_lex.specs.declared.kinds.Span.{Span}
use Rattle.meson_splice.specs.Files.{bytes_at}
use Rattle.meson_splice.specs.declared.file_set.File.{File}
use Rattle.meson_calls.specs.declared.call.CallRef.{CallRef}
use Rattle.meson_calls.specs.declared.refusal.Refusal.{Refusal}
use Rattle.meson_calls.specs.Calls.{Call}
use Rattle.meson_calls.specs.Project.{Placed, Project}
use Rattle.meson_variables.specs.TargetSources.{home, source_marks}
use Rattle.meson_steps.specs.declared.order.SortKey.TheVariants as key
use Rattle.meson_steps.specs.OrderedLists.{Added, Ordered, all_put, ordered}
use Rattle.meson_steps.specs.Steps.{Step}
use Rattle.meson_steps.specs.WrittenTexts.{written_text}
use Rattle.meson_sources.specs.SourceEdits.{elements_there, new_names, plain_len}
use Rattle.meson_sources.specs.inside.Additions.{if_may_add}

abbrev pub is_call : (call list : CallRef) → Bool
is_call call list = list.file == call.file && bytes_eq list.path.steps call.path.steps

-- the number of the first element of a list that is sorted: after the name of the target, in its own call
abbrev pub first_sorted : (call list : CallRef) → ℕ
first_sorted call list = if is_call call list then 1 else 0

-- a name that is added, and by what it is ordered
abbrev pub added_text : List ℕ → Added
added_text name = record { key = key.Text name; written = written_text name }

-- a list as it gets sources: those of its elements without a name that are after that of a target count
abbrev pub ordered_in : List File → Project Span → (call list : CallRef) → Ordered
ordered_in files p call list = ordered (bytes_at list.file files) (first_sorted call list) (plain_len p list) (elements_there p list)

-- into a list, after its elements without a name, or each in its place where these are in order
abbrev pub sorted_in : List File → Project Span → (call list : CallRef) → List (List ℕ) → List Step
sorted_in files p call list names = all_put list (ordered_in files p call list) (map added_text names)

-- a name is checked, and the list is chosen, as where it is added at the end
abbrev pub sources_sorted : List File → Project Span → Placed (Call Span) → List (List ℕ) → Result (List Step) Refusal
sources_sorted files p c names =
    if_may_add c names (sorted_in files p c.place (home c.place (source_marks p c)) (new_names (source_marks p c) names))
