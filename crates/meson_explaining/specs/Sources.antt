-- Notes of names that a target does not have among its sources or extra files.
use Rattle.std.specs.Prelude.{ℕ, ◌-◌, ◌/◌, nat_eq, nat_le, Bool, false, not, ◌||◌, if◌then◌else◌, List, [], ◌++◌, length, map, filter, find, take}
use Rattle.std.specs.Prelude.{bytes_eq, codes, Option, Some, None, Result, Ok, Err}
use Rattle.std.specs.List.{ends_with, list_any}
use Rattle.meson_lex.specs.declared.kinds.Span.{Span}
use Rattle.meson_calls.specs.declared.call.CallRef.{CallRef}
use Rattle.meson_calls.specs.declared.call.Role.TheVariants as role
use Rattle.meson_calls.specs.declared.refusal.Refusal.{Refusal}
use Rattle.meson_calls.specs.Calls.{Call}
use Rattle.meson_calls.specs.Finding.{the_call}
use Rattle.meson_calls.specs.Loading.{Loaded, project}
use Rattle.meson_calls.specs.Project.{Placed}
use Rattle.meson_sources.specs.Extras.{extra_files}
use Rattle.meson_variables.specs.TargetSources.{sources}
use Rattle.meson_variables.specs.declared.source.SourceItem.{SourceItem}
use Rattle.meson_variables.specs.declared.source.Sources.{Sources}
use Rattle.meson_explaining.specs.declared.explanation.Note.{Note}
use Rattle.meson_explaining.specs.Nearest.{edits, is_long}
use Rattle.meson_explaining.specs.Notes.{further, plain_note}
use Rattle.meson_calls.specs.declared.call.CallName.{CallName}

-- ---- what the target has that an id names; nothing if it names no one target, or where that is refused

abbrev pub items_of : Option (Result Sources Refusal) → List SourceItem
items_of None = []
items_of (Some (Err e)) = []
items_of (Some (Ok s)) = s.items

abbrev pub items_at : (CallRef → Option (Result Sources Refusal)) → Result (Placed (Call Span)) Refusal → List SourceItem
items_at listed (Err e) = []
items_at listed (Ok c) = items_of (listed c.place)

unfoldable pub sources_at : Loaded → CallName → List SourceItem
sources_at l name = items_at (sources (project l)) (the_call (project l) role.Target name)

unfoldable pub extras_at : Loaded → CallName → List SourceItem
extras_at l name = items_at (extra_files (project l)) (the_call (project l) role.Target name)

-- ---- names

abbrev pub has : List SourceItem → List ℕ → Bool
has items name = list_any (λ i. bytes_eq i.value name) items

abbrev pub is_missing : List SourceItem → List ℕ → Bool
is_missing items name = not (has items name)

-- few edits lead from one to the other: up to a third of the name's length
abbrev pub are_alike : List ℕ → List ℕ → Bool
are_alike name value = if is_long name || is_long value then false else nat_le (edits name value) (length name / 3)

-- one ends in the other, or they are alike
abbrev pub is_close : List ℕ → SourceItem → Bool
is_close name i = ends_with nat_eq i.value name || (ends_with nat_eq name i.value || are_alike name i.value)

-- ---- notes

abbrev pub item_note : SourceItem → Note
item_note i = record {
  spot = Some (record { file = i.file; at = i.span.from; end = i.span.to });
  text = codes "it has " ++ i.value;
}

abbrev pub missing_note : List ℕ → Note
missing_note name = plain_note (codes "the target does not have " ++ name)

-- the first three items that are close to a name, if there is one
abbrev pub close_notes : List SourceItem → Option (List ℕ) → List Note
close_notes items None = []
close_notes items (Some name) = take 3 (map item_note (filter (is_close name) items))

-- the first three names that no item has, how many others there are, and items that are close to the first of them
abbrev pub source_notes : List SourceItem → List (List ℕ) → List Note
source_notes items names =
    let missing = filter (is_missing items) names in
    (take 3 (map missing_note missing) ++ further (codes "further names that it does not have") (length missing - 3))
    ++ close_notes items (find (is_missing items) names)

-- the first three notes of names that are not there, and how many others there are
abbrev pub few_missing : List Note → List Note
few_missing notes = take 3 notes ++ further (codes "further names that it does not have") (length notes - 3)
