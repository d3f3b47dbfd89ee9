-- The sources of a target where variables are followed, and names that it does not have.
use Rattle.std.specs.Prelude.{ℕ, Bool, true, false, if◌then◌else◌, List, [], ◌∷◌, ◌++◌, codes, filter, find, map, Option, Some, None, Result, Ok, Err}
use Rattle.meson_lex.specs.declared.kinds.Span.{Span}
use Rattle.meson_calls.specs.declared.call.CallName.{CallName}
use Rattle.meson_calls.specs.declared.call.CallRef.{CallRef}
use Rattle.meson_calls.specs.declared.refusal.Refusal.{Refusal}
use Rattle.meson_calls.specs.declared.refusal.Refusal.TheVariants as refusal
use Rattle.meson_calls.specs.CallPlaces.{call_at}
use Rattle.meson_calls.specs.Calls.{Call}
use Rattle.meson_calls.specs.Loading.{Loaded, project}
use Rattle.meson_calls.specs.Project.{Placed, Project}
use Rattle.meson_followed.specs.FollowedEdits.{followed_removed}
use Rattle.meson_followed.specs.Sources.{list_around}
use Rattle.meson_plan.specs.Details.{target_place, told_sources}
use Rattle.meson_sharing.specs.Told.{ToldItem}
use Rattle.meson_steps.specs.declared.source_change.SharedLists.TheVariants.{Changed}
use Rattle.meson_steps.specs.declared.source_change.SourceChange.{SourceChange}
use Rattle.meson_steps.specs.declared.source_change.SourceChange.TheVariants.{Add, Remove, Rename}
use Rattle.meson_variables.specs.declared.source.SourceItem.{SourceItem}
use Rattle.meson_explaining.specs.Notes.{plain_note}
use Rattle.meson_explaining.specs.Sources.{close_notes, few_missing, missing_note}
use Rattle.meson_explaining.specs.declared.explanation.Explanation.{Explanation}
use Rattle.meson_explaining.specs.declared.explanation.Note.{Note}

-- ---- what the target has that an id names

abbrev pub place_if : Result CallRef Refusal → Option CallRef
place_if (Err e) = None
place_if (Ok place) = Some place

-- the place of the one target that an id names; none if it names no one target
abbrev pub place_of : Loaded → CallName → Option CallRef
place_of l target = place_if (target_place (project l) target)

-- an item as one of those that are known without following
abbrev pub item_of : ToldItem Span → SourceItem
item_of i = record {
  value = i.item.text;
  file = i.item.place.file;
  span = i.item.stands;
  list = if i.item.listed then Some (list_around i.item.place) else None;
  variable = i.variable;
}

-- the sources of the target at a place, where variables are followed
unfoldable pub followed_items : Loaded → Option CallRef → List SourceItem
followed_items l None = []
followed_items l (Some place) = map item_of (told_sources l place).items

-- ---- names that it does not have, as far as its sources are known

-- the names of a change that have to mean sources of the target
abbrev pub sought_names : SourceChange → List (List ℕ)
sought_names (Add names) = []
sought_names (Remove names) = names
sought_names (Rename old new) = old ∷ []

abbrev pub is_memory : Refusal → Bool
is_memory refusal.OutOfMemory = true
is_memory _ = false

-- no source is there
abbrev pub is_gone : Refusal → Bool
is_gone refusal.SourceNotFound = true
is_gone refusal.Unresolved = true
is_gone _ = false

abbrev pub is_refused : {X : Type 0} → (Refusal → Bool) → Result X Refusal → Bool
is_refused test (Ok x) = false
is_refused test (Err why) = test why

-- Whether a name means none of the sources of the target of a call: its removal alone is refused for that, whoever else gets the lists.
unfoldable pub is_absent_in : Project Span → Option (Placed (Call Span)) → List ℕ → Bool
is_absent_in p None name = false
is_absent_in p (Some c) name = is_refused is_gone (followed_removed p c Changed (name ∷ []))

-- of the target at a place
abbrev pub is_absent : Loaded → Option CallRef → List ℕ → Bool
is_absent l None name = false
is_absent l (Some place) name = is_absent_in (project l) (call_at (project l) place) name

-- the first three of the names, and how many others there are
abbrev pub absent_notes : Loaded → Option CallRef → List (List ℕ) → List Note
absent_notes l place names = few_missing (map missing_note (filter (is_absent l place) names))

-- ---- explanations

-- with the sources that are close to the first of the names
unfoldable pub followed_not_there : Loaded → CallName → List (List ℕ) → Explanation
followed_not_there l target names =
    let place = place_of l target in
    record {
      notes = absent_notes l place names ++ close_notes (followed_items l place) (find (is_absent l place) names);
      help = codes "--follow target ID info lists the sources" ∷ [];
    }

-- something else reads the list that is set to a variable
abbrev pub shared_list : List ℕ → Explanation
shared_list name = record {
  notes = plain_note (codes "something else reads the list of " ++ (name ++ codes " too")) ∷ [];
  help = codes "--follow=shared changes it for all of them" ∷ codes "--follow target ID info tells who gets each source" ∷ [];
}
