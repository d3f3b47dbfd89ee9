-- Notes of names that cannot be removed from a target: they are in no list, or are not among what is known of it.
use Rattle.std.specs.Prelude.{ℕ, ◌-◌, ◌==◌, Bool, true, false, ◌&&◌, List, [], ◌∷◌, ◌++◌, bytes_eq, codes, filter, find, is_none, length, map, take}
use Rattle.std.specs.Prelude.{Option, Some, None, Result, Ok, Err}
use Rattle.std.specs.List.{list_any}
use Rattle.meson_calls.specs.declared.call.Reading.TheVariants.{Written}
use Rattle.meson_calls.specs.Loading.{Loaded, project}
use Rattle.meson_calls.specs.declared.call.CallRef.{CallRef}
use Rattle.meson_calls.specs.declared.call.Role.TheVariants as role
use Rattle.meson_calls.specs.declared.refusal.Refusal.{Refusal}
use Rattle.meson_plan.specs.Details.{target_place}
use Rattle.meson_inventory.specs.Holdings.{calls_held, subdirs_held}
use Rattle.meson_inventory.specs.declared.holdings.HeldCall.{HeldCall}
use Rattle.meson_steps.specs.declared.command.Command.{Command}
use Rattle.meson_steps.specs.declared.command.Command.TheVariants as command
use Rattle.meson_variables.specs.declared.source.SourceItem.{SourceItem}
use Rattle.meson_steps.specs.declared.source_change.SourceChange.{SourceChange}
use Rattle.meson_steps.specs.declared.source_change.SourceChange.TheVariants.{Add, Remove, Rename}
use Rattle.meson_explaining.specs.Followed.{followed_items, is_absent, place_of, sought_names}
use Rattle.meson_explaining.specs.Notes.{call_note, few_notes, further, plain_note}
use Rattle.meson_explaining.specs.Sources.{close_notes, extras_at, is_missing, sources_at}
use Rattle.meson_explaining.specs.Unknown.{unknown_arguments}
use Rattle.meson_explaining.specs.Values.{value_notes}
use Rattle.meson_explaining.specs.Written.{written_notes}
use Rattle.meson_explaining.specs.declared.explanation.Explanation.{Explanation}
use Rattle.meson_explaining.specs.declared.explanation.Note.{Note}
use Rattle.meson_calls.specs.declared.call.CallName.{CallName}

-- ---- names that are in no list

abbrev pub is_one_of : List (List ℕ) → List ℕ → Bool
is_one_of names text = list_any (λ n. bytes_eq n text) names

-- an item that is in no list and has one of the names
abbrev pub is_fixed : List (List ℕ) → SourceItem → Bool
is_fixed names i = is_none i.list && is_one_of names i.value

abbrev pub fixed_note : SourceItem → Note
fixed_note i = record { spot = Some (record { file = i.file; at = i.span.from; end = i.span.to }); text = i.value ++ codes " is not in a list" }

abbrev pub fixed_notes : List SourceItem → List (List ℕ) → List Note
fixed_notes items names = take 3 (map fixed_note (filter (is_fixed names) items))

abbrev pub with_list : List Note → Explanation
with_list notes = record { notes = notes; help = codes "write it in a list, as in ['a.c']" ∷ [] }

abbrev pub not_removable : Loaded → Command → Explanation
not_removable l (command.SourcesRemove target names) = with_list (fixed_notes (sources_at l target) names)
not_removable l (command.SourcesRename target old new) = with_list (fixed_notes (sources_at l target) (old ∷ []))
not_removable l (command.ExtraRemove target names) = with_list (fixed_notes (extras_at l target) names)
not_removable l (command.FollowedSources target change shared) = with_list (fixed_notes (followed_items l (place_of l target)) (sought_names change))
not_removable l _ = record { notes = []; help = [] }

-- ---- names that are not among what is known

abbrev pub unknown_notes : Option (List ℕ) → List Note
unknown_notes None = []
unknown_notes (Some name) = plain_note (name ++ codes " is not known to be one of them, and not all of them are known") ∷ []

abbrev pub has_no_name : HeldCall → Bool
has_no_name c = is_none c.head.name

-- the first two of some calls that have no literal name, and how many others there are
abbrev pub few_unnamed : List HeldCall → List Note
few_unnamed cs =
    let unnamed = map (call_note (codes ": it may set any variable")) (filter has_no_name cs) in
    take 2 unnamed ++ further (codes "further set_variable calls without a literal name") (length unnamed - 2)

-- the calls that may set any variable, so that the value of no variable is known
abbrev pub setter_notes : Loaded → List Note
setter_notes l =
    few_notes 2 (codes ", not entered: it may set any variable") (codes "further subdir calls that are not entered") (subdirs_held Written l)
    ++ few_unnamed (calls_held l (codes "set_variable"))

abbrev pub not_known_notes : Loaded → CallName → List ℕ → List SourceItem → List (List ℕ) → List Note
not_known_notes l target key items names =
    let name = find (is_missing items) names in
    unknown_notes name ++ written_notes l name
    ++ (close_notes items name ++ (unknown_arguments l target key ++ (value_notes l role.Target target (codes "kwargs") ++ setter_notes l)))

-- the root file is the first of the files, and no folder of its own leaves anything out
abbrev pub is_in_root : Result CallRef Refusal → Bool
is_in_root (Err e) = false
is_in_root (Ok c) = c.file == 0

-- what changes one list, for a name that goes and for one that gets another
abbrev pub removal_way : List ℕ
removal_way = codes "arg remove at FILE:LINE . SOURCE removes it from the list that is set on that line"

abbrev pub renaming_way : List ℕ
renaming_way = codes "arg replace at FILE:LINE . OLD NEW renames it in the list that is set on that line"

-- what changes one list, for a change of sources that are not all known
abbrev pub change_way : SourceChange → List ℕ
change_way (Add names) = removal_way
change_way (Remove names) = removal_way
change_way (Rename old new) = renaming_way

abbrev pub folder_help : Bool → List ℕ
folder_help true = codes "--sourcedir does not help, since the target is in the root file; info counts what is not known"
folder_help false = codes "--sourcedir with the folder of the target leaves out what other folders set; info counts what is not known"

abbrev pub not_known_help : Loaded → CallName → (way : List ℕ) → List (List ℕ)
not_known_help l target way = way ∷ folder_help (is_in_root (target_place (project l) target)) ∷ []

abbrev pub not_known : Loaded → CallName → (key way : List ℕ) → List SourceItem → List (List ℕ) → Explanation
not_known l target key way items names = record { notes = not_known_notes l target key items names; help = not_known_help l target way }

-- the same where variables are followed; `kwargs:` may hold any source
unfoldable pub followed_unresolved : Loaded → CallName → (way : List ℕ) → List (List ℕ) → Explanation
followed_unresolved l target way names =
    let place = place_of l target in
    let name = find (is_absent l place) names in
    record {
      notes =
          unknown_notes name
          ++ (written_notes l name ++ (close_notes (followed_items l place) name ++ value_notes l role.Target target (codes "kwargs")));
      help = way ∷ codes "--follow target ID info counts what is not known" ∷ [];
    }

abbrev pub unresolved : Loaded → Command → Explanation
unresolved l (command.SourcesRemove target names) = not_known l target (codes "sources") removal_way (sources_at l target) names
unresolved l (command.SourcesRename target old new) = not_known l target (codes "sources") renaming_way (sources_at l target) (old ∷ [])
unresolved l (command.ExtraRemove target names) = not_known l target (codes "extra_files") removal_way (extras_at l target) names
unresolved l (command.FollowedSources target change shared) = followed_unresolved l target (change_way change) (sought_names change)
unresolved l _ = record { notes = []; help = [] }
