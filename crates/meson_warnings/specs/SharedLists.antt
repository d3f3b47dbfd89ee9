-- Other targets that use a list that `target add`, `rm` or `rename` changes.
use Rattle.std.specs.Prelude.{ℕ, ◌-◌, ◌==◌, Bool, not, ◌&&◌, if◌then◌else◌, List, [], ◌∷◌, ◌++◌, codes, find, flat_map, is_some, length, option_to_list, take}
use Rattle.std.specs.Prelude.{Option, Some, None}
use Rattle.std.specs.List.{list_any}
use Rattle.meson_calls.specs.declared.call.Role.TheVariants as role
use Rattle.meson_calls.specs.Loading.{Loaded}
use Rattle.meson_inventory.specs.Holdings.{calls_named, targets_held}
use Rattle.meson_inventory.specs.declared.holdings.HeldCall.{HeldCall}
use Rattle.meson_steps.specs.Names.{distinct}
use Rattle.meson_variables.specs.declared.source.SourceItem.{SourceItem}
use Rattle.meson_explaining.specs.Notes.{call_note, further}
use Rattle.meson_explaining.specs.Removals.{is_one_of}
use Rattle.meson_explaining.specs.Sources.{is_missing, sources_at}
use Rattle.meson_explaining.specs.declared.explanation.Note.{Note}
use Rattle.meson_explaining.specs.declared.explanation.Spot.{Spot}
use Rattle.meson_warnings.specs.Reads.{is_inside, reads}
use Rattle.meson_calls.specs.declared.call.CallName.{CallName}

-- ---- the variables whose lists change

-- the variable that was followed to a source, if one was
abbrev pub variable_in : SourceItem → List (List ℕ)
variable_in i = option_to_list i.variable

abbrev pub is_in_list : SourceItem → Bool
is_in_list i = is_some i.list

abbrev pub variable_found : Option SourceItem → List (List ℕ)
variable_found None = []
variable_found (Some i) = variable_in i

-- that of the list that gets a new source, if one is new: the list of the first source that is in one
abbrev pub grown : List SourceItem → List (List ℕ) → List (List ℕ)
grown items names = if list_any (is_missing items) names then variable_found (find is_in_list items) else []

-- those of the lists that lose sources
abbrev pub lost_from : List (List ℕ) → SourceItem → List (List ℕ)
lost_from names i = if is_one_of names i.value then variable_in i else []

abbrev pub shrunk : List SourceItem → List (List ℕ) → List (List ℕ)
shrunk items names = flat_map (lost_from names) items

-- ---- the targets that read one of them in their calls

abbrev pub is_same : HeldCall → HeldCall → Bool
is_same a b = (a.file == b.file) && (a.head.at == b.head.at)

abbrev pub reads_one : List Spot → HeldCall → Bool
reads_one spots c = list_any (λ s. is_inside c s) spots

-- another call than those that are named
abbrev pub is_sharer : List HeldCall → List Spot → HeldCall → Bool
is_sharer named spots c = reads_one spots c && not (list_any (λ n. is_same n c) named)

abbrev pub sharer_notes : List HeldCall → List Spot → HeldCall → List Note
sharer_notes named spots c = if is_sharer named spots c then call_note (codes ": it uses the list that is changed too") c ∷ [] else []

-- the first five, and how many others there are
abbrev pub few_sharers : List Note → List Note
few_sharers notes = take 5 notes ++ further (codes "further targets that use the list that is changed") (length notes - 5)

-- among the first 5,000 targets, of which the named one is left out
abbrev pub sharers_at : Loaded → CallName → List Spot → List Note
sharers_at l target spots = few_sharers (flat_map (sharer_notes (calls_named l role.Target target) spots) (take 5000 (targets_held l)))

-- by the first 5,000 places where one of the variables is read
abbrev pub sharers : Loaded → CallName → List (List ℕ) → List Note
sharers l target [] = []
sharers l target (x ∷ more) = sharers_at l target (take 5000 (flat_map (reads l) (distinct (x ∷ more))))

abbrev pub shared_by_adding : Loaded → CallName → List (List ℕ) → List Note
shared_by_adding l target names = sharers l target (grown (sources_at l target) names)

abbrev pub shared_by_removing : Loaded → CallName → List (List ℕ) → List Note
shared_by_removing l target names = sharers l target (shrunk (sources_at l target) names)
