-- The values that are assigned to a variable, all at once: elements of their lists are removed or replaced.
use Rattle.std.specs.Prelude.{ℕ, Bool, false, ◌&&◌, List, [], ◌∷◌, ◌++◌, if◌then◌else◌, Option, Some, None, Result, Ok, Err}
use Rattle.std.specs.List.{list_all, list_any}
use Rattle.meson_lex.specs.declared.kinds.Span.{Span}
use Rattle.meson_splice.specs.declared.file_set.File.{File}
use Rattle.meson_splice.specs.Files.{bytes_at}
use Rattle.meson_splice.specs.Patch.{then_ok}
use Rattle.meson_syntax.specs.Tree.{Expression}
use Rattle.meson_edit.specs.Edits.{is_empty}
use Rattle.meson_calls.specs.declared.call.CallRef.{CallRef}
use Rattle.meson_calls.specs.declared.refusal.Refusal.{Refusal}
use Rattle.meson_calls.specs.declared.refusal.Refusal.TheVariants.{NoSuchValue, NotRemovable, ThereAlready}
use Rattle.meson_calls.specs.Loading.{Loaded, project}
use Rattle.meson_calls.specs.Notes.{notes}
use Rattle.meson_calls.specs.Project.{Project, expression_at}
use Rattle.meson_steps.specs.Steps.{Step}
use Rattle.meson_steps.specs.declared.argument.ValueName.{ValueName}
use Rattle.meson_steps.specs.declared.given.Given.{Given}
use Rattle.meson_places.specs.declared.slots.Slot.{Slot}
use Rattle.meson_places.specs.Assignments.{added_beside, added_values, whole_variable}
use Rattle.meson_places.specs.Behind.{lists_at}
use Rattle.meson_places.specs.Equality.{lists_say, says}
use Rattle.meson_places.specs.Replacements.{Exchange, replace_whole}
use Rattle.meson_places.specs.SaidElements.{lists_edited, says_one}
use Rattle.meson_places.specs.ValueLists.{ValueList, lists_of}

-- ---- what a value says

-- An element of its lists says it, or the value itself, where it has no list.
abbrev pub says_by : (source : List ℕ) → Given → Expression Span → List (ValueList Span) → Bool
says_by source g e [] = says source g e
says_by source g e (l ∷ ls) = lists_say source (l ∷ ls) g

abbrev pub said_in : (source : List ℕ) → Given → CallRef → Option (Expression Span) → Bool
said_in source g c None = false
said_in source g c (Some e) = says_by source g e (lists_of c e)

abbrev pub said_at : List File → Project Span → Given → CallRef → Bool
said_at files p g c = said_in (bytes_at c.file files) g c (expression_at p c)

-- whether one of some values says it
abbrev pub said_among : List File → Project Span → List CallRef → Given → Bool
said_among files p cs g = list_any (said_at files p g) cs

-- whether a value without a list says one of some values itself
abbrev pub alone_in : (source : List ℕ) → List Given → CallRef → Option (Expression Span) → Bool
alone_in source gs c None = false
alone_in source gs c (Some e) = is_empty (lists_of c e) && list_any (λ g. says source g e) gs

abbrev pub alone_at : List File → Project Span → List Given → CallRef → Bool
alone_at files p gs c = alone_in (bytes_at c.file files) gs c (expression_at p c)

-- ---- which values are changed

-- several ones, where something in them says one of those that are sought
abbrev pub several_saying : List File → Project Span → List Given → List CallRef → Option (List CallRef)
several_saying files p gs [] = None
several_saying files p gs (c ∷ []) = None
several_saying files p gs (c ∷ d ∷ more) = if list_any (said_among files p (c ∷ d ∷ more)) gs then Some (c ∷ d ∷ more) else None

-- what `=` assigns to the variable whose whole value is named, and then what `+=` adds to it
abbrev pub assigned_saying : List File → Project Span → (folder : Option (List ℕ)) → List Given → Option (List ℕ × CallRef) → Result (Option (List CallRef)) Refusal
assigned_saying files p folder gs None = Ok None
assigned_saying files p folder gs (Some v) =
    then_ok (added_beside folder v.1 (added_values v.0 (notes p))) (λ ds. Ok (several_saying files p gs (v.1 ∷ ds)))

abbrev pub all_assigned : List File → Project Span → ValueName → List Given → Slot → Result (Option (List CallRef)) Refusal
all_assigned files p n gs s = assigned_saying files p n.place.folder gs (whole_variable n.place.name n.keys s)

-- ---- elements are removed

abbrev pub each_edited : Loaded → List Given → List CallRef → List Step
each_edited l gs [] = []
each_edited l gs (c ∷ cs) = lists_edited None (says_one (bytes_at c.file l.files) gs) (lists_at (project l) c) ++ each_edited l gs cs

-- from all lists, where each of the values is said; an assigned value can't go
abbrev pub remove_each : Loaded → (key : List ℕ) → List Given → List CallRef → Result (List Step) Refusal
remove_each l key gs cs =
    if list_all (said_among l.files (project l) cs) gs
    then (if list_any (alone_at l.files (project l) gs) cs then Err NotRemovable else Ok (each_edited l gs cs))
    else Err (NoSuchValue key)

-- ---- elements are replaced

-- these steps, and then others
abbrev pub then_more : List Step → Result (List Step) Refusal → Result (List Step) Refusal
then_more ss r = then_ok r (λ more. Ok (ss ++ more))

-- one after another, in those values that say the old one
abbrev pub replace_among : Loaded → (key : List ℕ) → Exchange → List CallRef → Result (List Step) Refusal
replace_among l key x [] = Ok []
replace_among l key x (c ∷ cs) =
    if said_at l.files (project l) x.old c
    then then_ok (replace_whole l x key c (expression_at (project l) c)) (λ ss. then_more ss (replace_among l key x cs))
    else replace_among l key x cs

-- in all of them, where none says the new one
abbrev pub replace_each : Loaded → (key : List ℕ) → Exchange → List CallRef → Result (List Step) Refusal
replace_each l key x cs = if said_among l.files (project l) cs x.new then Err ThereAlready else replace_among l key x cs

-- ---- either

abbrev pub removed_or : Loaded → (key : List ℕ) → List Given → (otherwise : Result (List Step) Refusal) → Option (List CallRef) → Result (List Step) Refusal
removed_or l key gs otherwise None = otherwise
removed_or l key gs otherwise (Some cs) = remove_each l key gs cs

abbrev pub replaced_or : Loaded → (key : List ℕ) → Exchange → (otherwise : Result (List Step) Refusal) → Option (List CallRef) → Result (List Step) Refusal
replaced_or l key x otherwise None = otherwise
replaced_or l key x otherwise (Some cs) = replace_each l key x cs

-- from all values that are assigned, or as it is done in one
abbrev pub remove_from_all : Loaded → ValueName → (key : List ℕ) → List Given → Slot → (otherwise : Result (List Step) Refusal) → Result (List Step) Refusal
remove_from_all l n key gs s otherwise = then_ok (all_assigned l.files (project l) n gs s) (removed_or l key gs otherwise)

abbrev pub replace_in_all : Loaded → ValueName → (key : List ℕ) → Exchange → Slot → (otherwise : Result (List Step) Refusal) → Result (List Step) Refusal
replace_in_all l n key x s otherwise = then_ok (all_assigned l.files (project l) n (x.old ∷ []) s) (replaced_or l key x otherwise)
