-- The steps that put values after the first element that says a value.
use Rattle.std.specs.Prelude.{ℕ, suc, Bool, List, [], ◌∷◌, if◌then◌else◌, Option, Some, None, Result, Err}
use Rattle.meson_lex.specs.declared.kinds.Span.{Span}
use Rattle.meson_splice.specs.Files.{bytes_at}
use Rattle.meson_syntax.specs.Tree.{Argument, Expression}
use Rattle.meson_calls.specs.declared.call.CallRef.{CallRef}
use Rattle.meson_calls.specs.declared.refusal.Refusal.{Refusal}
use Rattle.meson_calls.specs.declared.refusal.Refusal.TheVariants.{NoSuchValue}
use Rattle.meson_calls.specs.Loading.{Loaded, project}
use Rattle.meson_calls.specs.Project.{Placed}
use Rattle.meson_steps.specs.Steps.{Step}
use Rattle.meson_steps.specs.declared.given.Given.{Given}
use Rattle.meson_places.specs.declared.insertions.Mark.{Mark}
use Rattle.meson_places.specs.declared.slots.Slot.{Slot}
use Rattle.meson_places.specs.Behind.{placed_value}
use Rattle.meson_places.specs.Equality.{element_says, lists_say}
use Rattle.meson_places.specs.NewElements.{fresh_written}
use Rattle.meson_places.specs.Removals.{says_other}
use Rattle.meson_places.specs.Several.{AllMayBeGiven, all_written, if_room_for, put_each}
use Rattle.meson_places.specs.ValueLists.{ValueList, lists_of}

-- ---- the element

-- the number of the first element that says a value; the first of all has the number n
abbrev pub number_saying : (source : List ℕ) → Given → (n : ℕ) → List (Argument Span) → Option ℕ
number_saying source g n [] = None
number_saying source g n (x ∷ xs) = if element_says source g x then Some n else number_saying source g (suc n) xs

abbrev pub or_later : CallRef → Option ℕ → Option Mark → Option Mark
or_later list (Some n) later = Some (record { list = list; number = n })
or_later list None later = later

-- the first element of lists that says a value
abbrev pub find_mark : (source : List ℕ) → Given → List (ValueList Span) → Option Mark
find_mark source g [] = None
find_mark source g (l ∷ ls) = or_later l.place (number_saying source g 0 l.elements) (find_mark source g ls)

-- ---- the steps

-- Each value that is not known, after the element. Its list has room for all that are given.
abbrev pub insert_at : Loaded → (key : List ℕ) → (known : Given → Bool) → (gs : List Given) → AllMayBeGiven gs → Option Mark → Result (List Step) Refusal
insert_at l key known gs may None = Err (NoSuchValue key)
insert_at l key known gs may (Some m) =
    if_room_for l m.list (all_written gs may) (put_each m.list (suc m.number) (suc m.number) (fresh_written known [] gs may))

-- after the first element that says a value, of the lists of an expression
abbrev pub insert_by : Loaded → (key source : List ℕ) → (after : Given) → (gs : List Given) → AllMayBeGiven gs → Expression Span → List (ValueList Span)
    → Result (List Step) Refusal
insert_by l key source after gs may e [] = Err (says_other key e)
insert_by l key source after gs may e (one ∷ more) =
    insert_at l key (lists_say source (one ∷ more)) gs may (find_mark source after (one ∷ more))

abbrev pub insert_into : Loaded → (key : List ℕ) → (after : Given) → (gs : List Given) → AllMayBeGiven gs → Option (Placed (Expression Span))
    → Result (List Step) Refusal
insert_into l key after gs may None = Err (NoSuchValue key)
insert_into l key after gs may (Some v) = insert_by l key (bytes_at v.place.file l.files) after gs may v.it (lists_of v.place v.it)

-- The key is the last of those that named the slot.
abbrev pub insert_steps : Loaded → (after : Given) → (gs : List Given) → AllMayBeGiven gs → (key : List ℕ) → Slot → Result (List Step) Refusal
insert_steps l after gs may key s = insert_into l key after gs may (placed_value (project l) s)
