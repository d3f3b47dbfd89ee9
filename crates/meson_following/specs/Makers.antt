-- What may have made the value of a variable. Meson manual, Syntax, "Variables": a variable is set by an assignment, `+=` gives a new value, and no value
-- ever changes. So what a variable holds is what the assignments that an evaluation went through last have put there. Where evaluations take different ways,
-- more than one assignment may have done so.
use Rattle.std.specs.Prelude.{ℕ, ◌==◌, nat_le, nat_lt, Bool, true, false, not, ◌&&◌, ◌||◌, List, [], ◌∷◌, ◌++◌, map, filter, length, take, if◌then◌else◌, bytes_eq, Option, Some, None}
use Rattle.std.specs.List.{list_any}
use Rattle.meson_syntax.specs.Tree.{Expression}
use Rattle.meson_calls.specs.declared.call.CallRef.{CallRef}
use Rattle.meson_calls.specs.Project.{Placed}

-- An assignment whose value may have a part in what the variable holds: the value with its place, whether it is added to the variable, and whether it has a
-- part for sure.
pub record Maker (S : Type 0) : Type 0 where
  pub value : Placed (Expression S)
  pub adds : Bool
  pub sure : Bool

-- made by these, in order, or by something that is not known, too
pub record Made (S : Type 0) : Type 0 where
  pub makers : List (Maker S)
  pub unknown : Bool

-- Nothing where the variable is not set, or where no evaluation comes: to read it there is an error of the build files.
abbrev pub Known : Type 0 → Type 0
Known S = Option (Made S)

-- ---- makers are told apart by the places of their values

abbrev pub is_same_place : CallRef → CallRef → Bool
is_same_place c d = c.file == d.file && bytes_eq c.path.steps d.path.steps

abbrev pub are_same : {S : Type 0} → Maker S → Maker S → Bool
are_same m n = is_same_place m.value.place n.value.place

abbrev pub is_among : {S : Type 0} → List (Maker S) → Maker S → Bool
is_among ms n = list_any (λ m. are_same m n) ms

abbrev pub is_sure_among : {S : Type 0} → List (Maker S) → Maker S → Bool
is_sure_among ms n = list_any (λ m. are_same m n && m.sure) ms

abbrev pub unsure : {S : Type 0} → Maker S → Maker S
unsure m = record { value = m.value; adds = m.adds; sure = false }

-- sure only if it is sure among these too
abbrev pub sure_as_among : {S : Type 0} → List (Maker S) → Maker S → Maker S
sure_as_among ms m = record { value = m.value; adds = m.adds; sure = m.sure && is_sure_among ms m }

-- ---- at most 1,024 makers are kept apart: where there are more, the variable is made by something that is not known, too

abbrev pub max_makers : ℕ
max_makers = 1024

abbrev pub limited : {S : Type 0} → Made S → Made S
limited m = if nat_lt max_makers (length m.makers) then record { makers = take max_makers m.makers; unknown = true } else m

-- as many are kept as can be: others may have been left out
abbrev pub is_full : {S : Type 0} → Made S → Bool
is_full m = nat_le max_makers (length m.makers)

-- ---- one of two ways

-- the first ones, and of the second ones those that are not among them, which are not sure
abbrev pub of_both : {S : Type 0} → List (Maker S) → List (Maker S) → List (Maker S)
of_both ms ns = map (sure_as_among ns) ms ++ map unsure (filter (λ n. not (is_among ms n)) ns)

abbrev pub either_made : {S : Type 0} → Made S → Made S → Made S
either_made m n = limited (record { makers = of_both m.makers n.makers; unknown = m.unknown || n.unknown })

-- where the variable is not set, the way ends at the next read of it: so such a way does not count
abbrev pub joined : {S : Type 0} → Known S → Known S → Known S
joined None k = k
joined (Some m) None = Some m
joined (Some m) (Some n) = Some (either_made m n)

-- ---- behind an assignment

-- the first with the place of the second one exchanged for that
abbrev pub renewed : {S : Type 0} → Maker S → Maker S → Maker S
renewed new m = if are_same m new then new else m

-- at the end, or where it is already
abbrev pub with_maker : {S : Type 0} → List (Maker S) → Maker S → List (Maker S)
with_maker ms new = if is_among ms new then map (renewed new) ms else ms ++ new ∷ []

abbrev pub made_by : {S : Type 0} → Maker S → Made S
made_by m = record { makers = m ∷ []; unknown = false }

abbrev pub added : {S : Type 0} → Maker S → Known S → Made S
added m None = made_by m
added m (Some k) = limited (record { makers = with_maker k.makers m; unknown = k.unknown })

-- `=` throws away what was there, `+=` keeps it
abbrev pub assigned : {S : Type 0} → Maker S → Known S → Known S
assigned m k = if m.adds then Some (added m k) else Some (made_by m)

-- ---- behind something else that sets it

-- made by something that is not known, and by nothing else
abbrev pub made_unknown : {S : Type 0} → Made S
made_unknown = record { makers = []; unknown = true }

-- behind something that may set it, or leave it as it is
abbrev pub touched : {S : Type 0} → Known S → Known S
touched None = Some made_unknown
touched (Some k) = Some (record { makers = map unsure k.makers; unknown = true })
