-- The list that gets further sources, where variables are followed.
use Rattle.std.specs.Prelude.{ℕ, ◌==◌, Bool, true, ◌&&◌, List, [], ◌∷◌, if◌then◌else◌, Option, Some, None}
use Rattle.std.specs.List.{filter_map}
use Rattle.meson_calls.specs.declared.call.CallRef.{CallRef}
use Rattle.meson_calls.specs.Calls.{Call}
use Rattle.meson_calls.specs.Project.{Project, Placed}
use Rattle.meson_variables.specs.TargetSources.{or_call, or_option}
use Rattle.meson_following.specs.Following.{Mark, Way, known, opaque, empty}
use Rattle.meson_sharing.specs.Sharing.{is_own, is_unshared}
use Rattle.meson_sharing.specs.Told.{last_of}
use Rattle.meson_steps.specs.declared.source_change.SharedLists.{SharedLists}
use Rattle.meson_steps.specs.declared.source_change.SharedLists.TheVariants.{Kept, Changed}
use Rattle.meson_followed.specs.Sources.{list_around}

-- a list that may get them: its place, and the maker in whose value it is, if it is in one
pub record Home : Type 0 where
  pub list : CallRef
  pub maker : Option CallRef

-- those that a source is an element of, and those in which nothing is met
pub record Homes : Type 0 where
  pub holding : List Home
  pub empties : List Home

-- In a call of `files` a name is a path from the folder of its file.
abbrev pub is_from : ℕ → Option ℕ → Bool
is_from n None = true
is_from n (Some files) = files == n

-- What is put into such a list comes to the target in each evaluation, as what it is in a file of this number.
abbrev pub is_fit : ℕ → Way → Bool
is_fit n w = w.sure && is_from n w.files

abbrev pub home_at : ℕ → CallRef → Way → Option Home
home_at n q w = if is_fit n w then Some (record { list = q; maker = last_of w.through }) else None

abbrev pub holding_of : {S : Type 0} → ℕ → Mark S → Option Home
holding_of n (known i) = if i.listed then home_at n (list_around i.place) i.way else None
holding_of n opaque = None
holding_of n (empty q w) = None

abbrev pub empty_of : {S : Type 0} → ℕ → Mark S → Option Home
empty_of n (known i) = None
empty_of n opaque = None
empty_of n (empty q w) = home_at n q w

abbrev pub homes_of : {S : Type 0} → ℕ → List (Mark S) → Homes
homes_of n marks = record { holding = filter_map (holding_of n) marks; empties = filter_map (empty_of n) marks }

-- ---- the best of them

abbrev pub first_home : (Home → Bool) → List Home → Option CallRef
first_home test [] = None
first_home test (h ∷ hs) = if test h then Some h.list else first_home test hs

-- one with a source comes before an empty one
abbrev pub best_home : (Home → Bool) → Homes → Option CallRef
best_home test hs = or_option (first_home test hs.holding) (first_home test hs.empties)

-- what is in the call goes to its target alone
abbrev pub by_maker : (CallRef → Bool) → Option CallRef → Bool
by_maker test None = true
by_maker test (Some m) = test m

abbrev pub any_home : SharedLists → Homes → Option CallRef
any_home Kept hs = None
any_home Changed hs = best_home (λ h. true) hs

-- One that passes the first test comes first, then one that passes the second, and then, if shared lists are changed, any. Else it is the call's own list.
abbrev pub home_by : (own unshared : CallRef → Bool) → SharedLists → CallRef → Homes → CallRef
home_by own unshared shared c hs =
    or_call c (or_option (best_home (λ h. by_maker own h.maker) hs) (or_option (best_home (λ h. by_maker unshared h.maker) hs) (any_home shared hs)))

-- One that is the target's own comes first, then one that is read for other things but for no other target.
abbrev pub home : {S : Type 0} → Project S → Placed (Call S) → SharedLists → List (Mark S) → CallRef
home p c shared marks = home_by (is_own p c) (is_unshared p c) shared c.place (homes_of c.place.file marks)
