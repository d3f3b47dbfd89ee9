-- What it means that a list is read for one target alone.
use Rattle.std.specs.Prelude.{◌≡◌, ◌⊎◌, ℕ, true, false, List, [], ◌∷◌, Some}
use Rattle.std.specs.List.{All, Contains}
use Rattle.meson_lex.specs.declared.kinds.Span.{Span}
use Rattle.meson_calls.specs.declared.call.CallRef.{CallRef}
use Rattle.meson_calls.specs.Calls.{Call}
use Rattle.meson_calls.specs.Project.{Project, Placed, placed}
use Rattle.meson_following.specs.Flows.{is_in}
use Rattle.meson_following.specs.Following.{follow_call}
use Rattle.meson_following.specs.Makers.{Known}
use Rattle.meson_following.specs.Reads.{keeps_one_of, may_leave_out, reads}
use Rattle.meson_sharing.specs.Sharing.{from_maker, is_own, is_unshared, names_of, reads_of, sharers, uses, ways_at, ways_of_target}

-- What is known of a variable may have left out makers, of which the value of each is assigned to some variables alone. So a variable may hold the value of a
-- maker that is kept, or of one that is assigned to it.
pub data MayHold (p : Project Span) (m : CallRef) (x : List ℕ) (k : Known Span) : Type 0 where
  is_kept : keeps_one_of (m ∷ []) k ≡ true → MayHold p m x k
  is_left_out : Contains (names_of p (m ∷ [])) x → may_leave_out k ≡ true → MayHold p m x k

-- what is read at a place may be the value of a maker
pub record MaySee (p : Project Span) (q m : CallRef) : Type 0 where
  pub variable : List ℕ
  pub read : Placed (Known Span)
  pub is_read : Contains (reads p variable) read
  pub is_there : read.place ≡ q
  pub is_seen : MayHold p m variable read.it

-- A value that the call follows is made of the value of a maker: it is that value, or one of its ways may see a value that is made of it.
pub data MadeOf (p : Project Span) (followed : List CallRef) (m : CallRef) : CallRef → Type 0 where
  itself : MadeOf p followed m m
  further : (u v q : CallRef) → MadeOf p followed m u → Contains followed v → Contains (ways_at p v) q → MaySee p q u → MadeOf p followed m v

-- the place is a way of the sources of the call, or of one of these values
pub data ReadFor (p : Project Span) (c : Placed (Call Span)) (made : List CallRef) (q : CallRef) : Type 0 where
  by_the_call : Contains (ways_of_target c) q → ReadFor p c made q
  by_one : (v : CallRef) → Contains made v → Contains (ways_at p v) q → ReadFor p c made q

abbrev pub ReadOrUsed : Project Span → Placed (Call Span) → List CallRef → CallRef → Type 0
ReadOrUsed p c made q = ReadFor p c made q ⊎ Contains (uses p) q

-- There are values that are made of the value of a maker, it among them, and Q holds of each place at which one of them may be read.
pub record Spreads (p : Project Span) (c : Placed (Call Span)) (m : CallRef) (Q : List CallRef → CallRef → Type 0) : Type 0 where
  pub made : List CallRef
  pub has_it : Contains made m
  pub are_made : All (MadeOf p (follow_call p c).followed m) made
  pub are_read : All (λ v. All (Q made) (reads_of p (v ∷ []))) made

-- the law: what is in an own list is read nowhere but for the sources of the call
abbrev pub OwnAreReadForOne : Type 0
OwnAreReadForOne = (p : Project Span) (c : Placed (Call Span)) (m : CallRef) → is_own p c m ≡ true → Spreads p c m (ReadFor p c)

-- the law: what is in an unshared list is read for the sources of the call, or used
abbrev pub UnsharedAreReadForOne : Type 0
UnsharedAreReadForOne = (p : Project Span) (c : Placed (Call Span)) (m : CallRef) → is_unshared p c m ≡ true → Spreads p c m (ReadOrUsed p c)

-- the law
abbrev pub OwnAreUnshared : Type 0
OwnAreUnshared = (p : Project Span) (c : Placed (Call Span)) (m : CallRef) → is_own p c m ≡ true → is_unshared p c m ≡ true

-- the law: no other target is said to get what is in an own list
abbrev pub OwnAreNotShared : Type 0
OwnAreNotShared = (p : Project Span) (c : Placed (Call Span)) (m : CallRef) → is_own p c m ≡ true → sharers p c m ≡ Some []

-- the law: only of an own list it is said that nothing else gets it
abbrev pub NotSharedAreOwn : Type 0
NotSharedAreOwn = (p : Project Span) (c : Placed (Call Span)) (m : CallRef) → sharers p c m ≡ Some [] → is_own p c m ≡ true

-- ---- other calls and other values

-- neither place is in what is at the other
abbrev pub AreApart : CallRef → CallRef → Type 0
AreApart c d = (is_in c d ≡ false) × (is_in d c ≡ false)

-- it is apart from the call, and from what is made of the value of a maker
abbrev pub IsElsewhere : Project Span → Placed (Call Span) → CallRef → CallRef → Type 0
IsElsewhere p c m e = AreApart e c.place × All (AreApart e) (from_maker p c m)

-- at none of these places can be read what is made of the value of a maker
abbrev pub ReadNothingOf : Project Span → Placed (Call Span) → CallRef → List CallRef → Type 0
ReadNothingOf p c m qs = All (λ v. (q : CallRef) → Contains qs q → Contains (reads_of p (v ∷ [])) q → ⊥) (from_maker p c m)

-- the law: no other call has what is in an own list among its sources, and no other value is made of it
abbrev pub OthersReadNothing : Type 0
OthersReadNothing = (p : Project Span) (c : Placed (Call Span)) (m e : CallRef) → is_own p c m ≡ true → IsElsewhere p c m e
    → ((d : Call Span) → ReadNothingOf p c m (ways_of_target (placed e d))) × ReadNothingOf p c m (ways_at p e)

-- a value is read by the sources of a call, or by a value that is
pub data IsReadBy (p : Project Span) (d : Placed (Call Span)) : CallRef → Type 0 where
  at_once : (v q : CallRef) → Contains (ways_of_target d) q → Contains (reads_of p (v ∷ [])) q → IsReadBy p d v
  through : (u v q : CallRef) → IsReadBy p d u → Contains (ways_at p u) q → Contains (reads_of p (v ∷ [])) q → IsReadBy p d v

-- the law: no other call reads what is in an own list, through however many variables
abbrev pub OwnReachNoOther : Type 0
OwnReachNoOther = (p : Project Span) (c : Placed (Call Span)) (m : CallRef) (d : Placed (Call Span)) → is_own p c m ≡ true → IsElsewhere p c m d.place
    → ((u : CallRef) → IsReadBy p d u → Contains (from_maker p c m) u ⊎ IsElsewhere p c m u)
    → All (λ v. IsReadBy p d v → ⊥) (from_maker p c m)
