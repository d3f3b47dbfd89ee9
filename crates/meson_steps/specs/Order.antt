-- Lists in order, and where a new text or identifier comes in one.
use Rattle.std.specs.Prelude.{◌≡◌, ◌≢◌, ◌<◌, ℕ, All, zero, suc, nat_lt, ◌==◌, Bool, true, false, not, ◌&&◌, List, [], ◌∷◌, ◌++◌, length, count_by, insert, if◌then◌else◌}
use Rattle.std.specs.Cmp.Lexicographic.{slice_cmp}
use Rattle.std.specs.Ordering.{is_lt, nat_cmp}
use Rattle.meson_steps.specs.declared.order.InsertionPoint.{InsertionPoint}
use Rattle.meson_steps.specs.declared.order.InsertionPoint.TheVariants as point
use Rattle.meson_steps.specs.declared.order.SortKey.{SortKey}
use Rattle.meson_steps.specs.declared.order.SortKey.TheVariants as key

-- ---- order

-- byte by byte
abbrev pub bytes_less : List ℕ → List ℕ → Bool
bytes_less x y = is_lt (slice_cmp nat_cmp x y)

-- Texts are compared with texts, and identifiers with identifiers.
abbrev pub is_less : SortKey → SortKey → Bool
is_less (key.Text x) (key.Text y) = bytes_less x y
is_less (key.Name x) (key.Name y) = bytes_less x y
is_less _ _ = false

abbrev pub is_alike : SortKey → SortKey → Bool
is_alike (key.Text x) (key.Text y) = true
is_alike (key.Name x) (key.Name y) = true
is_alike _ _ = false

-- each is less than the next
abbrev pub ascend : List SortKey → Bool
ascend [] = true
ascend (k ∷ []) = true
ascend (k ∷ l ∷ more) = is_less k l && ascend (l ∷ more)

-- A list is in order for a new one: it has at least four elements, each less than the next, of the kind of the new one.
abbrev pub is_order : (new : SortKey) → List SortKey → Bool
is_order new [] = false
is_order new (k ∷ more) = nat_lt 3 (length (k ∷ more)) && (is_alike new k && ascend (k ∷ more))

-- ---- the place of a new one

abbrev pub begins_dash : List ℕ → Bool
begins_dash [] = false
begins_dash (b ∷ bs) = b == 45

-- a text that does not begin with `-`, or an identifier
abbrev pub may_be_ordered : SortKey → Bool
may_be_ordered (key.Text x) = not (begins_dash x)
may_be_ordered (key.Name x) = true
may_be_ordered key.Other = false

-- after this many elements; after none, in front of all if the list is open there, else at the end
abbrev pub point_after : (front_free : Bool) → (many : ℕ) → InsertionPoint
point_after front_free zero = if front_free then point.Front else point.End
point_after front_free (suc n) = point.After n

-- In a list that is in order a new one comes after those that are less, and in any other at the end.
abbrev pub insertion_point : (front_free : Bool) → (new : SortKey) → List SortKey → InsertionPoint
insertion_point front_free new keys =
    if may_be_ordered new && is_order new keys then point_after front_free (count_by (λ k. is_less k new) keys) else point.End

-- an element of that number is there
abbrev pub IsInside : InsertionPoint → (many : ℕ) → Type 0
IsInside (point.After n) many = n < many
IsInside _ many = Unit {0}

-- the keys with one there
abbrev pub put_key : InsertionPoint → SortKey → List SortKey → List SortKey
put_key point.End new keys = keys ++ new ∷ []
put_key (point.After n) new keys = insert keys (suc n) new
put_key point.Front new keys = new ∷ keys

-- ---- the law

-- In a list that is in order, a new one that no element is comes to a place where the list is in order with it, unless it comes to the end because none may be
-- put in front.
abbrev pub KeepsOrder : Type 0
KeepsOrder = (front_free : Bool) (new : SortKey) (keys : List SortKey) → is_order new keys ≡ true → All (λ k. k ≢ new) keys
    → insertion_point front_free new keys ≢ point.End → ascend (put_key (insertion_point front_free new keys) new keys) ≡ true

-- the law: a new one comes to another place than the end only where the list is in order for it
abbrev pub NeedsOrder : Type 0
NeedsOrder = (front_free : Bool) (new : SortKey) (keys : List SortKey) → insertion_point front_free new keys ≢ point.End
    → (is_order new keys ≡ true) × (may_be_ordered new ≡ true)
