-- Whether the value of an expression is a list, if the evaluation does not fail. Meson manual, Syntax, "Arrays": `+` adds a list, or one more element, at the
-- end of a list; a text and a list have no sum.
use Rattle.std.specs.Prelude.{ℕ, zero, suc, ◌+◌, Bool, true, false, not, ◌&&◌, ◌||◌, List, [], ◌∷◌, if◌then◌else◌, Option, Some, None}
use Rattle.std.specs.List.{list_any}
use Rattle.meson_syntax.specs.Tree.{Expression, identifier, paren, array, call, row, conditional, Operands, no_operands, operand}
use Rattle.meson_calls.specs.declared.call.CallRef.{CallRef}
use Rattle.meson_calls.specs.Project.{Project, child, expression_at}
use Rattle.meson_variables.specs.Expansion.{are_plus, is_files, max_followed}
use Rattle.meson_following.specs.Flows.{known_at}
use Rattle.meson_following.specs.Makers.{Known, Made, Maker}

-- An answer, and the number of variables that may still be looked up. Each takes a walk through the project. So they are few, however often variables read one
-- another; where there are more, it is not known that the value is a list.
pub record Asked : Type 0 where
  pub is : Bool
  pub left : ℕ

abbrev pub told : Bool → ℕ → Asked
told b left = record { is = b; left = left }

-- both, or one of them; the second is looked at only where the first does not say it
abbrev pub and_asked : Asked → (ℕ → Asked) → Asked
and_asked a more = if a.is then more a.left else a

abbrev pub or_asked : Asked → (ℕ → Asked) → Asked
or_asked a more = if a.is then a else more a.left

-- a list whatever variables hold: an array, or a call of `files`
abbrev pub is_plain_list : {S : Type 0} → Expression S → Bool
is_plain_list (array l) = true
is_plain_list (call s f l) = is_files f.text l
is_plain_list _ = false

abbrev pub has_plain_list : {S : Type 0} → Operands S → Bool
has_plain_list no_operands = false
has_plain_list (operand o e more) = is_plain_list e || has_plain_list more

-- depending on whether a variable is one where it is read
module _ {S : Type 0} (is_variable : CallRef → List ℕ → ℕ → Asked) where
  abbrev mutual
    pub is_list_by : CallRef → Expression S → ℕ → Asked
    is_list_by q (array l) left = told true left
    is_list_by q (call s f l) left = told (is_files f.text l) left
    is_list_by q (paren s e) left = is_list_by (child q 0) e left
    is_list_by q (conditional s c y n) left = and_asked (is_list_by (child q 1) y left) (λ now. is_list_by (child q 2) n now)
    -- no variable is looked up where an operand is a list without one
    is_list_by q (row s e os) left =
        if are_plus os then
        (if has_plain_list os then told true left else or_asked (is_list_by (child q 0) e left) (λ now. has_list_by q 1 os now))
        else told false left
    is_list_by q (identifier s x) left = is_variable q x left
    is_list_by q _ left = told false left

    -- from the n-th operand on
    pub has_list_by : CallRef → ℕ → Operands S → ℕ → Asked
    has_list_by q n no_operands left = told false left
    has_list_by q n (operand o e more) left = or_asked (is_list_by (child q n) e left) (λ now. has_list_by q (n + 1) more now)

-- ---- a variable, by what is known of it

-- Of the makers so far: whether one is a list and has a part for sure, and whether each that sets the variable is one. And the number of variables that may
-- still be looked up.
pub record Seen : Type 0 where
  pub sure : Bool
  pub each : Bool
  pub left : ℕ

abbrev pub seen_with : {S : Type 0} → Maker S → Seen → Asked → Seen
seen_with m t a = record { sure = t.sure || (m.sure && a.is); each = t.each && (m.adds || a.is); left = a.left }

abbrev pub seen_all : {S : Type 0} → (Maker S → ℕ → Asked) → List (Maker S) → Seen → Seen
seen_all is_list [] t = t
seen_all is_list (m ∷ ms) t = seen_all is_list ms (seen_with m t (is_list m t.left))

abbrev pub none_seen : ℕ → Seen
none_seen left = record { sure = false; each = true; left = left }

abbrev pub by_seen : Bool → Seen → Asked
by_seen unknown t = told (t.sure || (not unknown && t.each)) t.left

-- one of the makers is a list and has a part for sure, or each that sets it is one
abbrev pub is_made_list : {S : Type 0} → (Maker S → ℕ → Asked) → Known S → ℕ → Asked
is_made_list is_list None left = told false left
is_made_list is_list (Some k) left = by_seen k.unknown (seen_all is_list k.makers (none_seen left))

-- one that is looked up is taken from those that may be
abbrev pub if_left : ℕ → (ℕ → Asked) → Asked
if_left zero more = told false 0
if_left (suc left) more = more left

-- what is at a place, which is there for the value of a maker
abbrev pub is_list_there : {S : Type 0} → (Expression S → ℕ → Asked) → Option (Expression S) → ℕ → Asked
is_list_there is_list None left = told false left
is_list_there is_list (Some e) left = is_list e left

-- by this many variables inside one another, which are as many as may be looked up
abbrev pub is_list_variable : {S : Type 0} → Project S → ℕ → CallRef → List ℕ → ℕ → Asked
is_list_variable p zero q x left = told false left
is_list_variable p (suc depth) q x left =
    if_left left
    (is_made_list (λ m. is_list_there (is_list_by (is_list_variable p depth) m.value.place) (expression_at p m.value.place)) (known_at p x q))

-- the value of a maker
abbrev pub is_list_maker : {S : Type 0} → Project S → ℕ → Maker S → ℕ → Asked
is_list_maker p depth m = is_list_there (is_list_by (is_list_variable p depth) m.value.place) (expression_at p m.value.place)

abbrev pub is_list : {S : Type 0} → Project S → CallRef → Expression S → Bool
is_list p q e = (is_list_by (is_list_variable p max_followed) q e max_followed).is

-- where a list may be added to something that is no list, a value that is no list is not known
abbrev pub mixes : {S : Type 0} → Project S → Made S → Bool
mixes p k = list_any (λ m. m.adds) k.makers && not (is_made_list (is_list_maker p max_followed) (Some k) max_followed).is

abbrev pub hides : {S : Type 0} → Project S → Bool → Maker S → Bool
hides p mixed m = mixed && not (is_list_maker p max_followed m max_followed).is
