-- The order of what is known, on small values.
use Rattle.std.specs.Prelude.{◌≡◌, ℕ, true, false, List, [], ◌∷◌, Some, None}
use Rattle.meson_lex.specs.declared.kinds.Span.{Span}
use Rattle.meson_syntax.specs.Tree.{Expression}
use Rattle.meson_calls.specs.Project.{place, placed}
use Rattle.meson_following.specs.Makers.{Known, Maker, assigned, joined}
use Rattle.meson_flow_order.specs.Order.{IsBelow}

-- the value of the n-th statement, which has a part for sure or perhaps
abbrev pub surely : Expression Span → ℕ → Maker Span
surely e n = record { value = placed (place 0 (n ∷ 0 ∷ [])) e; adds = true; sure = true }

abbrev pub perhaps : Expression Span → ℕ → Maker Span
perhaps e n = record { value = placed (place 0 (n ∷ 0 ∷ [])) e; adds = true; sure = false }

-- made by these alone, or by something that is not known too
abbrev pub alone : List (Maker Span) → Known Span
alone ms = Some (record { makers = ms; unknown = false })

abbrev pub with_others : List (Maker Span) → Known Span
with_others ms = Some (record { makers = ms; unknown = true })

-- either of two ways: what has a part in both has it for sure
abbrev pub EitherIsAbove : Type 0
EitherIsAbove =
    (e : Expression Span)
    → (let one = alone (surely e 1 ∷ surely e 2 ∷ []) in
    let two = alone (surely e 2 ∷ surely e 3 ∷ []) in
    let either = alone (perhaps e 1 ∷ surely e 2 ∷ perhaps e 3 ∷ []) in (joined one two ≡ either) × IsBelow one either × IsBelow two either)

-- what has a part for sure says more than what has it perhaps
abbrev pub SureSaysMore : Type 0
SureSaysMore =
    (e : Expression Span)
    → IsBelow (alone (surely e 1 ∷ [])) (alone (perhaps e 1 ∷ [])) × (IsBelow (alone (perhaps e 1 ∷ [])) (alone (surely e 1 ∷ [])) → ⊥)

-- no maker is overlooked, and nothing that is not known
abbrev pub NoneIsOverlooked : Type 0
NoneIsOverlooked =
    (e : Expression Span)
    → (IsBelow (alone (surely e 1 ∷ perhaps e 2 ∷ [])) (alone (surely e 1 ∷ [])) → ⊥)
    × IsBelow (alone (surely e 1 ∷ [])) (with_others (surely e 1 ∷ []))
    × (IsBelow (with_others (surely e 1 ∷ [])) (alone (surely e 1 ∷ [])) → ⊥)

-- `+=` to a variable that is not set begins a value with one maker. One that has more before it is not above that.
abbrev pub UnsetIsApart : Type 0
UnsetIsApart =
    (e : Expression Span)
    → (let before = alone (surely e 1 ∷ []) in IsBelow None before × (IsBelow (assigned (surely e 2) None) (assigned (surely e 2) before) → ⊥))
