-- Each of some places once.
use Rattle.std.proofs.Common.{◌≡◌, true, false, List, [], ◌∷◌, ◌++◌, append_assoc, refl, ap, ◌∙◌, subst, inl, inr}
use Rattle.std.specs.Prelude.{Bool, ◌⊎◌, ◌||◌, if◌then◌else◌}
use Rattle.std.proofs.lemmas.Bool.{or_parts}
use Rattle.meson_syntax.proofs.paths.Every.{Every}
use Rattle.meson_calls.specs.declared.call.CallRef.{CallRef}
use Rattle.meson_following.specs.Following.{one_of_places}
use Rattle.meson_following.specs.Makers.{is_same_place}
use Rattle.meson_places.proofs.Apart.{Pairs}
use Rattle.meson_places.proofs.Found.{Among}
use Rattle.meson_followed_values.specs.Choices.{each_once}
use Rattle.meson_followed_values.proofs.Places.{among_left, among_right, one_of}

abbrev pub Differ : CallRef → CallRef → Type 0
Differ c d = is_same_place c d ≡ false

abbrev IsNew : List CallRef → CallRef → Type 0
IsNew before d = one_of_places before d ≡ false

-- what is not among some places and another one is not among the first, and differs from the other
other_than : (before : List CallRef) (c d : CallRef) → IsNew (before ++ c ∷ []) d → IsNew before d × Differ c d
other_than [] c d new = (refl, (or_parts (is_same_place c d) false new).0)
other_than (b ∷ before) c d new =
    let both = or_parts (is_same_place b d) (one_of_places (before ++ c ∷ []) d) new in
    let rest = other_than before c d both.1 in
    (ap (λ t. t || one_of_places before d) both.0 ∙ rest.0, rest.1)

others_than : (before : List CallRef) (c : CallRef) (ds : List CallRef) → Every (IsNew (before ++ c ∷ [])) ds → Every (IsNew before) ds × Every (Differ c) ds
others_than before c [] new = (tt, tt)
others_than before c (d ∷ ds) new =
    let one = other_than before c d new.0 in
    let rest = others_than before c ds new.1 in
    ((one.0, rest.0), (one.1, rest.1))

once_apart : (before cs : List CallRef) → Every (IsNew before) (each_once before cs) × Pairs Differ (each_once before cs)
once_apart before [] = (tt, tt)
once_apart before (c ∷ cs) = go (one_of_places before c) refl (once_apart before cs) (once_apart (before ++ c ∷ []) cs)
  where
    Apart : List CallRef → Type 0
    Apart ds = Every (IsNew before) ds × Pairs Differ ds

    go : (b : Bool) → one_of_places before c ≡ b → Apart (each_once before cs)
        → Every (IsNew (before ++ c ∷ [])) (each_once (before ++ c ∷ []) cs) × Pairs Differ (each_once (before ++ c ∷ []) cs)
        → Apart (if b then each_once before cs else c ∷ each_once (before ++ c ∷ []) cs)
    go true met without with = without
    go false met without with =
        let rest = others_than before c (each_once (before ++ c ∷ []) cs) with.0 in
        ((met, rest.0), (rest.1, with.1))

-- no two of them are the same
pub once_differ : (cs : List CallRef) → Pairs Differ (each_once [] cs)
once_differ cs = (once_apart [] cs).1

-- each is one of the places
pub once_among : (before cs : List CallRef) (d : CallRef) → Among (each_once before cs) d → Among cs d
once_among before [] d m = absurd m
once_among before (c ∷ cs) d m = go (one_of_places before c) (once_among before cs d) (once_among (before ++ c ∷ []) cs d) m
  where
    go : (b : Bool) → (Among (each_once before cs) d → Among cs d) → (Among (each_once (before ++ c ∷ []) cs) d → Among cs d)
        → Among (if b then each_once before cs else c ∷ each_once (before ++ c ∷ []) cs) d → Among (c ∷ cs) d
    go true without with n = inr (without n)
    go false without with (inl same) = inl same
    go false without with (inr n) = inr (with n)

-- and each of the places is one of them, or of those before
once_more : (before cs : List CallRef) (d : CallRef) → Among cs d → Among (before ++ each_once before cs) d
once_more before [] d m = absurd m
once_more before (c ∷ cs) d m = go (one_of_places before c) refl m (once_more before cs d) (once_more (before ++ c ∷ []) cs d)
  where
    rest : List CallRef
    rest = each_once (before ++ c ∷ []) cs

    go : (b : Bool) → one_of_places before c ≡ b → (c ≡ d) ⊎ Among cs d → (Among cs d → Among (before ++ each_once before cs) d)
        → (Among cs d → Among ((before ++ c ∷ []) ++ rest) d) → Among (before ++ (if b then each_once before cs else c ∷ rest)) d
    go true met (inl same) without with = among_left before (each_once before cs) d (subst (Among before) same (one_of before c met))
    go true met (inr n) without with = without n
    go false met (inl same) without with = among_right before (c ∷ rest) d (inl same)
    go false met (inr n) without with = subst (λ ds. Among ds d) (append_assoc before (c ∷ []) rest) (with n)

pub once_has : (cs : List CallRef) (d : CallRef) → Among cs d → Among (each_once [] cs) d
once_has cs d m = once_more [] cs d m
