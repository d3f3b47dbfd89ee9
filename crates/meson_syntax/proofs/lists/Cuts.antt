-- Where the items of a list are cut.
use Rattle.std.proofs.Common.{◌≡◌, List, [], ◌∷◌, ◌++◌, length, refl, ap₂, arith}
use Rattle.meson_syntax.specs.declared.operator.Bracket.{Bracket}
use Rattle.meson_syntax.specs.Operators.{opens, closes}
use Rattle.meson_syntax.specs.Tree.{Listing, listing}
use Rattle.meson_syntax.specs.Grammar.{mark, listing_words}
use Rattle.meson_syntax.specs.Paths.{inner_words}

pub listing-inner : {S : Type 0} (l : Listing S) (b : Bracket) → listing_words l b ≡ mark (opens b) ++ (inner_words l ++ mark (closes b))
listing-inner (listing s trailing list) b = refl

-- ---- texts cut at the same place

pub same-cut : {A : Type 0} (a b c d : List A) → a ++ b ≡ c ++ d → length a ≡ length c → (a ≡ c) × (b ≡ d)
same-cut [] b [] d e n = (refl, e)
same-cut [] b (y ∷ c) d e n = absurd (omega arith)
same-cut (x ∷ a) b [] d e n = absurd (omega arith)
same-cut (x ∷ a) b (y ∷ c) d e n =
    let rest : a ++ b ≡ c ++ d = cc in
    let shorter : length a ≡ length c = omega arith in
    let head : x ≡ y = cc in
    let r = same-cut a b c d rest shorter in
    (ap₂ (λ u v. u ∷ v) head r.0, r.1)
