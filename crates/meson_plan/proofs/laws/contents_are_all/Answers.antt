use Rattle.std.proofs.Common.{◌≡◌, ℕ, suc, List, [], ◌∷◌, map, refl, ap}
use Rattle.meson_lex.specs.declared.kinds.Span.{Span}
use Rattle.meson_syntax.specs.Tree.{Argument, plain, named, pair}
use Rattle.meson_details.specs.Details.{shown_value}
use Rattle.meson_details.specs.Values.{contents_from}
use Rattle.meson_plan.specs.ListingLaws.{element_value}
use Rattle.meson_plan.proofs.laws.contents_are_all.Goals as goal

all-from : (source : List ℕ) (n : ℕ) (xs : List (Argument Span)) → map (λ c. c.1) (contents_from source n xs) ≡ map (λ x. shown_value source (element_value x)) xs
all-from source n [] = refl
all-from source n (plain e ∷ xs) = ap (λ vs. shown_value source e ∷ vs) (all-from source (suc n) xs)
all-from source n (named s x e ∷ xs) = ap (λ vs. shown_value source e ∷ vs) (all-from source n xs)
all-from source n (pair s k v ∷ xs) = ap (λ vs. shown_value source v ∷ vs) (all-from source n xs)

pub returns : goal.returns
returns c = λ source xs. all-from source 0 xs
